use mathlib.Core.Path.{refl}
use native.Mathlib.Omega.{arith}
use Rattle.lookup.specs.Graphs.{lent_of}
use Rattle.lookup.specs.Lent.{task_in}
use Rattle.lookup.proofs.Sizes.{nodes-most}
use Rattle.step.specs.Steps.{record_in}
use Rattle.step.proofs.Followed.{begun-follows}
use Rattle.batches.proofs.Listed.{batch-most}
use Rattle.list.proofs.list_prepared.Goals as goal

pub loop-init : goal.loop-init
loop-init g c = (refl, record { ready = c.args.graphs.now.ready; follows = begun-follows c.new.ensures; offered = refl })

pub gather-batch-requires-clause-buffer_holds : goal.gather-batch-requires-clause-buffer_holds
gather-batch-requires-clause-buffer_holds g c = omega (arith, nodes-most c.args.graphs.now.ready 1 (omega arith))

pub put_maps-requires : goal.put_maps-requires
put_maps-requires g c =
    let graphs = c.args.graphs.now in (
      omega (arith, c.gather-batch.ensures.maps_are, batch-most (task_in (lent_of graphs)) 65535 128 (record_in c.loop.search)),
      nodes-most graphs.ready 1 (omega arith),
    )
