use Prim.Native.Nat.{◌*◌, ◌+◌, ◌/◌}
use mathlib.Core.Path.{sym, ap}
use mathlib.Core.List.{append-nil, ◌++◌, ◌∷◌, []}
use native.Mathlib.Nat.{zero-add}
use native.Mathlib.Omega.{arith}
use lib.ListN.{length, length-append, length-take}
use lib.Seq.{take-take}
use Rattle.std.specs.Prelude.{flat_map}
use Rattle.basics.specs.Lists.{from}
use Rattle.basics.proofs.Laws.{from-none, from_more}
use Rattle.text.specs.Text.{pair_at}
use Rattle.text.proofs.Fit.{fit_more}
use Rattle.text.proofs.Lines.{pair-bytes, pairs_most}
use Rattle.text.proofs.Page.put_map.Goals as goal

pub loop-a-init : goal.loop-a-init
loop-a-init g c = rw (from-none 0, append-nil, c.put_bytes.ensures) (sym (take-take g.row.N g.row.N _ (omega arith)))

pub loop-a-preserved : goal.loop-a-preserved
loop-a-preserved g c =
    let l = c.loop-a in
    let i = l.a-index in
    let map = c.args.map.now in
    let k = length map / 2 in
    let first = pair-bytes k i map 0 (2 * i) (omega (arith, c.as_chunks.ensures.front_len)) (omega arith) (omega arith) in
    let second = pair-bytes k i map 1 (2 * i + 1) (omega (arith, c.as_chunks.ensures.front_len)) (omega arith) (omega arith) in
    rw (from_more 0 i, zero-add i)
    (fit_more g.row.N (pair_at map) c.put_bytes.new.self (from 0 i) i l.invariant (rw (c.as_chunks.ensures.front, first, second) at c.put_pair.ensures))

pub returns-clause-upper_bound : goal.returns-clause-upper_bound
returns-clause-upper_bound g c =
    let l = c.loop-a in
    let map = c.args.map.now in
    let word = c.put_bytes.new.self in
    let pairs = flat_map (pair_at map) (from 0 l.a-index) in
    omega (
      arith,
      ap length c.put_bytes.ensures,
      length-take g.row.N (c.args.self.now ++ 109 ∷ 97 ∷ 112 ∷ []),
      length-append c.args.self.now (109 ∷ 97 ∷ 112 ∷ []),
      ap length l.invariant,
      length-take g.row.N (word ++ pairs),
      length-append word pairs,
      pairs_most map (λ i. omega (arith, c.type_inv.map i)) l.a-index 0,
      c.as_chunks.ensures.front_len,
    )
