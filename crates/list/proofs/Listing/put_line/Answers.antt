-- `list::Listing::put_line` meets its contract: what is put ends before the page does, so nothing of it is left out.
use Prim.Native.Nat.{◌+◌, ◌≤◌}
use mathlib.Core.List.{[], ◌∷◌, ◌++◌}
use mathlib.Core.Path.{ap}
use native.Mathlib.Omega.{arith}
use lib.ListN.{length, length-append, length-take}
use Rattle.text.specs.Text.{map_text}
use Rattle.text.proofs.Fit.{fit-whole}
use Rattle.list.proofs.Listing.put_line.Goals as goal

pub invariant_of-self : goal.invariant_of-self
invariant_of-self c =
    let put = c.put_map.new.self in
    record {
      room = omega (arith, c.put_map.ensures.upper_bound, ap length c.put_byte.ensures, length-take 65536 (put ++ 10 ∷ []), length-append put (10 ∷ []));
    }

pub returns : goal.returns
returns c =
    let page = c.args.self.now.page in
    let text = map_text c.args.map.now in
    let put = c.put_map.ensures in
    let short : length page + length text ≤ 65027 = omega (arith, put.upper_bound, ap length put.puts, length-take 65536 (page ++ text), length-append page text) in
    fit-whole 65536 page text (10 ∷ []) (omega (arith, short)) put.puts c.put_byte.ensures
