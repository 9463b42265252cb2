-- `packed::node_label` meets its contract: a field of 12 bits, behind the labels of the nodes before.
use Prim.Native.Nat.{◌*◌, ◌+◌}
use mathlib.Core.Path.{◌≡◌, ap, ◌∙◌}
use native.Mathlib.Omega.{arith}
use Rattle.bits.specs.Bits.{field}
use Rattle.bits.proofs.Laws.{field_below}
use Rattle.packed.specs.Packed.{label_at}
use Rattle.packed.proofs.node_label.Goals as goal

pub returns : goal.returns
returns c =
    let a = c.args in
    let offset : c.used_bits.result ≡ 20 + 12 * a.v = omega (arith, c.used_bits.ensures) in
    let here : c.number.result ≡ label_at a.s.now a.v = c.number.ensures ∙ ap (λ o. field a.s.now o 12) offset in
    record {
      value = here;
      upper_bound = omega (arith, field_below a.s.now (20 + 12 * a.v) 12);
    }
