-- `text::Page::put_bytes` meets its contract: what is copied are the bytes for which there is room.
use Prim.Native.Nat.{◌+◌}
use mathlib.Core.Path.{ap, ◌∙◌}
use native.Mathlib.Omega.{arith}
use lib.ListN.{length, take}
use Rattle.std.proofs.lemmas.List.{length-take-le}
use Rattle.std.proofs.lemmas.Slice.{take-put_mid}
use Rattle.text.proofs.Fit.{fit-part}
use Rattle.text.proofs.Page.put_bytes.Goals as goal

pub returns : goal.returns
returns g c =
    let p = c.self.inside in
    let n = c.min-fits.result in
    let copied = c.copy_from_slice in
    let long = length-take-le p.len p.bytes (omega arith) in
    let same = ap length c.self.view_is in
    take-put_mid p.len _ p.bytes copied.new.self (p.len + n) (omega (arith, copied.ensures.len)) (omega arith)
    ∙ rw (copied.ensures.after, ← c.self.view_is) (fit-part g.row.N (take p.len p.bytes) c.args.bytes.now n (omega arith) (omega (arith, c.room.ensures)))
