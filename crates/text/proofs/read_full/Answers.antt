use Prim.Native.Nat.{ℕ, ◌+◌, ◌-◌, ◌≤◌}
use mathlib.Core.List.{List, ◌++◌}
use mathlib.Core.Path.{◌≡◌, sym, ◌∙◌, ap}
use native.Mathlib.Omega.{arith}
use lib.ListN.{length, take}
use lib.Seq.{take-append-le, take-append-add}
use Rattle.std.proofs.Common.{rules}
use Rattle.std.proofs.lemmas.List.{length-take-le}
use Rattle.std.proofs.lemmas.Slice.{take-put_mid_below}
use Rattle.std.proofs.KnownBytes.{Consumes-trans, Consumes-kept}
use borrow.Rule.Slice.PartMut.{put_mid, post_of}
use Rattle.text.proofs.read_full.Goals.{in-Ok, in-Err+else-ne}
use Rattle.text.proofs.read_full.Goals as goal

-- what was read stands behind what was there
read-behind : (got k n : ℕ) (bytes read : List ℕ) → got ≤ length bytes → n ≤ length read
    → take got bytes ++ take n read ≡ take (got + n) (put_mid got k bytes read)
read-behind got k n bytes read h l =
    let front = length-take-le got bytes h in
    ap (λ m. take got bytes ++ m) (sym (take-append-le n read (post_of got k bytes) l))
    ∙ sym (take-append-add (take got bytes) (read ++ post_of got k bytes) n)
    ∙ ap (λ m. take (m + n) (put_mid got k bytes read)) front

pub loop-preserved : goal.loop-preserved
loop-preserved g c =
    let l = c.loop in
    let room = length l.bytes - l.got in
    elim c.match-read.branch [
      | in-Ok w ↦ (
        rw w.got-is (search (rules, w.in-Ok.ensures.bound)),
        rw (w.got-is, ← read-behind l.got room w.in-Ok.n l.bytes c.read.new.buf l.invariant.0 w.in-Ok.ensures.bound.0)
            (Consumes-trans _ _ _ _ _ l.invariant.1 w.in-Ok.ensures.bytes.0),
      )
      | in-Err+else-ne w ↦ (
        rw w.got-is (search rules),
        rw (w.got-is, take-put_mid_below l.got room l.bytes c.read.new.buf l.got (omega arith) l.invariant.0)
            (Consumes-kept _ _ _ _ l.invariant.1 w.in-Err.ensures.bytes),
      )
    ]
