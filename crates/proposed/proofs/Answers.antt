-- A test's answer, once what it decides is known not to hold.
use mathlib.Core.Bool.{false, false≢true}
use Rattle.basics.proofs.Decides.{Decides}

pub no : {P : Type 0} → (P → ⊥) → Decides false P
no h = (λ e. absurd (false≢true e), λ p. absurd (h p))
