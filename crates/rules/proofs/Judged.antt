-- Check's judgement has one answer: a refusal is the first line that applies, and yes and no shut each other out.
use mathlib.Core.Logic.{⊎_elim}
use mathlib.Core.Option.{Option, none, some}
use mathlib.Core.Path.{◌≡◌, sym, ◌∙◌}
use Rattle.packed.specs.Refusals.{Refused}
use Rattle.rules.specs.Calls.{CheckSays, Judged}

pub judged-once : (o : Option Refused) (P : Type 0) (a b : CheckSays) → Judged o P a → Judged o P b → a ≡ b
judged-once none P a b j k =
    ⊎_elim (λ p. ⊎_elim (λ q. p.0 ∙ sym q.0) (λ q. absurd (q.1 p.1)) k)
    (λ p. ⊎_elim (λ q. absurd (p.1 q.1)) (λ q. p.0 ∙ sym q.0) k) j
judged-once (some r) P a b j k = j ∙ sym k
