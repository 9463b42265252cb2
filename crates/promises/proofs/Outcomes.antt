-- No second outcome: the paper's values tell the code's cases apart, and Check's yes and no shut each other out.
use Prim.Native.Nat.{ℕ}
use mathlib.Core.List.{List}
use mathlib.Core.Path.{◌≡◌, sym, ◌∙◌, ap}
use native.Mathlib.Omega.{arith}
use Rattle.packed.specs.Refusals.{first}
use Rattle.std.specs.Prelude.{Result, Ok, Err}
use Rattle.packed.specs.Paper.{number_of, refused_in, read_paper}
use Rattle.packed.specs.declared.Refusal.{Refusal}
use Rattle.packed.specs.declared.Refused as code
use Rattle.packed.specs.declared.Summary.{Summary}
use Rattle.packed.proofs.Numbered.{bearing, bears}
use Rattle.order.specs.Paper.{order_paper}
use Rattle.rules.specs.Calls.{check_lines, Proposes}
use Rattle.rules.proofs.Judged.{judged-once}
use Rattle.promises.specs.Promises.{OneOutcome}

refusals_apart : (r q : Refusal) → number_of r ≡ number_of q → r ≡ q
refusals_apart r q e = sym (bears r) ∙ ap bearing e ∙ bears q

refused-apart : (r q : code.Refused) → refused_in r ≡ refused_in q → r ≡ q
refused-apart r q e =
    let p = refusals_apart r.refusal q.refusal (ap (λ z. z.number) e) in
    let f : r.file ≡ q.file = ap (λ z. z.file) e in
    λ i. record { refusal = p i; file = f i }

reads_apart : (a b : Result Summary code.Refused) → read_paper a ≡ read_paper b → a ≡ b
reads_apart (Ok s) (Ok t) k =
    let p : s.directed ≡ t.directed = cc k in
    let q : s.nodes ≡ t.nodes = cc k in
    let r : s.edges ≡ t.edges = cc k in
    ap Ok (λ i. record { directed = p i; nodes = q i; edges = r i })
reads_apart (Ok s) (Err q) k = let z : ◌≡◌ {A = ℕ} 0 1 = cc in absurd (omega arith)
reads_apart (Err r) (Ok t) k = let z : ◌≡◌ {A = ℕ} 0 1 = cc in absurd (omega arith)
reads_apart (Err r) (Err q) k = let same : refused_in r ≡ refused_in q = cc k in ap Err (refused-apart r q same)

orders_apart : (a b : Result ℕ code.Refused) (x y : List ℕ) → order_paper a x ≡ order_paper b y → (a ≡ b) × (x ≡ y)
orders_apart (Ok n) (Ok m) x y k = let p : n ≡ m = cc k in (ap Ok p, cc k)
orders_apart (Ok n) (Err r) x y k = let z : ◌≡◌ {A = ℕ} 0 1 = cc in absurd (omega arith)
orders_apart (Err r) (Ok n) x y k = let z : ◌≡◌ {A = ℕ} 0 1 = cc in absurd (omega arith)
orders_apart (Err r) (Err q) x y k =
    let same : refused_in r ≡ refused_in q = cc k in (ap Err (refused-apart r q same), cc k)

pub one-outcome : OneOutcome
one-outcome =
    record {
      read = λ file f a b p q. reads_apart a b (p ∙ sym q);
      order = λ f plus_plus buffer a b x y p q. orders_apart a b x y (p ∙ sym q);
      check = λ f₀ f₁ s map' a b p q. judged-once (first (check_lines f₀ f₁ s map')) (Proposes f₀ f₁ s map') a b p q;
      refusals_apart = refusals_apart;
      reads_apart = reads_apart;
      orders_apart = orders_apart;
    }
