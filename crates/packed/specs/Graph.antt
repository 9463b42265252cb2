-- What a packed graph holds (document 01, "Packed graph"): its kind, its node labels, its edges in file order.
use Rattle.std.specs.Prelude.{ℕ, Bool, List, length}

pub record Edge : Type 0 where
  pub source : ℕ
  pub target : ℕ
  pub label : ℕ

pub record Graph : Type 0 where
  pub directed : Bool
  pub labels : List ℕ
  pub edges : List Edge

-- nodes are 0 to N - 1; each has a label
abbrev pub nodes : Graph → ℕ
nodes g = length g.labels
