-- Two files and settings through the table's lines 1 to 8 (document 01, "The five outer calls and what they turn away").
use Rattle.std.specs.Prelude.{ℕ, Bool, List, Result, Ok, Err, length, get_or}
use Rattle.std.proofs.Math.Option.{Option, none, some}
use Rattle.packed.specs.Graph.{Graph, nodes}
use Rattle.packed.specs.Packed.{graph_of}
use Rattle.packed.specs.Refusals.{Refused, first}
use Rattle.packed.specs.Paper.{refused_in}
use Rattle.packed.specs.declared.Refused as code
use Rattle.settings.specs.Settings.{Settings, settings_of}
use Rattle.rules.specs.Calls.{pair_lines}
use Rattle.settings.specs.Paper.{settings_in}
use Rattle.lookup.specs.declared.Rules.{Rules}

-- two accepted files of one kind and settings: the kind, the node and edge counts, and what is set
pub data ExamineSays : Type 0 where
  accepted : Bool → ℕ → ℕ → ℕ → ℕ → Settings → ExamineSays
  refused : Refused → ExamineSays

abbrev pub or_accepted : Option Refused → Bool → ℕ → ℕ → Graph → Settings → ExamineSays
or_accepted none directed n₀ edges₀ g₁ s = accepted directed n₀ edges₀ (nodes g₁) (length g₁.edges) s
or_accepted (some r) directed n₀ edges₀ g₁ s = refused r

abbrev pub examine_says : List ℕ → List ℕ → List ℕ → ExamineSays
examine_says f₀ f₁ s =
    or_accepted (first (pair_lines f₀ f₁ s)) (graph_of f₀).directed (nodes (graph_of f₀)) (length (graph_of f₀).edges) (graph_of f₁) (settings_of s)

abbrev pub examine_paper : Result Rules code.Refused → ExamineSays
examine_paper (Ok r) =
    accepted r.directed (get_or r.n 0 0) (get_or r.edges 0 0) (get_or r.n 1 0) (get_or r.edges 1 0) (settings_in r.chosen)
examine_paper (Err r) = refused (refused_in r)
