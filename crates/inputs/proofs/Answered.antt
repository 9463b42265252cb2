-- What the answer of `examine` tells the calls above it: a refusal is the first line of the table that applies to the two files and
-- the settings, and an acceptance says that none does, so that both files are accepted ones of one kind.
use Prim.Native.Nat.{ℕ}
use mathlib.Core.Bool.{Bool, false}
use mathlib.Core.List.{List}
use mathlib.Core.Option.{Option, none, some}
use mathlib.Core.Path.{◌≡◌, sym, ◌∙◌}
use native.Mathlib.Omega.{arith}
use lib.ListN.{length}
use borrow.Author.Tests.{eqb-true, not-false}
use Rattle.packed.specs.Graph.{Graph, nodes}
use Rattle.packed.specs.Packed.{kind, node_count, graph_of}
use Rattle.packed.specs.Refusals.{Refused, first, file_lines, reading}
use Rattle.settings.specs.Settings.{Settings, settings_of, settings_lines, bad_settings}
use Rattle.packed.specs.Paper.{counts, summary}
use Rattle.packed.proofs.First.{none-of-both, none-of-cons}
use Rattle.packed.proofs.Accepted.{nodes-of-graph, graphs-of-one-kind}
use Rattle.rules.specs.Calls.{kind_lines, pair_lines}
use Rattle.inputs.specs.Inputs.{accepted, refused, or_accepted, examine_says}

-- what an acceptance says of the two files and the settings
pub record Accepted (f₀ f₁ s : List ℕ) (directed : Bool) (n₀ edges₀ n₁ edges₁ : ℕ) (set : Settings) : Type 0 where
  pub no_line_applies : first (pair_lines f₀ f₁ s) ≡ none
  pub first_counts : counts directed n₀ edges₀ ≡ summary (reading 0 f₀)
  pub second_counts : counts directed n₁ edges₁ ≡ summary (reading 1 f₁)
  pub one_kind : (graph_of f₁).directed ≡ (graph_of f₀).directed
  pub settings_are : settings_of s ≡ set
  pub second_nodes : n₁ ≡ node_count f₁
  pub settings_good : bad_settings s ≡ false

accepted-refused : {C : Type 0} (d : Bool) (a b c e : ℕ) (set : Settings) (r : Refused) → accepted d a b c e set ≡ refused r → C
accepted-refused d a b c e set r h = let z : ◌≡◌ {A = ℕ} 0 1 = cc in absurd (omega arith)

or-refused : (o : Option Refused) (d : Bool) (a b : ℕ) (g : Graph) (set : Settings) (r : Refused)
    → or_accepted o d a b g set ≡ refused r → o ≡ some r
or-refused none d a b g set r h = accepted-refused d a b (nodes g) (length g.edges) set r h
or-refused (some q) d a b g set r h = cc

-- the parts of an acceptance
record Parts (o : Option Refused) (d : Bool) (a b : ℕ) (g : Graph) (set : Settings)
    (directed : Bool) (n₀ edges₀ n₁ edges₁ : ℕ) (t : Settings) : Type 0 where
  no_refusal : o ≡ none
  directed_is : directed ≡ d
  first_nodes_are : n₀ ≡ a
  first_edges_are : edges₀ ≡ b
  second_nodes_are : n₁ ≡ nodes g
  second_edges_are : edges₁ ≡ length g.edges
  set_is : set ≡ t

parts : (o : Option Refused) (d : Bool) (a b : ℕ) (g : Graph) (set : Settings) (directed : Bool) (n₀ edges₀ n₁ edges₁ : ℕ) (t : Settings)
    → or_accepted o d a b g set ≡ accepted directed n₀ edges₀ n₁ edges₁ t → Parts o d a b g set directed n₀ edges₀ n₁ edges₁ t
parts none d a b g set directed n₀ edges₀ n₁ edges₁ t h =
    record {
      no_refusal = cc;
      directed_is = cc;
      first_nodes_are = cc;
      first_edges_are = cc;
      second_nodes_are = cc;
      second_edges_are = cc;
      set_is = cc;
    }
parts (some r) d a b g set directed n₀ edges₀ n₁ edges₁ t h = accepted-refused directed n₀ edges₀ n₁ edges₁ t r (sym h)

-- a file to which no line applies has the counts of its graph
counts_of : (file : ℕ) (f : List ℕ) → first (file_lines file f) ≡ none
    → counts (graph_of f).directed (nodes (graph_of f)) (length (graph_of f).edges) ≡ summary (reading file f)
unfolding reading
counts_of file f e = rw e

module _ (f₀ f₁ s : List ℕ) where
  pub examined-first : (r : Refused) → examine_says f₀ f₁ s ≡ refused r → first (pair_lines f₀ f₁ s) ≡ some r
  examined-first r h =
      or-refused (first (pair_lines f₀ f₁ s)) (graph_of f₀).directed (nodes (graph_of f₀)) (length (graph_of f₀).edges) (graph_of f₁)
      (settings_of s) r h

  pub examined-accepted : (directed : Bool) (n₀ edges₀ n₁ edges₁ : ℕ) (set : Settings)
      → examine_says f₀ f₁ s ≡ accepted directed n₀ edges₀ n₁ edges₁ set → Accepted f₀ f₁ s directed n₀ edges₀ n₁ edges₁ set
  unfolding settings_lines
  examined-accepted directed n₀ edges₀ n₁ edges₁ set h =
      let p = parts (first (pair_lines f₀ f₁ s)) (graph_of f₀).directed (nodes (graph_of f₀)) (length (graph_of f₀).edges) (graph_of f₁)
      (settings_of s) directed n₀ edges₀ n₁ edges₁ set h in
      let files = none-of-both (file_lines 0 f₀) (kind_lines (kind f₀) f₁ s) p.no_refusal in
      let second = none-of-both (file_lines 1 f₁) _ files.1 in
      let kinds = none-of-cons 7 0 _ (settings_lines s) second.1 in
      let one = graphs-of-one-kind f₀ f₁ (eqb-true (kind f₀) (kind f₁) (not-false _ kinds.0)) in
      record {
        no_line_applies = p.no_refusal;
        first_counts = rw (p.directed_is, p.first_nodes_are, p.first_edges_are) (counts_of 0 f₀ files.0);
        second_counts = rw (p.directed_is, ← one, p.second_nodes_are, p.second_edges_are) (counts_of 1 f₁ second.0);
        one_kind = one;
        settings_are = p.set_is;
        second_nodes = p.second_nodes_are ∙ nodes-of-graph f₁;
        settings_good = (none-of-cons 8 0 _ _ kinds.1).0;
      }
