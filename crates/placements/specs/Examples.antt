-- Document 01's listing, computed by the recursion and by calls: the worked numbers, and budgets of one step, which change nothing.
use Rattle.std.specs.Prelude.{false, ◌≡◌, refl, length, replicate}
use Rattle.std.proofs.Math.Option.{none, some}
use Rattle.basics.specs.Lists.{from, any, count, keep, total, member, place}
use Rattle.graph.specs.Walk.{leads, entries}
use Rattle.order.specs.Renumber.{renumbered}
use Rattle.rules.specs.Task.{Task, task_of, partner}
use Rattle.rules.specs.Marks.{follows, candidate, next_from}
use Rattle.rules.specs.Acceptable.{all, covers, labelled_entries, carried, removed, is_subset, linked, labelled, ahead, same_label, feasible, acceptable}
use Rattle.rules.specs.Search.{started, pairs_of, onward, accepts, offered, step, None, run}
use Rattle.rules.specs.Examples.{path_of_three, one_edge, greater}
use Rattle.placements.specs.Listed.{joined, tried, maps_from, steps_from, pairs_from, listed, steps_of, accepted_of}
use Rattle.placements.specs.Calls.{calls}
use Rattle.placements.specs.Claims.{falling, permutations}

abbrev pub worked : Task
worked = task_of (greater false none) path_of_three one_edge

pub record Worked : Type 0 where
  -- 4 maps, 22 steps, accepted 7
  pub maps : length (listed worked) ≡ 4
  pub steps : steps_of worked ≡ 22
  pub accepted : accepted_of worked ≡ 7
  -- by calls of one step each
  pub same_maps : (calls worked (replicate 23 1) started).maps ≡ listed worked
  pub ending : (calls worked (replicate 23 1) started).ending ≡ some None
  -- 1 + 3 + 3 * 2
  pub most : permutations 3 2 ≡ 10

pub worked-numbers : Worked
unfolding task_of path_of_three one_edge renumbered place from any count keep total member leads entries partner follows candidate next_from all covers labelled_entries carried removed is_subset linked labelled ahead same_label feasible acceptable pairs_of onward accepts offered step run joined tried maps_from steps_from pairs_from calls falling
worked-numbers =
    record { maps = refl; steps = refl; accepted = refl; same_maps = refl; ending = refl; most = refl }
