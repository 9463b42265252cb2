-- Document 01's listing, byte by byte: what Start answers, and a session with the budgets 4 and then 100.
use Rattle.std.specs.Prelude.{ℕ, List, [], ◌∷◌, ◌≡◌, refl}
use Rattle.std.proofs.Math.Option.{some}
use Rattle.basics.specs.Lists.{from, any, count, keep, total, member, place}
use Rattle.bits.specs.Bits.{field}
use Rattle.packed.specs.Packed.{graph_of}
use Rattle.packed.specs.Refusals.{first, file_lines}
use Rattle.settings.specs.Settings.{settings_of, settings_lines}
use Rattle.graph.specs.Walk.{leads, entries}
use Rattle.order.specs.Renumber.{renumbered}
use Rattle.rules.specs.Task.{task_of, partner}
use Rattle.rules.specs.Marks.{follows, candidate, next_from}
use Rattle.rules.specs.Acceptable.{all, covers, labelled_entries, carried, removed, is_subset, linked, labelled, ahead, same_label, feasible, acceptable}
use Rattle.rules.specs.Search.{started, pairs_of, map_of, onward, accepts, offered, step, None, run, accepted_path, accepted_record}
use Rattle.rules.specs.Handed.{chosen, in_order, handed}
use Rattle.rules.specs.Calls.{begun, start_says, id_pairs}
use Rattle.promises.specs.Sessions.{map_in, Answered, Session, session}

abbrev pub path_of_three : List ℕ
path_of_three = 0x01 ∷ 0x80 ∷ 0x20 ∷ 0 ∷ 0 ∷ 0 ∷ 0 ∷ 0 ∷ 0x04 ∷ 0 ∷ 0x20 ∷ 0x80 ∷ []

abbrev pub one_edge : List ℕ
one_edge = 0x01 ∷ 0 ∷ 0x10 ∷ 0 ∷ 0 ∷ 0 ∷ 0 ∷ 0x40 ∷ []

abbrev pub greater : List ℕ
greater = 0x40 ∷ 0 ∷ 0 ∷ 0 ∷ 0 ∷ []

abbrev pub worked : Session
worked = session path_of_three one_edge greater (4 ∷ 100 ∷ 100 ∷ 100 ∷ 100 ∷ 100 ∷ []) (handed started) (9 ∷ 9 ∷ 9 ∷ 9 ∷ 9 ∷ [])

pub record Worked : Type 0 where
  pub begins : start_says path_of_three one_edge greater ≡ begun (handed started)
  pub maps : worked.maps
      ≡ ((0, 0) ∷ (1, 1) ∷ []) ∷ ((1, 0) ∷ (0, 1) ∷ []) ∷ ((1, 0) ∷ (2, 1) ∷ []) ∷ ((2, 0) ∷ (1, 1) ∷ []) ∷ []
  pub steps : worked.steps ≡ 22
  pub ending : worked.ending ≡ some (Answered None)
  pub accepted : worked.handed'.accepted ≡ 7
  -- the last map, and the rest of the buffer as it was
  pub buffer : worked.buffer' ≡ 2 ∷ 0 ∷ 1 ∷ 1 ∷ 9 ∷ []

pub worked-session : Worked
unfolding from any count keep total member place field graph_of first file_lines settings_of settings_lines leads entries renumbered task_of partner follows candidate next_from all covers labelled_entries carried removed is_subset linked labelled ahead same_label feasible acceptable pairs_of map_of onward accepts offered step run accepted_path accepted_record chosen in_order id_pairs map_in session
worked-session =
    record { begins = refl; maps = refl; steps = refl; ending = refl; accepted = refl; buffer = refl }
