-- Demand 3 for the calls on lent words.
--   area_run               == a list of calls on the area comes to what it comes to on the run that the area holds
--   area_ending            == THE THEOREM: AreaPromise after every list of calls on the area that an accepted start left
-- Assumes nothing.
use Rattle.std.specs.Prelude.{ℕ, List, ◌≡◌, drop, ℤ}
use Rattle.std.proofs.Common.{eq-eqb, drop_at}
use Rattle.tables.specs.Table.{Fields, field_of, n_of, m_of}
use Rattle.tables.specs.Sound.{Sound}
use Rattle.tables.specs.Waits.{waits_of}
use Rattle.tables.specs.WaitsLaws.{waits_of_sound}
use Rattle.checks.specs.Run.{Run, start_run}
use Rattle.machine.specs.Lists.{Call, Passed}
use Rattle.checks.specs.Lists
use Rattle.ending.specs.Ending.{ending}
use Rattle.areas.specs.Places.{area_length}
use Rattle.areas.specs.Area.{word_of, words_to, stored, area_of}
use Rattle.areas.specs.OverlaidLaws.{words_to_length}
use Rattle.areas.specs.AreaFacts.{RightTable}
use Rattle.lenses.specs.Storable.{Storable}
use Rattle.starting.specs.StartCall.{start_number, start_area}
use Rattle.beginning.specs.Starting.{Startable}
use Rattle.beginning.specs.StartingLaws.{start_fit, accepted_table}
use Rattle.starting.specs.StartCallLaws.{start_number_startable}
use Rattle.area_calls.specs.AreaCalls.{area_passed, as_run, AreaPromise}
use Rattle.area_ending.specs.ListLaws.{right, run, list_stored, fit_list}

-- ---- the theorem

-- words past an area stay
stored_surplus : (t : Fields) (r : Run) (w : List ℤ) → drop (area_of t) (stored t r w) ≡ drop (area_of t) w
unfolding stored
stored_surplus t r w = drop_at (words_to (area_of t) (word_of t r)) (drop (area_of t) w) (area_of t) (words_to_length (area_of t) (word_of t r))

-- what an accepted start gives the theorem
module _ (bs : List ℕ) (s ed : ℕ) (w : List ℤ) (e : start_number bs s ed w ≡ 0) where
  pub begun : Startable bs (n_of (field_of bs)) (m_of (field_of bs)) s ed w
  begun = start_number_startable bs s ed w e

  pub table : RightTable (field_of bs)
  table = accepted_table bs begun.accepted

  abbrev first : Run
  first = start_run (waits_of (field_of bs)) s ed

  fits : Storable (field_of bs) first
  unfolding waits_of
  fits = start_fit (field_of bs) table.right s begun.start_is_in ed begun.edition

  module _ (cs : List Call) where
    abbrev last : Passed Run
    last = Lists.passed cs first

    pub fits_last : Storable (field_of bs) last.left
    fits_last = fit_list (field_of bs) table w begun.long cs first fits

    pub list_left : area_passed cs (start_area bs s ed w) ≡ record { left = stored (field_of bs) last.left w; made = last.made; numbers = last.numbers }
    unfolding start_area
    list_left = rw (eq-eqb (start_number bs s ed w) 0 e) (list_stored (field_of bs) table w begun.long cs first fits)

    -- a list of calls on the area comes to what it comes to on the run
    pub area_run : as_run (area_passed cs (start_area bs s ed w)) ≡ Lists.passed cs first
    area_run = rw (list_left, run (field_of bs) table w begun.long last.left fits_last)

    promised : AreaPromise (waits_of (field_of bs)) s ed w (area_length (n_of (field_of bs)) (m_of (field_of bs))) (area_passed cs (start_area bs s ed w))
    unfolding waits_of
    promised =
        let sd : Sound (waits_of (field_of bs)) = waits_of_sound (field_of bs) table.right in
        record {
          right = rw list_left (right (field_of bs) table w begun.long last.left fits_last);
          promise = rw area_run (ending (waits_of (field_of bs)) sd s begun.start_is_in ed begun.edition cs);
          surplus = rw list_left (stored_surplus (field_of bs) last.left w);
        }

-- demand 3 for the calls: "A list begins with the area that an accepted start left"
pub area_ending : (bs : List ℕ) (s ed : ℕ) (w : List ℤ) → start_number bs s ed w ≡ 0 → (cs : List Call)
    → AreaPromise (waits_of (field_of bs)) s ed w (area_length (n_of (field_of bs)) (m_of (field_of bs))) (area_passed cs (start_area bs s ed w))
area_ending bs s ed w e cs = promised bs s ed w e cs
