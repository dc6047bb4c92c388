-- Nothing but the calls decides (02, N13).
--   stored_used       == the words in use are those of the table and the run
--   repeated          == THE LAW: the same list with the same seeds, after the same accepted start, comes to the same in every area
-- Assumes nothing.
use Rattle.std.specs.Prelude.{ℕ, true, List, ◌≡◌, take, drop, ℤ}
use Rattle.std.proofs.Common.{sym, ap, ◌∙◌, take_at}
use Rattle.tables.specs.Table.{Fields, field_of, n_of, m_of}
use Rattle.tables.specs.Waits.{waits_of}
use Rattle.machine.specs.Lists.{Call, picking, running_on, running_shuffled, reporting, reading, Passed}
use Rattle.checks.specs.Run.{Run, start_run}
use Rattle.checks.specs.Lists
use Rattle.areas.specs.Places.{area_length}
use Rattle.areas.specs.Area.{word_of, words_to, stored, area_of, run_in, area_right}
use Rattle.areas.specs.OverlaidLaws.{words_to_length}
use Rattle.starting.specs.StartCall.{start_number, start_area}
use Rattle.area_calls.specs.AreaCalls.{pick_answer, run_on_answer, shuffled_answer, report_answer, read_answer, area_passed, as_run}
use Rattle.area_ending.specs.AreaEnding.{list_left, area_run, area_ending}
use Rattle.area_ending.specs.Repeated.{says_in, Repeated}

stored_used : (t : Fields) (r : Run) (w : List ℤ) → take (area_of t) (stored t r w) ≡ words_to (area_of t) (word_of t r)
unfolding stored
stored_used t r w = take_at (words_to (area_of t) (word_of t r)) (drop (area_of t) w) (area_of t) (words_to_length (area_of t) (word_of t r))

-- two well-formed areas that hold the same run answer the same
same_run : (c : Call) (w v : List ℤ) → area_right w ≡ true → area_right v ≡ true → run_in w ≡ run_in v → says_in c w ≡ says_in c v
unfolding pick_answer run_on_answer shuffled_answer report_answer read_answer
same_run (picking a b k) w v e f g = rw (e, f, g)
same_run (running_on k) w v e f g = rw (e, f, g)
same_run (running_shuffled k seed) w v e f g = rw (e, f, g)
same_run reporting w v e f g = rw (e, f, g)
same_run (reading p) w v e f g = rw (e, f, g)

-- 02, N13: "Load days need orders anyone can repeat." Whatever two areas held before, the same start and the same list, seeds and all, leave
-- the same run and the same words in use, and answer the same
pub repeated : (bs : List ℕ) (s ed : ℕ) (w v : List ℤ) → start_number bs s ed w ≡ 0 → start_number bs s ed v ≡ 0 → (cs : List Call)
    → Repeated (area_length (n_of (field_of bs)) (m_of (field_of bs))) (area_passed cs (start_area bs s ed w)) (area_passed cs (start_area bs s ed v))
repeated bs s ed w v e f cs =
    record {
      run = run;
      made = ap (λ (p : Passed Run). p.made) same;
      numbers = ap (λ (p : Passed Run). p.numbers) same;
      answers = λ c. same_run c one.left other.left (area_ending bs s ed w e cs).right (area_ending bs s ed v f cs).right run;
      words = used w e ∙ sym (used v f);
    }
  where
    one : Passed (List ℤ)
    one = area_passed cs (start_area bs s ed w)

    other : Passed (List ℤ)
    other = area_passed cs (start_area bs s ed v)

    same : as_run one ≡ as_run other
    same = area_run bs s ed w e cs ∙ sym (area_run bs s ed v f cs)

    run : run_in one.left ≡ run_in other.left
    run = ap (λ (p : Passed Run). p.left) same

    left : Run
    left = (Lists.passed cs (start_run (waits_of (field_of bs)) s ed)).left

    used : (x : List ℤ) → start_number bs s ed x ≡ 0 → take (area_of (field_of bs)) (area_passed cs (start_area bs s ed x)).left
        ≡ words_to (area_of (field_of bs)) (word_of (field_of bs) left)
    used x h = rw (list_left bs s ed x h cs) (stored_used (field_of bs) left x)
