-- What is known of a tested area and its run, and of what a change leaves.
--   right_long, right_storable == a well-formed area is long enough, and what is known of its run; its table is area_right_table (areas)
--   keeping_length, keeping_fields, keeping_run, keeping_again   == an area with another run of the same table in it is as long as it was, what is
--                                 read from it, and two changes one after another
--   ready_kept                 == such an area is ready too
--   run_in_few                  == no more messages than slots wait on a link that is read from words
--   ready_n, ready_sizes       == N of the run; N and M are small
--   ready_near                 == neighbours in the table are so in the run
-- Assumes nothing.
use Rattle.std.specs.Prelude.{ℕ, ◌≤◌, true, List, ◌≡◌, length, ℤ}
use Rattle.std.proofs.Common.{sym, ap, ◌∙◌, subst, arith}
use Rattle.tables.specs.Table.{n_of, m_of, most_processes, most_arcs}
use Rattle.tables.specs.WaitsLaws.{waits_of_sound}
use Rattle.checks.specs.Run.{Run}
use Rattle.areas.specs.Used.{link_slots}
use Rattle.areas.specs.Area.{area_of, link_of, fields_in, run_in, keeping, area_right}
use Rattle.areas.specs.StoredLaws.{stored_length, stored_again}
use Rattle.areas.specs.ReadLaws.{fields_in_stored, run_in_stored}
use Rattle.areas.specs.RunInLaws.{fields_in_shut, run_in_n, run_in_link, run_in_contained}
use Rattle.areas.specs.AreaLaws.{area_right_P, area_right_table, area_right_stored}
use Rattle.areas.specs.LinkLaws.{messages_at_length}
use Rattle.tables.specs.declared.Sizes.{Sizes}
use Rattle.lenses.specs.Ready.{Ready}
use Rattle.lenses.specs.Storable.{Storable}
use Rattle.base.specs.ChoiceLaws.{tested}
use Rattle.base.specs.Checks.{Tested, passed, failed}
use Rattle.tables.specs.Waits.{Waits, waits_of, neighbours}

pub right_long : (w : List ℤ) → area_right w ≡ true → area_of (fields_in w) ≤ length w
right_long w e = ((area_right_P w).0 e).long

pub right_storable : (w : List ℤ) → area_right w ≡ true → Storable (fields_in w) (run_in w)
unfolding run_in
right_storable w e =
    record { held = run_in_contained w; formed = ((area_right_P w).0 e).run; sound = waits_of_sound (fields_in w) (area_right_table w e).right }

module _ (w : List ℤ) (e : area_right w ≡ true) (r : Run) (f : Storable (fields_in w) r) where
  pub keeping_fields : fields_in (keeping w r) ≡ fields_in w
  keeping_fields = fields_in_stored (fields_in w) r w (fields_in_shut w)

  pub keeping_run : run_in (keeping w r) ≡ r
  keeping_run = run_in_stored (fields_in w) r w (area_right_table w e).right (fields_in_shut w) f.held f.formed

  keeping_right : area_right (keeping w r) ≡ true
  keeping_right = area_right_stored (fields_in w) r w (area_right_table w e) f.held f.formed (right_long w e)

  pub keeping_again : (q : Run) → keeping (keeping w r) q ≡ keeping w q
  keeping_again q = rw keeping_fields (stored_again (fields_in w) q r w)

  pub keeping_length : length (keeping w r) ≡ length w
  keeping_length = stored_length (fields_in w) r w (right_long w e)

  pub ready_kept : {s : Sizes} → Ready w s → Ready (keeping w r) s
  ready_kept y =
      record {
        right = keeping_right;
        n_is = y.n_is ∙ sym (ap n_of keeping_fields);
        m_is = y.m_is ∙ sym (ap m_of keeping_fields);
      }

-- ---- what is read from a tested area

pub run_in_few : (w : List ℤ) (a b : ℕ) → length ((run_in w).link a b) ≤ link_slots
run_in_few w a b = at (tested (neighbours (waits_of (fields_in w)) a b))
  where
    at : Tested (neighbours (waits_of (fields_in w)) a b) → length ((run_in w).link a b) ≤ link_slots
    at (passed e) = rw (run_in_link w a b e) (messages_at_length w (link_of (fields_in w) a b) link_slots)
    at (failed e) = rw ((run_in_contained w).links a b e) (omega arith)

module _ {w : List ℤ} {s : Sizes} (y : Ready w s) where
  pub ready_n : (run_in w).waits.n ≡ s.n
  ready_n = run_in_n w ∙ sym y.n_is

  pub ready_sizes : (s.n ≤ most_processes) × (s.m ≤ most_arcs)
  ready_sizes = omega (arith, (area_right_table w y.right).right.sizes.1, (area_right_table w y.right).right.sizes.2)

pub ready_near : (w : List ℤ) (a b : ℕ) → neighbours (waits_of (fields_in w)) a b ≡ true → neighbours (run_in w).waits a b ≡ true
ready_near w a b j = subst (λ (v : Waits). neighbours v a b ≡ true) (sym (run_in_contained w).waits) j
