-- What code knows of a tested area: where its records stand, and what a store there or of the count leaves.
--   ready_own                 == by its own N and M a tested area is ready
--   long                      == the area has the words for its N and M
--   start_counts, edition_counts, count_counts, field_counts, record_counts   == the words that are numbers of 0 or more
--   record_asks, record_within    == what is asked for the address of p's record, and that it stands inside
--   read_process              == the words of a record are those of the run
--   store_process, store_count   == what is left by a store is the area with a changed run in it
-- Assumes nothing.
use Prim.Native.Nat.{ℕ, ◌+◌, ◌≤◌, ◌<◌}
use mathlib.Core.Bool.{true}
use mathlib.Core.List.{List}
use mathlib.Core.Path.{◌≡◌, refl, sym, ap, ◌∙◌}
use native.Mathlib.Omega.{arith}
use lib.ListN.{length, get_or, set}
use lib.Seq.{sets}
use lib.IntN.{ℤ, pos}
use Rattle.tables.specs.Table.{n_of, m_of, most_processes, most_arcs, field_total}
use Rattle.steps.specs.declared.Process.{Process}
use Rattle.areas.specs.Places.{start_place, count_place, edition_place, field_place, flags_place, num_place, father_place, record_size, record_start}
use Rattle.areas.specs.Places.{area_length}
use Rattle.areas.specs.Used.{record_used, Counts, Counted}
use Rattle.areas.proofs.Signs.{counts_as}
use Rattle.areas.specs.Area.{record_place, flags_of, record_word, stored, fields_in, record_at, run_in, keeping, area_right}
use Rattle.areas.specs.Replaced.{put_process, put_count}
use Rattle.areas.specs.Writes.{record_words}
use Rattle.areas.specs.StoredLaws.{stored_start_word, stored_edition_word, stored_count_word, stored_field_word, stored_record_word}
use Rattle.areas.specs.WriteLaws.{stored_count, stored_record}
use Rattle.areas.specs.RunInLaws.{run_in_process}
use Rattle.areas.specs.AreaLaws.{stored_same}
use Rattle.tables.specs.declared.Sizes.{Sizes}
use Rattle.lenses.specs.Ready.{Ready}
use Rattle.lenses.specs.ReadyLaws.{right_long, ready_sizes}

pub ready_own : (w : List ℤ) → area_right w ≡ true → Ready w (record { n = n_of (fields_in w); m = m_of (fields_in w) })
ready_own w e = record { right = e; n_is = refl; m_is = refl }

module _ {w : List ℤ} {s : Sizes} (y : Ready w s) where
  pub long : area_length s.n s.m ≤ length w
  long = omega (arith, y.n_is, y.m_is, right_long w y.right)

  -- ---- words of 0 or more

  -- a word that the layout makes a number
  word_counts : (k n : ℕ) → get_or (stored (fields_in w) (run_in w) w) k (pos 0) ≡ pos n → Counts (get_or w k (pos 0))
  word_counts k n e = counts_as (get_or w k (pos 0)) n (ap (λ (v : List ℤ). get_or v k (pos 0)) (sym (stored_same w y.right)) ∙ e)

  pub start_counts : Counts (get_or w start_place (pos 0))
  start_counts = word_counts start_place (run_in w).start (stored_start_word (fields_in w) (run_in w) w (pos 0))

  pub edition_counts : Counts (get_or w edition_place (pos 0))
  edition_counts = word_counts edition_place (run_in w).edition (stored_edition_word (fields_in w) (run_in w) w (pos 0))

  pub count_counts : Counts (get_or w count_place (pos 0))
  count_counts = word_counts count_place (run_in w).count (stored_count_word (fields_in w) (run_in w) w (pos 0))

  pub field_counts : {j : ℕ} → j < field_total s.n s.m → Counts (get_or w (field_place j) (pos 0))
  field_counts {j} h = word_counts (field_place j) (fields_in w j) (stored_field_word (fields_in w) (run_in w) w j (pos 0) (omega (arith, y.n_is, y.m_is)))

  -- ---- records

  module _ {p : ℕ} (l : (1 ≤ p) × (p ≤ s.n)) where
    pub record_asks : ((s.n ≤ most_processes) × (s.m ≤ most_arcs)) × ((1 ≤ p) × (p ≤ most_processes))
    record_asks = (ready_sizes y, omega (arith, ready_sizes y))

    module _ {k : ℕ} (e : k ≡ record_start s.n s.m p) where
      in_record_place : k ≡ record_place (fields_in w) p
      unfolding record_place
      in_record_place = omega (arith, y.n_is, y.m_is)

      pub record_within : k + record_used ≤ length w
      record_within = omega (arith, long)

      pub record_counts : Counted w k
      record_counts =
          let at : (j : ℕ) → j < record_size → get_or (stored (fields_in w) (run_in w) w) (k + j) (pos 0) ≡ record_word ((run_in w).process p) j =
          λ j h. rw in_record_place (stored_record_word (fields_in w) (run_in w) w p j (pos 0) l.0 (omega (arith, l.1, y.n_is)) h) in
          record {
            flags = word_counts (k + flags_place) (flags_of ((run_in w).process p)) (at flags_place (omega arith));
            num = word_counts (k + num_place) ((run_in w).process p).num (at num_place (omega arith));
            father = word_counts (k + father_place) ((run_in w).process p).father (at father_place (omega arith));
          }

      pub read_process : record_at w k ≡ (run_in w).process p
      read_process = rw in_record_place (sym (run_in_process w p (l.0, omega (arith, y.n_is))))

      pub store_process : (x : Process) → sets w k (record_words x) ≡ keeping w (put_process (run_in w) p x)
      store_process x =
          rw in_record_place
          (ap (λ (v : List ℤ). sets v (record_place (fields_in w) p) (record_words x)) (sym (stored_same w y.right))
          ∙ stored_record (fields_in w) (run_in w) w p x l.0 (omega (arith, y.n_is)))

  -- ---- the count

  pub store_count : (c : ℕ) → set w count_place (pos c) ≡ keeping w (put_count (run_in w) c)
  store_count c = ap (λ (v : List ℤ). set v count_place (pos c)) (sym (stored_same w y.right)) ∙ stored_count (fields_in w) (run_in w) w c
