-- Laws on the beginning of a run in its area, one for each step of the code.
--   Stage w z r new      == the area new holds the run r of w's table, and is ready for the next change
--   row_kept               == the rows of its table are those of w's
--   put_stage, suc_stage   == the area once the start's record is put, and once its suc probes are sent
--   begin_made     == the area once its pre probes are sent
--   laid_unbegun, laid_begun   == the area that was laid out is ready to begin, and what it becomes
-- Assumes nothing.
use Prim.Native.Nat.{ℕ, ◌≤◌}
use mathlib.Core.Bool.{true}
use mathlib.Core.List.{List}
use mathlib.Core.Path.{◌≡◌, sym, ap, ap₂, ◌∙◌, subst}
use native.Mathlib.Omega.{arith}
use lib.ListN.{length}
use lib.IntN.{ℤ}
use Rattle.tables.specs.declared.Chain.TheVariants.{Out, In}
use Rattle.tables.specs.Table.{Fields, field_of, n_of, m_of, IsProcess}
use Rattle.tables.specs.Sound.{Sound}
use Rattle.tables.specs.Waits.{Waits, waits_of}
use Rattle.tables.specs.WaitsLaws.{waits_of_sound}
use Rattle.steps.specs.declared.Process.{Process}
use Rattle.steps.specs.Step.{in_range}
use Rattle.machine.specs.FormedLaws.{well_formed_P}
use Rattle.checks.specs.Run.{Run, IsEdition, knot, father_right, started, start_run}
use Rattle.checks.specs.RunLaws.{is_edition_P}
use Rattle.areas.specs.Area.{stored, fields_in, run_in, keeping}
use Rattle.areas.specs.Replaced.{put_process}
use Rattle.areas.specs.StoredLaws.{stored_again}
use Rattle.areas.specs.ReadLaws.{fields_in_stored, run_in_stored}
use Rattle.areas.specs.AreaFacts.{RightTable}
use Rattle.areas.specs.AreaLaws.{area_right_table, area_right_stored}
use Rattle.areas.specs.RunInLaws.{run_in_contained}
use Rattle.areas.specs.Squares.{Row}
use Rattle.link_lenses.specs.Changes.{spread}
use Rattle.lenses.specs.Storable.{Storable}
use Rattle.tables.specs.declared.Sizes.{Sizes}
use Rattle.lenses.specs.Ready.{Ready}
use Rattle.lenses.specs.ReadyLaws.{right_storable, keeping_fields, keeping_run, keeping_again, ready_kept}
use Rattle.beginning.specs.Starting.{quiet, begun, suc_sent, Startable, Unbegun}
use Rattle.beginning.specs.StartingLaws.{quiet_fit, begun_fit, begun_room, suc_sent_fit, suc_sent_room, start_run_made, started_in_range}
use Rattle.beginning.specs.StartingLaws.{started_father, accepted_table}

-- an area with another run of the same table in it
pub record Stage (w : List ℤ) (z : Sizes) (r : Run) (new : List ℤ) : Type 0 where
  pub ready : Ready new z
  pub fields : fields_in new ≡ fields_in w
  pub run : run_in new ≡ r
  pub next : (q : Run) → keeping new q ≡ keeping w q

stage_of : (w : List ℤ) (z : Sizes) → Ready w z → (r : Run) → Storable (fields_in w) r → (new : List ℤ) → new ≡ keeping w r
    → Stage w z r new
stage_of w z y r f new e =
    rw e
    (record {
      ready = ready_kept w y.right r f y;
      fields = keeping_fields w y.right r f;
      run = keeping_run w y.right r f;
      next = keeping_again w y.right r f;
    })

pub row_kept : {w : List ℤ} {z : Sizes} {r : Run} {new : List ℤ} → Stage w z r new → (b : ℕ) (row : List ℕ) → Row (fields_in w) b row
    → Row (fields_in new) b row
row_kept a b row h = subst (λ (t : Fields). Row t b row) (sym a.fields) h

module _ {w : List ℤ} {z : Sizes} {s : ℕ} (k : Unbegun w z s) where
  table : RightTable (fields_in w)
  table = area_right_table w k.ready.right

  sound : Sound (waits_of (fields_in w))
  sound = waits_of_sound (fields_in w) table.right

  process : IsProcess (waits_of (fields_in w)).n s
  unfolding waits_of
  process = rw k.ready.n_is at k.start_is_in

  abbrev edition : ℕ
  edition = (run_in w).edition

  named : IsEdition edition
  named = (is_edition_P edition).0 ((well_formed_P knot (run_in w)).0 (right_storable w k.ready.right).formed).edition

  -- the start's record, and what putting it asks
  module _ (x : Process) (e : x ≡ started (run_in w).waits s) where
    record_is : x ≡ started (waits_of (fields_in w)) s
    record_is = e ∙ ap (λ (v : Waits). started v s) (run_in_contained w).waits

    pub record_in_range : in_range x ≡ true
    record_in_range = rw record_is (started_in_range (waits_of (fields_in w)) sound s)

    pub record_father : father_right (run_in w).waits s x ≡ true
    record_father = rw record_is (started_father (waits_of (fields_in w)) (run_in w).waits s)

    pub put_stage : (new : List ℤ) → new ≡ keeping w (put_process (run_in w) s x) → Stage w z (begun (fields_in w) s edition) new
    unfolding begun
    put_stage new f =
        stage_of w z k.ready (begun (fields_in w) s edition) (begun_fit (fields_in w) table.right s process edition named) new
        (f
        ∙ ap (λ (r : Run). keeping w (put_process r s x)) k.run
        ∙ ap (λ (z : Process). keeping w (put_process (quiet (fields_in w) s edition) s z)) record_is)

  module _ {one : List ℤ} (a : Stage w z (begun (fields_in w) s edition) one) where
    pub put_room : (q : ℕ) → length ((run_in one).link s q) ≤ 3
    put_room q = rw a.run (begun_room (fields_in w) table.right s process edition named q)

    pub suc_stage : (new : List ℤ) → new ≡ keeping one (spread Out (run_in one) s) → Stage w z (suc_sent (fields_in w) s edition) new
    unfolding suc_sent
    suc_stage new f =
        stage_of w z k.ready (suc_sent (fields_in w) s edition) (suc_sent_fit (fields_in w) table.right s process edition named) new
        (f ∙ a.next (spread Out (run_in one) s) ∙ ap (λ (r : Run). keeping w (spread Out r s)) a.run)

  module _ {two : List ℤ} (b : Stage w z (suc_sent (fields_in w) s edition) two) where
    pub suc_room : (q : ℕ) → length ((run_in two).link s q) ≤ 3
    suc_room q = rw b.run (suc_sent_room (fields_in w) table.right s process edition named q)

    pub begin_made : (new : List ℤ) → new ≡ keeping two (spread In (run_in two) s) → new ≡ keeping w (start_run (waits_of (fields_in w)) s (run_in w).edition)
    begin_made new f =
        f
        ∙ b.next (spread In (run_in two) s)
        ∙ ap (λ (r : Run). keeping w (spread In r s)) b.run
        ∙ ap (keeping w) (sym (start_run_made (fields_in w) sound s edition))

-- ---- from the quiet run of a table

module _ {bs : List ℕ} {n m s ed : ℕ} {w : List ℤ} (k : Startable bs n m s ed w) (laid : List ℤ)
    (is : laid ≡ stored (field_of bs) (quiet (field_of bs) s ed) w) where
  fields : fields_in laid ≡ field_of bs
  fields = ap fields_in is ∙ fields_in_stored (field_of bs) (quiet (field_of bs) s ed) w (accepted_table bs k.accepted).shut

  fit : Storable (field_of bs) (quiet (field_of bs) s ed)
  unfolding waits_of
  fit = quiet_fit (field_of bs) k.accepted.right s (rw k.n_is at k.start_is_in) ed k.edition

  run_is : run_in laid ≡ quiet (field_of bs) s ed
  run_is =
      ap run_in is
      ∙ run_in_stored (field_of bs) (quiet (field_of bs) s ed) w k.accepted.right (accepted_table bs k.accepted).shut fit.held fit.formed

  edition_is : (run_in laid).edition ≡ ed
  unfolding quiet
  edition_is = ap (λ (r : Run). r.edition) run_is

  pub laid_unbegun : Unbegun laid (record { n = n; m = m }) s
  laid_unbegun =
      record {
        ready = record {
          right = rw is (area_right_stored (field_of bs) (quiet (field_of bs) s ed) w (accepted_table bs k.accepted) fit.held fit.formed
              (omega (arith, k.long, k.n_is, k.m_is)));
          n_is = k.n_is ∙ sym (ap n_of fields);
          m_is = k.m_is ∙ sym (ap m_of fields);
        };
        start_is_in = k.start_is_in;
        run = run_is ∙ ap₂ (λ (t : Fields) (e : ℕ). quiet t s e) (sym fields) (sym edition_is);
      }

  pub laid_begun : (new : List ℤ) → new ≡ keeping laid (start_run (waits_of (fields_in laid)) s (run_in laid).edition)
      → new ≡ stored (field_of bs) (start_run (waits_of (field_of bs)) s ed) w
  laid_begun new e =
      e
      ∙ ap₂ (λ (t : Fields) (v : ℕ). stored t (start_run (waits_of t) s v) laid) fields edition_is
      ∙ ap (stored (field_of bs) (start_run (waits_of (field_of bs)) s ed)) is
      ∙ stored_again (field_of bs) (start_run (waits_of (field_of bs)) s ed) (quiet (field_of bs) s ed) w
