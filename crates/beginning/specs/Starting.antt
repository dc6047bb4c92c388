-- A start on its way: before anything is sent, and between its parts.
--   quiet t s ed       == the run of the table t with start s under the edition ed, all values 0 and no message
--   begun t s ed       == the same with the start's record put
--   suc_sent t s ed     == and with its suc probes sent
--   start_of t s ed, begun_in w s   == the run that a start leaves, of the table t; the same of an area's own table and edition
--   Startable bs n m s ed w   == what the checks leave: an accepted table with its N and M, a process of it, an edition, and words enough
--   Unbegun w z s    == the area w holds the quiet run of its table, ready to begin
--   Cleared old n new  == the first n words are 0, the others as before
--   Copied t old n new == the words behind the heading are the first n fields of t, the others as before
-- Assumes nothing.
use Rattle.std.specs.Prelude.{ℕ, ◌+◌, ◌≤◌, ◌<◌, List, [], ◌≡◌, length, get_or, ℤ, pos}
use Rattle.tables.specs.declared.Chain.TheVariants.{Out}
use Rattle.tables.specs.Table.{Fields, field_of, n_of, m_of, IsProcess}
use Rattle.tables.specs.Layout.{MeetsLayout}
use Rattle.tables.specs.Waits.{waits_of}
use Rattle.steps.specs.Step.{idle}
use Rattle.checks.specs.Run.{Run, IsEdition, started, start_run}
use Rattle.areas.specs.Places.{head_size, field_place, area_length}
use Rattle.areas.specs.Area.{fields_in, run_in}
use Rattle.areas.specs.Replaced.{put_process}
use Rattle.link_lenses.specs.Changes.{spread}
use Rattle.tables.specs.declared.Sizes.{Sizes}
use Rattle.lenses.specs.Ready.{Ready}

-- "All values 0"
unfoldable pub quiet : Fields → ℕ → ℕ → Run
quiet t s ed = record { waits = waits_of t; start = s; edition = ed; count = 0; process = λ p. idle; link = λ a b. [] }

-- "s gets succeeding and preceding"
unfoldable pub begun : Fields → ℕ → ℕ → Run
begun t s ed = put_process (quiet t s ed) s (started (waits_of t) s)

-- "s sends suc to each successor"
unfoldable pub suc_sent : Fields → ℕ → ℕ → Run
suc_sent t s ed = spread Out (begun t s ed) s

-- "Start at s", under the edition ed (02, N4)
abbrev pub start_of : Fields → ℕ → ℕ → Run
start_of t s ed = start_run (waits_of t) s ed

abbrev pub begun_in : List ℤ → ℕ → Run
begun_in w s = start_of (fields_in w) s (run_in w).edition

pub record Startable (bs : List ℕ) (n m s ed : ℕ) (w : List ℤ) : Type 0 where
  pub accepted : MeetsLayout bs
  pub n_is : n ≡ n_of (field_of bs)
  pub m_is : m ≡ m_of (field_of bs)
  pub start_is_in : IsProcess n s
  pub edition : IsEdition ed
  pub long : area_length n m ≤ length w

pub record Unbegun (w : List ℤ) (z : Sizes) (s : ℕ) : Type 0 where
  pub ready : Ready w z
  pub start_is_in : IsProcess z.n s
  pub run : run_in w ≡ quiet (fields_in w) s (run_in w).edition

pub record Cleared (old : List ℤ) (n : ℕ) (new : List ℤ) : Type 0 where
  pub long : length new ≡ length old
  pub zeros : (k : ℕ) → k < n → get_or new k (pos 0) ≡ pos 0
  pub kept : (k : ℕ) → n ≤ k → get_or new k (pos 0) ≡ get_or old k (pos 0)

pub record Copied (t : Fields) (old : List ℤ) (n : ℕ) (new : List ℤ) : Type 0 where
  pub long : length new ≡ length old
  pub fields : (j : ℕ) → j < n → get_or new (field_place j) (pos 0) ≡ pos (t j)
  pub before : (k : ℕ) → k < head_size → get_or new k (pos 0) ≡ get_or old k (pos 0)
  pub behind : (k : ℕ) → head_size + n ≤ k → get_or new k (pos 0) ≡ get_or old k (pos 0)
