-- What is carried out: a delivery as changes one after another.
--   spread_by y r b        == the run after b's broadcast y
--   changed r a b k x     == the run after the message at place k is off its link and the record is changed
--   Relinked r q          == q differs from r in its links alone
--   carried_out r a b k x y z   == the delivery as changes one after another; that this is `after` is a law
--   Carried r a b k x y z == what makes these changes possible
-- Assumes nothing.
use Rattle.std.specs.Prelude.{ℕ, ◌+◌, ◌≤◌, true, ◌≡◌, length, Option, Some}
use Rattle.tables.specs.declared.Chain.TheVariants.{Out, In}
use Rattle.tables.specs.Waits.{neighbours}
use Rattle.steps.specs.declared.Process.{Process}
use Rattle.steps.specs.declared.Probes.{Probes}
use Rattle.steps.specs.declared.Probes.TheVariants.{Sucs, Pres}
use Rattle.steps.specs.declared.Reply.{Reply}
use Rattle.steps.specs.Step.{in_range, reply_fits}
use Rattle.checks.specs.Run.{Run, most_deliveries, father_right}
use Rattle.areas.specs.Replaced.{with_links, put_process, put_count}
use Rattle.link_lenses.specs.Changes.{answered, spread, off}
use Rattle.preparing.specs.Rooms.{load_after}

-- the probes of a broadcast, sent
abbrev pub spread_by : Probes → Run → ℕ → Run
spread_by Probes.Nothing r b = r
spread_by Sucs r b = spread Out r b
spread_by Pres r b = spread In r b

-- the message at place k is off the link from a to b, and the record of b is changed
abbrev pub changed : Run → ℕ → ℕ → ℕ → Process → Run
changed r a b k x = put_process (off r a b k) b x

-- q differs from r in its links alone
pub record Relinked (r q : Run) : Type 0 where
  pub is : q ≡ with_links r q.link

-- the changes that make a delivery, one after another
unfoldable pub carried_out : Run → ℕ → ℕ → ℕ → Process → Probes → Option Reply → Run
carried_out r a b k x y z =
    let q : Run = spread_by y (answered (changed r a b k x) b z) b in
    put_count q (q.count + 1)

-- what makes each of them possible
pub record Carried (r : Run) (a b k : ℕ) (x : Process) (y : Probes) (z : Option Reply) : Type 0 where
  pub joined : neighbours r.waits a b ≡ true
  pub placed : (1 ≤ k) × (k ≤ length (r.link a b))
  pub range : in_range x ≡ true
  pub father : father_right r.waits b x ≡ true
  pub replies : reply_fits z ≡ true
  pub replied : (v : Reply) → z ≡ Some v → neighbours r.waits b v.to ≡ true
  pub count : r.count + 1 ≤ most_deliveries
  pub room : (q : ℕ) → 1 ≤ q → q ≤ r.waits.n → load_after r a b y z q ≤ 4
