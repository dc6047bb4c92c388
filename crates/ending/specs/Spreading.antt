-- How a flag spreads along the waits. Succeeding and preceding are mirror images, so one record says both, over the flag, the weight μ of its
-- probes (1 for suc, or for pre), the direction e in which they go, and R, who may have the flag.
--   Side w flag μ e R r   == its probes go along e, R alone have the flag, and none is forgotten
--   Grows w flag μ e b m x t more   == what the step t of b, with record x, on message m does to the flag; `more` is what b gains
--   NoneWaits w r         == no message waits on a link between processes
-- Assumes nothing.
use Rattle.std.specs.Prelude.{ℕ, ◌+◌, ◌*◌, ◌≤◌, Bool, [], ◌≡◌}
use Rattle.base.specs.Choice.{bit}
use Rattle.tables.specs.Waits.{Waits}
use Rattle.tables.specs.Table.{IsProcess}
use Rattle.machine.specs.Weights.{weight}
use Rattle.steps.specs.declared.Message.{Message}
use Rattle.steps.specs.declared.Process.{Process}
use Rattle.steps.specs.Step.{Turn}
use Rattle.checks.specs.Run.{Run, sent_to}

-- one flag in a run: where its probes are, who has it, and who is still to get it
pub record Side (w : Waits) (flag : Process → ℕ) (μ : Message → ℕ) (e : ℕ → ℕ → Bool) (R : ℕ → Type 0) (r : Run) : Type 0 where
  -- its probes go along e, from processes that have the flag
  pub goes : (i j : ℕ) → IsProcess w.n i → IsProcess w.n j → weight μ (r.link i j) ≤ flag (r.process i) * bit (e i j)
  -- only who may have the flag has it
  pub may : (i : ℕ) → IsProcess w.n i → flag (r.process i) ≡ 1 → R i
  -- whom e leads to has the flag, or a probe is on the way
  pub kept : (i j : ℕ) → IsProcess w.n i → IsProcess w.n j → flag (r.process i) * bit (e i j) ≤ flag (r.process j) + weight μ (r.link i j)

-- what a delivery does to a flag: `more` says whether the receiver gets it, and sends its probes
pub record Grows (w : Waits) (flag : Process → ℕ) (μ : Message → ℕ) (e : ℕ → ℕ → Bool) (b : ℕ) (m : Message) (x : Process) (t : Turn) (more : ℕ) : Type 0 where
  pub adds : flag t.process ≡ flag x + more
  pub sets : μ m ≤ flag t.process
  pub alone : more ≤ μ m
  pub sent : (y : ℕ) → weight μ (sent_to w b t y) ≡ more * bit (e b y)

-- nothing is on the way any more
abbrev pub NoneWaits : Waits → Run → Type 0
NoneWaits w r = (a b : ℕ) → IsProcess w.n a → IsProcess w.n b → r.link a b ≡ []
