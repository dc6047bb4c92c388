-- What is counted of a knot check's run, besides what is counted of any (machine, Weights).
--   edge w a b          == 1 if a waits for b, 0 if not
--   quota w i j x       == how many probes i, with record x, has sent to j since the start
--   sends w r           == how many probes all processes have sent since the start
--   Tally               == one of the two sums: which count it is, what each process adds to it, and what bounds its negative parts
--   subordinates s, waitless w   == the tallies of cs and of the second sum (02, N3)
--   sum_in τ, count_in τ  == a process's sum and a message's count, by a tally
--   worth_of τ w r, slack_of τ w r   == what all processes add, and what bounds the negative parts
--   Begins w s τ, Tallied τ b m x t, Few τ w r   == what a tally says of the start, of a step, and of each process at any time
--   both_off s i x       == 1 if a process other than the start is succeeding and preceding
--   Diffuses w s r      == each num counts the probes that are not acknowledged yet, and no pair has more than its quota
-- Assumes nothing.
use Rattle.std.specs.Prelude.{ℕ, ◌+◌, ◌*◌, ◌≤◌, ◌≡◌, eqb, ℤ, pos}
use Rattle.base.specs.Choice.{choose, bit}
use Rattle.base.specs.Sums.{sum_to}
use Rattle.base.specs.Parts.{above, below}
use Rattle.tables.specs.Waits.{Waits, out_degree, in_degree}
use Rattle.tables.specs.Table.{IsProcess}
use Rattle.machine.specs.Diffusing.{Quota, Diffusing}
use Rattle.steps.specs.declared.Message.{Message}
use Rattle.steps.specs.declared.Process.{Process}
use Rattle.steps.specs.declared.TwoCounts.{TwoCounts}
use Rattle.steps.specs.Step.{Turn, idle, no_counts, sums_of, own_count}
use Rattle.steps.specs.Effect.{counts_of, both, counts_replied, Balanced}
use Rattle.checks.specs.Run.{Run, knot, started}

-- a wait, as a number
abbrev pub edge : Waits → ℕ → ℕ → ℕ
edge w a b = bit (w.waits a b)

-- a succeeding process has sent suc to each that it waits for, a preceding one pre to each that waits for it
unfoldable pub quota : Quota Process
quota w i j x = x.succeeding * edge w i j + x.preceding * edge w j i

-- the same over all pairs, by the degrees of each process
unfoldable pub sends : Waits → Run → ℕ
sends w r = sum_to w.n (λ i. (r.process i).succeeding * out_degree w i + (r.process i).preceding * in_degree w i)

-- the start has both flags from the first on, and is not counted
unfoldable pub both_off : ℕ → ℕ → Process → ℕ
both_off s i x = choose (eqb i s) 0 (both x)

-- which of two counts, what process i with record x adds to the sum of all, and how much of it may be below zero
pub record Tally : Type 0 where
  pub part : TwoCounts → ℤ
  pub worth : ℕ → Process → ℕ
  pub slack : ℕ → Process → ℕ

-- cs: subordinates, and those that ceased to be subordinate
abbrev pub subordinates : ℕ → Tally
subordinates s = record { part = λ c. c.count; worth = λ i x. x.subordinate; slack = both_off s }

-- the second sum: succeeding processes that wait for nobody; nothing is below zero
abbrev pub waitless : Waits → Tally
waitless w = record { part = λ c. c.second; worth = λ i x. x.succeeding * own_count (out_degree w i); slack = λ i x. 0 }

abbrev pub sum_in : Tally → Process → ℤ
sum_in τ x = τ.part (sums_of x)

abbrev pub count_in : Tally → Message → ℤ
count_in τ m = τ.part (counts_of m)

unfoldable pub worth_of : Tally → Waits → Run → ℕ
worth_of τ w r = sum_to w.n (λ i. τ.worth i (r.process i))

unfoldable pub slack_of : Tally → Waits → Run → ℕ
slack_of τ w r = sum_to w.n (λ i. τ.slack i (r.process i))

-- the start has as sum what it adds, and nobody else has or adds anything
pub record Begins (w : Waits) (s : ℕ) (τ : Tally) : Type 0 where
  pub none : τ.part no_counts ≡ pos 0
  pub own : above (sum_in τ (started w s)) ≡ τ.worth s (started w s)
  pub own_below : below (sum_in τ (started w s)) ≡ 0
  pub others : (i : ℕ) → τ.worth i idle ≡ 0

-- what a step does to the sum of a tally
abbrev pub Tallied : Tally → ℕ → Message → Process → Turn → Type 0
Tallied τ b m x t =
    Balanced (sum_in τ x) (count_in τ m) (sum_in τ t.process) (τ.part (counts_replied t.sent.reply)) (τ.worth b x) (τ.worth b t.process)
    (τ.slack b x) (τ.slack b t.process)

-- no process adds more than 1, and where it adds, it has no slack
abbrev pub Few : Tally → Waits → Run → Type 0
Few τ w r = (i : ℕ) → IsProcess w.n i → τ.worth i (r.process i) + τ.slack i (r.process i) ≤ 1

-- what any check keeps (machine, Diffusing), by this check's rules and quota
abbrev pub Diffuses : Waits → ℕ → Run → Type 0
Diffuses w s r = Diffusing knot quota w s r
