-- The end of a check in the words of the relation of who reaches whom (01, "The end of a check"), over the arcs of a table. Ended (Lists) says
-- the same by the tests that compute it; ended_P (crate ending, InWordsLaws) ties the two.
--   Outside w s p         == p is reachable from s and does not reach it
--   Sink w s p            == p is reachable from s and waits for nobody (02, N3)
--   EndedInWords t s ed r   == what is said of a run that is over, of the table with fields t, started at s under the edition ed
-- HowMany P n k (crate base, Sums) says that k of the numbers 1 to n have P, and Lowest P n e that e is the lowest that has P, 0 if none has.
-- Assumes nothing.
use Rattle.std.specs.Prelude.{ℕ, ◌+◌, ◌*◌, ◌≡◌, ◌↔◌, pos, Ok}
use Rattle.base.specs.Sums.{HowMany, Lowest}
use Rattle.tables.specs.Table.{Fields, n_of, m_of, IsProcess, arc_at}
use Rattle.tables.specs.Waits.{Waits, waits_of}
use Rattle.checks.specs.declared.Verdict.{Verdict}
use Rattle.checks.specs.declared.Verdict.TheVariants.{Knot}
use Rattle.checks.specs.declared.Mark.{Mark}
use Rattle.checks.specs.declared.Mark.TheVariants.{Returned}
use Rattle.checks.specs.Run.{Run}
use Rattle.checks.specs.Calls.{report}
use Rattle.checks.specs.Reach.{Reaches, SomeByArcs, WaitsForSome}

-- "those that do not": reachable from the start, and not reaching it
abbrev pub Outside : Waits → ℕ → ℕ → Type 0
Outside w s p = Reaches w s p × (Reaches w p s → ⊥)

-- 02, N3: "reachable processes that wait for nobody"
abbrev pub Sink : Waits → ℕ → ℕ → Type 0
Sink w s p = Reaches w s p × (WaitsForSome w p → ⊥)

pub record EndedInWords (t : Fields) (s ed : ℕ) (r : Run) : Type 0 where
  -- "the number of arcs whose from is reachable from the start", and "the number whose to reaches it"
  pub onward : ℕ
  pub onward_is : HowMany (λ k. Reaches (waits_of t) s (arc_at t k).from) (m_of t) onward
  pub back : ℕ
  pub back_is : HowMany (λ k. Reaches (waits_of t) (arc_at t k).to s) (m_of t) back
  -- "D is twice the number of arcs whose from is reachable from the start plus twice the number whose to reaches it"
  pub count : r.count ≡ 2 * onward + 2 * back
  -- "as outside the number of those that do not"
  pub outside : ℕ
  pub outside_is : HowMany (Outside (waits_of t) s) (n_of t) outside
  -- 02, N1: as escape the lowest-numbered of those, "and 0 only where there is none"
  pub escape : ℕ
  pub escape_is : Lowest (Outside (waits_of t) s) (n_of t) escape
  -- "a report gives D, knot exactly if all processes reachable from the start reach it, as outside .."
  pub verdict : Verdict
  pub mark : Mark
  pub reports : report r ≡ Ok (record { deliveries = 2 * onward + 2 * back; verdict = verdict; outside = pos outside; escape = escape; mark = mark })
  -- 02, N4: under the second edition "in addition, at least one process must be reachable by one arc or more"
  pub knot : (verdict ≡ Knot) ↔ (((p : ℕ) → Reaches (waits_of t) s p → Reaches (waits_of t) p s) × (ed ≡ 2 → SomeByArcs (waits_of t) s))
  -- 02, N3: "returned exactly if every process reachable from the start, itself included, waits for somebody"
  pub returned : (mark ≡ Returned) ↔ ((p : ℕ) → Reaches (waits_of t) s p → WaitsForSome (waits_of t) p)
  -- 02, N3: "the start .. has the number of such processes"
  pub sinks : ℕ
  pub sinks_is : HowMany (Sink (waits_of t) s) (n_of t) sinks
  pub start_second : (r.process s).second ≡ pos sinks
  -- "succeeding 1 exactly if it is reachable from the start, preceding 1 exactly if it reaches it, subordinate 1 exactly if the first holds
  -- and not the second"
  pub succeeding : (p : ℕ) → IsProcess (n_of t) p → ((r.process p).succeeding ≡ 1) ↔ Reaches (waits_of t) s p
  pub preceding : (p : ℕ) → IsProcess (n_of t) p → ((r.process p).preceding ≡ 1) ↔ Reaches (waits_of t) p s
  pub subordinate : (p : ℕ) → IsProcess (n_of t) p → ((r.process p).subordinate ≡ 1) ↔ Outside (waits_of t) s p
