-- What picks, running on and lists of calls come to: accepted deliveries, one after another.
--   Made ρ r k q        == q came from r by k accepted deliveries
--   Stopped ρ r n       == n is what a delivery on some link of r answers: 0, 24, 31, or 22 if r holds a message that is not accepted
--   Answered n          == n is a number that a call on a run made by start and deliveries may answer
--   Finds next          == a chooser names processes alone
--   Chooses next        == .. and a link with a message, if there is one
--   AnswerListed x      == the answer x is a message, or its number is that of a refusal
--   PickMade, RunMade, PassMade   == what a pick, running on, and a list of calls come to
--   Sure ρ asked I      == an invariant that makes every run well formed and every waiting message acceptable, and that deliveries keep
-- Assumes nothing.
use Rattle.std.specs.Prelude.{ℕ, suc, ◌+◌, false, true, ◌≡◌}
use mathlib.Core.List.{List, [], Memᴰ}
use Rattle.refusals.specs.Numbers.{number}
use Rattle.refusals.specs.NumberLaws.{Listed}
use Rattle.tables.specs.Table.{IsProcess}
use Rattle.tables.specs.Sound.{Sound}
use Rattle.machine.specs.Machine.{Machine, Rules, well_formed, after, accepts}
use Rattle.machine.specs.Calls.{Answer, given, refusal, Picked, Chooser, nobody, pair, waiting, RanOn, ran_number, ran_made}
use Rattle.machine.specs.Lists.{Passed, Reads, accepted_pick, answer_number}
use Rattle.machine.specs.Among.{Among}

pub data Made {P M : Type 0} (ρ : Rules P M) (r : Machine P M) : ℕ → Machine P M → Type 0 where
  none : Made ρ r 0 r
  more : {k : ℕ} {q : Machine P M} → Made ρ r k q → (a b : ℕ) → IsProcess q.waits.n a → IsProcess q.waits.n b →
      (m : M) (rest : List M) → Among m rest (q.link a b) → accepts ρ q a b m rest ≡ true → Made ρ r (suc k) (after ρ q a b m rest)

pub data Stopped {P M : Type 0} (ρ : Rules P M) (r : Machine P M) : ℕ → Type 0 where
  went : Stopped ρ r 0
  nothing : Stopped ρ r 24
  no_place : Stopped ρ r 31
  full : (a b : ℕ) → IsProcess r.waits.n a → IsProcess r.waits.n b →
      (m : M) (rest : List M) → Among m rest (r.link a b) → accepts ρ r a b m rest ≡ false → Stopped ρ r 22

-- "Refused because of the state", but for 21 and 22, which no run made by start and deliveries meets; 31 (02, N5) and 37 (02, N13)
pub data Answered : ℕ → Type 0 where
  none_refused : Answered 0
  was_over : Answered 23
  none_waits : Answered 24
  no_link : Answered 25
  not_over : Answered 26
  beyond : Answered 31
  no_seed : Answered 37

-- a chooser names processes alone
abbrev pub Finds : {P M : Type 0} → Chooser P M → Type 0
Finds {P} {M} next = (s : ℕ) (r : Machine P M) (a b : ℕ) → (next s r).0 ≡ pair a b → IsProcess r.waits.n a × IsProcess r.waits.n b

-- a chooser names a link with a message, of two processes, and nobody only where nothing waits
pub record Chooses {P M : Type 0} (next : Chooser P M) : Type 0 where
  pub finds : Finds next
  pub waits : (s : ℕ) (r : Machine P M) (a b : ℕ) → (next s r).0 ≡ pair a b → waiting (r.link a b) ≡ true
  pub nothing : (s : ℕ) (r : Machine P M) → (next s r).0 ≡ nobody → (a b : ℕ) → IsProcess r.waits.n a → IsProcess r.waits.n b → r.link a b ≡ []

-- an answer's number, where it has one, is that of a refusal
abbrev pub AnswerListed : {M : Type 0} → Answer M → Type 0
AnswerListed (given m) = Unit {0}
AnswerListed (refusal e) = Listed (number e)

-- what a delivery on a link of r answers, and the run that it leaves
pub record PickMade {P M : Type 0} (ρ : Rules P M) (r : Machine P M) (p : Picked P M) : Type 0 where
  pub made : Made ρ r (accepted_pick p.answer) p.run
  pub stopped : Stopped ρ r (answer_number p.answer)

pub record RunMade {P M : Type 0} (ρ : Rules P M) (r : Machine P M) (before : ℕ) (p : RanOn P M) : Type 0 where
  pub k : ℕ
  pub all : ran_made p.answer ≡ before + k
  pub made : Made ρ r k p.run
  pub stopped : Stopped ρ p.run (ran_number p.answer)

-- an invariant under which no call answers 21 or 22
pub record Sure {P M : Type 0} (ρ : Rules P M) (asked : Reads P M) (I : Machine P M → Type 0) : Type 0 where
  pub sound : (r : Machine P M) → I r → Sound r.waits
  pub formed : (r : Machine P M) → I r → well_formed ρ r ≡ true
  pub accepted : (r : Machine P M) → I r → (a b : ℕ) → IsProcess r.waits.n a → IsProcess r.waits.n b → (m : M) (rest : List M)
      → Among m rest (r.link a b) → accepts ρ r a b m rest ≡ true
  pub kept : (r : Machine P M) → I r → (a b : ℕ) → IsProcess r.waits.n a → IsProcess r.waits.n b → (m : M) (rest : List M)
      → Among m rest (r.link a b) → accepts ρ r a b m rest ≡ true → I (after ρ r a b m rest)
  pub reports : (r : Machine P M) → I r → Answered (asked.report r)
  pub readings : (r : Machine P M) → I r → (p : ℕ) → Answered (asked.reading r p)

pub record PassMade {P M : Type 0} (ρ : Rules P M) (r : Machine P M) (p : Passed (Machine P M)) : Type 0 where
  pub made : Made ρ r p.made p.left
  pub answered : (n : ℕ) → Memᴰ n p.numbers → Answered n
