-- Laws of the calls' answers: a delivery's answer as the code gives it and as the machine does, the parts of a report, and what
-- comes first.
--   delivery_of_refused, delivery_of_delivered   == what an answer of the code says of the machine's
--   delivery_of_number, delivery_of_accepted     == the same number, and the same count of accepted picks
--   deliver_number, deliver_on_number, pick_number     == the same number, of every delivery that there is
--   deliver_refused, deliver_on_refused, pick_refused   == .. and a refusal of the code is the machine's
--   is_zero_yes, is_zero_no                      == the test of a sum
--   escape_of_P                                 == the lowest process with subordinate 1, or 0 and none has it
--   pick_21, run_on_21, run_shuffled_21, report_21, read_record_21   == 21 comes first
-- Assumes nothing.
use Rattle.std.specs.Prelude.{ℕ, List, zero, suc, true, false, ◌≡◌, refl, ℤ, pos, negsuc, Ok, Err}
use Rattle.std.proofs.Common.{ap, eqb-true, eq-eqb, arith}
use Rattle.base.specs.Sums.{Lowest}
use Rattle.base.specs.SumLaws.{lowest_to_P}
use Rattle.refusals.specs.declared.Refusal.{Refusal}
use Rattle.refusals.specs.Numbers.{numbered}
use Rattle.machine.specs.Calls.{Answer, given, refusal, halted, Selection}
use Rattle.machine.specs.Calls as Machines
use Rattle.machine.specs.Lists.{accepted_pick, answer_number}
use Rattle.steps.specs.declared.Message.{Message}
use Rattle.checks.specs.Run.{Run, knot, well_formed}
use Rattle.checks.specs.Calls.{refused, delivery_of, deliver, deliver_on, pick, run_on, run_shuffled, escape_of, is_zero, report, read_record, delivery_number, delivery_made}

pub delivery_of_refused : (x : Answer Message) {e : Refusal} → delivery_of x ≡ Err e → x ≡ refusal e
delivery_of_refused (refusal k) {e} h = let f : k ≡ e = cc in ap refusal f
delivery_of_refused (given m) h = let z : ◌≡◌ {A = ℕ} 0 1 = cc in absurd (omega arith)

pub delivery_of_delivered : (x : Answer Message) {m : Message} → delivery_of x ≡ Ok m → x ≡ given m
delivery_of_delivered (given k) {m} e = let f : k ≡ m = cc in ap given f
delivery_of_delivered (refusal n) e = let z : ◌≡◌ {A = ℕ} 0 1 = cc in absurd (omega arith)

pub delivery_of_number : (x : Answer Message) → delivery_number (delivery_of x) ≡ answer_number x
delivery_of_number (given m) = refl
delivery_of_number (refusal e) = refl

pub delivery_of_accepted : (x : Answer Message) → delivery_made (delivery_of x) ≡ accepted_pick x
delivery_of_accepted (given m) = refl
delivery_of_accepted (refusal e) = refl

-- the same of each delivery that there is
module _ (r : Run) where
  pub deliver_number :
      (a b k : ℕ) (ms : List Message) → delivery_number (deliver r a b k ms).answer ≡ answer_number (Machines.deliver knot r a b k ms).answer
  deliver_number a b k ms = delivery_of_number (Machines.deliver knot r a b k ms).answer

  pub deliver_on_number : (c : Selection) → delivery_number (deliver_on r c).answer ≡ answer_number (Machines.deliver_on knot r c).answer
  deliver_on_number c = delivery_of_number (Machines.deliver_on knot r c).answer

  pub pick_number : (a b k : ℕ) → delivery_number (pick r a b k).answer ≡ answer_number (Machines.pick knot r a b k).answer
  pick_number a b k = delivery_of_number (Machines.pick knot r a b k).answer

  module _ {e : Refusal} where
    pub deliver_refused : (a b k : ℕ) (ms : List Message) → (deliver r a b k ms).answer ≡ Err e → (Machines.deliver knot r a b k ms).answer ≡ refusal e
    deliver_refused a b k ms = delivery_of_refused (Machines.deliver knot r a b k ms).answer

    pub deliver_on_refused : (c : Selection) → (deliver_on r c).answer ≡ Err e → (Machines.deliver_on knot r c).answer ≡ refusal e
    deliver_on_refused c = delivery_of_refused (Machines.deliver_on knot r c).answer

    pub pick_refused : (a b k : ℕ) → (pick r a b k).answer ≡ Err e → (Machines.pick knot r a b k).answer ≡ refusal e
    pick_refused a b k = delivery_of_refused (Machines.pick knot r a b k).answer

-- "cs of s is 0"
pub is_zero_yes : (z : ℤ) → z ≡ pos 0 → is_zero z ≡ true
is_zero_yes z e = rw e

pub is_zero_no : (z : ℤ) → (z ≡ pos 0 → ⊥) → is_zero z ≡ false
is_zero_no (pos zero) h = absurd (h refl)
is_zero_no (pos (suc n)) h = refl
is_zero_no (negsuc n) h = refl

-- 02, N1, without a test: whom a report names
pub escape_of_P : (r : Run) → Lowest (λ p. (r.process p).subordinate ≡ 1) r.waits.n (escape_of r)
unfolding escape_of
escape_of_P r =
    lowest_to_P r.waits.n _ (λ p. (r.process p).subordinate ≡ 1)
    (λ p l u. (eqb-true (r.process p).subordinate 1, eq-eqb (r.process p).subordinate 1))

-- ---- 21 first: a run that is not well formed is refused before anything else is looked at, and left as it was

module _ (r : Run) (bad : well_formed r ≡ false) where
  pub pick_21 : (a b k : ℕ) → pick r a b k ≡ refused 21 r
  unfolding Machines.pick
  pick_21 a b k = rw bad

  pub run_on_21 : (k : ℕ) → run_on k r ≡ record { answer = halted 21 0; run = r }
  unfolding Machines.run_on
  run_on_21 k = rw bad

  pub run_shuffled_21 : (k seed : ℕ) → run_shuffled k seed r ≡ record { answer = halted 21 0; run = r }
  unfolding Machines.run_shuffled
  run_shuffled_21 k seed = rw bad

  pub report_21 : report r ≡ Err (numbered 21)
  unfolding report
  report_21 = rw bad

  pub read_record_21 : (p : ℕ) → read_record r p ≡ Err (numbered 21)
  unfolding read_record
  read_record_21 p = rw bad
