-- What an answer says of a choice and of the delivery on it.
--   chosen_of_nobody, chosen_of_link                 == which choice an answer stands for
--   deliver_on_nobody, deliver_on_pair               == the delivery where no link is chosen, and where one is
--   chosenAnswer-refused, chosenAnswer-delivered   == which delivery an answer stands for
-- Assumes nothing.
use Rattle.std.specs.Prelude.{ℕ, ◌≡◌, refl, Some, None, Result, Ok, Err}
use Rattle.machine.specs.Calls as MachineCalls
use Rattle.refusals.specs.declared.Refusal.{Refusal}
use Rattle.steps.specs.declared.Message.{Message}
use Rattle.checks.specs.Run.{Run}
use Rattle.checks.specs.Calls.{refused, deliver, deliver_on}
use Rattle.machine.specs.Calls.{Selection, nobody, pair}
use Rattle.std.proofs.Common.{ap}
use Rattle.choosing.specs.declared.Link.{Link}
use Rattle.choosing.specs.declared.ChosenDelivery.{ChosenDelivery}
use Rattle.choosing.specs.Answers.{chosen_of, chosen_answer}

-- ---- the choice

pub chosen_of_nobody : (c : Selection) → chosen_of c ≡ None → c ≡ nobody
chosen_of_nobody nobody e = refl
chosen_of_nobody (pair a b) e = cc

pub chosen_of_link : (c : Selection) (a b : ℕ) → chosen_of c ≡ Some (record { from = a; to = b }) → c ≡ pair a b
chosen_of_link nobody a b e = cc
chosen_of_link (pair x y) a b e =
    let f : ◌≡◌ {A = Link} (record { from = x; to = y }) (record { from = a; to = b }) = cc in
    ap (λ (l : Link). pair l.from l.to) f

-- ---- the delivery

module _ (r : Run) {c : Selection} where
  pub deliver_on_nobody : c ≡ nobody → deliver_on r c ≡ refused 24 r
  unfolding MachineCalls.deliver_on
  deliver_on_nobody e = rw e

  pub deliver_on_pair : (a b : ℕ) → c ≡ pair a b → deliver_on r c ≡ deliver r a b 1 (r.link a b)
  unfolding MachineCalls.deliver_on
  deliver_on_pair a b e = rw e

-- ---- the answer

answer_refused : (a b : ℕ) {e : Refusal} (d : Result Message Refusal) → chosen_answer (pair a b) d ≡ Err e → d ≡ Err e
answer_refused a b (Ok m) q = cc
answer_refused a b (Err e) q = cc

module _ (a b : ℕ) (m : Message) where
  answer_delivered : (x y : ℕ) (d : Result Message Refusal) → chosen_answer (pair x y) d ≡ Ok (record { from = a; to = b; message = m })
      → (pair x y ≡ pair a b) × (d ≡ Ok m)
  answer_delivered x y (Ok n) e =
      let f : ◌≡◌ {A = ChosenDelivery} (record { from = x; to = y; message = n }) (record { from = a; to = b; message = m }) = cc in
      (ap (λ (d : ChosenDelivery). pair d.from d.to) f, ap (λ (d : ChosenDelivery). Ok d.message) f)
  answer_delivered x y (Err q) e = (cc, cc)

module _ (r : Run) where
  pub chosenAnswer-refused : (c : Selection) {e : Refusal} → chosen_answer c (deliver_on r c).answer ≡ Err e → (deliver_on r c).answer ≡ Err e
  unfolding MachineCalls.deliver_on
  chosenAnswer-refused nobody q = cc
  chosenAnswer-refused (pair a b) q = answer_refused a b (deliver r a b 1 (r.link a b)).answer q

  module _ (a b : ℕ) (m : Message) where
    pub chosenAnswer-delivered
        : (c : Selection)
        → chosen_answer c (deliver_on r c).answer ≡ Ok (record { from = a; to = b; message = m })
        → (c ≡ pair a b) × ((deliver_on r c).answer ≡ Ok m)
    unfolding MachineCalls.deliver_on
    chosenAnswer-delivered nobody e = (cc, cc)
    chosenAnswer-delivered (pair x y) e = answer_delivered a b m x y (deliver r x y 1 (r.link x y)).answer e
