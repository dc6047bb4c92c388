-- The numbers by which a delivery is refused are those of refusals, on any run: an answer holds the refusal itself.
--   answer_listed    == .. of any answer
--   deliver_listed, deliver_on_listed, pick_listed   == .. of a delivery, one on a chosen link, and a pick
-- Assumes nothing.
use Rattle.std.specs.Prelude.{ℕ, List, refl}
use Rattle.machine.specs.Machine.{Machine, Rules}
use Rattle.machine.specs.Calls.{Answer, given, refusal, deliver, pick, Selection, deliver_on}
use Rattle.machine.specs.Made.{AnswerListed}

pub answer_listed : {M : Type 0} (x : Answer M) → AnswerListed x
answer_listed (given m) = tt
answer_listed (refusal e) = record { refusal = e; is = refl }

module _ {P M : Type 0} (ρ : Rules P M) (r : Machine P M) where
  pub deliver_listed : (a b k : ℕ) (ms : List M) → AnswerListed (deliver ρ r a b k ms).answer
  deliver_listed a b k ms = answer_listed (deliver ρ r a b k ms).answer

  pub deliver_on_listed : (c : Selection) → AnswerListed (deliver_on ρ r c).answer
  deliver_on_listed c = answer_listed (deliver_on ρ r c).answer

  pub pick_listed : (a b k : ℕ) → AnswerListed (pick ρ r a b k).answer
  pick_listed a b k = answer_listed (pick ρ r a b k).answer
