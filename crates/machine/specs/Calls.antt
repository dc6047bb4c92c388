-- What picks and running on do and answer (01, "Steps" and "Refused because of the state"; 02, N5, N11 and N13), for any check.
--   Answer M           == the message of a delivery, or its refusal
--   Picked, RanOn      == an answer and the run that the call leaves
--   Cut M              == a message of a link, and those that stay; or none
--   behind k ms, at_place k ms   == the message behind k others, and that at place k, "1 for the oldest message" (02, N5)
--   pick ρ r a b k     == a pick of place k checks 21, 25, 23, 24, 31, 22
--   Selection          == a link with a message, or nobody
--   Chooser P M        == an order of running on: from its own state and the run, the link whose oldest message goes, and its next state
--   halted n k         == the answer of a running on that the refusal with number n ended, after k deliveries
--   deliver_on, go_on, run_from, run_on   == "Running on checks 21 first, then over, then spent, then 24, 22.", over any chooser
--   in_row n c          == the lists c 1 to c n, one behind the other
--   link_at k l         == the link at place k of a list of links, "counted from 0"
--   link_if r a b       == the link from a to b, if a message waits on it
--   links_to r b, links_of r   == the links with a message to b, and all: "lowest receiver first and then lowest sender" (02, N11)
--   lowest r, fixed_order     == the first of them; that choice as a chooser, which needs no state
--   drawn s r, shuffled_order == "The state modulo the number of links with a message, .. picks the link" (02, N13); its chooser
--   run_shuffled k seed r     == running on with a seed checks 21, 37, then as running on
--   ran_number, ran_made == for each case of running on's answer 01's number, and the number made
-- Assumes nothing.
use Rattle.std.specs.Prelude.{ℕ, zero, suc, ◌%◌, Bool, true, false, not, List, [], ◌∷◌, ◌++◌, Result, Ok, Err}
use lib.{Dec.eqb, ListN.length}
use Rattle.base.specs.Choice.{choose}
use Rattle.shuffling.specs.Shuffle.{moved_on}
use Rattle.refusals.specs.declared.Refusal.{Refusal}
use Rattle.refusals.specs.Numbers.{number, numbered}
use Rattle.tables.specs.Waits.{neighbours}
use Rattle.machine.specs.declared.Ran.{Ran}
use Rattle.machine.specs.declared.Ran.TheVariants.{Spent}
use Rattle.machine.specs.declared.Halted.{Halted}
use Rattle.machine.specs.Machine.{Machine, Rules, over, well_formed, after, accepts}

-- ---- a pick

-- "It answers with that message.", or "A refusal returns its number"
pub data Answer (M : Type 0) : Type 0 where
  given : M → Answer M
  refusal : Refusal → Answer M

pub record Picked (P M : Type 0) : Type 0 where
  pub answer : Answer M
  pub run : Machine P M

module _ {P M : Type 0} where
  -- "A refusal returns its number .. and changes no lent byte or word"
  abbrev pub refused : ℕ → Machine P M → Picked P M
  refused n r = record { answer = refusal (numbered n); run = r }

-- a message of a link, and those that stay there, in their order; or no message
pub data Cut (M : Type 0) : Type 0 where
  nowhere : Cut M
  cut : M → List M → Cut M

module _ {M : Type 0} where
  -- one message more stands before it, and stays
  abbrev pub past : M → Cut M → Cut M
  past x nowhere = nowhere
  past x (cut m rest) = cut m (x ∷ rest)

  -- the message behind k others
  unfoldable pub behind : ℕ → List M → Cut M
  behind k [] = nowhere
  behind zero (m ∷ ms) = cut m ms
  behind (suc k) (m ∷ ms) = past m (behind k ms)

  -- 02, N5: "a place, 1 for the oldest message, and that message is taken out of the middle"; nothing is at place 0
  unfoldable pub at_place : ℕ → List M → Cut M
  at_place zero ms = nowhere
  at_place (suc k) ms = behind k ms

module _ {P M : Type 0} (ρ : Rules P M) where
  -- 31, "a place that is 0 or beyond the messages waiting" (02, N5), then 22, or the delivery
  unfoldable pub delivered : Machine P M → ℕ → ℕ → Cut M → Picked P M
  delivered r a b nowhere = refused 31 r
  delivered r a b (cut m rest) = choose (accepts ρ r a b m rest) (record { answer = given m; run = after ρ r a b m rest }) (refused 22 r)

  -- 24, "nothing waits on that link", then 31, 22
  unfoldable pub deliver : Machine P M → ℕ → ℕ → ℕ → List M → Picked P M
  deliver r a b k [] = refused 24 r
  deliver r a b k (m ∷ ms) = delivered r a b (at_place k (m ∷ ms))

  -- a pick checks 21, 25, 23, 24, 31, 22: 01's order, and 31 "after 24" (02, N5)
  unfoldable pub pick : Machine P M → ℕ → ℕ → ℕ → Picked P M
  pick r a b k =
      choose (not (well_formed ρ r)) (refused 21 r)
      (choose (not (neighbours r.waits a b)) (refused 25 r)
      (choose (over ρ r) (refused 23 r)
      (deliver r a b k (r.link a b))))

-- ---- running on

-- a link with a message: its sender and receiver
pub data Selection : Type 0 where
  nobody : Selection
  pair : ℕ → ℕ → Selection

-- an order: the link whose oldest message goes next, and the chooser's next state
abbrev pub Chooser : Type 0 → Type 0 → Type 0
Chooser P M = ℕ → Machine P M → Selection × ℕ

pub record RanOn (P M : Type 0) : Type 0 where
  pub answer : Result Ran Halted
  pub run : Machine P M

-- the answer of a running on that a refusal ends, by its number
abbrev pub halted : ℕ → ℕ → Result Ran Halted
halted n made = Err (record { refusal = numbered n; made = made })

module _ {P M : Type 0} where
  -- refused before its first delivery
  abbrev pub not_run : ℕ → Machine P M → RanOn P M
  not_run n r = record { answer = halted n 0; run = r }

  -- a refusal ends it and "keeps its deliveries and gives their number"; after a delivery it goes on
  abbrev pub go_on : ℕ → Picked P M → (Machine P M → RanOn P M) → RanOn P M
  go_on made p rest = elim p.answer [ refusal e ↦ record { answer = Err (record { refusal = e; made = made }); run = p.run } | given m ↦ rest p.run ]

module _ {P M : Type 0} (ρ : Rules P M) where
  -- the delivery of the oldest message on the chosen link: 24 where there is none
  unfoldable pub deliver_on : Machine P M → Selection → Picked P M
  deliver_on r nobody = refused 24 r
  deliver_on r (pair a b) = deliver ρ r a b 1 (r.link a b)

  -- over, then spent, then 24, 22, with so many deliveries made before
  unfoldable pub run_from : Chooser P M → ℕ → ℕ → ℕ → Machine P M → RanOn P M
  run_from next zero made s r =
      choose (over ρ r) (record { answer = Ok (Ran.Over made); run = r }) (record { answer = Ok (Spent made); run = r })
  run_from next (suc k) made s r =
      elim (over ρ r) [
        | true ↦ record { answer = Ok (Ran.Over made); run = r }
        | false ↦ go_on made (deliver_on r (next s r).0) (λ q. run_from next k (suc made) (next s r).1 q)
      ]

  -- "Running on makes up to k deliveries", from the chooser's first state on
  unfoldable pub run_on : Chooser P M → ℕ → ℕ → Machine P M → RanOn P M
  run_on next k s r = choose (not (well_formed ρ r)) (not_run 21 r) (run_from next k 0 s r)

-- ---- the orders: by the list of all links with a message

module _ {M : Type 0} where
  abbrev pub waiting : List M → Bool
  waiting [] = false
  waiting (m ∷ ms) = true

module _ {A : Type 0} where
  -- the lists c 1 to c n, one behind the other
  unfoldable pub in_row : ℕ → (ℕ → List A) → List A
  in_row zero c = []
  in_row (suc n) c = in_row n c ++ c (suc n)

-- the link at place k of a list of links, "counted from 0" (02, N13); nobody past its end
unfoldable pub link_at : ℕ → List (ℕ × ℕ) → Selection
link_at k [] = nobody
link_at zero (x ∷ l) = pair x.0 x.1
link_at (suc k) (x ∷ l) = link_at k l

module _ {P M : Type 0} where
  -- the link from a to b, if a message waits on it
  unfoldable pub link_if : Machine P M → ℕ → ℕ → List (ℕ × ℕ)
  link_if r a b = choose (waiting (r.link a b)) ((a, b) ∷ []) []

  -- the links to b with a message, by their senders
  unfoldable pub links_to : Machine P M → ℕ → List (ℕ × ℕ)
  links_to r b = in_row r.waits.n (λ a. link_if r a b)

  -- all links with a message, "lowest receiver first and then lowest sender" (02, N11)
  unfoldable pub links_of : Machine P M → List (ℕ × ℕ)
  links_of r = in_row r.waits.n (λ b. links_to r b)

  -- 02, N11, in the place of 01's order: "The fixed order becomes lowest receiver first and then lowest sender."
  unfoldable pub lowest : Machine P M → Selection
  lowest r = link_at 0 (links_of r)

  abbrev pub fixed_order : Chooser P M
  fixed_order s r = (lowest r, s)

  -- 02, N13: "The state modulo the number of links with a message, counted from 0 in N11's order, picks the link"
  unfoldable pub drawn : ℕ → Machine P M → Selection
  drawn s r = link_at (s % length (links_of r)) (links_of r)

  -- 02, N13: "before each delivery the state is xored with itself shifted ..", and picks
  abbrev pub shuffled_order : Chooser P M
  shuffled_order s r = (drawn (moved_on s) r, moved_on s)

-- ---- running on with a seed

module _ {P M : Type 0} (ρ : Rules P M) where
  -- 02, N13: "Running on may take a 32-bit seed"; "It refuses seed 0 with 37, after 21."
  unfoldable pub run_shuffled : ℕ → ℕ → Machine P M → RanOn P M
  run_shuffled k seed r =
      choose (not (well_formed ρ r)) (not_run 21 r)
      (choose (eqb seed 0) (not_run 37 r)
      (run_from ρ shuffled_order k 0 seed r))

-- ---- 01's number for each case of the answer, 0 where nothing is refused

abbrev pub ran_number : Result Ran Halted → ℕ
ran_number (Ok x) = 0
ran_number (Err h) = number h.refusal

-- "with the number made"
abbrev pub ran_made : Result Ran Halted → ℕ
ran_made (Ok (Ran.Over made)) = made
ran_made (Ok (Spent made)) = made
ran_made (Err h) = h.made
