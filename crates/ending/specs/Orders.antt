-- What another fixed order changes (02, N11): "In knot-check runs made by start and deliveries, only `own` lines, fathers, spent runs and what
-- follows these until both runs are over can differ." The same list of calls after the same accepted start, once in the order of now and
-- once in the order that 01 had before.
--   senders_first       == the order before: "lowest sender first and then lowest receiver among links with a message" (01); for this law alone
--   left_in next cs r   == the run that the list cs leaves where running on goes in the order next
--   Told, tells        == the whole answer of a call
--   fatherless, aside  == a record, and an answer, fathers aside
--   AnswersAlike r q   == every next call answers alike, fathers aside: on r in the order of now, on q in the order before
--   ButForFathers r q  == the two runs are the same but for fathers
--   Parted cs r        == a running on that was spent with at least one delivery stands in the list; up to it the two runs are the same
--   Compared cs r      == what is said after every list: one of three
-- Assumes nothing.
use Rattle.std.specs.Prelude.{ℕ, ◌≤◌, true, false, ◌&&◌, List, ◌∷◌, ◌++◌, ◌≡◌, Result, Ok, Err}
use Rattle.refusals.specs.declared.Refusal.{Refusal}
use Rattle.tables.specs.Table.{IsProcess}
use Rattle.machine.specs.declared.Ran.{Ran}
use Rattle.machine.specs.declared.Ran.TheVariants.{Spent}
use Rattle.machine.specs.declared.Halted.{Halted}
use Rattle.machine.specs.Calls.{Selection, Chooser, in_row, link_at, link_if, fixed_order}
use Rattle.machine.specs.Calls as MachineCalls
use Rattle.machine.specs.Lists.{Call, picking, running_on, running_shuffled, reporting, reading, in_turn, passed_by}
use Rattle.steps.specs.declared.Message.{Message}
use Rattle.steps.specs.declared.Process.{Process}
use Rattle.checks.specs.declared.Report.{Report}
use Rattle.checks.specs.Run.{Run, knot, over}
use Rattle.checks.specs.Calls.{pick, report, read_record}
use Rattle.checks.specs.Lists.{asked}

abbrev pub Order : Type 0
Order = Chooser Process Message

-- 01, before 02's N11: "lowest sender first and then lowest receiver among links with a message"
unfoldable pub lowest_before : Run → Selection
lowest_before r = link_at 0 (in_row r.waits.n (λ a. in_row r.waits.n (λ b. link_if r a b)))

abbrev pub senders_first : Order
senders_first s r = (lowest_before r, s)

-- "each call gets the area as the last one left it"
abbrev pub left_in : Order → List Call → Run → Run
left_in next cs r = (in_turn (passed_by knot next asked) cs r).left

-- ---- answers

pub data Told : Type 0 where
  picked : Result Message Refusal → Told
  ran : Result Ran Halted → Told
  reported : Result Report Refusal → Told
  read : Result Process Refusal → Told

abbrev pub tells : Order → Call → Run → Told
tells next (picking a b k) r = picked (pick r a b k).answer
tells next (running_on k) r = ran (MachineCalls.run_on knot next k 0 r).answer
-- a seed's order is counted "in N11's order" (02, N13), whatever the fixed order was
tells next (running_shuffled k seed) r = ran (MachineCalls.run_shuffled knot k seed r).answer
tells next reporting r = reported (report r)
tells next (reading p) r = read (read_record r p)

abbrev pub fatherless : Process → Process
fatherless x = record x { father = 0 }

-- only the reading of a record tells a father
abbrev pub aside : Told → Told
aside (picked d) = picked d
aside (ran x) = ran x
aside (reported x) = reported x
aside (read (Ok x)) = read (Ok (fatherless x))
aside (read (Err e)) = read (Err e)

abbrev pub AnswersAlike : Run → Run → Type 0
AnswersAlike r q = (c : Call) → aside (tells fixed_order c r) ≡ aside (tells senders_first c q)

-- ---- runs

pub record ButForFathers (r q : Run) : Type 0 where
  pub waits : r.waits ≡ q.waits
  pub start : r.start ≡ q.start
  pub edition : r.edition ≡ q.edition
  pub count : r.count ≡ q.count
  pub records : (p : ℕ) → IsProcess r.waits.n p → fatherless (r.process p) ≡ fatherless (q.process p)
  pub links : (a b : ℕ) → IsProcess r.waits.n a → IsProcess r.waits.n b → r.link a b ≡ q.link a b

-- "spent runs and what follows these": before it nothing differs, and both say that all k deliveries were made
pub record Parted (cs : List Call) (r : Run) : Type 0 where
  pub front : List Call
  pub k : ℕ
  pub back : List Call
  pub stands : cs ≡ front ++ (running_on k ∷ back)
  pub same : left_in fixed_order front r ≡ left_in senders_first front r
  pub some : 1 ≤ k
  pub spent : tells fixed_order (running_on k) (left_in fixed_order front r) ≡ ran (Ok (Spent k))
  pub spent_before : tells senders_first (running_on k) (left_in senders_first front r) ≡ ran (Ok (Spent k))

-- after the list cs on the run r, in both orders; what the calls within a list answer is said of the lists that end before them
pub data Compared (cs : List Call) (r : Run) : Type 0 where
  -- the two runs are the same
  alike : left_in fixed_order cs r ≡ left_in senders_first cs r → AnswersAlike (left_in fixed_order cs r) (left_in senders_first cs r) → Compared cs r
  -- both are over and the same but for fathers
  over_alike : over (left_in fixed_order cs r) ≡ true → over (left_in senders_first cs r) ≡ true
      → ButForFathers (left_in fixed_order cs r) (left_in senders_first cs r) → AnswersAlike (left_in fixed_order cs r) (left_in senders_first cs r)
      → Compared cs r
  -- a running on that was spent with at least one delivery stands in the list, and not both are over
  parted : Parted cs r → (over (left_in fixed_order cs r) && over (left_in senders_first cs r)) ≡ false → Compared cs r
