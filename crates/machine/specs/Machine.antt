-- The state of a check and the delivery of one message (01, "Run and links" and "Steps"), over any type P of process records and any type
-- M of messages: what a check's own rules are is handed in.
--   Machine P M          == the waits, the start, the edition, the accepted deliveries, a record for each process, a link for each ordered pair
--   Left P M             == what a step leaves: the record, and for each process what is sent to it
--   Rules P M            == what a check hands in: its records, its messages, its step, and its ranges
--   over ρ r             == "It is over exactly while num of its start is 0."
--   all_right p ms, link_right ρ ms   == every message of a link is well formed; a link holds at most so many of them
--   well_formed ρ r       == every value in its range, the start 1 to N, every link at most so many messages, each well formed
--   start_run ρ w s ed    == "Start at s", under the edition ed (02, N4)
--   left_by ρ r a b m     == the receiver's step: b receives m from a
--   taken r a b rest     == the links once a message is off the link from a to b, where rest stays
--   after ρ r a b m rest == the run after the delivery of m from a to b, where rest stays on the link
--   accepts ρ r a b m rest   == the delivery meets no 22
-- Assumes nothing.
use Rattle.std.specs.Prelude.{ℕ, ◌+◌, Bool, true, ◌&&◌, ◌||◌, List, [], ◌∷◌, ◌++◌, eqb, leb, length}
use Rattle.base.specs.Choice.{choose}
use Rattle.base.specs.Sums.{all_to}
use Rattle.tables.specs.{Table.is_process, Waits.Waits, Waits.neighbours}

-- "A run also counts accepted deliveries"; a link holds its messages oldest first
pub record Machine (P M : Type 0) : Type 0 where
  pub waits : Waits
  pub start : ℕ
  -- "the edition named at start" (02, N4); 0 in a check whose start takes none
  pub edition : ℕ
  pub count : ℕ
  pub process : ℕ → P
  pub link : ℕ → ℕ → List M

pub record Left (P M : Type 0) : Type 0 where
  pub process : P
  pub sent : ℕ → List M

pub record Rules (P M : Type 0) : Type 0 where
  -- "num (0 to 256) and father (0 or a process)", in a record
  pub num : P → ℕ
  pub father : P → ℕ
  -- a message is a probe; every other is an acknowledgement
  pub probe : M → Bool
  -- "Start at s": the start's record, everybody else's, and what the start sends to each process
  pub first : Waits → ℕ → P
  pub idle : P
  pub first_to : Waits → ℕ → ℕ → List M
  -- the receiver's step, by waits, start, sender, receiver, message and record; and that it takes no value out of its range
  pub step : Waits → ℕ → ℕ → ℕ → M → P → Left P M
  pub fits : Waits → ℕ → ℕ → ℕ → M → P → Bool
  -- the editions that a start may name (02, N4)
  pub edition_right : ℕ → Bool
  -- the ranges of a record, by waits and process, and of a message
  pub record_right : Waits → ℕ → P → Bool
  pub message_right : M → Bool
  -- what is asked of the run as a whole
  pub room : Machine P M → Bool
  -- how many messages a link holds, and how many deliveries a run counts
  pub capacity : ℕ
  pub most : ℕ

module _ {M : Type 0} where
  -- every message of a list passes a test
  unfoldable pub all_right : (M → Bool) → List M → Bool
  all_right p [] = true
  all_right p (m ∷ ms) = p m && all_right p ms

module _ {P M : Type 0} where
  -- "A delivery first takes the .. message off the picked link"
  unfoldable pub taken : Machine P M → ℕ → ℕ → List M → ℕ → ℕ → List M
  taken r a b rest x y = choose (eqb x a && eqb y b) rest (r.link x y)

module _ {P M : Type 0} (ρ : Rules P M) where
  -- "It is over exactly while num of its start is 0."
  unfoldable pub over : Machine P M → Bool
  over r = eqb (ρ.num (r.process r.start)) 0

  -- ---- well formed

  -- "every link holds at most 4 messages of the three kinds with counts in range"
  unfoldable pub link_right : List M → Bool
  link_right ms = leb (length ms) ρ.capacity && all_right ρ.message_right ms

  -- 01's sentence, but for the copied table and the number of words, of which the area above takes care; "Each ordered pair of neighbours
  -- has one link", so between others nothing waits
  unfoldable pub well_formed : Machine P M → Bool
  well_formed r =
      ρ.room r && is_process r.waits.n r.start && ρ.edition_right r.edition && leb r.count ρ.most &&
      all_to r.waits.n (λ p. ρ.record_right r.waits p (r.process p)) &&
      all_to r.waits.n (λ a. all_to r.waits.n (λ b. (neighbours r.waits a b || eqb (length (r.link a b)) 0) && link_right (r.link a b)))

  -- ---- start

  -- "All values 0", but for the start's; the start has sent its probes
  unfoldable pub start_run : Waits → ℕ → ℕ → Machine P M
  start_run w s ed =
      record {
        waits = w;
        start = s;
        edition = ed;
        count = 0;
        process = λ p. choose (eqb p s) (ρ.first w s) ρ.idle;
        link = λ a b. choose (eqb a s) (ρ.first_to w s b) [];
      }

  -- ---- delivery

  -- the receiver's step
  abbrev pub left_by : Machine P M → ℕ → ℕ → M → Left P M
  left_by r a b m = ρ.step r.waits r.start a b m (r.process b)

  -- "A delivery first takes the .. message off the picked link and adds 1 to the accepted deliveries, then does the receiver's step."; which
  -- message, and what stays on its link, is the pick's to say (02, N5)
  unfoldable pub after : Machine P M → ℕ → ℕ → M → List M → Machine P M
  after r a b m rest =
      record {
        waits = r.waits;
        start = r.start;
        edition = r.edition;
        count = r.count + 1;
        process = λ p. choose (eqb p b) (left_by r a b m).process (r.process p);
        link = λ x y. choose (eqb x b) (taken r a b rest x y ++ (left_by r a b m).sent y) (taken r a b rest x y);
      }

  -- 22, "the step would take a value out of its range, put a fifth message on a link, or acknowledge to father 0", is met if not;
  -- only links from the receiver grow
  unfoldable pub accepts : Machine P M → ℕ → ℕ → M → List M → Bool
  accepts r a b m rest =
      ρ.room (after r a b m rest) && leb (r.count + 1) ρ.most && ρ.fits r.waits r.start a b m (r.process b) &&
      all_to r.waits.n (λ q. leb (length ((after r a b m rest).link b q)) ρ.capacity)
