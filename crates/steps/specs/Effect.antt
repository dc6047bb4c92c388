-- What a step does, in numbers: the one description that all laws above go by.
--   is_probe, is_suc, is_pre     == which kind a message is
--   counts_of m                == the count and the second count that a message carries, 0 and 0 for a probe
--   kind_sucs, kind_pres, sucs_of t, pres_of t   == 1 if a step broadcasts suc, 1 if it broadcasts pre
--   counts_replied y, receiver y, acks_to y q == the counts of a step's acknowledgement (0 and 0 if none), to whom it goes (0 if none), and 1 if
--                                 it is for q
--   heir_to root x q           == 1 if a process that is not the start (root) is busy (its num is above 0) and q is its father
--   both x                    == 1 if a process is succeeding and preceding
--   Known root m x            == what is known of the receiver x of a message m before its step (root: the receiver is the start)
--   Balanced ..               == one of the two sums: how far it and the count sent differ from the sum before and the count received
--   Effect root m o i a x t   == what the step t of x on message m from a does, with o successors and i predecessors
--   Named a x t               == whom the step t of any record x takes as father, and whom it acknowledges
--   RecordInRange x           == the parts of inRange, by name
--   out_needed, in_needed       == a degree if the step broadcasts along it, and else 0
-- Assumes nothing.
use Rattle.std.specs.Prelude.{ℕ, ◌+◌, ◌*◌, ◌≤◌, Bool, true, false, not, ◌≡◌, ◌⊎◌, eqb, ℤ, nat_abs, Option, Some, None}
use Rattle.base.specs.Choice.{choose, bit}
use Rattle.base.specs.Sums.{spot}
use Rattle.base.specs.Parts.{above, below}
use Rattle.machine.specs.Weights.{heir}
use Rattle.steps.specs.declared.Message.{Message}
use Rattle.steps.specs.declared.Message.TheVariants.{Suc, Pre, Ack}
use Rattle.steps.specs.declared.Process.{Process}
use Rattle.steps.specs.declared.Probes.{Probes}
use Rattle.steps.specs.declared.Probes.TheVariants.{Sucs, Pres}
use Rattle.steps.specs.declared.Reply.{Reply}
use Rattle.steps.specs.declared.TwoCounts.{TwoCounts}
use Rattle.steps.specs.Step.{most_count, most_num, sums_of, no_counts, own_count, Turn, acknowledgement, new_subordinate}

-- a suc probe or a pre probe; every other message is an acknowledgement
abbrev pub is_probe : Message → Bool
is_probe Suc = true
is_probe Pre = true
is_probe (Ack c) = false

abbrev pub is_suc : Message → ℕ
is_suc Suc = 1
is_suc Pre = 0
is_suc (Ack c) = 0

abbrev pub is_pre : Message → ℕ
is_pre Suc = 0
is_pre Pre = 1
is_pre (Ack c) = 0

abbrev pub counts_of : Message → TwoCounts
counts_of Suc = no_counts
counts_of Pre = no_counts
counts_of (Ack c) = c

abbrev pub kind_sucs : Probes → ℕ
kind_sucs Probes.Nothing = 0
kind_sucs Sucs = 1
kind_sucs Pres = 0

abbrev pub kind_pres : Probes → ℕ
kind_pres Probes.Nothing = 0
kind_pres Sucs = 0
kind_pres Pres = 1

abbrev pub sucs_of : Turn → ℕ
sucs_of t = kind_sucs t.sent.probes

abbrev pub pres_of : Turn → ℕ
pres_of t = kind_pres t.sent.probes

abbrev pub counts_replied : Option Reply → TwoCounts
counts_replied None = no_counts
counts_replied (Some r) = r.counts

abbrev pub receiver : Option Reply → ℕ
receiver None = 0
receiver (Some r) = r.to

abbrev pub acks_to : Option Reply → ℕ → ℕ
acks_to None q = 0
acks_to (Some r) q = spot r.to 1 q

abbrev pub heir_to : Bool → Process → ℕ → ℕ
heir_to root x q = heir root x.num x.father q

abbrev pub both : Process → ℕ
both x = x.succeeding * x.preceding

pub record Known (root : Bool) (m : Message) (x : Process) : Type 0 where
  pub succ_bit : x.succeeding ≤ 1
  pub prec_bit : x.preceding ≤ 1
  pub sub_is : x.subordinate ≡ new_subordinate x
  pub root_succ : root ≡ true → x.succeeding ≡ 1
  pub root_prec : root ≡ true → x.preceding ≡ 1
  -- an acknowledgement reaches only a process that waits for one
  pub num_suffices_is : bit (not (is_probe m)) ≤ x.num

-- new + sent = old + received + worth' − worth, without minus; negative parts grow at most by what slack grows
pub record Balanced (old received new sent : ℤ) (worth worth' slack slack' : ℕ) : Type 0 where
  pub balance : above new + above sent + below old + below received + worth ≡ below new + below sent + above old + above received + worth'
  pub falls : below new + below sent + slack ≤ below old + below received + slack'

pub record Effect (root : Bool) (m : Message) (o i a : ℕ) (x : Process) (t : Turn) : Type 0 where
  -- the flags
  pub succeeding : t.process.succeeding ≡ x.succeeding + sucs_of t
  pub preceding : t.process.preceding ≡ x.preceding + pres_of t
  pub succ_bit : t.process.succeeding ≤ 1
  pub prec_bit : t.process.preceding ≤ 1
  pub suc_sets : is_suc m ≤ t.process.succeeding
  pub pre_sets : is_pre m ≤ t.process.preceding
  pub suc_alone : sucs_of t ≤ is_suc m
  pub pre_alone : pres_of t ≤ is_pre m
  pub sub_is : t.process.subordinate ≡ new_subordinate t.process
  -- num gains the probes sent and loses the acknowledgement received
  pub num : t.process.num + bit (not (is_probe m)) ≡ x.num + (sucs_of t * o + pres_of t * i)
  -- a probe from a becomes an acknowledgement to a, or makes a the father; a father is acknowledged when num falls to 0
  pub heir : (q : ℕ) → heir_to root t.process q + acks_to t.sent.reply q ≡ heir_to root x q + spot a (bit (is_probe m)) q
  -- cs gains new subordinate − old; negative parts grow only where a succeeding process becomes preceding too
  pub sums :
      Balanced x.cs (counts_of m).count t.process.cs (counts_replied t.sent.reply).count x.subordinate t.process.subordinate (both x)
      (both t.process)
  -- the second sum gains 1 where a process that waits for nobody becomes succeeding (02, N3); no negative part grows
  pub seconds :
      Balanced x.second (counts_of m).second t.process.second (counts_replied t.sent.reply).second (x.succeeding * own_count o)
      (t.process.succeeding * own_count o) 0 0
  pub at_rest : root ≡ false → t.process.num ≡ 0 → sums_of t.process ≡ no_counts
  -- the father changes only where num was 0
  pub father_root : root ≡ true → t.process.father ≡ x.father
  pub father_kept : 1 ≤ x.num → t.process.father ≡ x.father
  pub father_new : root ≡ false → x.num ≡ 0 → t.process.father ≡ a
  -- whom the step acknowledges
  pub replies : (p : ℕ) (c : TwoCounts) → t.sent.reply ≡ acknowledgement p c → (p ≡ a) ⊎ ((root ≡ false) × (1 ≤ x.num) × (p ≡ x.father))

pub record Named (a : ℕ) (x : Process) (t : Turn) : Type 0 where
  pub father : (t.process.father ≡ x.father) ⊎ (t.process.father ≡ a)
  pub reply : (q : ℕ) (c : TwoCounts) → t.sent.reply ≡ acknowledgement q c → (q ≡ a) ⊎ (q ≡ t.process.father)

-- "A suc probe when not succeeding .. sends suc to all successors"; "A pre probe does the same with preceding and predecessors"
abbrev pub out_needed : Message → Process → ℕ → ℕ
out_needed Suc x o = choose (eqb x.succeeding 0) o 0
out_needed Pre x o = 0
out_needed (Ack c) x o = 0

abbrev pub in_needed : Message → Process → ℕ → ℕ
in_needed Suc x i = 0
in_needed Pre x i = choose (eqb x.preceding 0) i 0
in_needed (Ack c) x i = 0

-- "succeeding, preceding, subordinate (0 or 1 each), cs (−128 to 128), num (0 to 256)", second in cs's range, part by part
pub record RecordInRange (x : Process) : Type 0 where
  pub succeeding : x.succeeding ≤ 1
  pub preceding : x.preceding ≤ 1
  pub subordinate : x.subordinate ≤ 1
  pub cs : nat_abs x.cs ≤ most_count
  pub num : x.num ≤ most_num
  pub second : nat_abs x.second ≤ most_count
