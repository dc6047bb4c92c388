-- The step of one process, in the words and order of 01, "Steps (002, section 3.3)", with the second sums of 02, N3.
--   most_count, most_num  == "cs (−128 to 128), num (0 to 256)": the largest of each
--   inRange x           == "succeeding, preceding, subordinate (0 or 1 each), cs (−128 to 128), num (0 to 256)", second in cs's range
--   small z, both_small c   == "The count may be negative (−128 to 128)": z is in that range; both counts are
--   no_counts, sums_of x  == no count and no second count; both sums of a process
--   own_count o          == 1 for a process with o successors that waits for nobody, else 0 (02, N3)
--   idle                == "All values 0"
--   Turn                == what a step leaves: the record, the probes it broadcasts, the acknowledgement it sends
--   acknowledgement p c == the acknowledgement to p with counts c, as what is sent
--   probe_of c, probes_of c   == the probe that goes along a chain, suc to successors and pre to predecessors, and the broadcast of it
--   chain_of y          == the chain along which the broadcast y goes, if it goes along one
--   rule1, set_succeeding, set_preceding, rule3, rule4   == the four rules of "Another process i receives a probe from p"
--   turn m o i p x      == the step of a process other than the start, with o successors and i predecessors, on message m from p
--   start_turn m p x     == the step of the start process
--   fitting m x t       == the step takes no value out of its range and acknowledges to no father 0 (22 is met if not)
--   step_number, stepped == "One process's step checks 21, 25, 22": the number (0 if taken), and the answer
--   start_stepped m p x  == the same for the start's step, which only 22 can refuse
-- Assumes nothing.
use Rattle.std.specs.Prelude.{ℕ, ◌+◌, ◌-◌, Bool, true, not, ◌&&◌, ◌||◌, eqb, leb, ltb, ℤ, pos, ◌+ℤ◌, ◌-ℤ◌, nat_abs, Option, Some, None, Result}
use Rattle.base.specs.Choice.{choose, bit}
use Rattle.tables.specs.Table.{most_processes}
use Rattle.tables.specs.declared.{Chain.Chain, Chain.TheVariants.Out, Chain.TheVariants.In}
use Rattle.steps.specs.declared.{Message.Message, Message.TheVariants.Suc, Message.TheVariants.Pre, Message.TheVariants.Ack, Process.Process}
use Rattle.steps.specs.declared.TwoCounts.{TwoCounts}
use Rattle.steps.specs.declared.{Probes.Probes, Probes.TheVariants.Sucs, Probes.TheVariants.Pres, Reply.Reply}
use Rattle.refusals.specs.declared.Refusal.{Refusal}
use Rattle.refusals.specs.Numbers.{answered}

-- "cs (−128 to 128), num (0 to 256)"
abbrev pub most_count : ℕ
most_count = 128

abbrev pub most_num : ℕ
most_num = 256

-- "The count may be negative (−128 to 128)": the range of counts and of cs
unfoldable pub small : ℤ → Bool
small z = leb (nat_abs z) most_count

-- 02, N3: "it and the second count have cs's range"
unfoldable pub both_small : TwoCounts → Bool
both_small c = small c.count && small c.second

-- "succeeding, preceding, subordinate (0 or 1 each), cs (−128 to 128), num (0 to 256)", and the second sum in cs's range
unfoldable pub in_range : Process → Bool
in_range x =
    leb x.succeeding 1 && leb x.preceding 1 && leb x.subordinate 1 && small x.cs && leb x.num most_num && small x.second

-- "an acknowledgement with its count", and with its second count: a probe has none to be out of range
unfoldable pub count_small : Message → Bool
count_small Suc = true
count_small Pre = true
count_small (Ack c) = both_small c

-- "All values 0"
abbrev pub idle : Process
idle = record { succeeding = 0; preceding = 0; subordinate = 0; cs = pos 0; num = 0; father = 0; second = pos 0 }

-- a record with one value replaced
abbrev pub with_succeeding : ℕ → Process → Process
with_succeeding v x = record x { succeeding = v }

abbrev pub with_preceding : ℕ → Process → Process
with_preceding v x = record x { preceding = v }

abbrev pub with_subordinate : ℕ → Process → Process
with_subordinate v x = record x { subordinate = v }

abbrev pub with_cs : ℤ → Process → Process
with_cs v x = record x { cs = v }

abbrev pub with_num : ℕ → Process → Process
with_num v x = record x { num = v }

abbrev pub with_father : ℕ → Process → Process
with_father v x = record x { father = v }

abbrev pub with_second : ℤ → Process → Process
with_second v x = record x { second = v }

-- 02, N3: "The second sum is passed on and zeroed with cs": both sums of a process, and both replaced
abbrev pub sums_of : Process → TwoCounts
sums_of x = record { count = x.cs; second = x.second }

abbrev pub with_sums : TwoCounts → Process → Process
with_sums c x = with_second c.second (with_cs c.count x)

abbrev pub no_counts : TwoCounts
no_counts = record { count = pos 0; second = pos 0 }

-- 02, N3: "Such a process", one that waits for nobody, "adds 1"
unfoldable pub own_count : ℕ → ℕ
own_count o = bit (eqb o 0)

-- what a step leaves
abbrev pub Turn : Type 0
Turn = Rattle.steps.specs.declared.Turn.Turn

-- the acknowledgement to p with counts c, as what is sent
abbrev pub acknowledgement : ℕ → TwoCounts → Option Reply
acknowledgement p c = Some (record { to = p; counts = c })

-- "sends suc to all successors", along the out-chain; "the same with preceding and predecessors", along the in-chain
abbrev pub probe_of : Chain → Message
probe_of Out = Suc
probe_of In = Pre

abbrev pub probes_of : Chain → Probes
probes_of Out = Sucs
probes_of In = Pres

abbrev pub chain_of : Probes → Option Chain
chain_of Probes.Nothing = None
chain_of Sucs = Some Out
chain_of Pres = Some In

-- "If num is 0, father becomes p. Otherwise it acknowledges to p with cs, and cs becomes 0.", the second sum with it
unfoldable pub rule1 : ℕ → Process → Turn
rule1 p x =
    choose (eqb x.num 0)
    (record { process = with_father p x; sent = record { probes = Probes.Nothing; reply = None } })
    (record { process = with_sums no_counts x; sent = record { probes = Probes.Nothing; reply = acknowledgement p (sums_of x) } })

-- "A suc probe when not succeeding sets it, sends suc to all successors and adds their number to num."; 02, N3: "Such a process adds 1 when
-- it first becomes succeeding"
unfoldable pub set_succeeding : ℕ → Turn → Turn
set_succeeding o t =
    let x : Process = t.process in
    choose (eqb x.succeeding 0)
    (record { process = with_second (x.second +ℤ pos (own_count o)) (with_num (x.num + o) (with_succeeding 1 x)); sent = record t.sent { probes = Sucs } })
    t

-- "A pre probe does the same with preceding and predecessors."
unfoldable pub set_preceding : ℕ → Turn → Turn
set_preceding i t =
    choose (eqb t.process.preceding 0)
    (record { process = with_num (t.process.num + i) (with_preceding 1 t.process); sent = record t.sent { probes = Pres } })
    t

-- "1 if succeeding and not preceding, else 0"
unfoldable pub new_subordinate : Process → ℕ
new_subordinate x = choose (eqb x.succeeding 1 && eqb x.preceding 0) 1 0

-- "cs gains new minus old": the sum of a process whose subordinate becomes v
unfoldable pub gained : ℕ → Process → ℤ
gained v x = x.cs +ℤ (pos v -ℤ pos x.subordinate)

-- "The new subordinate is 1 if succeeding and not preceding, else 0. cs gains new minus old."
unfoldable pub rule3 : Turn → Turn
rule3 t =
    let v : ℕ = new_subordinate t.process in
    record { process = with_subordinate v (with_cs (gained v t.process) t.process); sent = t.sent }

-- "If num is 0 it acknowledges to father with cs, and cs becomes 0.", the second sum with it
unfoldable pub rule4 : Turn → Turn
rule4 t =
    choose (eqb t.process.num 0)
    (record { process = with_sums no_counts t.process; sent = record t.sent { reply = acknowledgement t.process.father (sums_of t.process) } })
    t

-- both sums gain what an acknowledgement carries
abbrev pub gaining : TwoCounts → Process → TwoCounts
gaining c x = record { count = x.cs +ℤ c.count; second = x.second +ℤ c.second }

-- "cs gains c, num loses 1", and the second sum gains the second count
unfoldable pub acknowledged : TwoCounts → Process → Turn
acknowledged c x = record { process = with_num (x.num - 1) (with_sums (gaining c x) x); sent = record { probes = Probes.Nothing; reply = None } }

-- "Another process i receives a probe from p" (rules 1 to 4); "i receives acknowledgement c: cs gains c, num loses 1, then rule 4"
unfoldable pub turn : Message → ℕ → ℕ → ℕ → Process → Turn
turn Suc o i p x = rule4 (rule3 (set_succeeding o (rule1 p x)))
turn Pre o i p x = rule4 (rule3 (set_preceding i (rule1 p x)))
turn (Ack c) o i p x = rule4 (acknowledged c x)

-- "s receives a probe: it acknowledges with 0", and with second count 0; "s receives acknowledgement c: cs gains c, num loses 1"
unfoldable pub start_turn : Message → ℕ → Process → Turn
start_turn Suc p x = record { process = x; sent = record { probes = Probes.Nothing; reply = acknowledgement p no_counts } }
start_turn Pre p x = record { process = x; sent = record { probes = Probes.Nothing; reply = acknowledgement p no_counts } }
start_turn (Ack c) p x = acknowledged c x

-- "num loses 1" takes num out of its range if it is 0
unfoldable pub num_suffices : Message → Process → Bool
num_suffices Suc x = true
num_suffices Pre x = true
num_suffices (Ack c) x = leb 1 x.num

-- the counts sent are in range, and nobody acknowledges to father 0
unfoldable pub reply_fits : Option Reply → Bool
reply_fits None = true
reply_fits (Some r) = leb 1 r.to && both_small r.counts

-- 22, "the step would take a value out of its range, .. or acknowledge to father 0", is met if not
unfoldable pub fitting : Message → Process → Turn → Bool
fitting m x t = num_suffices m x && in_range t.process && reply_fits t.sent.reply

-- "record or count out of range, father over 128 or a degree over 128"
unfoldable pub lent_in_range : Message → ℕ → ℕ → Process → Bool
lent_in_range m o i x = in_range x && leb x.father most_processes && count_small m && leb o most_processes && leb i most_processes

-- "One process's step checks 21, 25, 22": the first that is met, or 0
unfoldable pub step_number : Message → ℕ → ℕ → ℕ → Process → ℕ
step_number m o i p x =
    choose (not (lent_in_range m o i x)) 21
    (choose (eqb p 0 || ltb most_processes p) 25
    (choose (not (fitting m x (turn m o i p x))) 22
    0))

-- one process's step by itself
unfoldable pub stepped : Message → ℕ → ℕ → ℕ → Process → Result Turn Refusal
stepped m o i p x = answered (step_number m o i p x) (turn m o i p x)

-- the start's step: it names no degrees, and refuses only by 22
unfoldable pub start_stepped : Message → ℕ → Process → Result Turn Refusal
start_stepped m p x = answered (choose (not (fitting m x (start_turn m p x))) 22 0) (start_turn m p x)
