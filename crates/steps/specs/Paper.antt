-- The step of 002, section 3.3, by itself: 01's rules without the second sums of 02, N3. "Without them the steps stay 002's" is the law
-- turn_forgets (PaperLaws): all but the second numbers of a step (Step) is this step. The definitions stand here for that law alone.
--   PaperMessage, PaperProcess, PaperReply, PaperTurn   == messages, records, acknowledgements sent and what a step leaves, without second numbers
--   paper_rule1, paper_succeeding, paper_preceding, paper_rule3, paper_rule4, paper_acknowledged   == 01's rules
--   paper_turn, paper_start   == the step of a process other than the start, and of the start
--   plain_message, plain_process, plain_reply, plain_turn   == a message, a record, a reply and a turn without their second numbers
-- Assumes nothing.
use Rattle.std.specs.Prelude.{ℕ, ◌+◌, ◌-◌, ◌&&◌, eqb, ℤ, pos, ◌+ℤ◌, ◌-ℤ◌, Option, Some, None}
use Rattle.base.specs.Choice.{choose}
use Rattle.steps.specs.declared.Message.{Message}
use Rattle.steps.specs.declared.Message.TheVariants.{Suc, Pre, Ack}
use Rattle.steps.specs.declared.Process.{Process}
use Rattle.steps.specs.declared.Probes.{Probes}
use Rattle.steps.specs.declared.Probes.TheVariants.{Sucs, Pres}
use Rattle.steps.specs.declared.Reply.{Reply}
use Rattle.steps.specs.Step.{Turn}

-- "a suc probe, a pre probe or an acknowledgement with its count"
pub data PaperMessage : Type 0 where
  paper_suc : PaperMessage
  paper_pre : PaperMessage
  paper_ack : ℤ → PaperMessage

-- "succeeding, preceding, subordinate .., cs .., num .., father"
pub record PaperProcess : Type 0 where
  pub succeeding : ℕ
  pub preceding : ℕ
  pub subordinate : ℕ
  pub cs : ℤ
  pub num : ℕ
  pub father : ℕ

-- "the one acknowledgement to send, if there is one": to whom, with which count
pub data PaperReply : Type 0 where
  nobody : PaperReply
  to : ℕ → ℤ → PaperReply

pub record PaperTurn : Type 0 where
  pub process : PaperProcess
  pub probes : Probes
  pub reply : PaperReply

-- a record with its father, its sum, or its num and flags replaced
abbrev pub paper_father : ℕ → PaperProcess → PaperProcess
paper_father v x = record { succeeding = x.succeeding; preceding = x.preceding; subordinate = x.subordinate; cs = x.cs; num = x.num; father = v }

abbrev pub paper_cs : ℤ → PaperProcess → PaperProcess
paper_cs v x = record { succeeding = x.succeeding; preceding = x.preceding; subordinate = x.subordinate; cs = v; num = x.num; father = x.father }

abbrev pub paper_num : ℕ → PaperProcess → PaperProcess
paper_num v x = record { succeeding = x.succeeding; preceding = x.preceding; subordinate = x.subordinate; cs = x.cs; num = v; father = x.father }

abbrev pub paper_flags : ℕ → ℕ → ℕ → PaperProcess → PaperProcess
paper_flags s p u x = record { succeeding = s; preceding = p; subordinate = u; cs = x.cs; num = x.num; father = x.father }

-- "If num is 0, father becomes p. Otherwise it acknowledges to p with cs, and cs becomes 0."
unfoldable pub paper_rule1 : ℕ → PaperProcess → PaperTurn
paper_rule1 p x =
    choose (eqb x.num 0)
    (record { process = paper_father p x; probes = Probes.Nothing; reply = nobody })
    (record { process = paper_cs (pos 0) x; probes = Probes.Nothing; reply = to p x.cs })

-- "A suc probe when not succeeding sets it, sends suc to all successors and adds their number to num."
unfoldable pub paper_succeeding : ℕ → PaperTurn → PaperTurn
paper_succeeding o t =
    let x : PaperProcess = t.process in
    choose (eqb x.succeeding 0)
    (record { process = paper_num (x.num + o) (paper_flags 1 x.preceding x.subordinate x); probes = Sucs; reply = t.reply })
    t

-- "A pre probe does the same with preceding and predecessors."
unfoldable pub paper_preceding : ℕ → PaperTurn → PaperTurn
paper_preceding i t =
    let x : PaperProcess = t.process in
    choose (eqb x.preceding 0)
    (record { process = paper_num (x.num + i) (paper_flags x.succeeding 1 x.subordinate x); probes = Pres; reply = t.reply })
    t

-- "The new subordinate is 1 if succeeding and not preceding, else 0. cs gains new minus old."
unfoldable pub paper_rule3 : PaperTurn → PaperTurn
paper_rule3 t =
    let x : PaperProcess = t.process in
    let v : ℕ = choose (eqb x.succeeding 1 && eqb x.preceding 0) 1 0 in
    record {
      process = paper_flags x.succeeding x.preceding v (paper_cs (x.cs +ℤ (pos v -ℤ pos x.subordinate)) x);
      probes = t.probes;
      reply = t.reply;
    }

-- "If num is 0 it acknowledges to father with cs, and cs becomes 0."
unfoldable pub paper_rule4 : PaperTurn → PaperTurn
paper_rule4 t =
    choose (eqb t.process.num 0)
    (record { process = paper_cs (pos 0) t.process; probes = t.probes; reply = to t.process.father t.process.cs })
    t

-- "cs gains c, num loses 1"
unfoldable pub paper_acknowledged : ℤ → PaperProcess → PaperTurn
paper_acknowledged c x = record { process = paper_num (x.num - 1) (paper_cs (x.cs +ℤ c) x); probes = Probes.Nothing; reply = nobody }

-- "Another process i receives a probe from p" (rules 1 to 4); "i receives acknowledgement c: cs gains c, num loses 1, then rule 4"
unfoldable pub paper_turn : PaperMessage → ℕ → ℕ → ℕ → PaperProcess → PaperTurn
paper_turn paper_suc o i p x = paper_rule4 (paper_rule3 (paper_succeeding o (paper_rule1 p x)))
paper_turn paper_pre o i p x = paper_rule4 (paper_rule3 (paper_preceding i (paper_rule1 p x)))
paper_turn (paper_ack c) o i p x = paper_rule4 (paper_acknowledged c x)

-- "s receives a probe: it acknowledges with 0"; "s receives acknowledgement c: cs gains c, num loses 1"
unfoldable pub paper_start : PaperMessage → ℕ → PaperProcess → PaperTurn
paper_start paper_suc p x = record { process = x; probes = Probes.Nothing; reply = to p (pos 0) }
paper_start paper_pre p x = record { process = x; probes = Probes.Nothing; reply = to p (pos 0) }
paper_start (paper_ack c) p x = paper_acknowledged c x

-- ---- without the second numbers

abbrev pub plain_message : Message → PaperMessage
plain_message Suc = paper_suc
plain_message Pre = paper_pre
plain_message (Ack c) = paper_ack c.count

abbrev pub plain_process : Process → PaperProcess
plain_process x =
    record { succeeding = x.succeeding; preceding = x.preceding; subordinate = x.subordinate; cs = x.cs; num = x.num; father = x.father }

abbrev pub plain_reply : Option Reply → PaperReply
plain_reply None = nobody
plain_reply (Some r) = to r.to r.counts.count

abbrev pub plain_turn : Turn → PaperTurn
plain_turn t = record { process = plain_process t.process; probes = t.sent.probes; reply = plain_reply t.sent.reply }
