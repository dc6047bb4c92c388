-- The knot check as a machine (crate machine): its records and messages are those of the crate steps (01, "Run and links" and "Steps").
--   Run                 == the state of a check
--   most_waiting, most_deliveries   == "at most 4 messages waiting" on a link; "accepted deliveries, 0 to 2048"
--   IsEdition ed, is_edition ed   == "the edition, 1 or 2" (02, N4), and the test of it
--   knot                == the knot check's rules: what it hands to the machine
--   father_right w p x   == "every father is 0 or a neighbour"
--   started w s         == the start's first record
--   turn_of, turn_at r a b m   == the receiver's step: b receives m from a
--   reply_receiver, probes_to, sent_to w b t q, leaving w b t   == what that step puts on the link from b to q, in order; and on every link
--   counts_small, link_right, over, well_formed, start_run, after, accepts   == the machine's own, by these rules
-- Assumes nothing.
use Rattle.std.specs.Prelude.{ℕ, ◌+◌, Bool, true, false, ◌&&◌, ◌||◌, List, [], ◌∷◌, ◌++◌, ◌⊎◌, ◌≡◌, eqb, pos, Option, Some, None}
use Rattle.base.specs.Choice.{choose}
use Rattle.tables.specs.Waits.{Waits, out_degree, in_degree, neighbours}
use Rattle.machine.specs.Machine.{Machine, Left, Rules}
use Rattle.machine.specs.Machine as Machines
use Rattle.steps.specs.declared.{Message.Message, Message.TheVariants.Suc, Message.TheVariants.Pre, Message.TheVariants.Ack, Process.Process}
use Rattle.steps.specs.declared.{Probes.Probes, Probes.TheVariants.Sucs, Probes.TheVariants.Pres, Reply.Reply}
use Rattle.steps.specs.Effect.{is_probe}
use Rattle.steps.specs.Step.{in_range, count_small, idle, own_count, Turn, turn, start_turn, fitting}

abbrev pub Run : Type 0
Run = Machine Process Message

-- "every father is 0 or a neighbour"
unfoldable pub father_right : Waits → ℕ → Process → Bool
father_right w p x = eqb x.father 0 || neighbours w p x.father

-- ---- start

abbrev pub one : Bool → Message → List Message
one true m = m ∷ []
one false m = []

-- "s gets succeeding and preceding .. num is the number sent"; 02, N3: "the start adds its own at once"
unfoldable pub started : Waits → ℕ → Process
started w s =
    record {
      succeeding = 1;
      preceding = 1;
      subordinate = 0;
      cs = pos 0;
      num = out_degree w s + in_degree w s;
      father = 0;
      second = pos (own_count (out_degree w s));
    }

-- ---- the receiver's step

-- the start's own, or that of any other process
unfoldable pub turn_of : Waits → ℕ → ℕ → ℕ → Message → Process → Turn
turn_of w s a b m x = choose (eqb b s) (start_turn m a x) (turn m (out_degree w b) (in_degree w b) a x)

-- an acknowledgement stands only on the link to the process it is for
unfoldable pub reply_receiver : Option Reply → ℕ → List Message
reply_receiver None q = []
reply_receiver (Some y) q = one (eqb q y.to) (Ack y.counts)

-- "sends suc to all successors"; "the same with preceding and predecessors"
unfoldable pub probes_to : Waits → ℕ → Probes → ℕ → List Message
probes_to w b Probes.Nothing q = []
probes_to w b Sucs q = one (w.waits b q) Suc
probes_to w b Pres q = one (w.waits q b) Pre

-- what a step of b puts on the link from b to q: the acknowledgement first
unfoldable pub sent_to : Waits → ℕ → Turn → ℕ → List Message
sent_to w b t q = reply_receiver t.sent.reply q ++ probes_to w b t.sent.probes q

-- what a step of b leaves: its record, and what it puts on each link
abbrev pub leaving : Waits → ℕ → Turn → Left Process Message
leaving w b t = record { process = t.process; sent = sent_to w b t }

-- ---- the rules

-- "at most 4 messages waiting"; "accepted deliveries, 0 to 2048"
abbrev pub most_waiting : ℕ
most_waiting = 4

abbrev pub most_deliveries : ℕ
most_deliveries = 2048

-- 02, N4: "Start takes the edition, 1 or 2"
abbrev pub IsEdition : ℕ → Type 0
IsEdition ed = (ed ≡ 1) ⊎ (ed ≡ 2)

unfoldable pub is_edition : ℕ → Bool
is_edition ed = eqb ed 1 || eqb ed 2

-- "s sends suc to each successor, then pre to each predecessor"
abbrev pub knot : Rules Process Message
knot =
    record {
      num = λ x. x.num;
      father = λ x. x.father;
      probe = is_probe;
      first = started;
      idle = idle;
      first_to = λ w s q. one (w.waits s q) Suc ++ one (w.waits q s) Pre;
      step = λ w s a b m x. leaving w b (turn_of w s a b m x);
      fits = λ w s a b m x. fitting m x (turn_of w s a b m x);
      edition_right = is_edition;
      record_right = λ w p x. in_range x && father_right w p x;
      message_right = count_small;
      room = λ r. true;
      capacity = most_waiting;
      most = most_deliveries;
    }

abbrev pub turn_at : Run → ℕ → ℕ → Message → Turn
turn_at r a b m = turn_of r.waits r.start a b m (r.process b)

abbrev pub counts_small : List Message → Bool
counts_small = Machines.all_right count_small

abbrev pub link_right : List Message → Bool
link_right = Machines.link_right knot

abbrev pub over : Run → Bool
over = Machines.over knot

abbrev pub well_formed : Run → Bool
well_formed = Machines.well_formed knot

abbrev pub start_run : Waits → ℕ → ℕ → Run
start_run = Machines.start_run knot

abbrev pub after : Run → ℕ → ℕ → Message → List Message → Run
after = Machines.after knot

abbrev pub accepts : Run → ℕ → ℕ → Message → List Message → Bool
accepts = Machines.accepts knot
