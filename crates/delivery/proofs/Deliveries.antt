-- A delivery in code: what each call asks, and that each answer is the one that the promise names.
--   Answer w a b i d      == d is a delivery from a to b, of the message at place i, before anything is changed
--   none_there, message_small, message_prepared   == the answer by what waits there
--   Arriving w s a b x, arriving   == what is known where x is delivered from a to b
--   step_asks, room_asks   == what the step and the test of room ask
--   step_refused, count_full, links_full, prepared   == the answer at each return
--   refusal_kept, delivery_leaves   == the area that a delivery from a to b leaves: where it is refused, and where it is carried out
--   told_number, told_message   == what is told, by its refusal or its message alone
-- Assumes nothing.
use Rattle.std.proofs.Common.{ℕ, ◌≤◌, ◌<◌, Bool, true, false, not, List, ◌≡◌, sym, ap, ◌∙◌, subst, arith, ℤ, Result, Ok, Err, Some}
use Rattle.base.specs.Sums.{all_to}
use Rattle.base.specs.ChoiceLaws.{value_not, value_yes}
use Rattle.refusals.specs.declared.Refusal.{Refusal}
use Rattle.refusals.specs.Numbers.{numbered}
use Rattle.tables.specs.declared.Sizes.{Sizes}
use Rattle.tables.specs.Table.{IsProcess}
use Rattle.tables.specs.Waits.{Waits, waits_of, neighbours}
use Rattle.tables.specs.WaitsLaws.{neighbours_ends}
use Rattle.steps.specs.declared.Message.{Message}
use Rattle.steps.specs.declared.Reply.{Reply}
use Rattle.steps.specs.declared.Turn.{Turn}
use Rattle.steps.specs.Step.{count_small}
use Rattle.machine.specs.Among.{Among}
use Rattle.machine.proofs.PlaceLaws.{cut_placed}
use Rattle.checks.specs.Run.{most_deliveries, accepts}
use Rattle.checks.specs.Calls.{Picked}
use Rattle.areas.specs.Area.{fields_in, run_in, keeping}
use Rattle.areas.specs.AreaLaws.{stored_same}
use Rattle.link_lenses.specs.Standing.{standing, OneAt}
use Rattle.lenses.specs.Ready.{Ready}
use Rattle.lenses.specs.Storable.{Storable}
use Rattle.lenses.specs.ReadyLaws.{right_storable, ready_n}
use Rattle.lenses.specs.ChangeLaws.{link_message}
use Rattle.link_lenses.specs.StandingLaws.{message_standing}
use Rattle.preparing.specs.Rooms.{roomy, room_to}
use Rattle.preparing.specs.Receiving.{stepped_at}
use Rattle.carrying.specs.Carrying.{carried_out, Carried}
use Rattle.delivery.specs.Delivering.{deliver_at, PreparedFor, prepared_of, told_at}
use Rattle.delivery.specs.AcceptLaws.{stepped_at_refused, accepts_refused, accepts_full, taken_replied, accepts_crowded}
use Rattle.delivery.specs.PreparedLaws.{prepared_none, prepared_at, prepared_refused, prepared_go}
use Rattle.delivery.specs.PreparedLaws.{refused_of, going_of, told_refused, told-going}
use Rattle.delivery.specs.declared.delivering.Prepared.{Prepared}
use Rattle.delivery.specs.declared.delivering.Delivered.{Delivered}

-- a delivery before anything is changed
abbrev pub Answer : List ℤ → ℕ → ℕ → ℕ → Result Prepared Refusal → Type 0
Answer w a b i d = d ≡ prepared_of (run_in w) a b i ((run_in w).link a b)

-- ---- by what waits at the place

module _ {w : List ℤ} {s : Sizes} (y : Ready w s) (a b i : ℕ) {p : Result Message Refusal} (e : p ≡ standing i ((run_in w).link a b)) where
  pub none_there : {r : Refusal} → p ≡ Err r → Answer w a b i (Err r)
  none_there o = sym (prepared_none (run_in w) a b i ((run_in w).link a b) (sym e ∙ o))

  module _ {x : Message} (o : p ≡ Ok x) where
    here : OneAt i ((run_in w).link a b) x
    here = message_standing i ((run_in w).link a b) (sym e ∙ o)

    among : Among x here.rest ((run_in w).link a b)
    among = (cut_placed i ((run_in w).link a b) here.is).0

    pub message_small : count_small x ≡ true
    message_small = link_message (fields_in w) (run_in w) (right_storable w y.right) a b among

    pub message_prepared : {d : Result Prepared Refusal} → PreparedFor w a b x d → Answer w a b i d
    message_prepared h = h here.rest among ∙ sym (prepared_at (run_in w) a b i ((run_in w).link a b) here.is)

-- ---- the delivery of a message

-- what is known where x is delivered from a to b
pub record Arriving (w : List ℤ) (s : Sizes) (a b : ℕ) (x : Message) : Type 0 where
  pub ready : Ready w s
  pub near : neighbours (run_in w).waits a b ≡ true
  pub ends : (a ≤ s.n) × (b ≤ s.n)
  pub small : count_small x ≡ true

pub arriving : {w : List ℤ} {s : Sizes} → Ready w s → {a b : ℕ} → neighbours (run_in w).waits a b ≡ true → (a ≤ s.n) × (b ≤ s.n)
    → {x : Message} → count_small x ≡ true → Arriving w s a b x
arriving y j e c = record { ready = y; near = j; ends = e; small = c }

module _ {w : List ℤ} {s : Sizes} {a b : ℕ} {x : Message} (h : Arriving w s a b x) where
  f : Storable (fields_in w) (run_in w)
  f = right_storable w h.ready.right

  pub step_asks : IsProcess s.n a × IsProcess s.n b
  step_asks = let k = neighbours_ends (run_in w).waits f.sound a b h.near in ((k.0, h.ends.0), (k.2, h.ends.1))

  by_22 : ((rest : List Message) → Among x rest ((run_in w).link a b) → accepts (run_in w) a b x rest ≡ false) → PreparedFor w a b x (Err (numbered 22))
  by_22 k rest l = sym (prepared_refused (run_in w) a b x rest (k rest l))

  pub step_refused : {t : Result Turn Refusal} {e : Refusal} → t ≡ stepped_at (run_in w) a b x → t ≡ Err e → PreparedFor w a b x (Err e)
  step_refused {e = e} t o =
      let is : e ≡ numbered 22 = (stepped_at_refused (run_in w) f.formed f.sound a b h.near x h.small (sym t ∙ o)).1 in
      rw is (by_22 (λ rest l. accepts_refused (run_in w) f.formed f.sound a b h.near x h.small rest l (sym t ∙ o)))

  pub count_full : {c : ℕ} → c ≡ (run_in w).count → most_deliveries ≤ c → PreparedFor w a b x (Err (numbered 22))
  count_full k u = by_22 (λ rest l. accepts_full (run_in w) f.formed f.sound a b h.near x h.small rest l (omega arith))

  module _ {t : Result Turn Refusal} {u : Turn} (is : t ≡ stepped_at (run_in w) a b x) (o : t ≡ Ok u) where
    -- the room that code counts, over the N that it is given
    room_is : {v : Bool} → v ≡ all_to s.n (room_to (run_in w) a b u.sent.probes u.sent.reply) → roomy (run_in w) a b u.sent.probes u.sent.reply ≡ v
    room_is e = ap (λ (k : ℕ). all_to k (room_to (run_in w) a b u.sent.probes u.sent.reply)) (ready_n h.ready) ∙ sym e

    pub room_asks : (y : Reply) → u.sent.reply ≡ Some y → (1 ≤ y.to) × (y.to ≤ s.n) × (neighbours (waits_of (fields_in w)) b y.to ≡ true)
    room_asks y e =
        let j = taken_replied (run_in w) f.formed f.sound a b h.near x h.small u (sym is ∙ o) y e in
        let k = neighbours_ends (run_in w).waits f.sound b y.to j in
        (k.2, omega (arith, k.3, ready_n h.ready), subst (λ (v : Waits). neighbours v b y.to ≡ true) f.held.waits j)

    pub links_full : (v : Bool) → v ≡ all_to s.n (room_to (run_in w) a b u.sent.probes u.sent.reply) → not v ≡ true → PreparedFor w a b x (Err (numbered 22))
    links_full v e k =
        by_22 (λ rest l. accepts_crowded (run_in w) f.formed f.sound a b h.near x h.small rest l u (sym is ∙ o) (value_not (sym (room_is e)) k))

    pub prepared : {c : ℕ} → c ≡ (run_in w).count → c < most_deliveries → (r : Bool) → r ≡ all_to s.n (room_to (run_in w) a b u.sent.probes u.sent.reply) → not r ≡ false
        → PreparedFor w a b x (Ok (record { message = x; turn = u }))
    prepared c few r e y rest l =
        let free : roomy (run_in w) a b u.sent.probes u.sent.reply ≡ true = value_yes (sym (room_is e)) y in
        sym (prepared_go (run_in w) f.formed f.sound a b h.near x h.small u (sym is ∙ o) rest l (omega arith) free)

-- ---- the area that a delivery leaves

module _ {w : List ℤ} {s : Sizes} (y : Ready w s) (a b i : ℕ) where
  module _ {d : Result Prepared Refusal} (t : Answer w a b i d) where
    -- a refusal leaves the area as it was
    pub refusal_kept : {e : Refusal} → d ≡ Err e → w ≡ keeping w (deliver_at (run_in w) a b i).run
    refusal_kept o =
        let e = refused_of (run_in w) a b i ((run_in w).link a b) (sym t ∙ o) in
        sym (stored_same w y.right) ∙ sym (ap (λ (p : Picked). keeping w p.run) e)

    module _ (j : neighbours (run_in w).waits a b ≡ true) {p : Prepared} (o : d ≡ Ok p) where
      pub carry_asks : Carried (run_in w) a b i p.turn.process p.turn.sent.probes p.turn.sent.reply
      carry_asks = (going_of y a b i j (sym t ∙ o)).carried

      pub delivery_leaves : {l : List ℤ} → l ≡ keeping w (carried_out (run_in w) a b i p.turn.process p.turn.sent.probes p.turn.sent.reply)
          → l ≡ keeping w (deliver_at (run_in w) a b i).run
      delivery_leaves e = e ∙ ap (keeping w) (sym (going_of y a b i j (sym t ∙ o)).run)

  -- the message alone
  module _ {d : Result Delivered Refusal} (t : d ≡ told_at (run_in w) a b i) where
    pub told_number : {e : Refusal} → d ≡ Err e → Err e ≡ (deliver_at (run_in w) a b i).answer
    told_number o = sym (ap (λ (p : Picked). p.answer) (told_refused (run_in w) a b i (sym t ∙ o)))

    pub told_message : neighbours (run_in w).waits a b ≡ true → {x : Delivered} → d ≡ Ok x → Ok x.message ≡ (deliver_at (run_in w) a b i).answer
    told_message j o = sym (told-going y a b i j (sym t ∙ o)).1.answer
