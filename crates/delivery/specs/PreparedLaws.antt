-- What a prepared delivery says of the delivery itself, and how the code that prepares it comes to its answer.
--   prepared_none         == the answer where no message is at the place: 24 or 31, as what waits there says
--   prepared_nothing, prepared_beyond, prepared_at   == the answer by what waits at the place
--   prepared_refused, prepared_go   == the answer for a message: where 22 is met, and else
--   refused_of            == a refusal is the delivery's
--   going_of              == a prepared delivery is so
--   told_refused, told-going   == what is told of it says what it was
-- Assumes nothing.
use Rattle.std.specs.Prelude.{ℕ, ◌<◌, true, false, ℤ, Result, Ok, Err}
use mathlib.Core.List.{List, [], ◌∷◌}
use Rattle.std.proofs.Math.Path.{◌≡◌, refl}
use Rattle.std.proofs.Common.{ap, subst}
use native.Mathlib.Omega.{arith}
use Rattle.machine.specs.Calls as MachineCalls
use Rattle.machine.specs.Calls.{Cut, nowhere, cut, at_place}
use Rattle.machine.specs.Among.{Among}
use Rattle.machine.proofs.PlaceLaws.{cut_placed}
use Rattle.base.specs.ChoiceLaws.{tested}
use Rattle.base.specs.Checks.{Tested, passed, failed}
use Rattle.refusals.specs.declared.Refusal.{Refusal}
use Rattle.refusals.specs.Numbers.{numbered}
use Rattle.tables.specs.declared.Sizes.{Sizes}
use Rattle.tables.specs.Sound.{Sound}
use Rattle.tables.specs.Waits.{neighbours}
use Rattle.tables.specs.WaitsLaws.{neighbours_ends}
use Rattle.steps.specs.declared.Message.{Message}
use Rattle.steps.specs.declared.Process.{Process}
use Rattle.steps.specs.declared.Turn.{Turn}
use Rattle.steps.specs.Step.{count_small}
use Rattle.checks.specs.Run.{Run, knot, most_deliveries, well_formed, turn_at, accepts}
use Rattle.checks.specs.Calls.{Picked, answering, deliver}
use Rattle.areas.specs.Area.{fields_in, run_in}
use Rattle.lenses.specs.Ready.{Ready}
use Rattle.lenses.specs.Storable.{Storable}
use Rattle.lenses.specs.ReadyLaws.{right_storable, ready_n}
use Rattle.link_lenses.specs.Standing.{found_at, standing}
use Rattle.lenses.specs.ChangeLaws.{link_message}
use Rattle.preparing.specs.Rooms.{roomy}
use Rattle.preparing.specs.Receiving.{stepped_at}
use Rattle.delivery.specs.Delivering.{prepared_with, prepared_found, prepared_of, told_of, told_at, deliver_at}
use Rattle.delivery.specs.DeliveryFacts.{Taking, Going}
use Rattle.delivery.specs.AcceptLaws.{stepped_at_taken, accepts_taken, accepts_of, carried_of, deliver_answer, deliver_run}
use Rattle.delivery.specs.declared.delivering.Prepared.{Prepared}
use Rattle.delivery.specs.declared.delivering.Delivered.{Delivered}

-- ---- by what waits at the place

module _ (r : Run) (a b k : ℕ) where
  pub prepared_none : (ms : List Message) {e : Refusal} → standing k ms ≡ Err e → prepared_of r a b k ms ≡ Err e
  unfolding standing prepared_of
  prepared_none [] f = cc
  prepared_none (m ∷ ms) {e} f = at (at_place k (m ∷ ms)) f
    where
      at : (c : Cut Message) → found_at c ≡ Err e → prepared_found r a b c ≡ Err e
      at nowhere q = cc
      at (cut x rest) q = let z : ◌≡◌ {A = ℕ} 0 1 = cc in absurd (omega arith)

  pub prepared_nothing : (ms : List Message) → standing k ms ≡ Err (numbered 24) → prepared_of r a b k ms ≡ Err (numbered 24)
  prepared_nothing ms e = prepared_none ms e

  pub prepared_beyond : (ms : List Message) → standing k ms ≡ Err (numbered 31) → prepared_of r a b k ms ≡ Err (numbered 31)
  prepared_beyond ms e = prepared_none ms e

pub prepared_at :
    (r : Run) (a b k : ℕ) (ms : List Message) {m : Message} {rest : List Message} → at_place k ms ≡ cut m rest →
    prepared_of r a b k ms ≡ prepared_with r a b m rest
unfolding prepared_of
prepared_at r a b k [] e = absurd (omega (arith, (cut_placed k [] e).1))
prepared_at r a b k (x ∷ xs) e = rw e

-- ---- the delivery of a message

module _ (r : Run) (h : well_formed r ≡ true) (sd : Sound r.waits) (a b : ℕ) (j : neighbours r.waits a b ≡ true) (m : Message)
    (c : count_small m ≡ true) (t : Turn) (e : stepped_at r a b m ≡ Ok t) where
  taking : Taking r a b m t
  taking = stepped_at_taken r h sd a b j m c t e

  module _ (rest : List Message) (l : Among m rest (r.link a b)) (few : r.count < most_deliveries) (free : roomy r a b t.sent.probes t.sent.reply ≡ true) where
    pub prepared_go : prepared_with r a b m rest ≡ Ok (record { message = m; turn = t })
    unfolding prepared_with
    prepared_go = rw (accepts_of r h sd a b j m c rest l t e few free, taking.is)

pub prepared_refused : (r : Run) (a b : ℕ) (m : Message) (rest : List Message) → accepts r a b m rest ≡ false → prepared_with r a b m rest ≡ Err (numbered 22)
unfolding prepared_with
prepared_refused r a b m rest e = rw e

-- ---- what the answer says

-- a delivery that is refused changes nothing
abbrev pub left_alone : Refusal → Run → Picked
left_alone e r = record { answer = Err e; run = r }

pub refused_of : (r : Run) (a b k : ℕ) {e : Refusal} (ms : List Message) → prepared_of r a b k ms ≡ Err e → deliver r a b k ms ≡ left_alone e r
unfolding prepared_of prepared_with MachineCalls.deliver MachineCalls.delivered
refused_of r a b k {e} [] q = let f : numbered 24 ≡ e = cc in ap (λ (i : Refusal). left_alone i r) f
refused_of r a b k {e} (x ∷ xs) q = found (at_place k (x ∷ xs)) q
  where
    found : (f : Cut Message) → prepared_found r a b f ≡ Err e → answering (MachineCalls.delivered knot r a b f) ≡ left_alone e r
    found nowhere d = let f : numbered 31 ≡ e = cc in ap (λ (i : Refusal). left_alone i r) f
    found (cut m rest) d = at (tested (accepts r a b m rest))
      where
        at : Tested (accepts r a b m rest) → answering (MachineCalls.delivered knot r a b (cut m rest)) ≡ left_alone e r
        at (passed t) =
            let p : Prepared = record { message = m; turn = turn_at r a b m } in
            let f : Ok p ≡ Err e = rw t at d in
            let z : ◌≡◌ {A = ℕ} 0 1 = cc in
            absurd (omega arith)
        at (failed t) =
            let f : Err (numbered 22) ≡ Err e = rw t at d in
            let g : numbered 22 ≡ e = cc in
            rw t (ap (λ (i : Refusal). left_alone i r) g)

-- the same by the answer; of a refusal nothing
abbrev Says : Run → ℕ → ℕ → ℕ → ℕ → Result Prepared Refusal → Type 0
Says r n a b i (Ok p) = Going r n a b i p.message p.turn
Says r n a b i (Err e) = Unit {0}

module _ {w : List ℤ} {s : Sizes} (y : Ready w s) (a b i : ℕ) (j : neighbours (run_in w).waits a b ≡ true) where
  f : Storable (fields_in w) (run_in w)
  f = right_storable w y.right

  -- what the step of an accepted delivery leaves and sends
  accepted_going : (g : Message) (rest : List Message) → at_place i ((run_in w).link a b) ≡ cut g rest → accepts (run_in w) a b g rest ≡ true
      → Going (run_in w) s.n a b i g (turn_at (run_in w) a b g)
  accepted_going g rest p t =
      let u = turn_at (run_in w) a b g in
      let l : Among g rest ((run_in w).link a b) = (cut_placed i ((run_in w).link a b) p).0 in
      let c = link_message (fields_in w) (run_in w) f a b l in
      let k = accepts_taken (run_in w) f.formed f.sound a b j g c rest l t in
      let d = carried_of (run_in w) f.formed f.sound a b j g c rest l u k.0 k.1 k.2 i p in
      record {
        carried = d;
        answer = deliver_answer (run_in w) f.formed f.sound a b j g c rest l u k.0 k.1 k.2 i p;
        run = deliver_run (run_in w) f.formed f.sound a b j g c rest l u k.0 k.1 k.2 i p;
        replied = λ z e. let i = neighbours_ends (run_in w).waits f.sound b z.to (d.replied z e) in (i.2, omega (arith, i.3, ready_n y));
      }

  told_found : (c : Cut Message) → at_place i ((run_in w).link a b) ≡ c → Says (run_in w) s.n a b i (prepared_found (run_in w) a b c)
  unfolding prepared_with
  told_found nowhere l = tt
  told_found (cut g rest) l = at (tested (accepts (run_in w) a b g rest))
    where
      at : Tested (accepts (run_in w) a b g rest) → Says (run_in w) s.n a b i (prepared_with (run_in w) a b g rest)
      at (passed t) = rw t (accepted_going g rest l t)
      at (failed t) = rw t tt

  told : (ms : List Message) → (run_in w).link a b ≡ ms → Says (run_in w) s.n a b i (prepared_of (run_in w) a b i ms)
  unfolding prepared_of
  told [] l = tt
  told (x ∷ xs) l = told_found (at_place i (x ∷ xs)) (ap (at_place i) l)

  pub going_of : {p : Prepared} → prepared_of (run_in w) a b i ((run_in w).link a b) ≡ Ok p → Going (run_in w) s.n a b i p.message p.turn
  going_of e = subst (λ (d : Result Prepared Refusal). Says (run_in w) s.n a b i d) e (told ((run_in w).link a b) refl)

-- ---- what is told of it

by_refusal : (p : Result Prepared Refusal) {e : Refusal} → told_of p ≡ Err e → p ≡ Err e
by_refusal (Ok p) q = let z : ◌≡◌ {A = ℕ} 0 1 = cc in absurd (omega arith)
by_refusal (Err e) q = cc

by_message : (p : Result Prepared Refusal) (d : Delivered) → told_of p ≡ Ok d
    → (x : Process) × (p ≡ Ok (record { message = d.message; turn = record { process = x; sent = d.sent } }))
by_message (Ok p) d q =
    let told : Delivered = record { message = p.message; sent = p.turn.sent } in
    let f : told ≡ d = cc in (
      p.turn.process,
      subst
          (λ (d : Delivered). ◌≡◌ {A = Result Prepared Refusal} (Ok p) (Ok (record { message = d.message; turn = record { process = p.turn.process; sent = d.sent } })))
          f refl,
    )
by_message (Err e) d q = let z : ◌≡◌ {A = ℕ} 0 1 = cc in absurd (omega arith)

pub told_refused : (r : Run) (a b k : ℕ) {e : Refusal} → told_at r a b k ≡ Err e → deliver_at r a b k ≡ record { answer = Err e; run = r }
told_refused r a b k q = refused_of r a b k (r.link a b) (by_refusal (prepared_of r a b k (r.link a b)) q)

pub told-going
    : {w : List ℤ} {s : Sizes} (y : Ready w s) (a b i : ℕ) → neighbours (run_in w).waits a b ≡ true
    → {d : Delivered} → told_at (run_in w) a b i ≡ Ok d → (x : Process) × Going (run_in w) s.n a b i d.message (record { process = x; sent = d.sent })
told-going {w} y a b i j {d} e =
    let o = by_message (prepared_of (run_in w) a b i ((run_in w).link a b)) d e in
    (o.0, going_of y a b i j o.1)
