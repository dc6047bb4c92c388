-- A delivery made by changes one after another is the delivery that a promise names.
--   answered_relinked, spread_by_relinked   == what a step sends changes links alone; relinked_waits, relinked_count, so not these
--   answered_link, spread_by_link   == the links after an acknowledgement, and after a broadcast
--   off_length            == how many messages stay on a link of the receiver
--   carried_out_is         == the changes one after another make `after`
--   load_after_is          == load_after counts the messages on the receiver's links after the delivery
-- Assumes nothing.
use Prim.Native.Nat.{ℕ, ◌+◌, ◌-◌, ◌≤◌}
use Rattle.std.specs.Prelude.{Bool, true, false, ◌&&◌, ◌≡◌, refl, eqb, leb, length, Option, Some, None}
use Rattle.std.proofs.lemmas.Bool.{false≢true}
use mathlib.Core.List.{List, [], ◌∷◌, ◌++◌, append-nil, append_assoc}
use Rattle.std.proofs.Common.{sym, ap₂, ◌∙◌, arith, eqb-true, eq-eqb, le-leb, length-append}
use Rattle.std.proofs.Math.Path.{ap, fun_ext}
use Rattle.machine.specs.Machine as Machines
use Rattle.base.specs.Choice.{choose, bit}
use Rattle.base.specs.ChoiceLaws.{same?, tested, and_left, and_right}
use Rattle.base.specs.Checks.{Same, same, apart, Tested, passed, failed}
use Rattle.tables.specs.declared.Chain.{Chain}
use Rattle.tables.specs.declared.Chain.TheVariants.{Out, In}
use Rattle.tables.specs.Waits.{Waits}
use Rattle.tables.specs.Sound.{Sound}
use Rattle.tables.specs.Chains.{joins}
use Rattle.steps.specs.declared.Message.{Message}
use Rattle.steps.specs.declared.Message.TheVariants.{Ack}
use Rattle.steps.specs.declared.Process.{Process}
use Rattle.steps.specs.declared.Probes.{Probes}
use Rattle.steps.specs.declared.Probes.TheVariants.{Sucs, Pres}
use Rattle.steps.specs.declared.Reply.{Reply}
use Rattle.checks.specs.Run.{Run, one, turn_at, reply_receiver, probes_to, sent_to, after}
use Rattle.machine.specs.Machine.{taken}
use Rattle.machine.specs.Calls.{cut, at_place}
use Rattle.machine.specs.Among.{Among, Here}
use Rattle.machine.specs.AmongLaws.{among_length}
use Rattle.machine.proofs.PlaceLaws.{at_place_here}
use Rattle.areas.specs.Replaced.{with_links, put_process, put_link, put_count}
use Rattle.link_lenses.specs.Changes.{probe_of, spread_to, answered, spread, off}
use Rattle.lenses.specs.ChangeLaws.{joins_high}
use Rattle.preparing.specs.Rooms.{load_after}
use Rattle.carrying.specs.Carrying.{spread_by, changed, Relinked, carried_out}

-- ---- what a step sends

pub relinked_waits : {r q : Run} → Relinked r q → q.waits ≡ r.waits
relinked_waits h = ap (λ (p : Run). p.waits) h.is

pub relinked_count : {r q : Run} → Relinked r q → q.count ≡ r.count
relinked_count h = ap (λ (p : Run). p.count) h.is

pub answered_relinked : (r : Run) (b : ℕ) (z : Option Reply) → Relinked r (answered r b z)
unfolding answered put_link
answered_relinked r b None = record { is = refl }
answered_relinked r b (Some v) = record { is = refl }

pub spread_by_relinked : (y : Probes) (r : Run) (b : ℕ) → Relinked r (spread_by y r b)
unfolding spread spread_to
spread_by_relinked Probes.Nothing r b = record { is = refl }
spread_by_relinked Sucs r b = record { is = refl }
spread_by_relinked Pres r b = record { is = refl }

none_sent : (t : Bool) (ms : List Message) → ms ≡ choose t (ms ++ []) ms
none_sent true ms = sym (append-nil ms)
none_sent false ms = refl

pub answered_link : (r : Run) (b : ℕ) (z : Option Reply) (x y : ℕ) → (answered r b z).link x y ≡ choose (eqb x b) (r.link x y ++ reply_receiver z y) (r.link x y)
unfolding answered put_link reply_receiver
answered_link r b None x y = none_sent (eqb x b) (r.link x y)
answered_link r b (Some v) x y = at (same? x b) (same? y v.to)
  where
    at : Same x b → Same y v.to
        → choose (eqb x b && eqb y v.to) (r.link b v.to ++ (Ack v.counts ∷ [])) (r.link x y)
        ≡ choose (eqb x b) (r.link x y ++ one (eqb y v.to) (Ack v.counts)) (r.link x y)
    at (same e f) (same g h) = rw (f, h, e, g)
    at (same e f) (apart g h) = rw (f, h) (sym (append-nil (r.link x y)))
    at (apart e f) g = rw f

-- nobody past N is waited for, or waits
far_joins : (c : Chain) (w : Waits) → Sound w → (b q : ℕ) → leb q w.n ≡ false → joins c w b q ≡ false
far_joins c w s b q h = at (tested (joins c w b q))
  where
    at : Tested (joins c w b q) → joins c w b q ≡ false
    at (failed e) = e
    at (passed e) = absurd (false≢true (sym h ∙ le-leb q w.n (joins_high c w s b q e)))

spread_link : (c : Chain) (r : Run) → Sound r.waits → (b x y : ℕ)
    → (spread c r b).link x y ≡ choose (eqb x b) (r.link x y ++ one (joins c r.waits b y) (probe_of c)) (r.link x y)
unfolding spread spread_to
spread_link c r s b x y = at (tested (eqb x b)) (tested (leb y r.waits.n))
  where
    at : Tested (eqb x b) → Tested (leb y r.waits.n)
        → choose (eqb x b && leb y r.waits.n) (r.link x y ++ one (joins c r.waits b y) (probe_of c)) (r.link x y)
        ≡ choose (eqb x b) (r.link x y ++ one (joins c r.waits b y) (probe_of c)) (r.link x y)
    at (failed e) f = rw e
    at (passed e) (passed f) = rw (e, f)
    at (passed e) (failed f) = rw (e, f, far_joins c r.waits s b y f) (sym (append-nil (r.link x y)))

pub spread_by_link : (z : Probes) (r : Run) → Sound r.waits → (b x y : ℕ)
    → (spread_by z r b).link x y ≡ choose (eqb x b) (r.link x y ++ probes_to r.waits b z y) (r.link x y)
unfolding probes_to
spread_by_link Probes.Nothing r s b x y = none_sent (eqb x b) (r.link x y)
spread_by_link Sucs r s b x y = spread_link Out r s b x y
spread_by_link Pres r s b x y = spread_link In r s b x y

-- ---- what is taken

-- how many messages stay on the links of the receiver, whichever one is taken
taken_length : (r : Run) (a b : ℕ) {m : Message} {rest : List Message} → Among m rest (r.link a b) → (q : ℕ)
    → length (taken r a b rest b q) ≡ length (r.link b q) - bit (eqb b a && eqb q b)
unfolding taken
taken_length r a b {rest = rest} l q = at (tested (eqb b a && eqb q b))
  where
    at : Tested (eqb b a && eqb q b) → length (choose (eqb b a && eqb q b) rest (r.link b q)) ≡ length (r.link b q) - bit (eqb b a && eqb q b)
    at (failed e) = rw e (omega arith)
    at (passed e) =
        let f : b ≡ a = eqb-true b a (and_left (eqb b a) (eqb q b) e) in
        let g : q ≡ b = eqb-true q b (and_right (eqb b a) (eqb q b) e) in
        let k : r.link b q ≡ r.link a b = ap₂ (λ (u v : ℕ). r.link u v) f g in
        rw (e, k) (omega (arith, among_length l))

-- the links once the message at place k is off
off_link : (r : Run) (a b k : ℕ) {m : Message} {rest : List Message} → at_place k (r.link a b) ≡ cut m rest → (u v : ℕ)
    → (off r a b k).link u v ≡ taken r a b rest u v
unfolding put_link taken
off_link r a b k l u v = rw l

pub off_length : (r : Run) (a b k q : ℕ) → (1 ≤ k) × (k ≤ length (r.link a b))
    → length ((off r a b k).link b q) ≡ length (r.link b q) - bit (eqb b a && eqb q b)
off_length r a b k q h =
    let i : Here k (r.link a b) = at_place_here k (r.link a b) h.0 h.1 in
    ap length (off_link r a b k i.is b q) ∙ taken_length r a b i.among q

-- ---- the whole delivery

-- an acknowledgement and then probes, or neither
twice : (t : Bool) (k p q : List Message) → choose t (choose t (k ++ p) k ++ q) (choose t (k ++ p) k) ≡ choose t (k ++ (p ++ q)) k
twice true k p q = append_assoc k p q
twice false k p q = refl

module _ (r : Run) (s : Sound r.waits) (a b k : ℕ) (m : Message) (rest : List Message) (l : at_place k (r.link a b) ≡ cut m rest) where
  changed_link : (x : Process) (u v : ℕ) → (changed r a b k x).link u v ≡ taken r a b rest u v
  unfolding put_process
  changed_link x u v = off_link r a b k l u v

  -- what a step leaves of the run without the message
  carried_relinked : (x : Process) (y : Probes) (z : Option Reply) → Relinked (changed r a b k x) (spread_by y (answered (changed r a b k x) b z) b)
  carried_relinked x y z =
      let q : Run = spread_by y (answered (changed r a b k x) b z) b in
      let sent = spread_by_relinked y (answered (changed r a b k x) b z) b in
      record { is = sent.is ∙ ap (λ (p : Run). with_links p q.link) (answered_relinked (changed r a b k x) b z).is }

  pub carried_link : (x : Process) (y : Probes) (z : Option Reply) (u v : ℕ)
      → (spread_by y (answered (changed r a b k x) b z) b).link u v
      ≡ choose (eqb u b) (taken r a b rest u v ++ (reply_receiver z v ++ probes_to r.waits b y v)) (taken r a b rest u v)
  unfolding put_process put_link
  carried_link x y z u v =
      let w : (answered (changed r a b k x) b z).waits ≡ r.waits = relinked_waits (answered_relinked (changed r a b k x) b z) in
      spread_by_link y (answered (changed r a b k x) b z) (rw w s) b u v
      ∙ rw (w, answered_link (changed r a b k x) b z u v, changed_link x u v)
      (twice (eqb u b) (taken r a b rest u v) (reply_receiver z v) (probes_to r.waits b y v))

  pub carried_out_is : carried_out r a b k (turn_at r a b m).process (turn_at r a b m).sent.probes (turn_at r a b m).sent.reply ≡ after r a b m rest
  unfolding Machines.after sent_to carried_out put_count put_process put_link
  carried_out_is =
      let x : Process = (turn_at r a b m).process in
      let y : Probes = (turn_at r a b m).sent.probes in
      let z : Option Reply = (turn_at r a b m).sent.reply in
      ap (λ (q : Run). put_count q (q.count + 1)) (carried_relinked x y z).is
      ∙ ap (λ (l : ℕ → ℕ → List Message). with_links (after r a b m rest) l) (fun_ext (λ u. fun_ext (carried_link x y z u)))

-- what is counted without making the delivery
pub load_after_is :
    (r : Run) (a b : ℕ) (m : Message) (rest : List Message) → Among m rest (r.link a b) → (q : ℕ) →
    length ((after r a b m rest).link b q) ≡ load_after r a b (turn_at r a b m).sent.probes (turn_at r a b m).sent.reply q
unfolding Machines.after sent_to
load_after_is r a b m rest l q = rw (eq-eqb b b refl, length-append, length-append, taken_length r a b l q) (omega arith)
