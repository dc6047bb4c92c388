-- Each change of a delivery in its turn: it is possible, and leaves a run within its area and well formed.
--   carried_ends         == both ends of the link are processes
--   storable_off, storable_changed, storable_replied, storable_sent, storable_carried   == the run after each change
--   reply_room, probes_room   == there is room for the acknowledgement, and for the probes after it
--   carried_count        == the count of deliveries stays in range
-- Assumes nothing.
use Rattle.std.specs.Prelude.{ℕ, ◌+◌, ◌-◌, ◌≤◌, true, ◌&&◌, ◌≡◌, eqb, length, Option, Some}
use Rattle.std.proofs.Math.Path.{refl}
use Rattle.std.proofs.Common.{◌∙◌, arith, eq-eqb, length-append}
use Rattle.base.specs.Choice.{bit}
use Rattle.tables.specs.declared.Chain.{Chain}
use Rattle.tables.specs.declared.Chain.TheVariants.{Out, In}
use Rattle.tables.specs.Table.{Fields, n_of}
use Rattle.tables.specs.Waits.{Waits, neighbours}
use Rattle.tables.specs.WaitsLaws.{neighbours_ends}
use Rattle.tables.specs.Chains.{joins}
use Rattle.steps.specs.declared.Process.{Process}
use Rattle.steps.specs.declared.Probes.{Probes}
use Rattle.steps.specs.declared.Probes.TheVariants.{Sucs, Pres}
use Rattle.steps.specs.declared.Reply.{Reply}
use Rattle.checks.specs.Run.{Run, most_deliveries, father_right, reply_receiver, probes_to}
use Rattle.areas.specs.Used.{link_slots}
use Rattle.areas.specs.Replaced.{put_process, put_link}
use Rattle.link_lenses.specs.Changes.{answered, spread, off}
use Rattle.lenses.specs.Storable.{Storable}
use Rattle.lenses.specs.ChangeLaws.{storable_size, storable_count, storable_process}
use Rattle.link_lenses.specs.LinkChangeLaws.{storable_take, storable_answered, storable_spread}
use Rattle.preparing.specs.Receiving.{probes_of}
use Rattle.carrying.specs.Carrying.{spread_by, changed, carried_out, Carried}
use Rattle.carrying.specs.DeliveryLaws.{relinked_waits, relinked_count, answered_relinked, spread_by_relinked, answered_link, off_length}

-- an acknowledgement goes to its process, and a probe along its chain
reply_one : (v : Reply) → length (reply_receiver (Some v) v.to) ≡ 1
unfolding reply_receiver
reply_one v = rw (eq-eqb v.to v.to refl)

probes_one : (c : Chain) (w : Waits) (b q : ℕ) → joins c w b q ≡ true → length (probes_to w b (probes_of c) q) ≡ 1
unfolding probes_to
probes_one Out w b q e = rw e
probes_one In w b q e = rw e

module _ (t : Fields) (r : Run) (f : Storable t r) (a b i : ℕ) (x : Process) (y : Probes) (z : Option Reply) (k : Carried r a b i x y z) where
  pub carried_ends : (1 ≤ a) × (a ≤ r.waits.n) × (1 ≤ b) × (b ≤ r.waits.n)
  carried_ends = neighbours_ends r.waits f.sound a b k.joined

  carried_range : (1 ≤ b) × (b ≤ n_of t)
  carried_range = let e = carried_ends in (e.2, omega (arith, e.3, storable_size t r f))

  pub storable_off : Storable t (off r a b i)
  storable_off = storable_take t r f a b i k.joined

  pub off_father : father_right (off r a b i).waits b x ≡ true
  unfolding put_link
  off_father = k.father

  pub storable_changed : Storable t (changed r a b i x)
  storable_changed = storable_process t (off r a b i) storable_off b x carried_range.0 carried_range.1 k.range off_father

  -- the links from b as the record's change leaves them
  changed_length : (q : ℕ) → length ((changed r a b i x).link b q) ≡ length (r.link b q) - bit (eqb b a && eqb q b)
  unfolding put_process
  changed_length q = off_length r a b i q k.placed

  changed_waits : (changed r a b i x).waits ≡ r.waits
  unfolding put_process put_link
  changed_waits = refl

  pub reply_room : (v : Reply) → z ≡ Some v → (v.to ≤ r.waits.n) × (neighbours (changed r a b i x).waits b v.to ≡ true)
      × (length ((changed r a b i x).link b v.to) ≤ link_slots - 1)
  reply_room v e =
      let j = k.replied v e in
      let n = neighbours_ends r.waits f.sound b v.to j in
      let o : length (reply_receiver z v.to) ≡ 1 = rw e (reply_one v) in
      (n.3, rw changed_waits j, rw (changed_length v.to) (omega (arith, k.room v.to n.2 n.3)))

  pub storable_replied : Storable t (answered (changed r a b i x) b z)
  storable_replied = storable_answered t (changed r a b i x) storable_changed b z k.replies (λ v e. ((reply_room v e).1, (reply_room v e).2))

  replied_waits : (answered (changed r a b i x) b z).waits ≡ r.waits
  replied_waits = relinked_waits (answered_relinked (changed r a b i x) b z) ∙ changed_waits

  replied_length : (q : ℕ) → length ((answered (changed r a b i x) b z).link b q) ≡ length (r.link b q) - bit (eqb b a && eqb q b) + length (reply_receiver z q)
  replied_length q = rw (answered_link (changed r a b i x) b z b q, eq-eqb b b refl, length-append, changed_length q)

  pub probes_room : (c : Chain) → y ≡ probes_of c → (q : ℕ) → 1 ≤ q → q ≤ r.waits.n → joins c (answered (changed r a b i x) b z).waits b q ≡ true
      → length ((answered (changed r a b i x) b z).link b q) ≤ link_slots - 1
  probes_room c e q l u j =
      let o : length (probes_to r.waits b y q) ≡ 1 = rw e (probes_one c r.waits b q (rw replied_waits at j)) in
      rw (replied_length q) (omega (arith, k.room q l u))

  pub storable_sent : Storable t (spread_by y (answered (changed r a b i x) b z) b)
  storable_sent = at y refl
    where
      by : (c : Chain) → y ≡ probes_of c → Storable t (spread c (answered (changed r a b i x) b z) b)
      by c e =
          storable_spread c (answered (changed r a b i x) b z) b t storable_replied
          (λ q l u j. probes_room c e q l (omega (arith, storable_size t r f)) j)

      at : (v : Probes) → y ≡ v → Storable t (spread_by v (answered (changed r a b i x) b z) b)
      at Probes.Nothing e = storable_replied
      at Sucs e = by Out e
      at Pres e = by In e

  pub carried_count : (spread_by y (answered (changed r a b i x) b z) b).count + 1 ≤ most_deliveries
  unfolding put_process put_link
  carried_count =
      let q : Run = answered (changed r a b i x) b z in
      rw (relinked_count (spread_by_relinked y q b), relinked_count (answered_relinked (changed r a b i x) b z)) k.count

  pub storable_carried : Storable t (carried_out r a b i x y z)
  unfolding carried_out
  storable_carried =
      let q : Run = spread_by y (answered (changed r a b i x) b z) b in
      storable_count t q storable_sent (q.count + 1) carried_count
