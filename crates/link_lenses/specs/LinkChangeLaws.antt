-- Each change that code makes of links keeps a run within its area and well formed; and how the probes of a broadcast go out one by one.
--   storable_link, storable_push, storable_take   == one link replaced
--   storable_spread_to, storable_spread, storable_answered   == probes sent to some, to all, and an acknowledgement sent
--   probe_small          == a probe has no count out of range
--   without_none, without_length   == nothing is taken off an empty link; how many messages stay on a link when one is taken
--   spread_to_none        == nothing is sent to those of 1 to 0
--   spread_to_sent, spread_to_passed   == one process more, to whom the probe goes or does not go
--   spread_to_link        == the links to those further on are as they were
-- Assumes nothing.
use Prim.Native.Nat.{ℕ, zero, suc, ◌+◌, ◌-◌, ◌≤◌, ◌<◌}
use Rattle.std.specs.Prelude.{Bool, false, ◌&&◌, List, [], ◌∷◌, ◌++◌, ◌≡◌, Option, Some, None}
use Rattle.std.proofs.Math.Bool.{true}
use Rattle.std.proofs.Common.{append-nil, sym, ◌∙◌, arith, length-append}
use Rattle.std.proofs.Math.Path.{refl, subst, fun_ext}
use borrow.Author.Tests.{eq-eqb, leb-true, leb-false, le-leb, lt-leb}
use Rattle.std.proofs.Math.Dec.{eqb, leb}
use Rattle.std.proofs.Math.ListN.{length}
use Rattle.machine.specs.Machine as Machines
use Rattle.base.specs.Choice.{choose}
use Rattle.base.specs.ChoiceLaws.{and_both, and_right, same?, tested}
use Rattle.base.specs.Checks.{Same, same, apart, Tested, passed, failed}
use Rattle.tables.specs.declared.Chain.{Chain}
use Rattle.tables.specs.declared.Chain.TheVariants.{Out, In}
use Rattle.tables.specs.Table.{Fields, n_of}
use Rattle.tables.specs.Waits.{Waits, waits_of, neighbours}
use Rattle.tables.specs.Sound.{Sound}
use Rattle.tables.specs.Chains.{joins}
use Rattle.steps.specs.declared.Message.{Message}
use Rattle.steps.specs.declared.Message.TheVariants.{Ack}
use Rattle.steps.specs.declared.Reply.{Reply}
use Rattle.steps.specs.Step.{both_small, count_small, reply_fits}
use Rattle.machine.specs.Calls.{Cut, behind, at_place}
use Rattle.machine.specs.FormedLaws.{well_formed_P, all_right_append}
use Rattle.machine.specs.Among.{Placed, there, not_there, Here}
use Rattle.machine.specs.AmongLaws.{among_length, among_right, between_among}
use Rattle.machine.proofs.PlaceLaws.{at_place_P, at_place_here}
use Rattle.checks.specs.Run.{Run, knot, counts_small, one}
use Rattle.areas.specs.Used.{link_slots}
use Rattle.areas.specs.Replaced.{with_links, put_link}
use Rattle.areas.specs.ContainedLaws.{contained_joined, contained_link}
use Rattle.link_lenses.specs.Changes.{probe_of, spread_to, stays, without, answered, spread, off}
use Rattle.lenses.specs.Storable.{Storable}
use Rattle.lenses.specs.ChangeLaws.{joins_low, joins_neighbours, storable_size, link_right_parts}

-- ---- lists of messages

-- one message more, with its count in range
counts_push : (ms : List Message) (m : Message) → counts_small ms ≡ true → count_small m ≡ true → counts_small (ms ++ (m ∷ [])) ≡ true
unfolding Machines.all_right
counts_push ms m p q = all_right_append count_small ms (m ∷ []) p (and_both (count_small m) true q refl)

pub without_none : (k : ℕ) → without k [] ≡ []
unfolding behind at_place
without_none zero = refl
without_none (suc k) = refl

-- a message taken from its place, wherever that is
module _ (k : ℕ) (ms : List Message) where
  pub without_length : 1 ≤ k → k ≤ length ms → length (without k ms) + 1 ≡ length ms
  without_length l u =
      let h : Here k ms = at_place_here k ms l u in
      rw h.is (omega (arith, among_length h.among))

  -- what stays is in range, as it was
  without_right : length ms ≤ 4 → counts_small ms ≡ true → (length (without k ms) ≤ 4) × (counts_small (without k ms) ≡ true)
  without_right u e = at (at_place_P k ms)
    where
      at : {f : Cut Message} → Placed k ms f → (length (stays ms f) ≤ 4) × (counts_small (stays ms f) ≡ true)
      at (there b) = (omega (arith, among_length (between_among b)), (among_right count_small (between_among b) e).1)
      at (not_there _) = (u, e)

pub probe_small : (c : Chain) → count_small (probe_of c) ≡ true
unfolding count_small
probe_small Out = refl
probe_small In = refl

-- ---- one change

module _ (t : Fields) (r : Run) (f : Storable t r) where
  storable_link : (a b : ℕ) (ms : List Message) → neighbours r.waits a b ≡ true → length ms ≤ 4 → counts_small ms ≡ true → Storable t (put_link r a b ms)
  unfolding put_link
  storable_link a b ms j s k =
      let g = (well_formed_P knot r).0 f.formed in
      record {
        held = contained_link t r a b ms here f.held;
        formed =
            (well_formed_P knot (put_link r a b ms)).1
            (record {
              room = refl;
              start_is_in = g.start_is_in;
              edition = g.edition;
              count = g.count;
              records = g.records;
              short = λ x y px py. either (λ l. length l ≤ 4) s (eqb x a && eqb y b) (r.link x y) (g.short x y px py);
              joined = λ x y _ _ n. contained_joined t (put_link r a b ms) (contained_link t r a b ms here f.held) x y n;
              messages = λ x y px py. either (λ l. counts_small l ≡ true) k (eqb x a && eqb y b) (r.link x y) (g.messages x y px py);
            });
        sound = f.sound;
      }
    where
      here : neighbours (waits_of t) a b ≡ true
      here = subst (λ (w : Waits). neighbours w a b ≡ true) f.held.waits j

      either : (P : List Message → Type 0) → P ms → (c : Bool) (l : List Message) → P l → P (choose c ms l)
      either P p true l q = p
      either P p false l q = q

  pub storable_push : (a b : ℕ) (m : Message) → neighbours r.waits a b ≡ true → count_small m ≡ true → length (r.link a b) ≤ link_slots - 1
      → Storable t (put_link r a b (r.link a b ++ (m ∷ [])))
  storable_push a b m j k s =
      storable_link a b (r.link a b ++ (m ∷ [])) j (rw length-append (omega arith)) (counts_push (r.link a b) m (link_right_parts t r f a b).1 k)

  pub storable_take : (a b k : ℕ) → neighbours r.waits a b ≡ true → Storable t (off r a b k)
  storable_take a b k j =
      let h = without_right k (r.link a b) (link_right_parts t r f a b).0 (link_right_parts t r f a b).1 in
      storable_link a b (without k (r.link a b)) j h.0 h.1

  pub storable_answered : (b : ℕ) (y : Option Reply) → reply_fits y ≡ true
      → ((x : Reply) → y ≡ Some x → (neighbours r.waits b x.to ≡ true) × (length (r.link b x.to) ≤ link_slots - 1)) → Storable t (answered r b y)
  unfolding answered reply_fits count_small
  storable_answered b None k h = f
  storable_answered b (Some y) k h = storable_push b y.to (Ack y.counts) (h y refl).0 (and_right (leb 1 y.to) (both_small y.counts) k) (h y refl).1

-- ---- the probes of a broadcast, one by one

module _ (c : Chain) (r : Run) (b : ℕ) where
  spread_to_link : (k q : ℕ) → k < q → (spread_to c r b k).link b q ≡ r.link b q
  unfolding spread_to
  spread_to_link k q h = rw (eq-eqb b b refl, lt-leb q k h)

  -- runs that differ in their links alone
  spread_to_by : (k : ℕ) (l : ℕ → ℕ → List Message) → ((x y : ℕ) → (spread_to c r b k).link x y ≡ l x y)
      → spread_to c r b k ≡ with_links r l
  unfolding spread_to
  spread_to_by k l h =
      let e : (spread_to c r b k).link ≡ l = fun_ext (λ x. fun_ext (λ y. h x y)) in
      λ i. with_links r (e i)

  spread_to_none : Sound r.waits → spread_to c r b 0 ≡ r
  unfolding spread_to
  spread_to_none s = spread_to_by 0 r.link (λ x y. at x y (tested (eqb x b && leb y 0)) (tested (joins c r.waits b y)))
    where
      at : (x y : ℕ) → Tested (eqb x b && leb y 0) → Tested (joins c r.waits b y)
          → choose (eqb x b && leb y 0) (r.link x y ++ one (joins c r.waits b y) (probe_of c)) (r.link x y) ≡ r.link x y
      at x y (passed e) (passed j) = absurd (omega (arith, leb-true y 0 (and_right (eqb x b) (leb y 0) e), joins_low c r.waits s b y j))
      at x y (passed e) (failed j) = rw (e, j) (append-nil (r.link x y))
      at x y (failed e) _ = rw e

  -- the test of one process more
  upto : (k y : ℕ) → (y ≡ suc k → ⊥) → leb y (suc k) ≡ leb y k
  upto k y n = at (tested (leb y k))
    where
      at : Tested (leb y k) → leb y (suc k) ≡ leb y k
      at (passed e) = le-leb y (suc k) (omega (arith, leb-true y k e)) ∙ sym e
      at (failed e) = lt-leb y (suc k) (omega (arith, leb-false y k e, n)) ∙ sym e

  spread_to_sent : (k : ℕ) → joins c r.waits b (suc k) ≡ true
      → spread_to c r b (suc k) ≡ put_link (spread_to c r b k) b (suc k) (r.link b (suc k) ++ (probe_of c ∷ []))
  unfolding spread_to put_link
  spread_to_sent k j =
      spread_to_by (suc k) (put_link (spread_to c r b k) b (suc k) (r.link b (suc k) ++ (probe_of c ∷ []))).link (λ x y. at x y (same? x b) (same? y (suc k)))
    where
      at : (x y : ℕ) → Same x b → Same y (suc k)
          → (spread_to c r b (suc k)).link x y ≡ (put_link (spread_to c r b k) b (suc k) (r.link b (suc k) ++ (probe_of c ∷ []))).link x y
      at x y (same e p) (same g q) = rw (p, q, e, g, le-leb (suc k) (suc k) (omega arith), j)
      at x y (same e p) (apart g q) = rw (p, q, upto k y g)
      at x y (apart e p) _ = rw p

  spread_to_passed : (k : ℕ) → joins c r.waits b (suc k) ≡ false → spread_to c r b (suc k) ≡ spread_to c r b k
  unfolding spread_to
  spread_to_passed k j = spread_to_by (suc k) (spread_to c r b k).link (λ x y. at x y (same? x b) (same? y (suc k)))
    where
      at : (x y : ℕ) → Same x b → Same y (suc k) → (spread_to c r b (suc k)).link x y ≡ (spread_to c r b k).link x y
      at x y (same e p) (same g q) = rw (p, e, g, le-leb (suc k) (suc k) (omega arith), lt-leb (suc k) k (omega arith), j) (append-nil (r.link b (suc k)))
      at x y (same e p) (apart g q) = rw (p, upto k y g)
      at x y (apart e p) _ = rw p

  storable_spread_to : (t : Fields) → Storable t r → (k : ℕ) → ((q : ℕ) → 1 ≤ q → q ≤ k → joins c r.waits b q ≡ true → length (r.link b q) ≤ link_slots - 1)
      → Storable t (spread_to c r b k)
  unfolding spread_to
  storable_spread_to t f zero h = rw (spread_to_none f.sound) f
  storable_spread_to t f (suc k) h = at (storable_spread_to t f k (λ q l u. h q l (omega arith))) (tested (joins c r.waits b (suc k)))
    where
      at : Storable t (spread_to c r b k) → Tested (joins c r.waits b (suc k)) → Storable t (spread_to c r b (suc k))
      at g (passed j) =
          let e : (spread_to c r b k).link b (suc k) ≡ r.link b (suc k) = spread_to_link k (suc k) (omega arith) in
          rw (spread_to_sent k j, ← e)
          (storable_push t (spread_to c r b k) g b (suc k) (probe_of c) (joins_neighbours c r.waits b (suc k) j) (probe_small c)
          (rw e (h (suc k) (omega arith) (omega arith) j)))
      at g (failed j) = rw (spread_to_passed k j) g

  pub storable_spread : (t : Fields) → Storable t r → ((q : ℕ) → 1 ≤ q → q ≤ n_of t → joins c r.waits b q ≡ true → length (r.link b q) ≤ link_slots - 1)
      → Storable t (spread c r b)
  unfolding spread
  storable_spread t f h = storable_spread_to t f r.waits.n (λ q l u j. h q l (omega (arith, storable_size t r f)) j)
