-- A broadcast along a chain, one arc after another: the run while some arcs are left, and what one more asks and leaves.
--   Room w n c b          == each process that the probe goes to has room for it on its link from b
--   spread_but c r b e     == b has sent its probe to those whom it goes to, but for those q with e q not 0
--   but_all, but_none     == nothing sent, and sent to all
--   but_link, but_sent    == the link to one who is left; one more sent
--   Sending w v c b k     == the area v while the arcs from k on are left
--   sending_first, sending_link, sending_room, sending_on, sending_last   == before the first arc; where a push goes and what it asks; after it;
--       after the last
-- Assumes nothing.
use Prim.Native.Nat.{ℕ, ◌-◌, ◌≤◌, ◌<◌}
use mathlib.Core.Bool.{true, ◌&&◌}
use mathlib.Core.List.{List, [], ◌∷◌, ◌++◌, append-nil}
use mathlib.Core.Path.{◌≡◌, refl, sym, ap, ◌∙◌, subst, fun_ext}
use native.Mathlib.Omega.{arith}
use borrow.Author.Tests.{eq-eqb, ne_eqb, leb-false}
use lib.Dec.{eqb, leb}
use lib.ListN.{length, get_or}
use lib.IntN.{ℤ}
use Rattle.base.specs.Choice.{choose, bit}
use Rattle.base.specs.ChoiceLaws.{same?, tested, bit_same, bit_apart}
use Rattle.base.specs.Checks.{Same, same, apart, Tested, passed, failed}
use Rattle.base.specs.Counts.{sum_over}
use Rattle.tables.specs.declared.Arc.{Arc}
use Rattle.tables.specs.declared.Chain.{Chain}
use Rattle.tables.specs.Table.{Fields, first, arc_at, next}
use Rattle.tables.specs.Waits.{Waits, waits_of, neighbours}
use Rattle.tables.specs.Sound.{Sound}
use Rattle.tables.specs.Chains.{far, joins}
use Rattle.steps.specs.declared.Message.{Message}
use Rattle.steps.specs.Step.{count_small}
use Rattle.checks.specs.Run.{Run, one}
use Rattle.areas.specs.Used.{link_slots}
use Rattle.areas.specs.Area.{fields_in, run_in, keeping}
use Rattle.areas.specs.Replaced.{with_links, put_link}
use Rattle.areas.specs.RunInLaws.{run_in_contained}
use Rattle.areas.specs.Squares.{place_in, Linked, Row}
use Rattle.areas.specs.SquareLaws.{row_linked}
use Rattle.tables.specs.declared.Sizes.{Sizes}
use Rattle.lenses.specs.Ready.{Ready}
use Rattle.link_lenses.specs.Changes.{probe_of, spread_to, spread, HasSlot}
use Rattle.lenses.specs.Storable.{Storable}
use Rattle.lenses.specs.ReadyLaws.{right_storable, keeping_fields, ready_n, ready_sizes}
use Rattle.lenses.specs.ChangeLaws.{joins_low, joins_high, joins_neighbours}
use Rattle.link_lenses.specs.LinkChangeLaws.{probe_small, storable_push}
use Rattle.lenses.proofs.Holding.{Holding, holding_first, holding_run, holding_next}
use Rattle.lenses.proofs.ChainWalks.{ends, to_go, ArcsLeft, Ahead, first_ends, left_first, left_on, left_end, ready_right, ready_process, ahead_arc}
use Rattle.lenses.proofs.ChainWalks.{ahead_far}

-- each process that the probe goes to has room for it on its link
abbrev pub Room : List ℤ → ℕ → Chain → ℕ → Type 0
Room w n c b = (q : ℕ) → 1 ≤ q → q ≤ n → joins c (run_in w).waits b q ≡ true → length ((run_in w).link b q) ≤ link_slots - 1

-- b has sent its probe to those whom it goes to, but for those q with e q not 0
unfoldable pub spread_but : Chain → Run → ℕ → (ℕ → ℕ) → Run
spread_but c r b e = with_links r (λ x y. choose (eqb x b && eqb (e y) 0) (r.link x y ++ one (joins c r.waits b y) (probe_of c)) (r.link x y))

module _ (c : Chain) (r : Run) (b : ℕ) where
  -- runs that differ in their links alone
  but_by : (e : ℕ → ℕ) (l : ℕ → ℕ → List Message) → ((x y : ℕ) → (spread_but c r b e).link x y ≡ l x y)
      → spread_but c r b e ≡ with_links r l
  unfolding spread_but
  but_by e l h =
      let f : (spread_but c r b e).link ≡ l = fun_ext (λ x. fun_ext (λ y. h x y)) in
      λ i. with_links r (f i)

  but_all : (e : ℕ → ℕ) → ((y : ℕ) → joins c r.waits b y ≡ true → 1 ≤ e y) → spread_but c r b e ≡ r
  unfolding spread_but
  but_all e h = but_by e r.link (λ x y. at x y (same? x b) (same? (e y) 0) (tested (joins c r.waits b y)))
    where
      at : (x y : ℕ) → Same x b → Same (e y) 0 → Tested (joins c r.waits b y) → (spread_but c r b e).link x y ≡ r.link x y
      at x y (apart _ p) _ _ = rw p
      at x y (same _ p) (apart _ q) _ = rw (p, q)
      at x y (same _ p) (same z q) (passed j) = absurd (omega (arith, h y j))
      at x y (same _ p) (same z q) (failed j) = rw (p, q, j) (append-nil (r.link x y))

  but_none : (e : ℕ → ℕ) → Sound r.waits → ((y : ℕ) → e y ≡ 0) → spread_but c r b e ≡ spread c r b
  unfolding spread_but spread spread_to
  but_none e s h = but_by e (spread c r b).link (λ x y. at x y (same? x b) (tested (leb y r.waits.n)) (tested (joins c r.waits b y)))
    where
      at : (x y : ℕ) → Same x b → Tested (leb y r.waits.n) → Tested (joins c r.waits b y) → (spread_but c r b e).link x y ≡ (spread c r b).link x y
      at x y (apart _ p) _ _ = rw p
      at x y (same _ p) (passed u) _ = rw (p, u, eq-eqb (e y) 0 (h y))
      at x y (same _ p) (failed u) (passed j) = absurd (omega (arith, leb-false y r.waits.n u, joins_high c r.waits s b y j))
      at x y (same _ p) (failed u) (failed j) = rw (p, u, eq-eqb (e y) 0 (h y), j) (append-nil (r.link x y))

  but_link : (e : ℕ → ℕ) (q : ℕ) → (e q ≡ 0 → ⊥) → (spread_but c r b e).link b q ≡ r.link b q
  unfolding spread_but
  but_link e q h = rw (eq-eqb b b refl, ne_eqb (e q) 0 h)

  but_sent : (e e' : ℕ → ℕ) (q : ℕ) → joins c r.waits b q ≡ true → e' q ≡ 0 → ((y : ℕ) → (y ≡ q → ⊥) → e y ≡ e' y)
      → spread_but c r b e' ≡ put_link (spread_but c r b e) b q (r.link b q ++ (probe_of c ∷ []))
  unfolding spread_but put_link
  but_sent e e' q j z h = but_by e' (put_link (spread_but c r b e) b q (r.link b q ++ (probe_of c ∷ []))).link (λ x y. at x y (same? x b) (same? y q))
    where
      at : (x y : ℕ) → Same x b → Same y q → (spread_but c r b e').link x y ≡ (put_link (spread_but c r b e) b q (r.link b q ++ (probe_of c ∷ []))).link x y
      at x y (same f p) (same g i) = rw (p, i, f, g, eq-eqb (e' q) 0 z, j)
      at x y (same f p) (apart g i) = rw (p, i, h y g)
      at x y (apart f p) _ = rw p

-- the area v while the arcs from k on are left
pub record Sending (w v : List ℤ) (c : Chain) (b k : ℕ) : Type 0 where
  pub here : ArcsLeft c (fields_in w) b k
  pub holds : Holding w v (spread_but c (run_in w) b (ends c (fields_in w) (to_go c (fields_in w) k)))

module _ {w : List ℤ} {z : Sizes} (y : Ready w z) (c : Chain) (b : ℕ) (own : (1 ≤ b) × (b ≤ z.n)) where
  -- the run's waits are the table's
  by_table : (q : ℕ) → joins c (run_in w).waits b q ≡ joins c (waits_of (fields_in w)) b q
  by_table q = ap (λ (v : Waits). joins c v b q) (run_in_contained w).waits

  pub sending_first : {k : ℕ} → k ≡ first c (fields_in w) b → Sending w w c b k
  sending_first {k} e =
      rw e
      (record {
        here = left_first (ready_right y) (ready_process y own);
        holds = subst (λ (r : Run). Holding w w r) (sym (but_all c (run_in w) b _ (λ q j. at q j))) (holding_first y);
      })
    where
      at : (q : ℕ) → joins c (run_in w).waits b q ≡ true → 1 ≤ ends c (fields_in w) (to_go c (fields_in w) (first c (fields_in w) b)) q
      at q j =
          let s = (right_storable w y.right).sound in
          let i : bit (joins c (waits_of (fields_in w)) b q) ≡ 1 = ap bit (sym (by_table q) ∙ j) in
          omega (
            arith,
            first_ends c (ready_right y) (ready_process y own) q
                (joins_low c (run_in w).waits s b q j, omega (arith, joins_high c (run_in w).waits s b q j, ready_n y, y.n_is)),
          )

  pub sending_last : {v : List ℤ} {k : ℕ} → Sending w v c b k → k ≡ 0 → v ≡ keeping w (spread c (run_in w) b)
  unfolding sum_over
  sending_last {v} {k} h e =
      h.holds.is
      ∙ ap (keeping w)
      (but_none c (run_in w) b _ (right_storable w y.right).sound
      (λ q. ap {A = List ℕ} (λ ks. ends c (fields_in w) ks q) (left_end (ready_right y) h.here e)))

  module _ (room : Room w z.n c b) {v : List ℤ} {k : ℕ} (h : Sending w v c b k) (going : k ≡ 0 → ⊥) where
    ahead : Ahead c (fields_in w) b k
    ahead = left_on (ready_right y) k h.here going

    -- the far end of the arc
    abbrev to : ℕ
    to = far c (arc_at (fields_in w) k)

    -- the arcs left, before it and after
    abbrev before : ℕ → ℕ
    before q = ends c (fields_in w) (to_go c (fields_in w) k) q

    abbrev after : ℕ → ℕ
    after q = ends c (fields_in w) (to_go c (fields_in w) (next c (arc_at (fields_in w) k))) q

    abbrev sent : Run
    sent = spread_but c (run_in w) b (λ q. before q)

    goes : joins c (run_in w).waits b to ≡ true
    goes = by_table to ∙ ahead.joined

    link_is : sent.link b to ≡ (run_in w).link b to
    link_is = but_link c (run_in w) b (λ q. before q) to (λ e. omega (arith, ahead.count to, bit_same to to refl))

    few : length (sent.link b to) ≤ link_slots - 1
    few = rw link_is (room to ahead.process.0 (ahead_far y ahead).1 goes)

    waits_are : sent.waits ≡ (run_in w).waits
    unfolding spread_but
    waits_are = refl

    near : neighbours sent.waits b to ≡ true
    near = rw waits_are (joins_neighbours c (run_in w).waits b to goes)

    pub sending_arc : {x : Arc} → x ≡ arc_at (fields_in v) k → x ≡ arc_at (fields_in w) k
    sending_arc e = e ∙ ap (λ (t : Fields). arc_at t k) (ap fields_in h.holds.is ∙ keeping_fields w y.right sent h.holds.fit)

    -- where the link to the far end stands, by b's row
    pub sending_link : {row : List ℕ} → Row (fields_in w) b row → {q : ℕ} → q ≡ far c (arc_at (fields_in w) k)
        → {j : ℕ} → j ≡ get_or row q 0 → {i : ℕ} → i ≡ place_in j → Linked (fields_in v) b q i
    sending_link r e p f =
        let t = ap fields_in h.holds.is ∙ keeping_fields w y.right sent h.holds.fit in
        let u = (ahead_far y ahead).1 in
        let s = ready_sizes y in
        rw (e, t)
        (row_linked (fields_in w) r (omega arith) (joins_neighbours c (waits_of (fields_in w)) b to ahead.joined) (rw e at p) f)

    pub sending_room : {x : Message} → x ≡ probe_of c → {q : ℕ} → q ≡ far c (arc_at (fields_in w) k) → (count_small x ≡ true) × HasSlot (run_in v) b q
    sending_room p e = rw (e, p, holding_run y h.holds) (probe_small c, few)

    -- the push as a change of any run
    abbrev pushed : Run → Run
    pushed r = put_link r b to (r.link b to ++ (probe_of c ∷ []))

    pushed_is : pushed sent ≡ spread_but c (run_in w) b (λ q. after q)
    pushed_is =
        ap (λ (ms : List Message). put_link sent b to (ms ++ (probe_of c ∷ []))) link_is
        ∙ sym (but_sent c (run_in w) b (λ q. before q) (λ q. after q) to goes ahead.alone (λ q d. omega (arith, ahead.count q, bit_apart q to d)))

    pub sending_on : {x : Message} → x ≡ probe_of c → {q : ℕ} → q ≡ far c (arc_at (fields_in w) k) → {v' : List ℤ}
        → v' ≡ keeping v (put_link (run_in v) b q ((run_in v).link b q ++ (x ∷ []))) → {k' : ℕ} → k' ≡ next c (arc_at (fields_in w) k) → Sending w v' c b k'
    sending_on p e {v'} g f =
        let g' : v' ≡ keeping v (pushed (run_in v)) = rw (p, e) at g in
        let fit : Storable (fields_in w) (pushed sent) = storable_push (fields_in w) sent h.holds.fit b to (probe_of c) near (probe_small c) few in
        rw f (record { here = ahead.onward; holds = subst (λ (r : Run). Holding w v' r) pushed_is (holding_next y h.holds pushed g' fit) })

    pub sending_less : {k' : ℕ} → k' ≡ next c (arc_at (fields_in w) k) → length (to_go c (fields_in w) k') < length (to_go c (fields_in w) k)
    sending_less f = rw f (omega (arith, ahead.less))

    pub sending_at : (1 ≤ k) × (k ≤ z.m)
    sending_at = ahead_arc y ahead
