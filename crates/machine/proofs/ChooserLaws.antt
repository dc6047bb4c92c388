-- The orders of running on: that the list of all links with a message is that, in its order; what the first of it is; and that each order
-- which takes a link of such a list names a link with a message if there is one.
--   waiting_some, waiting_none, none_waits   == whether a message waits, by the number of messages
--   link_if_length, link_if_first, link_if_named   == a link by its messages, and what its place in a list says
--   Standing r l a b       == where the link from a to b stands in the list l
--   AllLinks r l           == the list l holds links of r with a message alone, and leaves none out
--   by_senders, by-receivers   == all links, by sender and then receiver, and by receiver and then sender
--   links_of_all            == the list of 02, N13, holds exactly the links with a message
--   links_of_order          == .. "lowest receiver first and then lowest sender" (02, N11)
--   all_links_choose        == an order that takes a link of such a list names a link with a message if there is one
--   lowest_first           == every link with a message has a higher receiver than the first, or the same receiver and no lower sender
--   fixed_order_finds, fixed_order_chooses, shuffled_order_chooses   == so do the fixed order and the shuffled one
--   drawn_zero, shuffled_zero   == from state 0 the shuffled order is the fixed one
-- Assumes nothing.
use Rattle.std.specs.Prelude.{ℕ, zero, suc, ◌+◌, ◌-◌, ◌%◌, ◌≤◌, ◌<◌, true, false, List, [], ◌∷◌, ◌≡◌, refl, ◌⊎◌}
use Rattle.std.proofs.lemmas.Bool.{false≢true}
use Rattle.std.proofs.Common.{sym, ◌∙◌, subst, inl, inr, arith, mod-lt}
use Rattle.std.proofs.Math.Path.{ap}
use Rattle.std.proofs.Math.Nat.{zero-mod}
use Rattle.std.proofs.Math.ListN.{length}
use Rattle.base.specs.Choice.{bit}
use Rattle.base.specs.ChoiceLaws.{tested, same?, below?}
use Rattle.base.specs.Checks.{Tested, passed, failed, Same, same, apart, Below, below, beyond}
use Rattle.shuffling.specs.Shuffle.{moved_on}
use Rattle.shuffling.specs.ShuffleLaws.{moved_on_zero}
use Rattle.tables.specs.Table.{IsProcess}
use Rattle.machine.specs.Machine.{Machine, Rules, over}
use Rattle.machine.specs.Made.{Finds, Chooses}
use Rattle.machine.specs.Calls.{Selection, nobody, pair, waiting, in_row, link_at, link_if, links_to, links_of, lowest, fixed_order, drawn, shuffled_order}
use Rattle.machine.specs.Calls.{RanOn, go_on, deliver_on, run_from}
use Rattle.machine.specs.LinkListLaws.{no_pair, link_at_end, link_at_within, in_row_within, in_row_at, Named, in_row_named, named_order}
use Rattle.machine.specs.RunningLaws.{from_over, from_more}

-- ---- one link

module _ {M : Type 0} where
  pub waiting_some : (ms : List M) → (length ms ≡ 0 → ⊥) → waiting ms ≡ true
  waiting_some [] h = absurd (h refl)
  waiting_some (m ∷ ms) h = refl

  pub waiting_none : (ms : List M) → length ms ≡ 0 → waiting ms ≡ false
  waiting_none [] h = refl
  waiting_none (m ∷ ms) h = absurd (omega arith)

  pub none_waits : (ms : List M) → waiting ms ≡ false → ms ≡ []
  none_waits [] e = refl
  none_waits (m ∷ ms) e = absurd (false≢true (sym e))

module _ {P M : Type 0} (r : Machine P M) (a b : ℕ) where
  pub link_if_length : length (link_if r a b) ≡ bit (waiting (r.link a b))
  unfolding link_if
  link_if_length = at (tested (waiting (r.link a b)))
    where
      at : Tested (waiting (r.link a b)) → length (link_if r a b) ≡ bit (waiting (r.link a b))
      at (passed e) = rw e
      at (failed e) = rw e

  pub link_if_first : waiting (r.link a b) ≡ true → link_at 0 (link_if r a b) ≡ pair a b
  unfolding link_if link_at
  link_if_first e = rw e

  pub link_if_named : (k : ℕ) → k < length (link_if r a b) → (k ≡ 0) × (waiting (r.link a b) ≡ true) × (link_at k (link_if r a b) ≡ pair a b)
  link_if_named k u = at (tested (waiting (r.link a b)))
    where
      at : Tested (waiting (r.link a b)) → (k ≡ 0) × (waiting (r.link a b) ≡ true) × (link_at k (link_if r a b) ≡ pair a b)
      at (passed e) =
          let z : k ≡ 0 = omega (arith, link_if_length, ap bit e) in
          (z, e, ap (λ (i : ℕ). link_at i (link_if r a b)) z ∙ link_if_first e)
      at (failed e) = absurd (omega (arith, link_if_length, ap bit e))

-- ---- all links in two rows, one within the other

pub record Standing (l : List (ℕ × ℕ)) (a b : ℕ) : Type 0 where
  pub k : ℕ
  pub within : k < length l
  pub is : link_at k l ≡ pair a b

-- each place names a link of two processes with a message, and no such link is left out
pub record AllLinks {P M : Type 0} (r : Machine P M) (l : List (ℕ × ℕ)) : Type 0 where
  pub names : (k : ℕ) {a b : ℕ} → link_at k l ≡ pair a b → IsProcess r.waits.n a × IsProcess r.waits.n b × (waiting (r.link a b) ≡ true)
  pub all : (a b : ℕ) → IsProcess r.waits.n a → IsProcess r.waits.n b → waiting (r.link a b) ≡ true → Standing l a b

pair_ends : {a b x y : ℕ} → pair a b ≡ pair x y → (a ≡ x) × (b ≡ y)
pair_ends e = (cc, cc)

module _ {P M : Type 0} (r : Machine P M) where
  -- the place of a pair in two rows
  module _ (n : ℕ) (c : ℕ → ℕ → List (ℕ × ℕ)) where
    abbrev rows : List (ℕ × ℕ)
    rows = in_row n (λ x. in_row n (c x))

    -- the place k is the place j of the list c x y
    record Nested (k : ℕ) : Type 0 where
      outer : Named (λ x. in_row n (c x)) n k
      inner : Named (c outer.x) n outer.j

    nested : (k : ℕ) → k < length rows → Nested k
    nested k u =
        let o = in_row_named (λ x. in_row n (c x)) n k u in
        record { outer = o; inner = in_row_named (c o.x) n o.j o.within }

    nested_at : (x y : ℕ) → IsProcess n x → IsProcess n y → {a b : ℕ} → 0 < length (c x y) → link_at 0 (c x y) ≡ pair a b → Standing rows a b
    nested_at x y p q u e =
        let row : ℕ = length (in_row (y - 1) (c x)) + 0 in
        let inside : row < length (in_row n (c x)) = in_row_within (c x) y n 0 q u in
        record {
          k = length (in_row (x - 1) (λ i. in_row n (c i))) + row;
          within = in_row_within (λ i. in_row n (c i)) x n row p inside;
          is = in_row_at (λ i. in_row n (c i)) x n row p inside ∙ in_row_at (c x) y n 0 q u ∙ e;
        }

    -- what stands at a place
    nested_is : (k : ℕ) (h : Nested k) → link_at k rows ≡ link_at h.inner.j (c h.outer.x h.inner.x)
    nested_is k h = h.outer.is ∙ h.inner.is

    -- in the same list of the outer row
    inner_order : {x y i j : ℕ} → x ≡ y → (h : Named (c x) n i) (g : Named (c y) n j) → i < j → (h.x < g.x) ⊎ ((h.x ≡ g.x) × (h.j < g.j))
    inner_order {x} {y} {i} {j} e h =
        subst (λ (z : ℕ). (g : Named (c z) n j) → i < j → (h.x < g.x) ⊎ ((h.x ≡ g.x) × (h.j < g.j))) e (λ g u. named_order (c x) h g u)

    -- where each list holds one link at most, the lower place is in an outer list before, or in the same before an inner one
    nested_order : ((x y k : ℕ) → k < length (c x y) → k ≡ 0) → {k m : ℕ} (h : Nested k) (g : Nested m) → k < m
        → (h.outer.x < g.outer.x) ⊎ ((h.outer.x ≡ g.outer.x) × (h.inner.x < g.inner.x))
    nested_order single h g u = at (named_order (λ x. in_row n (c x)) h.outer g.outer u)
      where
        within : h.outer.x ≡ g.outer.x → (h.inner.x < g.inner.x) ⊎ ((h.inner.x ≡ g.inner.x) × (h.inner.j < g.inner.j))
            → (h.outer.x < g.outer.x) ⊎ ((h.outer.x ≡ g.outer.x) × (h.inner.x < g.inner.x))
        within e (inl v) = inr (e, v)
        within e (inr v) = absurd (omega (arith, v.1, single g.outer.x g.inner.x g.inner.j g.inner.within))

        at : (h.outer.x < g.outer.x) ⊎ ((h.outer.x ≡ g.outer.x) × (h.outer.j < g.outer.j))
            → (h.outer.x < g.outer.x) ⊎ ((h.outer.x ≡ g.outer.x) × (h.inner.x < g.inner.x))
        at (inl v) = inl v
        at (inr v) = within v.0 (inner_order v.0 h.inner g.inner v.1)

  -- a place that names a link is before the end
  named_within : (k : ℕ) (l : List (ℕ × ℕ)) {a b : ℕ} → link_at k l ≡ pair a b → k < length l
  named_within k l {a} {b} e = at (below? k (length l))
    where
      at : Below k (length l) → k < length l
      at (below u _) = u
      at (beyond u _) = absurd (no_pair (sym e ∙ link_at_end k l u))

  named_as : {a b x y : ℕ} → a ≡ x → b ≡ y → IsProcess r.waits.n x × IsProcess r.waits.n y × (waiting (r.link x y) ≡ true)
      → IsProcess r.waits.n a × IsProcess r.waits.n b × (waiting (r.link a b) ≡ true)
  named_as e f h = rw (e, f) h

  -- lowest sender first and then lowest receiver
  pub by_senders : AllLinks r (in_row r.waits.n (λ a. in_row r.waits.n (λ b. link_if r a b)))
  by_senders =
      record {
        names = λ k e.
            let h = nested r.waits.n (link_if r) k (named_within k _ e) in
            let g = link_if_named r h.outer.x h.inner.x h.inner.j h.inner.within in
            let f = pair_ends (sym e ∙ nested_is r.waits.n (link_if r) k h ∙ g.2) in
            named_as f.0 f.1 (h.outer.x_in, h.inner.x_in, g.1);
        all = λ a b p q w. nested_at r.waits.n (link_if r) a b p q (omega (arith, link_if_length r a b, ap bit w)) (link_if_first r a b w);
      }

  -- the link at a place of the list, by its receiver and sender
  module _ (k : ℕ) {a b : ℕ} (e : link_at k (links_of r) ≡ pair a b) where
    place : Nested r.waits.n (λ y x. link_if r x y) k
    unfolding links_of links_to
    place = nested r.waits.n (λ y x. link_if r x y) k (named_within k (links_of r) e)

    ends : (a ≡ place.inner.x) × (b ≡ place.outer.x) × (waiting (r.link place.inner.x place.outer.x) ≡ true)
    unfolding links_of links_to
    ends =
        let g = link_if_named r place.inner.x place.outer.x place.inner.j place.inner.within in
        let f = pair_ends (sym e ∙ nested_is r.waits.n (λ y x. link_if r x y) k place ∙ g.2) in
        (f.0, f.1, g.1)

  -- lowest receiver first and then lowest sender
  pub links_of_all : AllLinks r (links_of r)
  unfolding links_of links_to
  links_of_all =
      record {
        names = λ k e. let f = ends k e in named_as f.0 f.1 ((place k e).inner.x_in, (place k e).outer.x_in, f.2);
        all = λ a b p q w.
            nested_at r.waits.n (λ y x. link_if r x y) b a q p (omega (arith, link_if_length r a b, ap bit w)) (link_if_first r a b w);
      }

  -- "lowest receiver first and then lowest sender" (02, N11)
  pub links_of_order : (k m : ℕ) {a b x y : ℕ} → k < m → link_at k (links_of r) ≡ pair a b → link_at m (links_of r) ≡ pair x y
      → (b < y) ⊎ ((b ≡ y) × (a < x))
  links_of_order k m {a} {b} {x} {y} u e f =
      at (nested_order r.waits.n (λ y x. link_if r x y) (λ y x j v. (link_if_named r x y j v).0) (place k e) (place m f) u)
    where
      at : ((place k e).outer.x < (place m f).outer.x) ⊎ (((place k e).outer.x ≡ (place m f).outer.x) × ((place k e).inner.x < (place m f).inner.x))
          → (b < y) ⊎ ((b ≡ y) × (a < x))
      at (inl v) = inl (omega (arith, (ends k e).1, (ends m f).1))
      at (inr v) = inr (omega (arith, v, (ends k e).1, (ends m f).1), omega (arith, v, (ends k e).0, (ends m f).0))

-- an order that takes a link of such a list, whichever
pub all_links_choose : {P M : Type 0} (l : Machine P M → List (ℕ × ℕ)) (place : ℕ → Machine P M → ℕ) (step : ℕ → ℕ)
    → ((r : Machine P M) → AllLinks r (l r)) → ((s : ℕ) (r : Machine P M) → 0 < length (l r) → place s r < length (l r))
    → Chooses {P = P} {M = M} (λ s r. (link_at (place s r) (l r), step s))
all_links_choose {P} {M} l place step h inside =
    record {
      finds = λ s r a b e. let i = (h r).names (place s r) e in (i.0, i.1);
      waits = λ s r a b e. ((h r).names (place s r) e).2;
      nothing = λ s r e a b p q. none s r e a b p q (tested (waiting (r.link a b)));
    }
  where
    none : (s : ℕ) (r : Machine P M) → link_at (place s r) (l r) ≡ nobody → (a b : ℕ) → IsProcess r.waits.n a → IsProcess r.waits.n b
        → Tested (waiting (r.link a b)) → r.link a b ≡ []
    none s r e a b p q (failed w) = none_waits (r.link a b) w
    none s r e a b p q (passed w) =
        let i = (h r).all a b p q w in
        absurd (link_at_within (place s r) (l r) (inside s r (omega (arith, i.within))) e)

-- ---- the fixed order

module _ {P M : Type 0} (r : Machine P M) {a b : ℕ} (e : lowest r ≡ pair a b) where
  pub lowest_first : (x y : ℕ) → IsProcess r.waits.n x → IsProcess r.waits.n y → waiting (r.link x y) ≡ true → (b < y) ⊎ ((y ≡ b) × (a ≤ x))
  unfolding lowest
  lowest_first x y p q w = at (same? i.k 0)
    where
      i : Standing (links_of r) x y
      i = (links_of_all r).all x y p q w

      after : (b < y) ⊎ ((b ≡ y) × (a < x)) → (b < y) ⊎ ((y ≡ b) × (a ≤ x))
      after (inl u) = inl u
      after (inr u) = inr (sym u.0, omega (arith, u))

      at : Same i.k 0 → (b < y) ⊎ ((y ≡ b) × (a ≤ x))
      at (same z _) = let f = pair_ends (sym e ∙ ap (λ (k : ℕ). link_at k (links_of r)) (sym z) ∙ i.is) in inr (sym f.1, omega (arith, f.0))
      at (apart z _) = after (links_of_order r 0 i.k (omega arith) e i.is)

pub fixed_order_chooses : {P M : Type 0} → Chooses {P = P} {M = M} fixed_order
unfolding lowest
fixed_order_chooses = all_links_choose links_of (λ s r. 0) (λ s. s) links_of_all (λ s r u. u)

pub fixed_order_finds : {P M : Type 0} → Finds {P = P} {M = M} fixed_order
fixed_order_finds = fixed_order_chooses.finds

-- ---- the shuffled order

pub shuffled_order_chooses : {P M : Type 0} → Chooses {P = P} {M = M} shuffled_order
unfolding drawn
shuffled_order_chooses =
    all_links_choose links_of (λ s r. moved_on s % length (links_of r)) moved_on links_of_all (λ s r u. mod-lt (moved_on s) u)

pub drawn_zero : {P M : Type 0} (r : Machine P M) → drawn 0 r ≡ lowest r
unfolding drawn lowest
drawn_zero r = ap (λ (k : ℕ). link_at k (links_of r)) (zero-mod (length (links_of r)))

-- "without one it is what it was": the fixed order is the shuffled one from state 0, which stays 0
pub shuffled_zero : {P M : Type 0} (ρ : Rules P M) (k made : ℕ) (r : Machine P M)
    → run_from ρ shuffled_order k made 0 r ≡ run_from ρ fixed_order k made 0 r
unfolding run_from
shuffled_zero ρ zero made r = refl
shuffled_zero {P} {M} ρ (suc k) made r = at (tested (over ρ r)) (λ q. shuffled_zero ρ k (suc made) q)
  where
    at : Tested (over ρ r) → ((q : Machine P M) → run_from ρ shuffled_order k (suc made) 0 q ≡ run_from ρ fixed_order k (suc made) 0 q)
        → run_from ρ shuffled_order (suc k) made 0 r ≡ run_from ρ fixed_order (suc k) made 0 r
    at (passed o) go = from_over ρ shuffled_order 0 r (suc k) made o ∙ sym (from_over ρ fixed_order 0 r (suc k) made o)
    at (failed o) go =
        let first : ℕ → RanOn P M = λ s. go_on made (deliver_on ρ r (drawn s r)) (λ q. run_from ρ shuffled_order k (suc made) s q) in
        from_more ρ shuffled_order 0 r k made o ∙ ap first moved_on_zero
        ∙ ap (λ (c : Selection). go_on made (deliver_on ρ r c) (λ q. run_from ρ shuffled_order k (suc made) 0 q)) (drawn_zero r)
        ∙ ap (λ (rest : Machine P M → RanOn P M). go_on made (deliver_on ρ r (lowest r)) rest) (λ i q. go q i)
        ∙ sym (from_more ρ fixed_order 0 r k made o)
