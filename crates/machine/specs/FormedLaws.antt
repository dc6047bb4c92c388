-- A well-formed run, part by part, and that a delivery keeps it so.
--   well_formed_P        == well_formed is exactly these parts
--   link_right_P         == a link is right: at most so many messages, each of them right
--   all_right_append, all_right_tail   == the messages of two lists one after the other
--   accepts_P           == accepts is exactly its parts
--   taken_empty         == an empty link is empty after a message was taken off another
--   formed_after        == an accepted delivery keeps a run well formed, if the receiver's new record and what it sends are right
-- Assumes nothing.
use Prim.Native.Nat.{ℕ, suc, ◌+◌, ◌≤◌}
use Rattle.std.proofs.Math.Bool.{Bool, true, false}
use Rattle.std.specs.Prelude.{◌&&◌, ◌||◌, ◌≡◌, refl, ◌↔◌}
use Rattle.std.proofs.lemmas.Bool.{false≢true}
use mathlib.Core.List.{List, [], ◌∷◌, ◌++◌}
use Rattle.std.proofs.Common.{sym, ap, arith}
use borrow.Author.Tests.{leb-true, le-leb, eqb-true}
use Rattle.std.proofs.Math.Dec.{eqb, leb}
use Rattle.std.proofs.Math.ListN.{length}
use Rattle.base.specs.Choice.{choose}
use Rattle.base.specs.ChoiceLaws.{and_left, and_right, and_both, and_three, and_four, same?, tested}
use Rattle.base.specs.Checks.{Same, same, apart, Tested, passed, failed}
use Rattle.base.specs.Sums.{all_to}
use Rattle.base.specs.SumLaws.{all_to_at, all_to_of}
use Rattle.tables.specs.Table.{IsProcess, is_process}
use Rattle.tables.specs.TableLaws.{is_process_P}
use Rattle.tables.specs.Waits.{neighbours}
use Rattle.machine.specs.Formed.{Formed, Acceptable}
use Rattle.machine.specs.Among.{Among}
use Rattle.machine.specs.AmongLaws.{among_length, among_right}
use Rattle.machine.specs.Machine.{Machine, Rules, all_right, link_right, well_formed, taken, left_by, after, accepts}

-- ---- the messages of a list

module _ {M : Type 0} (p : M → Bool) where
  pub all_right_append : (xs ys : List M) → all_right p xs ≡ true → all_right p ys ≡ true → all_right p (xs ++ ys) ≡ true
  unfolding all_right
  all_right_append [] ys e f = f
  all_right_append (m ∷ ms) ys e f =
      and_both _ _ (and_left (p m) (all_right p ms) e) (all_right_append ms ys (and_right (p m) (all_right p ms) e) f)

  pub all_right_tail : (xs ys : List M) → all_right p (xs ++ ys) ≡ true → all_right p ys ≡ true
  unfolding all_right
  all_right_tail [] ys e = e
  all_right_tail (m ∷ ms) ys e = all_right_tail ms ys (and_right (p m) (all_right p (ms ++ ys)) e)

-- ---- the parts

some_not_none : {M : Type 0} {m : M} {ms : List M} → m ∷ ms ≡ [] → ⊥
some_not_none e = let z : ◌≡◌ {A = ℕ} 0 1 = cc in omega arith

-- between neighbours, or nothing waits
joined_P : {M : Type 0} (ms : List M) (j : Bool) → ((j || eqb (length ms) 0) ≡ true) ↔ (j ≡ false → ms ≡ [])
joined_P ms true = (λ _ f. absurd (false≢true (sym f)), λ _. refl)
joined_P [] false = (λ _ _. refl, λ _. refl)
joined_P (m ∷ ms) false = (λ e. absurd (omega (arith, eqb-true (suc (length ms)) 0 e)), λ h. absurd (some_not_none (h refl)))

pub link_right_P :
    {P M : Type 0} (ρ : Rules P M) (ms : List M) →
    (link_right ρ ms ≡ true) ↔ ((length ms ≤ ρ.capacity) × (all_right ρ.message_right ms ≡ true))
unfolding link_right
link_right_P ρ ms =
    let short : Bool = leb (length ms) ρ.capacity in
    let right : Bool = all_right ρ.message_right ms in (
      λ e. (leb-true (length ms) ρ.capacity (and_left short right e), and_right short right e),
      λ h. and_both short right (le-leb (length ms) ρ.capacity h.0) h.1,
    )

module _ {P M : Type 0} (ρ : Rules P M) (r : Machine P M) where
  -- the link from a to b, as well_formed tests it
  abbrev pair_right : ℕ → ℕ → Bool
  pair_right a b = (neighbours r.waits a b || eqb (length (r.link a b)) 0) && link_right ρ (r.link a b)

  link_parts :
      all_to r.waits.n (λ a. all_to r.waits.n (λ b. pair_right a b)) ≡ true → (a b : ℕ) → IsProcess r.waits.n a → IsProcess r.waits.n b →
      (neighbours r.waits a b ≡ false → r.link a b ≡ []) × (length (r.link a b) ≤ ρ.capacity) × (all_right ρ.message_right (r.link a b) ≡ true)
  link_parts e a b pa pb =
      let row = all_to_at r.waits.n (λ a. all_to r.waits.n (λ b. pair_right a b)) e a pa.0 pa.1 in
      let one : pair_right a b ≡ true = all_to_at r.waits.n (λ b. pair_right a b) row b pb.0 pb.1 in
      let h = (link_right_P ρ (r.link a b)).0 (and_right (neighbours r.waits a b || eqb (length (r.link a b)) 0) (link_right ρ (r.link a b)) one) in (
        (joined_P (r.link a b) (neighbours r.waits a b)).0
            (and_left (neighbours r.waits a b || eqb (length (r.link a b)) 0) (link_right ρ (r.link a b)) one),
        h.0,
        h.1,
      )

  well_formed_parts : well_formed ρ r ≡ true → Formed ρ r
  unfolding well_formed
  well_formed_parts e =
      let records : ℕ → Bool = λ p. ρ.record_right r.waits p (r.process p) in
      let links : Bool = all_to r.waits.n (λ a. all_to r.waits.n (λ b. pair_right a b)) in
      let heads : Bool = ρ.room r && is_process r.waits.n r.start && ρ.edition_right r.edition && leb r.count ρ.most in
      let most = and_three heads (all_to r.waits.n records) links e in
      let head = and_four (ρ.room r) (is_process r.waits.n r.start) (ρ.edition_right r.edition) (leb r.count ρ.most) most.0 in
      record {
        room = head.0;
        start_is_in = (is_process_P r.waits.n r.start).0 head.1;
        edition = head.2;
        count = leb-true r.count ρ.most head.3;
        records = λ p i. all_to_at r.waits.n records most.1 p i.0 i.1;
        short = λ a b pa pb. (link_parts most.2 a b pa pb).1;
        joined = λ a b pa pb. (link_parts most.2 a b pa pb).0;
        messages = λ a b pa pb. (link_parts most.2 a b pa pb).2;
      }

  formed_well_formed : Formed ρ r → well_formed ρ r ≡ true
  unfolding well_formed
  formed_well_formed f =
      and_both _ _ (and_both _ _ (and_both _ _ (and_both _ _ (and_both _ _
      f.room
      ((is_process_P r.waits.n r.start).1 f.start_is_in))
      f.edition)
      (le-leb r.count ρ.most f.count))
      (all_to_of r.waits.n _ (λ p l u. f.records p (l, u))))
      (all_to_of r.waits.n _ (λ a la ua. all_to_of r.waits.n _ (λ b lb ub. right a b (la, ua) (lb, ub))))
    where
      right : (a b : ℕ) → IsProcess r.waits.n a → IsProcess r.waits.n b → pair_right a b ≡ true
      right a b pa pb =
          and_both _ _ ((joined_P (r.link a b) (neighbours r.waits a b)).1 (f.joined a b pa pb))
          ((link_right_P ρ (r.link a b)).1 (f.short a b pa pb, f.messages a b pa pb))

  pub well_formed_P : (well_formed ρ r ≡ true) ↔ Formed ρ r
  well_formed_P = (well_formed_parts, formed_well_formed)

-- ---- an accepted delivery

-- what is empty stays so: the picked link is not
pub taken_empty : {P M : Type 0} (r : Machine P M) (a b : ℕ) (m : M) (rest : List M) → Among m rest (r.link a b) → (x y : ℕ) → r.link x y ≡ []
    → taken r a b rest x y ≡ []
unfolding taken
taken_empty r a b m rest l x y n = at (tested (eqb x a && eqb y b))
  where
    at : Tested (eqb x a && eqb y b) → choose (eqb x a && eqb y b) rest (r.link x y) ≡ []
    at (passed e) =
        let p : x ≡ a = eqb-true x a (and_left (eqb x a) (eqb y b) e) in
        let q : y ≡ b = eqb-true y b (and_right (eqb x a) (eqb y b) e) in
        let none : r.link a b ≡ [] = rw (p, q) at n in
        absurd (omega (arith, among_length l, ap length none))
    at (failed e) = rw e n

module _ {P M : Type 0} (ρ : Rules P M) (r : Machine P M) (a b : ℕ) (m : M) (rest : List M) where
  accepts_parts : accepts ρ r a b m rest ≡ true → Acceptable ρ r a b m rest
  unfolding accepts
  accepts_parts e =
      let shorts : ℕ → Bool = λ q. leb (length ((after ρ r a b m rest).link b q)) ρ.capacity in
      let fits : Bool = ρ.fits r.waits r.start a b m (r.process b) in
      let parts = and_four (ρ.room (after ρ r a b m rest)) (leb (r.count + 1) ρ.most) fits (all_to r.waits.n shorts) e in
      record {
        room = parts.0;
        count = leb-true (r.count + 1) ρ.most parts.1;
        fits = parts.2;
        short = λ q i. leb-true (length ((after ρ r a b m rest).link b q)) ρ.capacity (all_to_at r.waits.n shorts parts.3 q i.0 i.1);
      }

  accepted_accepts : Acceptable ρ r a b m rest → accepts ρ r a b m rest ≡ true
  unfolding accepts
  accepted_accepts h =
      and_both _ _ (and_both _ _ (and_both _ _
      h.room
      (le-leb (r.count + 1) ρ.most h.count))
      h.fits)
      (all_to_of r.waits.n _ (λ q l u. le-leb _ ρ.capacity (h.short q (l, u))))

  pub accepts_P : (accepts ρ r a b m rest ≡ true) ↔ Acceptable ρ r a b m rest
  accepts_P = (accepts_parts, accepted_accepts)

module _ {P M : Type 0} (ρ : Rules P M) (r : Machine P M) (f : Formed ρ r) (a b : ℕ) (pa : IsProcess r.waits.n a)
    (pb : IsProcess r.waits.n b) (m : M) (rest : List M) (l : Among m rest (r.link a b)) where
  -- what stays of the picked link is right, as it was
  rest_short : length rest ≤ ρ.capacity
  rest_short = omega (arith, f.short a b pa pb, among_length l)

  rest_right : all_right ρ.message_right rest ≡ true
  rest_right = (among_right ρ.message_right l (f.messages a b pa pb)).1

  taken_short : (x y : ℕ) → IsProcess r.waits.n x → IsProcess r.waits.n y → length (taken r a b rest x y) ≤ ρ.capacity
  unfolding taken
  taken_short x y px py = at (eqb x a && eqb y b)
    where
      at : (c : Bool) → length (choose c rest (r.link x y)) ≤ ρ.capacity
      at true = rest_short
      at false = f.short x y px py

  taken_right : (x y : ℕ) → IsProcess r.waits.n x → IsProcess r.waits.n y → all_right ρ.message_right (taken r a b rest x y) ≡ true
  unfolding taken
  taken_right x y px py = at (eqb x a && eqb y b)
    where
      at : (c : Bool) → all_right ρ.message_right (choose c rest (r.link x y)) ≡ true
      at true = rest_right
      at false = f.messages x y px py

  pub formed_after :
      accepts ρ r a b m rest ≡ true → ρ.record_right r.waits b (left_by ρ r a b m).process ≡ true →
      ((y : ℕ) → IsProcess r.waits.n y → neighbours r.waits b y ≡ false → (left_by ρ r a b m).sent y ≡ []) →
      ((y : ℕ) → IsProcess r.waits.n y → all_right ρ.message_right ((left_by ρ r a b m).sent y) ≡ true) → Formed ρ (after ρ r a b m rest)
  unfolding after
  formed_after ok new only sent =
      let h : Acceptable ρ r a b m rest = (accepts_P ρ r a b m rest).0 ok in
      record {
        room = h.room;
        start_is_in = f.start_is_in;
        edition = f.edition;
        count = h.count;
        records = λ p i. own p i (same? p b);
        short = λ x y px py. shorts h x y px py (same? x b);
        joined = λ x y px py n. none x y px py n (same? x b);
        messages = λ x y px py. right x y px py (same? x b);
      }
    where
      own : (p : ℕ) → IsProcess r.waits.n p → Same p b → ρ.record_right r.waits p (choose (eqb p b) (left_by ρ r a b m).process (r.process p)) ≡ true
      own p i (same e g) = rw (g, e) new
      own p i (apart e g) = rw g (f.records p i)

      shorts : Acceptable ρ r a b m rest → (x y : ℕ) → IsProcess r.waits.n x → IsProcess r.waits.n y → Same x b
          → length ((after ρ r a b m rest).link x y) ≤ ρ.capacity
      shorts h x y px py (same e g) = rw e (h.short y py)
      shorts h x y px py (apart e g) = rw g (taken_short x y px py)

      none : (x y : ℕ) → IsProcess r.waits.n x → IsProcess r.waits.n y → neighbours r.waits x y ≡ false → Same x b
          → (after ρ r a b m rest).link x y ≡ []
      none x y px py n (same e g) = rw (g, taken_empty r a b m rest l x y (f.joined x y px py n), only y py (rw e at n))
      none x y px py n (apart e g) = rw g (taken_empty r a b m rest l x y (f.joined x y px py n))

      right : (x y : ℕ) → IsProcess r.waits.n x → IsProcess r.waits.n y → Same x b → all_right ρ.message_right ((after ρ r a b m rest).link x y) ≡ true
      right x y px py (same e g) =
          rw g (all_right_append ρ.message_right (taken r a b rest x y) ((left_by ρ r a b m).sent y) (taken_right x y px py) (sent y py))
      right x y px py (apart e g) = rw g (taken_right x y px py)
