-- Reading by tests says what the layout says: the number is 0 exactly if the layout is met, and else the number of the first row met.
--   sizes_right_P     == check 2 finds nothing exactly if N and M are in range
--   unlike_all, unlike_clash   == check 7 finds nothing where no two arcs agree in both ends, and something where two do
--   fields_number_P   == checks 4 to 7 find nothing exactly if the fields are right
--   accepted_P       == "Reading a table checks 1 to 7 in order": no check finds anything exactly if the bytes meet the layout
--   refused_P        == a number is given exactly if its row is met and no row before it is
-- Assumes nothing.
use Rattle.std.specs.Prelude.{ℕ, zero, suc, ◌-◌, ◌≤◌, ◌<◌, Bool, true, false, not, ◌&&◌, List, [], ◌⊎◌, ◌↔◌, ◌≡◌, refl, eqb, leb, ltb, length}
use Rattle.std.proofs.lemmas.Bool.{false≢true}
use Rattle.std.proofs.Common.{inl, inr, ⊎_elim, sym, ap, ◌∙◌, arith}
use Rattle.std.proofs.Math.Logic.{⊎_map}
use Rattle.base.specs.Choice.{choose}
use Rattle.base.specs.ChoiceLaws.{same?}
use Rattle.base.specs.Checks.{Same, same, apart}
use Rattle.base.specs.Sums.{all_to}
use Rattle.tables.specs.declared.Chain.{Chain}
use Rattle.tables.specs.declared.Chain.TheVariants.{Out, In}
use Rattle.tables.specs.Table.{Fields, field_of, n_of, m_of, table_length, IsProcess, first, arc_at, says_wait, next}
use Rattle.tables.specs.Layout.{IsArc, ChainRight, Sizes, Ends, Alike, Right, MeetsLayout, Faulty, RowOf, Row, NoneBefore}
use Rattle.tables.specs.Reading.{chains_right, sizes_right, ends_right, firsts_right, nexts_right, unlike_before, fields_number, read_number}
use Rattle.tables.specs.TableLaws.{sizes_fit_P, check_process}
use Rattle.tables.specs.Chains.{met, Inside}
use Rattle.tables.specs.ChainTestLaws.{inside_of, right_faulty, chains_right_listed, chains_right_faulty, listed_right}
use Rattle.base.specs.Checks.{Check, holds, fails}
use Rattle.base.specs.CheckLaws.{check_of, check_map, check_le, check_eq, check_not, check_both, check_all}

-- ---- what the checks 4 to 7 say of the fields when they find nothing

abbrev AllEnds : Fields → Type 0
AllEnds t = (k : ℕ) → IsArc t k → Ends t k

record Bounds (t : Fields) : Type 0 where
  firsts : (c : Chain) (p : ℕ) → IsProcess (n_of t) p → first c t p ≤ m_of t
  nexts : (c : Chain) (k : ℕ) → IsArc t k → next c (arc_at t k) ≤ m_of t

abbrev AllChains : Fields → Type 0
AllChains t = (c : Chain) (p : ℕ) → IsProcess (n_of t) p → ChainRight c t p

abbrev AllUnlike : Fields → Type 0
AllUnlike t = (j k : ℕ) → IsArc t j → IsArc t k → Alike t j k → j ≡ k

-- ---- each check, with what it says of the fields

pub sizes_right_P : (t : Fields) → (sizes_right t ≡ true) ↔ Sizes t
unfolding sizes_right
sizes_right_P t = sizes_fit_P (n_of t) (m_of t)

check_sizes : (bs : List ℕ) (t : Fields) → Check (sizes_right t) (Sizes t) (RowOf 2 bs t)
check_sizes bs t = check_of (sizes_right t) (Sizes t) (RowOf 2 bs t) (sizes_right_P t).0 (λ e s. false≢true (sym e ∙ (sizes_right_P t).1 s))

check_long : (bs : List ℕ) (t : Fields) → Check (eqb (length bs) (table_length (n_of t) (m_of t))) (length bs ≡ table_length (n_of t) (m_of t)) (RowOf 3 bs t)
check_long bs t = check_eq (length bs) (table_length (n_of t) (m_of t))

check_end : (t : Fields) (k : ℕ) → Check (ends_right t k) (Ends t k) (Ends t k → ⊥)
unfolding ends_right
check_end t k =
    check_map (λ p. p) (λ r s. ⊎_elim (λ h. h s.0) (λ h. h s.1) r)
    (check_both (check_process (n_of t) (arc_at t k).from) (check_process (n_of t) (arc_at t k).to))

check_ends : (bs : List ℕ) (t : Fields) → Check (all_to (m_of t) (ends_right t)) (AllEnds t) (RowOf 4 bs t)
check_ends bs t = check_all (m_of t) (ends_right t) (Ends t) (λ k. Ends t k → ⊥) (check_end t)

-- a bound for both chains
check_chains : (f : Chain → ℕ) (m : ℕ) → Check (leb (f Out) m && leb (f In) m) ((c : Chain) → f c ≤ m) ((c : Chain) × (m < f c))
check_chains f m = check_map all over (check_both (check_le (f Out) m) (check_le (f In) m))
  where
    all : (f Out ≤ m) × (f In ≤ m) → (c : Chain) → f c ≤ m
    all p Out = p.0
    all p In = p.1

    over : (m < f Out) ⊎ (m < f In) → (c : Chain) × (m < f c)
    over (inl h) = (Out, h)
    over (inr h) = (In, h)

check_first : (t : Fields) (p : ℕ) → Check (firsts_right t p) ((c : Chain) → first c t p ≤ m_of t) ((c : Chain) × (m_of t < first c t p))
unfolding firsts_right
check_first t p = check_chains (λ c. first c t p) (m_of t)

check_next : (t : Fields) (k : ℕ) → Check (nexts_right t k) ((c : Chain) → next c (arc_at t k) ≤ m_of t) ((c : Chain) × (m_of t < next c (arc_at t k)))
unfolding nexts_right
check_next t k = check_chains (λ c. next c (arc_at t k)) (m_of t)

check_bounds : (bs : List ℕ) (t : Fields) → Check (all_to (n_of t) (firsts_right t) && all_to (m_of t) (nexts_right t)) (Bounds t) (RowOf 5 bs t)
check_bounds bs t =
    check_map (λ p. record { firsts = λ c k r. p.0 k r c; nexts = λ c k r. p.1 k r c })
    (⊎_map (λ w. (w.2.0, w.0, w.1, w.2.1)) (λ w. (w.2.0, w.0, w.1, w.2.1)))
    (check_both (check_all (n_of t) (firsts_right t) (λ p. (c : Chain) → first c t p ≤ m_of t) (λ p. (c : Chain) × (m_of t < first c t p)) (check_first t))
    (check_all (m_of t) (nexts_right t) (λ k. (c : Chain) → next c (arc_at t k) ≤ m_of t) (λ k. (c : Chain) × (m_of t < next c (arc_at t k))) (check_next t)))

check_chain : (t : Fields) (c : Chain) → Inside c t
    → Check (chains_right c t) ((p : ℕ) → IsProcess (n_of t) p → ChainRight c t p) ((p : ℕ) × IsProcess (n_of t) p × Faulty c t p)
check_chain t c inside =
    check_of (chains_right c t) _ _ (λ e p r. listed_right c t p (met c t p) (chains_right_listed c t inside e p r)) (chains_right_faulty c t inside)

check_both_chains : (bs : List ℕ) (t : Fields) → ((c : Chain) → Inside c t) → Check (chains_right Out t && chains_right In t) (AllChains t) (RowOf 6 bs t)
check_both_chains bs t inside = check_map all some (check_both (check_chain t Out (inside Out)) (check_chain t In (inside In)))
  where
    all : ((p : ℕ) → IsProcess (n_of t) p → ChainRight Out t p) × ((p : ℕ) → IsProcess (n_of t) p → ChainRight In t p) → AllChains t
    all p Out = p.0
    all p In = p.1

    some : ((p : ℕ) × IsProcess (n_of t) p × Faulty Out t p) ⊎ ((p : ℕ) × IsProcess (n_of t) p × Faulty In t p) → RowOf 6 bs t
    some (inl w) = (Out, w.0, w.1, w.2)
    some (inr w) = (In, w.0, w.1, w.2)

-- arc k against each before it
check_unlike : (t : Fields) (k : ℕ)
    → Check (unlike_before t k) ((j : ℕ) → (1 ≤ j) × (j ≤ k - 1) → Alike t j k → ⊥) ((j : ℕ) × ((1 ≤ j) × (j ≤ k - 1)) × Alike t j k)
unfolding unlike_before
check_unlike t k =
    check_all (k - 1) (λ j. not (says_wait t (arc_at t k).from (arc_at t k).to j)) (λ j. Alike t j k → ⊥)
    (λ j. Alike t j k) (λ j. check_map (λ p a. ⊎_elim (λ h. h a.0) (λ h. h a.1) p) (λ a. a)
    (check_not (check_both (check_eq (arc_at t j).from (arc_at t k).from) (check_eq (arc_at t j).to (arc_at t k).to))))

check_unlikes : (bs : List ℕ) (t : Fields) → Check (all_to (m_of t) (unlike_before t)) (AllUnlike t) (RowOf 7 bs t)
check_unlikes bs t =
    check_map all (λ w. (w.2.0, w.0, (w.2.1.0, omega arith), w.1, w.2.2, λ e. omega arith))
    (check_all (m_of t) (unlike_before t) (λ k. (j : ℕ) → (1 ≤ j) × (j ≤ k - 1) → Alike t j k → ⊥) (λ k. (j : ℕ) × ((1 ≤ j) × (j ≤ k - 1)) × Alike t j k)
    (check_unlike t))
  where
    all : ((k : ℕ) → IsArc t k → (j : ℕ) → (1 ≤ j) × (j ≤ k - 1) → Alike t j k → ⊥) → AllUnlike t
    all h j k rj rk a = at (check_eq j k) (check_le j k)
      where
        at : Check (eqb j k) (j ≡ k) (j ≡ k → ⊥) → Check (leb j k) (j ≤ k) (k < j) → j ≡ k
        at (holds _ e) o = e
        at (fails _ d) (holds _ l) = absurd (h k rk j (rj.0, omega arith) a)
        at (fails _ d) (fails _ l) = absurd (h j rj k (rk.0, omega arith) (sym a.0, sym a.1))

pub unlike_all : (t : Fields) → AllUnlike t → all_to (m_of t) (unlike_before t) ≡ true
unlike_all t h = at (check_unlikes [] t)
  where
    at : Check (all_to (m_of t) (unlike_before t)) (AllUnlike t) (RowOf 7 [] t) → all_to (m_of t) (unlike_before t) ≡ true
    at (holds e _) = e
    at (fails _ w) = absurd (w.5 (h w.0 w.1 w.2 w.3 w.4))

pub unlike_clash : (t : Fields) (j k : ℕ) → IsArc t j → IsArc t k → Alike t j k → (j ≡ k → ⊥) → all_to (m_of t) (unlike_before t) ≡ false
unlike_clash t j k rj rk a d = at (check_unlikes [] t)
  where
    at : Check (all_to (m_of t) (unlike_before t)) (AllUnlike t) (RowOf 7 [] t) → all_to (m_of t) (unlike_before t) ≡ false
    at (holds _ h) = absurd (d (h j k rj rk a))
    at (fails e _) = e

-- ---- the first row met

-- no row from a on and before r is met
abbrev NoneFrom : ℕ → ℕ → List ℕ → Fields → Type 0
NoneFrom a r bs t = (q : ℕ) → a ≤ q → q < r → RowOf q bs t → ⊥

-- what a number says: 0 that all is right, any other that it is the first row met from a on
abbrev Says : ℕ → Type 0 → List ℕ → Fields → ℕ → Type 0
Says a Good bs t zero = Good
Says a Good bs t (suc r) = (a ≤ suc r) × RowOf (suc r) bs t × NoneFrom a (suc r) bs t

none_more : (a r : ℕ) (bs : List ℕ) (t : Fields) → NoneFrom a r bs t → (RowOf r bs t → ⊥) → NoneFrom a (suc r) bs t
none_more a r bs t none here q l u = at (same? q r)
  where
    at : Same q r → RowOf q bs t → ⊥
    at (same e _) = rw e here
    at (apart e _) = none q l (omega arith)

-- one check more: the row if it is met, and the checks after it if not
says_next : {P : Type 0} (Good : Type 0) (a r : ℕ) (bs : List ℕ) (t : Fields) (b : Bool) (n : ℕ) → a ≤ suc r → NoneFrom a (suc r) bs t
    → Check b P (RowOf (suc r) bs t) → (P → RowOf (suc r) bs t → ⊥) → (P → NoneFrom a (suc (suc r)) bs t → Says a Good bs t n)
    → Says a Good bs t (choose (not b) (suc r) n)
says_next Good a r bs t b n l none (holds e p) never rest = rw e (rest p (none_more a (suc r) bs t none (never p)))
says_next Good a r bs t b n l none (fails e m) never rest = rw e (l, m, none)

says_map : (Good Better : Type 0) (a : ℕ) (bs : List ℕ) (t : Fields) (n : ℕ) → (Good → Better) → Says a Good bs t n → Says a Better bs t n
says_map Good Better a bs t zero f s = f s
says_map Good Better a bs t (suc r) f s = s

no_ends : (bs : List ℕ) (t : Fields) → AllEnds t → RowOf 4 bs t → ⊥
no_ends bs t p w = w.2 (p w.0 w.1)

no_bounds : (bs : List ℕ) (t : Fields) → Bounds t → RowOf 5 bs t → ⊥
no_bounds bs t p w = ⊎_elim (λ v. omega (arith, p.firsts v.0 v.1 v.2)) (λ v. omega (arith, p.nexts v.0 v.1 v.2)) w

no_chains : (bs : List ℕ) (t : Fields) → AllChains t → RowOf 6 bs t → ⊥
no_chains bs t p w = right_faulty w.0 t w.1 (p w.0 w.1 w.2) w.3

no_unlike : (bs : List ℕ) (t : Fields) → AllUnlike t → RowOf 7 bs t → ⊥
no_unlike bs t p w = w.5 (p w.0 w.1 w.2 w.3 w.4)

fields_number_says : (a : ℕ) (bs : List ℕ) (t : Fields) → a ≤ 4 → Sizes t → NoneFrom a 4 bs t → Says a (Right t) bs t (fields_number t)
unfolding fields_number
fields_number_says a bs t l sizes none4 =
    says_next (Right t) a 3 bs t _ _ l none4 (check_ends bs t) (no_ends bs t) λ ends none5.
    says_next (Right t) a 4 bs t _ _ (omega arith) none5 (check_bounds bs t) (no_bounds bs t) λ bounds none6.
    says_next (Right t) a 5 bs t _ _ (omega arith) none6 (check_both_chains bs t (inside_of t ends bounds.firsts bounds.nexts))
    (no_chains bs t) λ chains none7.
    says_next (Right t) a 6 bs t _ _ (omega arith) none7 (check_unlikes bs t) (no_unlike bs t) λ unlike none8.
    record { sizes = sizes; ends = ends; firsts = bounds.firsts; nexts = bounds.nexts; chains = chains; unlike = unlike }

read_number_says : (bs : List ℕ) → Says 0 (MeetsLayout bs) bs (field_of bs) (read_number bs)
unfolding read_number
read_number_says bs = at (check_le (suc (length bs)) 4)
  where
    t : Fields
    t = field_of bs

    none1 : NoneFrom 0 1 bs t
    none1 zero l u w = w
    none1 (suc q) l u w = absurd (omega arith)

    long : NoneFrom 0 2 bs t
        → Says 0 (MeetsLayout bs) bs t (choose (not (sizes_right t)) 2 (choose (not (eqb (length bs) (table_length (n_of t) (m_of t)))) 3 (fields_number t)))
    long none2 =
        says_next (MeetsLayout bs) 0 1 bs t _ _ (omega arith) none2 (check_sizes bs t) (λ s w. w s) λ sizes none3.
        says_next (MeetsLayout bs) 0 2 bs t _ _ (omega arith) none3 (check_long bs t) (λ s w. w s) λ exact none4.
        says_map (Right t) (MeetsLayout bs) 0 bs t (fields_number t) (λ g. record { long = exact; right = g })
        (fields_number_says 0 bs t (omega arith) sizes none4)

    at : Check (leb (suc (length bs)) 4) (length bs < 4) (4 < suc (length bs))
        → Says 0 (MeetsLayout bs) bs t
        (choose (ltb (length bs) 4) 1 (choose (not (sizes_right t)) 2 (choose (not (eqb (length bs) (table_length (n_of t) (m_of t)))) 3 (fields_number t))))
    at (holds e h) = rw e (omega arith, h, none1)
    at (fails e h) = rw e (long (none_more 0 1 bs t none1 (λ w. omega arith)))

-- ---- a table that is right meets no row

right_row : (bs : List ℕ) (t : Fields) → Right t → (r : ℕ) → 4 ≤ r → RowOf r bs t → ⊥
right_row bs t g zero l = λ w. w
right_row bs t g (suc zero) l = absurd (omega arith)
right_row bs t g (suc (suc zero)) l = absurd (omega arith)
right_row bs t g (suc (suc (suc zero))) l = absurd (omega arith)
right_row bs t g (suc (suc (suc (suc zero)))) l = no_ends bs t g.ends
right_row bs t g (suc (suc (suc (suc (suc zero))))) l = no_bounds bs t (record { firsts = g.firsts; nexts = g.nexts })
right_row bs t g (suc (suc (suc (suc (suc (suc zero)))))) l = no_chains bs t g.chains
right_row bs t g (suc (suc (suc (suc (suc (suc (suc zero))))))) l = no_unlike bs t g.unlike
right_row bs t g (suc (suc (suc (suc (suc (suc (suc (suc r)))))))) l = λ w. w

accepted_row : (bs : List ℕ) → MeetsLayout bs → (r : ℕ) → Row r bs → ⊥
accepted_row bs g zero = λ w. w
accepted_row bs g (suc zero) = λ w. omega (arith, g.long)
accepted_row bs g (suc (suc zero)) = λ w. w g.right.sizes
accepted_row bs g (suc (suc (suc zero))) = λ w. w g.long
accepted_row bs g (suc (suc (suc (suc r)))) = right_row bs (field_of bs) g.right (suc (suc (suc (suc r)))) (omega arith)

-- ---- the laws

pub fields_number_P : (t : Fields) → Sizes t → (fields_number t ≡ 0) ↔ Right t
fields_number_P t sizes = (λ e. rw e at says, λ g. zeroed g (fields_number t) says)
  where
    says : Says 4 (Right t) [] t (fields_number t)
    says = fields_number_says 4 [] t (omega arith) sizes (λ q l u. absurd (omega arith))

    zeroed : Right t → (n : ℕ) → Says 4 (Right t) [] t n → n ≡ 0
    zeroed g zero s = refl
    zeroed g (suc r) s = absurd (right_row [] t g (suc r) s.0 s.1)

pub accepted_P : (bs : List ℕ) → (read_number bs ≡ 0) ↔ MeetsLayout bs
accepted_P bs = (λ e. rw e at says, λ g. zeroed g (read_number bs) says)
  where
    says : Says 0 (MeetsLayout bs) bs (field_of bs) (read_number bs)
    says = read_number_says bs

    zeroed : MeetsLayout bs → (n : ℕ) → Says 0 (MeetsLayout bs) bs (field_of bs) n → n ≡ 0
    zeroed g zero s = refl
    zeroed g (suc r) s = absurd (accepted_row bs g (suc r) s.1)

pub refused_P : (bs : List ℕ) (r : ℕ) → (read_number bs ≡ suc r) ↔ (Row (suc r) bs × NoneBefore (suc r) bs)
refused_P bs r = (λ e. given (rw e at says), λ w. numbered w (read_number bs) says)
  where
    says : Says 0 (MeetsLayout bs) bs (field_of bs) (read_number bs)
    says = read_number_says bs

    given : Says 0 (MeetsLayout bs) bs (field_of bs) (suc r) → Row (suc r) bs × NoneBefore (suc r) bs
    given s = (s.1, λ q u. s.2 q (omega arith) u)

    numbered : Row (suc r) bs × NoneBefore (suc r) bs → (n : ℕ) → Says 0 (MeetsLayout bs) bs (field_of bs) n → n ≡ suc r
    numbered w zero s = absurd (accepted_row bs s (suc r) w.0)
    numbered w (suc q) s = at (check_eq q r) (check_le q r)
      where
        at : Check (eqb q r) (q ≡ r) (q ≡ r → ⊥) → Check (leb q r) (q ≤ r) (r < q) → suc q ≡ suc r
        at (holds _ e) o = ap suc e
        at (fails _ d) (holds _ l) = absurd (w.1 (suc q) (omega arith) s.1)
        at (fails _ d) (fails _ l) = absurd (s.2 (suc r) (omega arith) (omega arith) w.0)
