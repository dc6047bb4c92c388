-- Laws of fields put into bytes.
--   put_fields_next, put_arc_next   == one field more, and four more
--   put_fields_cong                == only the fields put matter
--   fronts_none, fronts_next      == the fronts before any arc is put, and one arc later
--   arc_put                       == the record of the next arc
--   table_over_of                  == the table is written once all arcs, all process records, M and N are put
-- Assumes nothing.
use Prim.Native.Nat.{ℕ, zero, suc, ◌+◌, ◌-◌, ◌*◌, ◌/◌, ◌%◌, ◌≤◌, ◌<◌}
use mathlib.Core.List.{List, ◌++◌}
use mathlib.Core.Path.{◌≡◌, refl, sym, ap, ◌∙◌}
use lib.Dec.{ltb}
use lib.ListN.{length, get_or, set, drop, replicate, get_or-replicate, length-replicate, length-set, length-append, length-drop, get_or-append}
use lib.Seq.{get_or-set_same, get_or-set_other, ext_get_or, get_or-append-add, get_or-drop}
use borrow.Author.Tests.{ltb-true, ltb-false}
use native.Mathlib.Omega.{arith}
use native.Mathlib.Numerals.{add-one}
use Rattle.base.specs.ChoiceLaws.{same?, tested}
use Rattle.base.specs.Checks.{Same, same, apart, Tested, passed, failed}
use Rattle.tables.specs.declared.Chain.{Chain}
use Rattle.tables.specs.declared.Chain.TheVariants.{Out, In}
use Rattle.tables.specs.Table.{Fields, most_processes, field_total, table_length}
use Rattle.table_writer.specs.Writing.{pairs, end, front, process_field, arc_field, bytes_of, written_field, table_over}
use Rattle.table_writer.specs.Putting.{put_field, put_arc, put_fields, slot, slots, Fronts}
use Rattle.table_writer.specs.FrontLaws.{front_hit, front_miss, written_field_process, written_field_arc}
use Rattle.table_writer.specs.BytesLaws.{bytes_of_length, bytes_of_byte}
use Rattle.table_writer.specs.Putting.{byte_of}

-- ---- one field

put_field_length : (l : List ℕ) (j v : ℕ) → length (put_field l j v) ≡ length l
unfolding put_field
put_field_length l j v = simp length-set

put_field_byte : (l : List ℕ) (j v i : ℕ) → 2 * j + 1 < length l → i < 2 → get_or (put_field l j v) (2 * j + i) 0 ≡ byte_of v i
unfolding put_field
put_field_byte l j v zero u s =
    ap (λ (b : ℕ). get_or (set (set l (2 * j) (v % 256)) (2 * j + 1) (v / 256)) b 0) (omega arith)
    ∙ get_or-set_other (set l (2 * j) (v % 256)) (2 * j + 1) (2 * j) (v / 256) 0 (omega arith)
    ∙ get_or-set_same l (2 * j) (v % 256) 0 (omega arith)
put_field_byte l j v (suc zero) u s = get_or-set_same (set l (2 * j) (v % 256)) (2 * j + 1) (v / 256) 0 (simp length-set u)
put_field_byte l j v (suc (suc i)) u s = absurd (omega arith)

put_field_off : (l : List ℕ) (j v b : ℕ) → (2 * j ≤ b → b < 2 * (j + 1) → ⊥) → get_or (put_field l j v) b 0 ≡ get_or l b 0
unfolding put_field
put_field_off l j v b h =
    get_or-set_other (set l (2 * j) (v % 256)) (2 * j + 1) b (v / 256) 0 (λ e. h (omega arith) (omega arith))
    ∙ get_or-set_other l (2 * j) b (v % 256) 0 (λ e. h (omega arith) (omega arith))

-- ---- fields in a row

module _ (t : Fields) (lo : ℕ) (l : List ℕ) where
  put_fields_length : (c : ℕ) → length (put_fields t lo c l) ≡ length l
  unfolding put_fields
  put_fields_length zero = refl
  put_fields_length (suc c) = put_field_length (put_fields t lo c l) (lo + c) (t (lo + c)) ∙ put_fields_length c

  put_fields_off : (c b : ℕ) → (2 * lo ≤ b → b < 2 * (lo + c) → ⊥) → get_or (put_fields t lo c l) b 0 ≡ get_or l b 0
  unfolding put_fields
  put_fields_off zero b h = refl
  put_fields_off (suc c) b h =
      put_field_off (put_fields t lo c l) (lo + c) (t (lo + c)) b (λ u v. h (omega arith) (omega arith)) ∙ put_fields_off c b (λ u v. h u (omega arith))

  put_fields_byte : (c j i : ℕ) → lo ≤ j → j < lo + c → i < 2 → 2 * (lo + c) ≤ length l → get_or (put_fields t lo c l) (2 * j + i) 0 ≡ byte_of (t j) i
  unfolding put_fields
  put_fields_byte zero j i p q s u = absurd (omega arith)
  put_fields_byte (suc c) j i p q s u = at (same? j (lo + c)) (λ v. put_fields_byte c j i p v s (omega arith))
    where
      before : List ℕ
      before = put_fields t lo c l

      at : Same j (lo + c) → (j < lo + c → get_or before (2 * j + i) 0 ≡ byte_of (t j) i)
          → get_or (put_field before (lo + c) (t (lo + c))) (2 * j + i) 0 ≡ byte_of (t j) i
      at (same e _) below = rw e (put_field_byte before (lo + c) (t (lo + c)) i (omega (arith, put_fields_length c)) s)
      at (apart e _) below = put_field_off before (lo + c) (t (lo + c)) (2 * j + i) (λ v w. e (omega arith)) ∙ below (omega arith)

  put_fields_suc : (c j v : ℕ) (out : List ℕ) → j ≡ lo + c → v ≡ t j → out ≡ put_fields t lo c l → put_field out j v ≡ put_fields t lo (suc c) l
  unfolding put_fields
  put_fields_suc c j v out p q e = rw (e, q, p)

  pub put_fields_next : (j : ℕ) (out : List ℕ) → lo ≤ j → out ≡ put_fields t lo (j - lo) l → put_field out j (t j) ≡ put_fields t lo (j + 1 - lo) l
  put_fields_next j out p e =
      let one_more : j + 1 - lo ≡ suc (j - lo) = omega arith in
      rw one_more (put_fields_suc (j - lo) j (t j) out (omega arith) refl e)

  put_arc_next : (k at a b x y : ℕ) (out : List ℕ) → at ≡ lo + 4 * k → a ≡ t at → b ≡ t (at + 1) → x ≡ t (at + 2) → y ≡ t (at + 3)
      → out ≡ put_fields t lo (4 * k) l → put_arc out at a b x y ≡ put_fields t lo (4 * (k + 1)) l
  unfolding put_arc
  put_arc_next k at a b x y out p q₀ q₁ q₂ q₃ e =
      let four-more : 4 * (k + 1) ≡ suc (suc (suc (suc (4 * k)))) = omega arith in
      rw four-more
      (put_fields_suc (suc (suc (suc (4 * k)))) (at + 3) y _ (omega arith) q₃
      (put_fields_suc (suc (suc (4 * k))) (at + 2) x _ (omega arith) q₂
      (put_fields_suc (suc (4 * k)) (at + 1) b _ (omega arith) q₁
      (put_fields_suc (4 * k) at a out p q₀ e))))

put_fields_cong : (t s : Fields) (lo : ℕ) (l : List ℕ) (c : ℕ) → ((j : ℕ) → lo ≤ j → j < lo + c → t j ≡ s j) → put_fields t lo c l ≡ put_fields s lo c l
unfolding put_fields
put_fields_cong t s lo l zero h = refl
put_fields_cong t s lo l (suc c) h = rw (put_fields_cong t s lo l c (λ j p q. h j p (omega arith)), h (lo + c) (omega arith) (omega arith))

-- ---- the fronts

slot_same : (c : Chain) (p q : ℕ) → slot c p ≡ slot c q → p ≡ q
unfolding slot
slot_same Out p q e = omega arith
slot_same In p q e = omega arith

module _ (list : List ℕ) (k : ℕ) where
  front_put : (c : Chain) (l : List ℕ) (x : ℕ) → slot c x < length l → x ≡ end c list (suc k)
      → (p : ℕ) → get_or l (slot c p) 0 ≡ front c list p k → get_or (set l (slot c x) (suc k)) (slot c p) 0 ≡ front c list p (suc k)
  front_put c l x u e p old = at (same? x p)
    where
      at : Same x p → get_or (set l (slot c x) (suc k)) (slot c p) 0 ≡ front c list p (suc k)
      at (same q _) = rw (front_hit c list p k (sym e ∙ q), ← q) (get_or-set_same l (slot c x) (suc k) 0 u)
      at (apart q _) =
          get_or-set_other l (slot c x) (slot c p) (suc k) 0 (λ w. q (sym (slot_same c p x w)))
          ∙ old
          ∙ sym (front_miss c list p k (λ w. q (e ∙ w)))

  -- "Each arc is put at the front of its two chains": both slots of the next arc are set to it
  pub fronts_next : (x y : ℕ) (l : List ℕ) → x ≤ most_processes → y ≤ most_processes → x ≡ end Out list (k + 1) → y ≡ end In list (k + 1)
      → Fronts list k l → Fronts list (k + 1) (set (set l (2 * x) (k + 1)) (2 * y + 1) (k + 1))
  unfolding slot
  fronts_next x y l u v p q h = record { long = simp length-set h.long; at = at }
    where
      long : length l ≡ slots
      long = h.long

      at : (c : Chain) (r : ℕ) → r ≤ most_processes → get_or (set (set l (2 * x) (k + 1)) (2 * y + 1) (k + 1)) (slot c r) 0 ≡ front c list r (k + 1)
      at Out r w =
          get_or-set_other (set l (2 * x) (k + 1)) (2 * y + 1) (2 * r) (k + 1) 0 (omega arith)
          ∙ rw (add-one k) (front_put Out l x (omega (arith, long)) (rw (add-one k) at p) r (h.at Out r w))
      at In r w =
          rw (add-one k)
          (front_put In (set l (2 * x) (suc k)) y (simp length-set (omega (arith, long))) (rw (add-one k) at q) r
          (get_or-set_other l (2 * x) (2 * r + 1) (suc k) 0 (omega arith) ∙ h.at In r w))

pub fronts_none : (list : List ℕ) (n : ℕ) (l : List ℕ) → n ≡ slots → l ≡ replicate n 0 → Fronts list 0 l
unfolding slot front
fronts_none list n l e f = record { long = ap length f ∙ length-replicate n 0 ∙ e; at = at }
  where
    at : (c : Chain) (p : ℕ) → p ≤ most_processes → get_or l (slot c p) 0 ≡ front c list p 0
    at Out p u = rw f (get_or-replicate n (2 * p) 0 0 (omega arith))
    at In p u = rw f (get_or-replicate n (2 * p + 1) 0 0 (omega arith))

-- the record of the next arc: what were the fronts before it are what follows it
pub arc_put : (n : ℕ) (list : List ℕ) (k from to : ℕ) (firsts l out : List ℕ) → from ≤ most_processes → to ≤ most_processes
    → from ≡ end Out list (k + 1) → to ≡ end In list (k + 1)
    → Fronts list k firsts → out ≡ put_fields (written_field n list) (2 + 2 * n) (4 * k) l
    → put_arc out (2 + 2 * n + 4 * k) from to (get_or firsts (2 * from) 0) (get_or firsts (2 * to + 1) 0) ≡ put_fields (written_field n list) (2 + 2 * n)
    (4 * (k + 1)) l
unfolding slot arc_field
arc_put n list k from to firsts l out u v p q h e =
    put_arc_next (written_field n list) (2 + 2 * n) l k (2 + 2 * n + 4 * k) from to _ _ out refl
    (p ∙ sym (field 0 (2 + 2 * n + 4 * k) (omega arith) (omega arith)))
    (q ∙ sym (field 1 (2 + 2 * n + 4 * k + 1) (omega arith) (omega arith)))
    (h.at Out from u ∙ sym (field 2 (2 + 2 * n + 4 * k + 2) (omega arith) (omega arith) ∙ before Out from p))
    (h.at In to v ∙ sym (field 3 (2 + 2 * n + 4 * k + 3) (omega arith) (omega arith) ∙ before In to q))
    e
  where
    before : (c : Chain) (x : ℕ) → x ≡ end c list (k + 1) → front c list (end c list (k + 1)) (k + 1 - 1) ≡ front c list x k
    before c x e = let one_less : k + 1 - 1 ≡ k = omega arith in rw (one_less, ← e)

    field : (i j : ℕ) → i < 4 → j ≡ 2 * n + 4 * (k + 1) - 2 + i → written_field n list j ≡ arc_field list (k + 1) i
    field i j s g = written_field_arc n list (k + 1) i j (omega arith) s g

-- ---- the whole table

-- new holds the fields lo to hi - 1 of t, and elsewhere what old holds
record Holds (t : Fields) (lo hi : ℕ) (old new : List ℕ) : Type 0 where
  pub long : length new ≡ length old
  pub byte : (j i : ℕ) → lo ≤ j → j < hi → i < 2 → get_or new (2 * j + i) 0 ≡ byte_of (t j) i
  pub off : (b : ℕ) → (2 * lo ≤ b → b < 2 * hi → ⊥) → get_or new b 0 ≡ get_or old b 0

holds_none : (t : Fields) (hi : ℕ) (old : List ℕ) → Holds t hi hi old old
holds_none t hi old = record { long = refl; byte = λ j i p q s. absurd (omega arith); off = λ b h. refl }

-- the fields before those that are held are put
holds_put : (t : Fields) (lo c mid hi : ℕ) (old a : List ℕ) → mid ≡ lo + c → mid ≤ hi → 2 * hi ≤ length old → Holds t mid hi old a
    → Holds t lo hi old (put_fields t lo c a)
holds_put t lo c mid hi old a e m room h = record { long = put_fields_length t lo a c ∙ h.long; byte = byte; off = off }
  where
    new : List ℕ
    new = put_fields t lo c a

    byte : (j i : ℕ) → lo ≤ j → j < hi → i < 2 → get_or new (2 * j + i) 0 ≡ byte_of (t j) i
    byte j i p q s = at (tested (ltb j mid))
      where
        at : Tested (ltb j mid) → get_or new (2 * j + i) 0 ≡ byte_of (t j) i
        at (passed u) = let below : j < mid = ltb-true j mid u in put_fields_byte t lo a c j i p (omega arith) s (omega (arith, h.long))
        at (failed u) =
            let above : mid ≤ j = ltb-false j mid u in
            put_fields_off t lo a c (2 * j + i) (λ v w. absurd (omega arith)) ∙ h.byte j i above q s

    off : (b : ℕ) → (2 * lo ≤ b → b < 2 * hi → ⊥) → get_or new b 0 ≡ get_or old b 0
    off b f = put_fields_off t lo a c b (λ u v. f u (omega arith)) ∙ h.off b (λ u v. f (omega arith) v)

holds_bytes : (t : Fields) (f : ℕ) (old new : List ℕ) → 2 * f ≤ length old → Holds t 0 f old new → new ≡ bytes_of t f ++ drop (2 * f) old
holds_bytes t f old new room h = ext_get_or 0 new (bytes_of t f ++ drop (2 * f) old) same_length (λ b u. at b (tested (ltb b (2 * f))))
  where
    front_long : length (bytes_of t f) ≡ 2 * f
    front_long = bytes_of_length t f

    same_length : length new ≡ length (bytes_of t f ++ drop (2 * f) old)
    same_length = simp (length-append, length-drop) (omega (arith, front_long, h.long))

    at : (b : ℕ) → Tested (ltb b (2 * f)) → get_or new b 0 ≡ get_or (bytes_of t f ++ drop (2 * f) old) b 0
    at b (passed u) =
        let below : b < 2 * f = ltb-true b (2 * f) u in
        let split : b ≡ 2 * (b / 2) + b % 2 = omega arith in
        rw split
        (h.byte (b / 2) (b % 2) (omega arith) (omega arith) (omega arith)
        ∙ sym (get_or-append (bytes_of t f) (drop (2 * f) old) 0 (2 * (b / 2) + b % 2) (omega (arith, front_long))
        ∙ bytes_of_byte t f (b / 2) (b % 2) (omega arith) (omega arith)))
    at b (failed u) =
        let above : 2 * f ≤ b = ltb-false b (2 * f) u in
        let split : b ≡ length (bytes_of t f) + (b - 2 * f) = omega (arith, front_long) in
        h.off b (λ v w. absurd (omega arith))
        ∙ sym
        (ap (λ (i : ℕ). get_or (bytes_of t f ++ drop (2 * f) old) i 0) split
        ∙ get_or-append-add (bytes_of t f) (drop (2 * f) old) (b - 2 * f) 0
        ∙ get_or-drop (2 * f) old (b - 2 * f) 0
        ∙ ap (λ (i : ℕ). get_or old i 0) (omega arith))

-- the process records as they are written are the fronts once all arcs have been put
records_are : (n : ℕ) (list firsts : List ℕ) → n ≤ most_processes → Fronts list (pairs list) firsts → (j : ℕ) → 2 ≤ j → j < 2 + 2 * n
    → get_or firsts j 0 ≡ written_field n list j
unfolding slot process_field
records_are n list firsts u h j p q = at (j % 2) refl (omega arith)
  where
    field : (i : ℕ) → j % 2 ≡ i → written_field n list j ≡ process_field list (j / 2) i
    field i e = written_field_process n list (j / 2) i j (omega arith, omega arith) (omega arith) (omega arith)

    at : (i : ℕ) → j % 2 ≡ i → i < 2 → get_or firsts j 0 ≡ written_field n list j
    at zero e s = ap (λ (b : ℕ). get_or firsts b 0) (omega arith) ∙ h.at Out (j / 2) (omega arith) ∙ sym (field 0 e)
    at (suc zero) e s = ap (λ (b : ℕ). get_or firsts b 0) (omega arith) ∙ h.at In (j / 2) (omega arith) ∙ sym (field 1 e)
    at (suc (suc i)) e s = absurd (omega arith)

-- the table is written once all arcs, the process records, N and M are put
pub table_over_of : (n : ℕ) (list firsts out a b c d : List ℕ) → n ≤ most_processes → table_length n (pairs list) ≤ length out → Fronts list (pairs list) firsts
    → a ≡ put_fields (written_field n list) (2 + 2 * n) (4 * pairs list) out
    → b ≡ put_fields (λ j. get_or firsts j 0) 2 (2 * n) a
    → c ≡ put_field b 0 n
    → d ≡ put_field c 1 (pairs list)
    → d ≡ table_over n list out
unfolding table_over
table_over_of n list firsts out a b c d u room h p q r s =
    holds_bytes t f out d (omega arith)
    (rw (s ∙ ap (λ (l : List ℕ). put_field l 1 (pairs list)) r ∙ head) (holds_put t 0 2 2 f out b (omega arith) (omega arith) (omega arith) upper))
    ∙ ap (λ (k : ℕ). bytes_of t f ++ drop k out) twice
  where
    twice : 2 * field_total n (pairs list) ≡ table_length n (pairs list)
    twice = omega arith

    t : Fields
    t = written_field n list

    f : ℕ
    f = field_total n (pairs list)

    arcs : Holds t (2 + 2 * n) f out a
    arcs = rw p (holds_put t (2 + 2 * n) (4 * pairs list) f f out out (omega arith) (omega arith) (omega arith) (holds_none t f out))

    upper : Holds t 2 f out b
    upper =
        rw (q ∙ put_fields_cong (λ j. get_or firsts j 0) t 2 a (2 * n) (records_are n list firsts u h))
        (holds_put t 2 (2 * n) (2 + 2 * n) f out a (omega arith) (omega arith) (omega arith) arcs)

    head : put_field (put_field b 0 n) 1 (pairs list) ≡ put_fields t 0 2 b
    head = unfold written_field put_fields in refl
