-- Laws of pieces that are put one after another.
--   put_none, put_byte           == no byte is put; one byte is stored
--   x put-then y                 == one piece after another
--   put_before                   == a piece is put, and then a byte just before it
--   put_inside                   == a piece that begins within the bytes ends within them
--   room_first, room_then        == room for two pieces is room for the first, and then for the second
--   adds_none                    == no byte is put on a page
--   x adds-then y                == one piece after another on a page
--   adds_room                    == room for two pieces is room for the second, once the first is put
-- Assumes nothing.
use Rattle.std.specs.Prelude.{ℕ, ◌+◌, ◌<◌, ◌≤◌, List, [], ◌∷◌, ◌++◌, ◌≡◌, refl, length, take, drop, set}
use Rattle.std.proofs.Common.{append_assoc, append-nil, sym, ap, ◌∙◌, add-one, arith, length-append, length-take, length-set, take-suc-set, drop-set-lt, drop-drop}
use Rattle.std.proofs.Math.Seq.{take-set-lt, append_snoc}
use Rattle.std.proofs.lemmas.List.{set-append_left}
use Rattle.lines.specs.declared.Page.{Page}
use Rattle.lines.specs.Adding.{Put, HasRoom, Adds}

pub put_none : {a : List ℕ} {m : ℕ} → Put a m [] a m
put_none {a} {m} = record { grows = omega arith; text = sym (append-nil (take m a)); rest = refl; kept = refl }

pub put_byte : (l : List ℕ) (i b : ℕ) → i < length l → Put l i (b ∷ []) (set l i b) (i + 1)
put_byte l i b h = record {
  grows = refl;
  text = rw add-one (take-suc-set l i b h);
  rest = drop-set-lt (i + 1) l i b (omega arith);
  kept = length-set l i b;
}

-- what is past the second piece was past the first
past : (a b c : List ℕ) (n k o : ℕ) → o ≡ n + k → drop n b ≡ drop n a → drop o c ≡ drop o b → drop o c ≡ drop o a
past a b c n k o e f g = g ∙ rw (e, ← drop-drop k n b, ← drop-drop k n a) (ap (drop k) f)

infixl 60 ◌put-then◌
pub ◌put-then◌ : {a b c : List ℕ} {m n o : ℕ} {p q : List ℕ} → Put a m p b n → Put b n q c o → Put a m (p ++ q) c o
◌put-then◌ {a} {b} {c} {m} {n} {o} {p} {q} x y = record {
  grows = rw length-append (omega arith);
  text = y.text ∙ ap (λ (l : List ℕ). l ++ q) x.text ∙ append_assoc (take m a) p q;
  rest = past a b c n (length q) o y.grows x.rest y.rest;
  kept = y.kept ∙ x.kept;
}

pub put_before : {a b q : List ℕ} {n o : ℕ} (m v : ℕ) → n ≡ m + 1 → m < length a → Put a n q b o → Put a m (v ∷ q) (set b m v) o
put_before {a} {b} {q} {n} {o} m v e h x =
    let below : m < o = omega arith in
    let inside : m < length (take n a) = rw length-take (omega arith) in
    let first : set (take n a) m v ≡ take m a ++ (v ∷ []) = sym (take-set-lt n a m v (omega arith)) ∙ rw (e, add-one) (take-suc-set a m v h) in
    record {
      grows = omega arith;
      text =
          take-set-lt o b m v below ∙ ap (λ (l : List ℕ). set l m v) x.text ∙ set-append_left (take n a) q m v inside
          ∙ ap (λ (l : List ℕ). l ++ q) first ∙ append_snoc (take m a) v q;
      rest = drop-set-lt o b m v below ∙ x.rest;
      kept = length-set b m v ∙ x.kept;
    }

pub put_inside : {a b p : List ℕ} {m n : ℕ} → Put a m p b n → m ≤ length a → n ≤ length b
put_inside {a} {b} {p} {m} {n} x h =
    let both = ap {A = List ℕ} length x.text ∙ length-append (take m a) p in
    omega (arith, both, length-take n b, length-take m a, x.grows)

pub room_first : (m k : ℕ) (p q : List ℕ) → m + length (p ++ q) ≤ k → m + length p ≤ k
room_first m k p q h = omega (arith, length-append p q)

pub room_then : {a b : List ℕ} {m n : ℕ} {p : List ℕ} (q : List ℕ) → Put a m p b n → m + length (p ++ q) ≤ length a → n + length q ≤ length b
room_then {p = p} q x h = omega (arith, length-append p q, x.grows, x.kept)

pub adds_none : {p : Page} → Adds p [] p
adds_none = record { same = refl; put = put_none }

infixl 60 ◌adds-then◌
pub ◌adds-then◌ : {p q r : Page} {x y : List ℕ} → Adds p x q → Adds q y r → Adds p (x ++ y) r
◌adds-then◌ x y = record { same = y.same ∙ x.same; put = x.put put-then y.put }

pub adds_room : {p q : Page} {x : List ℕ} (y : List ℕ) → Adds p x q → HasRoom p (x ++ y) → HasRoom q y
adds_room y x h = room_then y x.put h
