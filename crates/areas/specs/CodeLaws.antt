-- Messages as words.
--   lifted_range, lifted_pos        == a count in range as a number is 128 to 384, and 256 more than the count
--   lowered_lifted, lifted_lowered  == a count in range is read back from its number, and a number from its count
--   code_of_some, message_of_code_of   == a message in range is a word other than 0, and is read back from it
--   link_word_slot, link_word_free, slot_word_past   == a link's words: its messages, then 0
-- Assumes nothing.
use Rattle.std.specs.Prelude.{ℕ, zero, suc, ◌+◌, ◌*◌, ◌/◌, ◌%◌, ◌≤◌, ◌<◌, true, List, [], ◌∷◌, ◌≡◌, refl, length, ℤ, pos, negsuc, ◌+ℤ◌, ◌-ℤ◌, nat_abs}
use Rattle.std.proofs.Common.{sym, ap, ◌∙◌, arith, leb-true, ne_eqb, lt-ltb, le-ltb}
use Rattle.std.proofs.Math.IntN.{+ℤ_comm, +ℤ-neg_ℤ_cancel, -ℤ-+ℤ_cancel}
use Rattle.steps.specs.declared.Message.{Message}
use Rattle.steps.specs.declared.Message.TheVariants.{Suc, Pre, Ack}
use Rattle.base.specs.ChoiceLaws.{and_left, and_right}
use Rattle.steps.specs.Step.{most_count, small, both_small, count_small}
use Rattle.areas.specs.Places.{count_zero, count_size}
use Rattle.areas.specs.Used.{link_slots}
use Rattle.areas.specs.Area.{lifted, code_of, slot_word, link_word, lowered, message_of}

-- ---- a count as a number

pub lifted_range : (z : ℤ) → small z ≡ true → (128 ≤ lifted z) × (lifted z ≤ 384)
unfolding small
lifted_range (pos n) e = let l : n ≤ most_count = leb-true n most_count e in (omega arith, omega arith)
lifted_range (negsuc n) e =
    let l : suc n ≤ most_count = leb-true (suc n) most_count e in
    rw (le-ltb count_zero (suc n) (omega arith)) (omega arith, omega arith)

pub lifted_pos : (z : ℤ) → small z ≡ true → pos count_zero +ℤ z ≡ pos (lifted z)
unfolding small
lifted_pos (pos n) e = refl
lifted_pos (negsuc n) e =
    let l : suc n ≤ most_count = leb-true (suc n) most_count e in
    rw (le-ltb count_zero (suc n) (omega arith))

lowered_lifted : (z : ℤ) → small z ≡ true → lowered (lifted z) ≡ z
lowered_lifted z e =
    ap (λ (y : ℤ). y -ℤ pos count_zero) (sym (lifted_pos z e) ∙ +ℤ_comm (pos count_zero) z) ∙ +ℤ-neg_ℤ_cancel z (pos count_zero)

pub lifted_lowered : (k : ℕ) → lifted (lowered k) ≡ k
lifted_lowered k = ap nat_abs (+ℤ_comm (pos count_zero) (lowered k) ∙ -ℤ-+ℤ_cancel (pos k) (pos count_zero))

-- ---- messages as words

-- two numbers in one
low_part : (k a b : ℕ) → k ≡ a + count_size * b → a ≤ 384 → k % count_size ≡ a
low_part k a b e h = omega arith

high_part : (k a b : ℕ) → k ≡ a + count_size * b → a ≤ 384 → k / count_size ≡ b
high_part k a b e h = omega arith

pub code_of_some : (m : Message) → count_small m ≡ true → nat_abs (code_of m) ≡ 0 → ⊥
unfolding code_of count_small both_small
code_of_some Suc e z = omega arith
code_of_some Pre e z = omega arith
code_of_some (Ack c) e z = omega (arith, (lifted_range c.count (and_left (small c.count) (small c.second) e)).0)

pub message_of_code_of : (m : Message) → count_small m ≡ true → message_of (code_of m) ≡ m
unfolding code_of message_of count_small both_small
message_of_code_of Suc e = refl
message_of_code_of Pre e = refl
message_of_code_of (Ack c) e =
    let a : ℕ = lifted c.count in
    let b : ℕ = lifted c.second in
    let p : small c.count ≡ true = and_left (small c.count) (small c.second) e in
    let q : small c.second ≡ true = and_right (small c.count) (small c.second) e in
    let h = lifted_range c.count p in
    rw (
      ne_eqb (a + count_size * b) 1 (λ z. absurd (omega (arith, h.0))),
      ne_eqb (a + count_size * b) 2 (λ z. absurd (omega (arith, h.0))),
      low_part (a + count_size * b) a b refl h.1,
      high_part (a + count_size * b) a b refl h.1,
      lowered_lifted c.count p,
      lowered_lifted c.second q,
    )

-- ---- the words of a link

pub link_word_slot : (ms : List Message) (j : ℕ) → j < link_slots → link_word ms j ≡ slot_word ms j
unfolding link_word
link_word_slot ms j h = rw (lt-ltb j link_slots h)

pub link_word_free : (ms : List Message) (j : ℕ) → link_slots ≤ j → link_word ms j ≡ pos 0
unfolding link_word
link_word_free ms j h = rw (le-ltb j link_slots h)

-- the slots past a link's length hold 0
pub slot_word_past : (ms : List Message) (j : ℕ) → length ms ≤ j → slot_word ms j ≡ pos 0
unfolding slot_word
slot_word_past [] j h = refl
slot_word_past (m ∷ ms) zero h = absurd (omega arith)
slot_word_past (m ∷ ms) (suc j) h = slot_word_past ms j (omega arith)
