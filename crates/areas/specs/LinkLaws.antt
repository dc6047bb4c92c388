-- Laws of the words of a link and the messages in them.
--   message_of_suc, message_of_pre, message_of_ack   == which message a word holds
--   code_of_message_of      == a word of 0 or more is that of the message that it holds
--   messages_at_stop, messages_at_more   == the messages from a word on, where it is 0 and where it is not
--   messages_at_at, messages_at_length   == each message is that of its word, and there are at most as many as words
--   slot_word_at, link_word_slots, counts_small_at, counts_small_of   == the words of a link, and its counts, one by one
-- Assumes nothing.
use Prim.Native.Nat.{ℕ, zero, suc, ◌+◌, ◌*◌, ◌/◌, ◌%◌, ◌≤◌, ◌<◌}
use Rattle.std.specs.Prelude.{true, List, [], ◌∷◌, ◌≡◌, refl, ℤ, pos, nat_abs}
use Rattle.std.proofs.Common.{sym, ap, ◌∙◌, le_of_suc-le-suc, eq-eqb, ne_eqb}
use Rattle.std.proofs.Math.Nat.{add-zero}
use native.Mathlib.Omega.{arith}
use Rattle.std.proofs.Math.ListN.{length, get_or}
use Rattle.machine.specs.Machine as Machines
use Rattle.base.specs.ChoiceLaws.{same?, below?, and_left, and_right, and_both}
use Rattle.base.specs.Checks.{Same, same, apart, Below, below, beyond}
use Rattle.steps.specs.declared.Message.{Message}
use Rattle.steps.specs.declared.Message.TheVariants.{Suc, Pre, Ack}
use Rattle.steps.specs.Step.{count_small}
use Rattle.checks.specs.Run.{counts_small}
use Rattle.areas.specs.Used.{link_slots}
use Rattle.areas.specs.Places.{count_size}
use Rattle.areas.specs.Area.{code_of, slot_word, link_word, number_at, lowered, message_of, messages_at}
use Rattle.areas.specs.CodeLaws.{lifted_lowered, link_word_slot, link_word_free, slot_word_past}

-- ---- message_of and code_of

pub message_of_suc : (z : ℤ) → nat_abs z ≡ 1 → message_of z ≡ Suc
unfolding message_of
message_of_suc z e = rw (eq-eqb (nat_abs z) 1 e)

pub message_of_pre : (z : ℤ) → nat_abs z ≡ 2 → message_of z ≡ Pre
unfolding message_of
message_of_pre z e = rw (ne_eqb (nat_abs z) 1 (λ o. absurd (omega arith)), eq-eqb (nat_abs z) 2 e)

pub message_of_ack : (z : ℤ) → (nat_abs z ≡ 1 → ⊥) → (nat_abs z ≡ 2 → ⊥) → message_of z
    ≡ Ack (record { count = lowered (nat_abs z % count_size); second = lowered (nat_abs z / count_size) })
unfolding message_of
message_of_ack z p q = rw (ne_eqb (nat_abs z) 1 p, ne_eqb (nat_abs z) 2 q)

pub code_of_message_of : (z : ℤ) → code_of (message_of z) ≡ pos (nat_abs z)
unfolding code_of
code_of_message_of z = at (same? (nat_abs z) 1) (same? (nat_abs z) 2)
  where
    k : ℕ
    k = nat_abs z

    whole : k % count_size + count_size * (k / count_size) ≡ k
    whole = omega arith

    at : Same (nat_abs z) 1 → Same (nat_abs z) 2 → code_of (message_of z) ≡ pos (nat_abs z)
    at (same e _) _ = rw (message_of_suc z e, e)
    at (apart p _) (same e _) = rw (message_of_pre z e, e)
    at (apart p _) (apart q _) = rw (message_of_ack z p q, lifted_lowered (k % count_size), lifted_lowered (k / count_size)) (ap pos whole)

-- ---- messages_at

module _ (w : List ℤ) where
  pub messages_at_stop : (i k : ℕ) → number_at w i ≡ 0 → messages_at w i (suc k) ≡ []
  unfolding messages_at
  messages_at_stop i k e = rw (eq-eqb (number_at w i) 0 e)

  pub messages_at_more : (i k : ℕ) → (number_at w i ≡ 0 → ⊥) → messages_at w i (suc k) ≡ message_of (get_or w i (pos 0)) ∷ messages_at w (suc i) k
  unfolding messages_at
  messages_at_more i k h = rw (ne_eqb (number_at w i) 0 h)

  pub messages_at_length : (i k : ℕ) → length (messages_at w i k) ≤ k
  unfolding messages_at
  messages_at_length i zero = omega arith
  messages_at_length i (suc k) = at (same? (number_at w i) 0) (messages_at_length (suc i) k)
    where
      at : Same (number_at w i) 0 → length (messages_at w (suc i) k) ≤ k → length (messages_at w i (suc k)) ≤ suc k
      at (same e _) h = rw (messages_at_stop i k e) (omega arith)
      at (apart e _) h = rw (messages_at_more i k e) (omega arith)

  pub messages_at_at : (i k j : ℕ) → j < length (messages_at w i k) → get_or (messages_at w i k) j Suc ≡ message_of (get_or w (i + j) (pos 0))
  unfolding messages_at
  messages_at_at i zero j h = absurd (omega arith)
  messages_at_at i (suc k) zero h = at (same? (number_at w i) 0)
    where
      at : Same (number_at w i) 0 → get_or (messages_at w i (suc k)) 0 Suc ≡ message_of (get_or w (i + 0) (pos 0))
      at (same e _) = let z : 0 < 0 = rw (messages_at_stop i k e) at h in absurd (omega arith)
      at (apart e _) = rw (messages_at_more i k e, add-zero i)
  messages_at_at i (suc k) (suc j) h = at (same? (number_at w i) 0) (messages_at_at (suc i) k j)
    where
      at : Same (number_at w i) 0 → (j < length (messages_at w (suc i) k) → get_or (messages_at w (suc i) k) j Suc ≡ message_of (get_or w (suc i + j) (pos 0)))
          → get_or (messages_at w i (suc k)) (suc j) Suc ≡ message_of (get_or w (i + suc j) (pos 0))
      at (same e _) rest = let z : suc j < 0 = rw (messages_at_stop i k e) at h in absurd (omega arith)
      at (apart e _) rest =
          let q : i + suc j ≡ suc i + j = omega arith in
          let g : suc j < suc (length (messages_at w (suc i) k)) = rw (messages_at_more i k e) at h in
          rw (messages_at_more i k e, q) (rest (omega arith))

-- ---- the words and the counts of a link

pub slot_word_at : (ms : List Message) (j : ℕ) → j < length ms → slot_word ms j ≡ code_of (get_or ms j Suc)
unfolding slot_word
slot_word_at [] j h = absurd (omega arith)
slot_word_at (m ∷ ms) zero h = refl
slot_word_at (m ∷ ms) (suc j) h = slot_word_at ms j (le_of_suc-le-suc h)

-- up to its slots, and past them where no more messages wait
pub link_word_slots : (ms : List Message) (j : ℕ) → length ms ≤ link_slots → link_word ms j ≡ slot_word ms j
link_word_slots ms j u = at (below? j link_slots)
  where
    at : Below j link_slots → link_word ms j ≡ slot_word ms j
    at (below h _) = link_word_slot ms j h
    at (beyond h _) = link_word_free ms j h ∙ sym (slot_word_past ms j (omega arith))

pub counts_small_at : (ms : List Message) (j : ℕ) → counts_small ms ≡ true → j < length ms → count_small (get_or ms j Suc) ≡ true
unfolding Machines.all_right
counts_small_at [] j e h = absurd (omega arith)
counts_small_at (m ∷ ms) zero e h = and_left (count_small m) (counts_small ms) e
counts_small_at (m ∷ ms) (suc j) e h = counts_small_at ms j (and_right (count_small m) (counts_small ms) e) (le_of_suc-le-suc h)

pub counts_small_of : (ms : List Message) → ((j : ℕ) → j < length ms → count_small (get_or ms j Suc) ≡ true) → counts_small ms ≡ true
unfolding Machines.all_right
counts_small_of [] f = refl
counts_small_of (m ∷ ms) f = and_both (count_small m) (counts_small ms) (f 0 (omega arith)) (counts_small_of ms (λ j h. f (suc j) (omega arith)))
