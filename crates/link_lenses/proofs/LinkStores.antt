-- What code knows of a link in a tested area: where it stands, and what a store there leaves.
--   link_small, link_within, link_room   == where a link stands is a small number, inside, and has room
--   link_is, slot_word_is        == the words of a link are those of the run
--   slot_some, slot_none, link_packed   == a word of a link is 0 exactly past its messages, so that behind a 0 there are only zeros
--   store_take, store_push    == what is left by a store is the area with a changed run in it
-- Assumes nothing.
use Prim.Native.Nat.{ℕ, zero, suc, ◌+◌, ◌-◌, ◌≤◌, ◌<◌}
use mathlib.Core.List.{List, [], ◌∷◌, ◌++◌}
use mathlib.Core.Path.{◌≡◌, refl, sym, ap, ◌∙◌}
use native.Mathlib.Omega.{arith}
use lib.ListN.{length, get_or, set}
use lib.IntN.{ℤ, pos, nat_abs}
use Rattle.base.specs.ChoiceLaws.{below?}
use Rattle.base.specs.Checks.{Below, below, beyond}
use Rattle.tables.specs.Table.{most_processes, most_arcs}
use Rattle.steps.specs.declared.Message.{Message}
use Rattle.steps.specs.declared.Message.TheVariants.{Suc}
use Rattle.areas.specs.Places.{link_size, area_length}
use Rattle.areas.specs.Used.{link_slots}
use Rattle.areas.specs.Area.{link_of, code_of, slot_word, fields_in, messages_at, run_in, keeping}
use Rattle.areas.specs.Replaced.{put_link}
use Rattle.areas.specs.Squares.{Linked}
use Rattle.areas.specs.Writes.{moved_down, Packed}
use Rattle.areas.specs.CodeLaws.{code_of_some, link_word_slot, slot_word_past}
use Rattle.areas.specs.LinkLaws.{slot_word_at, counts_small_at}
use Rattle.areas.specs.StoredLaws.{link_of_fits, stored_link_word}
use Rattle.areas.specs.WriteLaws.{stored_taken, stored_push}
use Rattle.areas.specs.RunInLaws.{run_in_link}
use Rattle.areas.specs.AreaLaws.{stored_same, area_right_table}
use Rattle.tables.specs.declared.Sizes.{Sizes}
use Rattle.lenses.specs.Ready.{Ready}
use Rattle.machine.specs.Calls.{Cut, nowhere, cut, past, behind, at_place}
use Rattle.link_lenses.specs.Changes.{stays, off}
use Rattle.lenses.specs.ReadyLaws.{right_long, right_storable, run_in_few, ready_sizes}
use Rattle.lenses.specs.ChangeLaws.{link_right_parts}

-- ---- the words of what stays on a link

stays_past : (x : Message) (ms : List Message) (f : Cut Message) → stays (x ∷ ms) (past x f) ≡ x ∷ stays ms f
stays_past x ms nowhere = refl
stays_past x ms (cut m rest) = refl

-- those before the message that is taken
slot_before : (k : ℕ) (ms : List Message) (j : ℕ) → j < k → slot_word (stays ms (behind k ms)) j ≡ slot_word ms j
unfolding behind slot_word
slot_before k [] j h = refl
slot_before zero (m ∷ ms) j h = absurd (omega arith)
slot_before (suc k) (m ∷ ms) zero h = rw (stays_past m ms (behind k ms))
slot_before (suc k) (m ∷ ms) (suc j) h = rw (stays_past m ms (behind k ms)) (slot_before k ms j (omega arith))

-- those behind it move up
slot_behind : (k : ℕ) (ms : List Message) (j : ℕ) → k ≤ j → slot_word (stays ms (behind k ms)) j ≡ slot_word ms (suc j)
unfolding behind slot_word
slot_behind k [] j h = refl
slot_behind zero (m ∷ ms) j h = refl
slot_behind (suc k) (m ∷ ms) zero h = absurd (omega arith)
slot_behind (suc k) (m ∷ ms) (suc j) h = rw (stays_past m ms (behind k ms)) (slot_behind k ms j (omega arith))

-- ---- the words of a link

module _ {w : List ℤ} {z : Sizes} (y : Ready w z) where
  module _ {a b i : ℕ} (k : Linked (fields_in w) a b i) where
    pub link_is : (run_in w).link a b ≡ messages_at w i link_slots
    link_is = rw k.at (run_in_link w a b k.joined)

    pub slot_word_is : (j : ℕ) → j < link_slots → get_or w (i + j) (pos 0) ≡ slot_word ((run_in w).link a b) j
    slot_word_is j h =
        rw k.at
        (ap (λ (v : List ℤ). get_or v (link_of (fields_in w) a b + j) (pos 0)) (sym (stored_same w y.right))
        ∙ stored_link_word (fields_in w) (run_in w) w a b j (pos 0) k.joined (omega arith)
        ∙ link_word_slot ((run_in w).link a b) j h)

    -- a word is 0 exactly past the messages
    pub slot_some : {j : ℕ} → j < length ((run_in w).link a b) → get_or w (i + j) (pos 0) ≡ pos 0 → ⊥
    slot_some {j} h e =
        let r = (link_right_parts (fields_in w) (run_in w) (right_storable w y.right) a b).1 in
        let z : pos 0 ≡ code_of (get_or ((run_in w).link a b) j Suc) = sym e ∙ slot_word_is j (omega (arith, run_in_few w a b)) ∙ slot_word_at ((run_in w).link a b) j h in
        code_of_some (get_or ((run_in w).link a b) j Suc) (counts_small_at ((run_in w).link a b) j r h) (ap nat_abs (sym z))

    pub slot_none : {j : ℕ} → j < link_slots → length ((run_in w).link a b) ≤ j → get_or w (i + j) (pos 0) ≡ pos 0
    slot_none {j} u h = slot_word_is j u ∙ slot_word_past ((run_in w).link a b) j h

    -- so behind a 0 there are only zeros
    pub link_packed : (j : ℕ) → Packed w (i + j) (i + link_slots)
    link_packed j x z l h u e = at (below? (x - i) (length ((run_in w).link a b)))
      where
        here : i + (x - i) ≡ x
        here = omega arith

        there : i + (z - i) ≡ z
        there = omega arith

        at : Below (x - i) (length ((run_in w).link a b)) → get_or w z (pos 0) ≡ pos 0
        at (below q _) = absurd (slot_some q (rw here e))
        at (beyond q _) = rw (← there) (slot_none (omega arith) (omega arith))

    pub link_small : i + link_size ≤ area_length most_processes most_arcs
    link_small = omega (arith, k.at, link_of_fits (fields_in w) a b k.joined, ready_sizes y, y.n_is, y.m_is)

    pub link_within : i + link_slots ≤ length w
    link_within = omega (arith, k.at, link_of_fits (fields_in w) a b k.joined, right_long w y.right)

    pub link_room : length ((run_in w).link a b) ≤ link_slots - 1 → length (messages_at w i link_slots) < link_slots
    link_room h = rw (← link_is) (omega arith)

    pub store_take : (p : ℕ) → (1 ≤ p) × (p ≤ link_slots) → moved_down w (i + p - 1) (i + link_slots) ≡ keeping w (off (run_in w) a b p)
    unfolding at_place
    store_take zero h = absurd (omega (arith, h))
    store_take (suc p) h =
        let c = link_of (fields_in w) a b in
        let ms = (run_in w).link a b in
        let at : i + suc p - 1 ≡ c + p = omega (arith, k.at) in
        rw (at, k.at)
        (ap (λ (v : List ℤ). moved_down v (c + p) (c + link_slots)) (sym (stored_same w y.right))
        ∙ stored_taken (fields_in w) (area_right_table w y.right).right (run_in w) w a b p (stays ms (behind p ms)) k.joined (right_long w y.right)
        (run_in_few w a b) (omega (arith, h)) (slot_before p ms) (slot_behind p ms))

    pub store_push : (x : Message) → length ((run_in w).link a b) ≤ link_slots - 1
        → set w (i + length (messages_at w i link_slots)) (code_of x) ≡ keeping w (put_link (run_in w) a b ((run_in w).link a b ++ (x ∷ [])))
    store_push x h =
        rw (← link_is, k.at)
        (ap (λ (v : List ℤ). set v (link_of (fields_in w) a b + length ((run_in w).link a b)) (code_of x)) (sym (stored_same w y.right))
        ∙ stored_push (fields_in w) (area_right_table w y.right).right (run_in w) w a b x k.joined h)
