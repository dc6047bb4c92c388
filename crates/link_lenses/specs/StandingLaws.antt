-- What waits at a place of a link.
--   standing_none, standing_beyond, standing_cut   == what code is to say where nothing waits, where no message is at that place, and else
--   message_standing     == where it says a message, that is the one
--   slot_cut             == the word of the message behind so many others
-- Assumes nothing.
use Rattle.std.specs.Prelude.{ℕ, zero, suc, ◌-◌, ◌≤◌, ◌<◌, List, [], ◌∷◌, ◌≡◌, refl, ◌⊎◌, length, pos, Ok, Err}
use Rattle.std.proofs.Common.{sym, subst, ⊎_elim, arith}
use Rattle.machine.specs.Calls.{Cut, nowhere, cut, past, behind, at_place}
use Rattle.machine.specs.Among.{Placed, there, not_there}
use Rattle.machine.specs.AmongLaws.{between_place}
use Rattle.machine.proofs.PlaceLaws.{at_place_P, cut_placed}
use Rattle.steps.specs.declared.Message.{Message}
use Rattle.areas.specs.Area.{code_of, slot_word}
use Rattle.refusals.specs.declared.Refusal.TheVariants.{NoMessage, Place}
use Rattle.link_lenses.specs.Standing.{found_at, standing, OneAt}

-- ---- what code is to say

pub standing_none : (k : ℕ) (ms : List Message) → length ms ≡ 0 → standing k ms ≡ Err NoMessage
unfolding standing
standing_none k [] e = refl
standing_none k (m ∷ ms) e = absurd (omega arith)

pub standing_beyond : (k : ℕ) (ms : List Message) → 1 ≤ length ms → (k ≡ 0) ⊎ (length ms < k) → standing k ms ≡ Err Place
unfolding standing
standing_beyond k [] l h = absurd (omega arith)
standing_beyond k (m ∷ ms) l h = at (at_place_P k (m ∷ ms))
  where
    at : {f : Cut Message} → Placed k (m ∷ ms) f → found_at f ≡ Err Place
    at (not_there _) = refl
    at (there b) =
        let p = between_place b in
        absurd (⊎_elim (λ (z : k ≡ 0). omega (arith, p)) (λ (z : length (m ∷ ms) < k). omega (arith, p)) h)

pub standing_cut : (k : ℕ) (ms : List Message) {x : Message} {rest : List Message} → at_place k ms ≡ cut x rest → standing k ms ≡ Ok x
unfolding standing
standing_cut k [] e = absurd (omega (arith, (cut_placed k [] e).1))
standing_cut k (m ∷ ms) e = rw e

pub message_standing : (k : ℕ) (ms : List Message) {x : Message} → standing k ms ≡ Ok x → OneAt k ms x
unfolding standing
message_standing k [] e = let z : ◌≡◌ {A = ℕ} 0 1 = cc in absurd (omega arith)
message_standing k (m ∷ ms) {x} e = at (at_place k (m ∷ ms)) refl e
  where
    at : (f : Cut Message) → at_place k (m ∷ ms) ≡ f → found_at f ≡ Ok x → OneAt k (m ∷ ms) x
    at nowhere i q = let z : ◌≡◌ {A = ℕ} 0 1 = cc in absurd (omega arith)
    at (cut y rest) i q = let s : y ≡ x = cc in record { rest = rest; is = rw (sym s) i }

-- ---- its word

-- the word behind k others is that of the message found there
abbrev SlotIs : List Message → ℕ → Cut Message → Type 0
SlotIs ms k nowhere = slot_word ms k ≡ pos 0
SlotIs ms k (cut m rest) = slot_word ms k ≡ code_of m

slot_found : (k : ℕ) (ms : List Message) → SlotIs ms k (behind k ms)
unfolding behind slot_word
slot_found k [] = refl
slot_found zero (m ∷ ms) = refl
slot_found (suc k) (m ∷ ms) = at (behind k ms) (slot_found k ms)
  where
    at : (f : Cut Message) → SlotIs ms k f → SlotIs (m ∷ ms) (suc k) (past m f)
    at nowhere h = h
    at (cut x rest) h = h

pub slot_cut : (k : ℕ) (ms : List Message) {x : Message} {rest : List Message} → at_place k ms ≡ cut x rest → slot_word ms (k - 1) ≡ code_of x
unfolding at_place
slot_cut zero ms e = absurd (omega (arith, (cut_placed 0 ms e).1))
slot_cut (suc k) ms {x} {rest} e =
    let i : suc k - 1 ≡ k = omega arith in
    rw i (subst (λ (f : Cut Message). SlotIs ms k f) e (slot_found k ms))
