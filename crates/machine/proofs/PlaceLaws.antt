-- Laws of places.
--   at_place_P       == what is found at a place is the message that stands there, taken out of the middle; nothing at place 0 and beyond
--   at_place_here    == a message is found at each place from 1 to their number
--   cut_placed      == what is found at a place is one of the list, and the place is one of 1 to their number
use Prim.Native.Nat.{ℕ, zero, suc, ◌≤◌, ◌<◌}
use Rattle.std.specs.Prelude.{◌≡◌, length}
use mathlib.Core.List.{List, [], ◌∷◌}
use Rattle.std.proofs.Math.Path.{refl}
use Rattle.std.proofs.Common.{ap, subst, inl, inr, ⊎_elim}
use native.Mathlib.Omega.{arith}
use Rattle.machine.specs.Calls.{Cut, nowhere, cut, past, behind, at_place}
use Rattle.machine.specs.Among.{Among, Between, Placed, there, not_there, Here}
use Rattle.machine.specs.AmongLaws.{between_among, between_place}

module _ {M : Type 0} where
  -- what is found behind k others is taken out of the middle; or there is none so far on
  abbrev FoundIn : List M → ℕ → Cut M → Type 0
  FoundIn ms k nowhere = length ms ≤ k
  FoundIn ms k (cut m rest) = Between (suc k) ms m rest

  found_past : (x : M) (ms : List M) (k : ℕ) (f : Cut M) → FoundIn ms k f → FoundIn (x ∷ ms) (suc k) (past x f)
  found_past x ms k nowhere h = omega arith
  found_past x ms k (cut m rest) h =
      record {
        front = x ∷ h.front;
        back = h.back;
        place = omega (arith, h.place);
        link = ap (λ (l : List M). x ∷ l) h.link;
        stay = ap (λ (l : List M). x ∷ l) h.stay;
      }

  behind_found : (k : ℕ) (ms : List M) → FoundIn ms k (behind k ms)
  unfolding behind
  behind_found k [] = omega arith
  behind_found zero (m ∷ ms) = record { front = []; back = ms; place = omega arith; link = refl; stay = refl }
  behind_found (suc k) (m ∷ ms) = found_past m ms k (behind k ms) (behind_found k ms)

  pub at_place_P : (k : ℕ) (ms : List M) → Placed k ms (at_place k ms)
  unfolding at_place
  at_place_P zero ms = not_there (inl refl)
  at_place_P (suc k) ms = at (behind k ms) (behind_found k ms)
    where
      at : (f : Cut M) → FoundIn ms k f → Placed (suc k) ms f
      at nowhere h = not_there (inr (omega arith))
      at (cut m rest) h = there h

  pub at_place_here : (k : ℕ) (ms : List M) → 1 ≤ k → k ≤ length ms → Here k ms
  at_place_here k ms l u = at (at_place k ms) refl (at_place_P k ms)
    where
      at : (f : Cut M) → at_place k ms ≡ f → Placed k ms f → Here k ms
      at (cut m rest) e (there b) = record { message = m; rest = rest; is = e; among = between_among b }
      at nowhere e (not_there h) = absurd (⊎_elim (λ (z : k ≡ 0). omega arith) (λ (z : length ms < k). omega arith) h)

  pub cut_placed : (k : ℕ) (ms : List M) {m : M} {rest : List M} → at_place k ms ≡ cut m rest → Among m rest ms × ((1 ≤ k) × (k ≤ length ms))
  cut_placed k ms {m} {rest} e = at (subst (λ (f : Cut M). Placed k ms f) e (at_place_P k ms))
    where
      at : Placed k ms (cut m rest) → Among m rest ms × ((1 ≤ k) × (k ≤ length ms))
      at (there b) = (between_among b, between_place b)
