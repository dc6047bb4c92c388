-- What code reads off a link of a tested area.
--   none_here, beyond_here, empty_here, word_counts, message_here   == what waits at a place of a link, by the words of the link
--   free_here, full_here      == whether so many slots of a link are free, by one word
--   waits_here, none_waits    == whether a message waits on a link, by its first word
-- Assumes nothing.
use Prim.Native.Nat.{ℕ, ◌+◌, ◌-◌, ◌≤◌, ◌<◌}
use mathlib.Core.Bool.{true, false}
use mathlib.Core.List.{List, [], ◌∷◌}
use mathlib.Core.Path.{◌≡◌, refl, sym, ap, ◌∙◌}
use mathlib.Core.Logic.{◌⊎◌, inl, inr, ⊎_elim}
use native.Mathlib.Omega.{arith}
use lib.ListN.{length, get_or}
use lib.IntN.{ℤ, pos}
use Rattle.base.specs.ChoiceLaws.{below?}
use Rattle.base.specs.Checks.{Below, below, beyond}
use Rattle.machine.specs.Calls.{waiting}
use Rattle.steps.specs.declared.Message.{Message}
use Rattle.steps.specs.declared.Message.TheVariants.{Suc, Pre, Ack}
use Rattle.steps.specs.Step.{count_small}
use Rattle.machine.specs.Among.{Here}
use Rattle.machine.proofs.PlaceLaws.{at_place_here}
use Rattle.areas.specs.Used.{link_slots, Counts}
use Rattle.areas.specs.Area.{code_of, fields_in, message_of, run_in}
use Rattle.areas.specs.CodeLaws.{message_of_code_of}
use Rattle.areas.specs.Squares.{Linked}
use Rattle.tables.specs.declared.Sizes.{Sizes}
use Rattle.lenses.specs.Ready.{Ready}
use Rattle.std.specs.Prelude.{Ok, Err}
use Rattle.refusals.specs.declared.Refusal.TheVariants.{NoMessage, Place}
use Rattle.link_lenses.specs.Standing.{standing}
use Rattle.lenses.specs.ReadyLaws.{right_storable, run_in_few}
use Rattle.lenses.specs.ChangeLaws.{link_message}
use Rattle.link_lenses.specs.StandingLaws.{standing_none, standing_beyond, standing_cut, slot_cut}
use Rattle.link_lenses.proofs.LinkStores.{slot_word_is, slot_some, slot_none}

-- the word of a message is above 0
code_of_counts : (m : Message) → count_small m ≡ true → Counts (code_of m)
unfolding code_of
code_of_counts Suc h = refl
code_of_counts Pre h = refl
code_of_counts (Ack c) h = refl

some_waits : (ms : List Message) → 1 ≤ length ms → waiting ms ≡ true
some_waits [] h = absurd (omega arith)
some_waits (m ∷ ms) h = refl

nothing_waits : (ms : List Message) → length ms ≡ 0 → waiting ms ≡ false
nothing_waits [] h = refl
nothing_waits (m ∷ ms) h = absurd (omega arith)

module _ {w : List ℤ} {z : Sizes} (y : Ready w z) where
  module _ {a b i : ℕ} (k : Linked (fields_in w) a b i) where
    -- the first word
    word_first : get_or w (i + 0) (pos 0) ≡ get_or w i (pos 0)
    word_first = let e : i + 0 ≡ i = omega arith in ap (λ (j : ℕ). get_or w j (pos 0)) e

    -- what waits at a place, by the words of the link
    pub none_here : (p : ℕ) → get_or w i (pos 0) ≡ pos 0 → Err NoMessage ≡ standing p ((run_in w).link a b)
    none_here p z = sym (standing_none p ((run_in w).link a b) (at (below? 0 (length ((run_in w).link a b)))))
      where
        at : Below 0 (length ((run_in w).link a b)) → length ((run_in w).link a b) ≡ 0
        at (below q _) = absurd (slot_some y k q (word_first ∙ z))
        at (beyond q _) = omega arith

    some_here : (get_or w i (pos 0) ≡ pos 0 → ⊥) → 1 ≤ length ((run_in w).link a b)
    some_here h = at (below? 0 (length ((run_in w).link a b)))
      where
        at : Below 0 (length ((run_in w).link a b)) → 1 ≤ length ((run_in w).link a b)
        at (below q _) = q
        at (beyond q _) = absurd (h (sym word_first ∙ slot_none y k (omega arith) q))

    module _ (some : get_or w i (pos 0) ≡ pos 0 → ⊥) (p : ℕ) where
      pub beyond_here : (p ≡ 0) ⊎ (link_slots < p) → Err Place ≡ standing p ((run_in w).link a b)
      beyond_here h =
          sym
          (standing_beyond p ((run_in w).link a b) (some_here some)
          (⊎_elim (λ z. inl z) (λ z. inr (omega (arith, run_in_few w a b))) h))

      module _ (lo : p ≡ 0 → ⊥) (hi : p ≤ link_slots) where
        pub empty_here : get_or w (i + (p - 1)) (pos 0) ≡ pos 0 → Err Place ≡ standing p ((run_in w).link a b)
        empty_here z = sym (standing_beyond p ((run_in w).link a b) (some_here some) (inr (at (below? (p - 1) (length ((run_in w).link a b))))))
          where
            at : Below (p - 1) (length ((run_in w).link a b)) → length ((run_in w).link a b) < p
            at (below q _) = absurd (slot_some y k q z)
            at (beyond q _) = omega (arith, lo)

        module _ (full : get_or w (i + (p - 1)) (pos 0) ≡ pos 0 → ⊥) where
          inside : p ≤ length ((run_in w).link a b)
          inside = at (below? (p - 1) (length ((run_in w).link a b)))
            where
              at : Below (p - 1) (length ((run_in w).link a b)) → p ≤ length ((run_in w).link a b)
              at (below q _) = omega arith
              at (beyond q _) = absurd (full (slot_none y k (omega (arith, lo)) q))

          here : Here p ((run_in w).link a b)
          here = at_place_here p ((run_in w).link a b) (omega (arith, lo)) inside

          word_is : get_or w (i + (p - 1)) (pos 0) ≡ code_of here.message
          word_is = slot_word_is y k (p - 1) (omega (arith, lo)) ∙ slot_cut p ((run_in w).link a b) here.is

          message_small : count_small here.message ≡ true
          message_small = link_message (fields_in w) (run_in w) (right_storable w y.right) a b here.among

          pub word_counts : Counts (get_or w (i + (p - 1)) (pos 0))
          word_counts = rw word_is (code_of_counts here.message message_small)

          pub message_here : Ok (message_of (get_or w (i + (p - 1)) (pos 0))) ≡ standing p ((run_in w).link a b)
          message_here =
              ap (λ (z : ℤ). Ok (message_of z))
              word_is
              ∙ ap Ok
              (message_of_code_of here.message message_small)
              ∙ sym (standing_cut p ((run_in w).link a b) here.is)

    -- whether k slots are free
    pub free_here : (f : ℕ) → 1 ≤ f → f ≤ link_slots → get_or w (i + (link_slots - f)) (pos 0) ≡ pos 0 → length ((run_in w).link a b) + f ≤ link_slots
    free_here f l u z = at (below? (link_slots - f) (length ((run_in w).link a b)))
      where
        at : Below (link_slots - f) (length ((run_in w).link a b)) → length ((run_in w).link a b) + f ≤ link_slots
        at (below q _) = absurd (slot_some y k q z)
        at (beyond q _) = omega arith

    pub full_here : (f : ℕ) → 1 ≤ f → f ≤ link_slots → (get_or w (i + (link_slots - f)) (pos 0) ≡ pos 0 → ⊥) → link_slots < length ((run_in w).link a b) + f
    full_here f l u z = at (below? (link_slots - f) (length ((run_in w).link a b)))
      where
        at : Below (link_slots - f) (length ((run_in w).link a b)) → link_slots < length ((run_in w).link a b) + f
        at (below q _) = omega arith
        at (beyond q _) = absurd (z (slot_none y k (omega arith) q))

    -- whether a message waits, by the first word
    pub waits_here : (get_or w i (pos 0) ≡ pos 0 → ⊥) → waiting ((run_in w).link a b) ≡ true
    waits_here h = some_waits ((run_in w).link a b) (some_here h)

    pub none_waits : get_or w i (pos 0) ≡ pos 0 → waiting ((run_in w).link a b) ≡ false
    none_waits z = nothing_waits ((run_in w).link a b) (at (below? 0 (length ((run_in w).link a b))))
      where
        at : Below 0 (length ((run_in w).link a b)) → length ((run_in w).link a b) ≡ 0
        at (below q _) = absurd (slot_some y k q (word_first ∙ z))
        at (beyond q _) = omega arith
