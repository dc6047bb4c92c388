-- `word_tests::are_messages` meets its contract: each word of the part that is lent on passes, or one fails.
use Rattle.std.proofs.Common.{ℕ, ◌+◌, ◌-◌, ◌≤◌, ◌<◌, Bool, true, false, List, ◌≡◌, refl, sym, ap, ◌∙◌, arith, rules, ℤ, pos, length, length-take, length-drop, get_or, take, drop}
use Rattle.std.proofs.lemmas.Iterator.{cases_from_all, YieldsList-from_slice}
use Rattle.std.specs.Prelude.{MatchBool}
use Rattle.std.specs.List.{AllWithin, HoldsAt}
use Rattle.base.specs.Sums.{all_to}
use Rattle.base.specs.SumLaws.{all_to_of}
use Rattle.base.specs.PrefixLaws.{all_to_stop}
use Rattle.word_tests.specs.WordTests.{message_word}
use Rattle.word_tests.proofs.Parts.{part_at}
use Rattle.word_tests.proofs.are_messages.Goals as goal

-- the test of the word that stands j - 1 words after i
abbrev message : List ℤ → ℕ → ℕ → Bool
message w i j = message_word (get_or w (i + (j - 1)) (pos 0))

-- what the words of a part are, said of the area
module _ (w : List ℤ) (i l : ℕ) (inside : i + l ≤ length w) {part : List ℤ} (e : part ≡ take (i + l - i) (drop i w)) where
  at_word : (k : ℕ) → k < length part → (k < l) × (get_or part k (pos 0) ≡ get_or w (i + k) (pos 0))
  at_word k u =
      let p = part_at w i (i + l - i) k (rw e at u) in
      (omega (arith, p.0), ap (λ (x : List ℤ). get_or x k (pos 0)) e ∙ p.1)

  long : length part ≡ l
  long = rw e (simp (length-take, length-drop) (omega (arith, inside)))

  settle : (r : Bool) → MatchBool r (AllWithin (λ x. message_word x ≡ true) part 0 (length part)) ((k : ℕ) × (k < length part) × HoldsAt (λ x. message_word x ≡ false) part k)
      → r ≡ all_to l (message w i)
  settle true h =
      sym (all_to_of l (message w i) (λ j low few.
      let u : j - 1 < length part = omega (arith, long) in
      ap message_word (sym (at_word (j - 1) u).1) ∙ h (j - 1) (pos 0) (omega arith) u))
  settle false h =
      let p = at_word h.0 h.1 in
      let q : i + (h.0 + 1 - 1) ≡ i + h.0 = omega arith in
      sym (all_to_stop l (h.0 + 1) (message w i) (omega arith) (omega (arith, p.0)) (rw q (ap message_word (sym p.1) ∙ h.2 (pos 0))))

pub returns : goal.returns
returns c =
    settle c.args.area.now c.args.i c.args.l c.requires c.iter.ensures.rest c.all.result
    (cases_from_all _ _ c.all.result (λ x. message_word x ≡ true) (λ x. message_word x ≡ false) c.all.ensures.ran
    (YieldsList-from_slice c.iter.result.rest.now cc) (λ x q k. (refl, sym (search rules))) (λ x q k. sym (search rules)))
