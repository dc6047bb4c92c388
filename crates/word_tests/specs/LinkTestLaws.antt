-- Laws of the tests of words: what each says, and the test of a link in the two parts that code makes.
--   tells_counts, tells_are_free   == a word is a number of 0 or more; words are 0
--   link_test_P            == the counts read from a link are in range, and its words are those of its messages
--   link_test_parts        == the test of a link: messages up to the first 0, and zeros from there on
--   link_test_empty        == a link of zeros passes
-- Assumes nothing.
use Rattle.std.specs.Prelude.{ℕ, zero, suc, ◌+◌, ◌-◌, ◌≤◌, ◌<◌, Bool, true, ◌&&◌, List, [], ◌≡◌, refl, ℤ, pos, nat_abs, get_or}
use Rattle.std.proofs.Common.{sym, ap, ◌∙◌, arith}
use Rattle.std.proofs.Math.ListN.{length}
use Rattle.base.specs.ChoiceLaws.{below?}
use Rattle.base.specs.Checks.{Below, below, beyond}
use Rattle.base.specs.Sums.{all_to}
use Rattle.steps.specs.declared.Message.{Message}
use Rattle.steps.specs.declared.Message.TheVariants.{Suc}
use Rattle.steps.specs.Step.{count_small}
use Rattle.checks.specs.Run.{counts_small}
use Rattle.areas.specs.Area.{code_of, slot_word, number_at, message_of, messages_at, same_word}
use Rattle.areas.specs.Tells.{Tells}
use Rattle.areas.specs.TellsLaws.{tells_map, tells_id, tells_both, tells_below, tells_same}
use Rattle.areas.specs.CodeLaws.{slot_word_past}
use Rattle.areas.specs.WordTestLaws.{same_word_P}
use Rattle.areas.specs.LinkLaws.{messages_at_stop, messages_at_length, messages_at_at, slot_word_at, counts_small_at, counts_small_of}
use Rattle.word_tests.specs.WordTests.{counts, is_free, are_free, message_word, link_test}

-- ---- words

pub tells_counts : (w : List ℤ) (k : ℕ) → Tells (counts w k) (get_or w k (pos 0) ≡ pos (number_at w k))
tells_counts w k = same_word_P (get_or w k (pos 0)) (pos (number_at w k))

tells_free : (w : List ℤ) (k : ℕ) → Tells (is_free w k) (get_or w k (pos 0) ≡ pos 0)
tells_free w k = same_word_P (get_or w k (pos 0)) (pos 0)

pub tells_are_free : (w : List ℤ) (i e : ℕ) → Tells (are_free w i e) ((j : ℕ) → j < e - i → get_or w (i + j) (pos 0) ≡ pos 0)
tells_are_free w i e = tells_below (e - i) (λ j. is_free w (i + j)) (λ j. get_or w (i + j) (pos 0) ≡ pos 0) (λ j. tells_free w (i + j))

pub link_test_P : (s z : ℕ) (w : List ℤ) (i : ℕ)
    → Tells (link_test s z w i) ((counts_small (messages_at w i s) ≡ true) × ((j : ℕ) → j < z → get_or w (i + j) (pos 0) ≡ slot_word (messages_at w i s) j))
unfolding link_test
link_test_P s z w i =
    tells_both (tells_id (counts_small (messages_at w i s)))
    (tells_below z (λ j. same_word (get_or w (i + j) (pos 0)) (slot_word (messages_at w i s) j)) (λ j. get_or w (i + j) (pos 0) ≡ slot_word (messages_at w i s) j)
    (λ j. same_word_P (get_or w (i + j) (pos 0)) (slot_word (messages_at w i s) j)))

-- ---- link_test

module _ (s z : ℕ) (w : List ℤ) (i : ℕ) (fits : s ≤ z) where
  -- the messages of the link, and the word j of it
  abbrev here : List Message
  here = messages_at w i s

  abbrev word : ℕ → ℤ
  word j = get_or w (i + j) (pos 0)

  -- what the test says of the words, and of the messages
  record Holds : Type 0 where
    pub words : (j : ℕ) → j < z → word j ≡ slot_word here j
    pub small : counts_small here ≡ true

  abbrev messages : Bool
  messages = all_to (length here) (λ j. message_word (word (j - 1)))

  abbrev zeros : Bool
  zeros = all_to (z - length here) (λ j. is_free w (i + length here + (j - 1)))

  few : length here ≤ s
  few = messages_at_length w i s

  -- a message of the link is that of its word
  at_word : (j : ℕ) → j < length here → get_or here j Suc ≡ message_of (word j)
  at_word j h = messages_at_at w i s j h

  at_code : (j : ℕ) → j < length here → slot_word here j ≡ code_of (message_of (word j))
  at_code j h = slot_word_at here j h ∙ ap code_of (at_word j h)

  test_P : Tells (link_test s z w i) Holds
  test_P = tells_map (λ p. record { words = p.1; small = p.0 }) (λ h. (h.small, h.words)) (link_test_P s z w i)

  Message-at : ℕ → Type 0
  Message-at j = (word j ≡ code_of (message_of (word j))) × (count_small (message_of (word j)) ≡ true)

  Free-at : ℕ → Type 0
  Free-at j = get_or w (i + length here + j) (pos 0) ≡ pos 0

  parts_P : Tells (messages && zeros) Holds
  unfolding Message-at Free-at
  parts_P =
      tells_map to from
      (tells_both
      (tells_below (length here) (λ j. message_word (word j)) Message-at
      (λ j. tells_both (same_word_P (word j) (code_of (message_of (word j)))) (tells_id (count_small (message_of (word j))))))
      (tells_below (z - length here) (λ j. is_free w (i + length here + j)) Free-at (λ j. same_word_P (get_or w (i + length here + j) (pos 0)) (pos 0))))
    where
      Said : Type 0
      Said = ((j : ℕ) → j < length here → Message-at j) × ((j : ℕ) → j < z - length here → Free-at j)

      at : Said → (j : ℕ) → j < z → Below j (length here) → word j ≡ slot_word here j
      at p j u (below h _) = (p.0 j h).0 ∙ sym (at_code j h)
      at p j u (beyond h _) =
          let q : i + length here + (j - length here) ≡ i + j = omega arith in
          (rw q at (p.1 (j - length here) (omega arith))) ∙ sym (slot_word_past here j h)

      to : Said → Holds
      to s = record { words = λ j u. at s j u (below? j (length here)); small = counts_small_of here (λ j u. rw (at_word j u) (s.0 j u).1) }

      free : Holds → (j : ℕ) → j < z - length here → Free-at j
      free h j u =
          let q : i + length here + j ≡ i + (length here + j) = omega arith in
          rw q (h.words (length here + j) (omega arith) ∙ slot_word_past here (length here + j) (omega arith))

      from : Holds → Said
      from h = (λ j u. (h.words j (omega (arith, few)) ∙ at_code j u, rw (← at_word j u) (counts_small_at here j h.small u)), free h)

  pub link_test_parts : link_test s z w i ≡ (messages && zeros)
  link_test_parts = tells_same (link_test s z w i) (messages && zeros) test_P parts_P

messages_at_none : (w : List ℤ) (i s : ℕ) → (1 ≤ s → get_or w i (pos 0) ≡ pos 0) → messages_at w i s ≡ []
unfolding messages_at
messages_at_none w i zero h = refl
messages_at_none w i (suc s) h = messages_at_stop w i s (ap nat_abs (h (omega arith)))

pub link_test_empty : (s z : ℕ) (w : List ℤ) (i : ℕ) → s ≤ z → ((j : ℕ) → j < z → get_or w (i + j) (pos 0) ≡ pos 0) → link_test s z w i ≡ true
link_test_empty s z w i fits h =
    let first : i + 0 ≡ i = omega arith in
    let none : messages_at w i s ≡ [] = messages_at_none w i s (λ some. rw first at (h 0 (omega arith))) in
    (link_test_P s z w i).1 (rw none (counts_small_of [] (λ j u. absurd (omega arith))), λ j u. h j u ∙ rw none (sym (slot_word_past [] j (omega arith))))
