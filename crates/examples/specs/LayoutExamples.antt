-- The run area by example, in literal words, to be held against docs/LAYOUT.md by eye. With the waits of one (N 2, M 1) the record of 1 begins at
-- word 24, that of 2 at 30, the link from 1 to 2 at 36 and the link back at 44.
--   full, full_words     == a run with a value in every field, and its 52 words
--   marked w i k        == the answers of k areas, each w with a 1 in one word, from word i on: 25 if it is well formed, and 21 if it is not
-- The others are in States. Assumes nothing.
use Rattle.std.specs.Prelude.{ℕ, zero, suc, List, [], ◌∷◌, ◌++◌, ◌≡◌, refl, ℤ, pos, drop, set, replicate, Result, Ok, Err}
use Rattle.std.proofs.Common.{get_or}
use Rattle.refusals.specs.declared.Refusal.{Refusal}
use Rattle.refusals.specs.Numbers.{numbered}
use Rattle.steps.specs.declared.Process.{Process}
use Rattle.steps.specs.declared.Message.TheVariants.{Suc, Pre, Ack}
use Rattle.steps.specs.Step.{idle}
use Rattle.checks.specs.Run.{Run}
use Rattle.areas.specs.Area.{run_in}
use Rattle.starting.specs.StartCall.{start_area}
use Rattle.area_calls.specs.AreaCalls.{read_answer}
use Rattle.host_values.specs.Interface.{process_of}
use Rattle.examples.specs.States.{minus, both, loop, words, counted, plain, root, two, under, receiving, area}
use Rattle.examples.specs.Computing.{computing}

-- ---- a whole area, written and read

unfoldable full : Run
full =
    under 2
    (two 1 7 (process_of 1 1 0 (minus 5) 6 2 (pos 8)) (process_of 1 0 1 (pos 9) 10 1 (minus 11)) (Suc ∷ Pre ∷ Ack (counted (pos 2) (minus 1)) ∷ Pre ∷ [])
    (Pre ∷ Suc ∷ []))

unfoldable full_words : List ℤ
full_words =
    (pos 2 ∷ pos 1 ∷ pos 7 ∷ pos 2 ∷ [])  -- which check, the start, accepted deliveries, the edition
    ++ replicate 10 (pos 0)  -- free
    ++ (pos 2 ∷ pos 1 ∷ [])  -- N, M
    ++ (pos 1 ∷ pos 0 ∷ pos 0 ∷ pos 1 ∷ [])  -- first-out and first-in of 1 and of 2
    ++ (pos 1 ∷ pos 2 ∷ pos 0 ∷ pos 0 ∷ [])  -- from, to, next-out, next-in
    ++ (pos 3 ∷ minus 5 ∷ pos 6 ∷ pos 2 ∷ pos 8 ∷ pos 0 ∷ [])  -- 1: flags, cs, num, father, the second sum, free
    ++ (pos 5 ∷ pos 9 ∷ pos 10 ∷ pos 1 ∷ minus 11 ∷ pos 0 ∷ [])  -- 2
    ++ (pos 1 ∷ pos 2 ∷ pos 130818 ∷ pos 2 ∷ pos 0 ∷ pos 0 ∷ pos 0 ∷ pos 0 ∷ [])  -- from 1 to 2, the oldest first; four are free
    ++ (pos 2 ∷ pos 1 ∷ pos 0 ∷ pos 0 ∷ pos 0 ∷ pos 0 ∷ pos 0 ∷ pos 0 ∷ [])  -- from 2 to 1

whole_area :
    (area full ≡ full_words) ×
    (read_answer full_words 0 ≡ Err (numbered 25)) ×
    ((run_in full_words).start ≡ 1) × ((run_in full_words).count ≡ 7) × ((run_in full_words).edition ≡ 2) ×
    (read_answer full_words 1 ≡ Ok (process_of 1 1 0 (minus 5) 6 2 (pos 8))) ×
    (read_answer full_words 2 ≡ Ok (process_of 1 0 1 (pos 9) 10 1 (minus 11))) ×
    ((run_in full_words).link 1 2 ≡ Suc ∷ Pre ∷ Ack (counted (pos 2) (minus 1)) ∷ Pre ∷ []) ×
    ((run_in full_words).link 2 1 ≡ Pre ∷ Suc ∷ [])
unfolding computing full full_words
whole_area = (refl, refl, refl, refl, refl, refl, refl, refl, refl)

-- ---- flags: 1 succeeding, 2 preceding, 4 subordinate; the word of 2's

flags_written :
    (get_or (area (receiving (plain 0 0 0 (pos 0) 0 0) Suc)) 30 (pos 9) ≡ pos 0) ×
    (get_or (area (receiving (plain 1 0 0 (pos 0) 0 0) Suc)) 30 (pos 9) ≡ pos 1) ×
    (get_or (area (receiving (plain 0 1 0 (pos 0) 0 0) Suc)) 30 (pos 9) ≡ pos 2) ×
    (get_or (area (receiving (plain 0 0 1 (pos 0) 0 0) Suc)) 30 (pos 9) ≡ pos 4) ×
    (get_or (area (receiving (plain 1 1 1 (pos 0) 0 0) Suc)) 30 (pos 9) ≡ pos 7)
unfolding computing
flags_written = (refl, refl, refl, refl, refl)

flags_read :
    (read_answer (set (area (receiving idle Suc)) 30 (pos 1)) 2 ≡ Ok (plain 1 0 0 (pos 0) 0 0)) ×
    (read_answer (set (area (receiving idle Suc)) 30 (pos 2)) 2 ≡ Ok (plain 0 1 0 (pos 0) 0 0)) ×
    (read_answer (set (area (receiving idle Suc)) 30 (pos 4)) 2 ≡ Ok (plain 0 0 1 (pos 0) 0 0)) ×
    (read_answer (set (area (receiving idle Suc)) 30 (pos 7)) 2 ≡ Ok (plain 1 1 1 (pos 0) 0 0)) ×
    (read_answer (set (area (receiving idle Suc)) 30 (pos 8)) 2 ≡ Err (numbered 21)) ×
    (read_answer (set (area (receiving idle Suc)) 30 (minus 1)) 2 ≡ Err (numbered 21))
unfolding computing
flags_read = (refl, refl, refl, refl, refl, refl)

-- ---- "Free and unused words hold 0, and a well-formed area demands it"

unfoldable marked : List ℤ → ℕ → ℕ → List (Result Process Refusal)
marked w i zero = []
marked w i (suc k) = read_answer (set w i (pos 1)) 0 ∷ marked w (suc i) k

free_words :
    (marked (area (receiving idle Suc)) 4 10 ≡ replicate 10 (Err (numbered 21))) ×  -- the heading, behind the edition
    (marked (area (receiving idle Suc)) 29 1 ≡ Err (numbered 21) ∷ []) ×  -- the last word of a record
    (marked (area (receiving idle Suc)) 37 1 ≡ Err (numbered 25) ∷ []) ×  -- a second message from 1 to 2
    (marked (area (receiving idle Suc)) 38 2 ≡ Err (numbered 21) ∷ Err (numbered 21) ∷ []) ×  -- a message behind none
    (marked full_words 39 1 ≡ Err (numbered 25) ∷ []) ×  -- the fourth message
    (marked full_words 40 4 ≡ replicate 4 (Err (numbered 21))) ×  -- behind the four
    (marked full_words 48 4 ≡ replicate 4 (Err (numbered 21)))
unfolding computing full_words marked
free_words = (refl, refl, refl, refl, refl, refl, refl)

-- ---- "The link from a to b is the first link of the arc from a to b if there is one, otherwise the second link of the arc from b to a"

-- 1-2: the link back is arc 1's second, at word 44
link_back :
    (area (two 1 0 (root (pos 0) 1) idle [] (Pre ∷ [])) ≡ set (area (two 1 0 (root (pos 0) 1) idle [] [])) 44 (pos 2)) ×
    ((run_in (set (area (two 1 0 (root (pos 0) 1) idle [] [])) 44 (pos 2))).link 2 1 ≡ Pre ∷ []) ×
    ((run_in (set (area (two 1 0 (root (pos 0) 1) idle [] [])) 44 (pos 2))).link 1 2 ≡ [])
unfolding computing
link_back = (refl, refl, refl)

-- 1-2, 2-1, with 72 words: arc 1's links begin at words 40 and 48, arc 2's at 56 and 64; "The second link of an arc is unused if there is an arc back"
links_both_ways :
    (drop 40 (start_area both 1 1 (words 72)) ≡ pos 1 ∷ pos 2 ∷ replicate 30 (pos 0)) ×
    ((run_in (set (start_area both 1 1 (words 72)) 56 (pos 2))).link 2 1 ≡ Pre ∷ []) ×
    (marked (start_area both 1 1 (words 72)) 56 1 ≡ Err (numbered 25) ∷ []) ×
    (marked (start_area both 1 1 (words 72)) 48 8 ≡ replicate 8 (Err (numbered 21))) ×
    (marked (start_area both 1 1 (words 72)) 64 8 ≡ replicate 8 (Err (numbered 21)))
unfolding computing marked
links_both_ways = (refl, refl, refl, refl, refl)

-- 1-1, with 44 words: "A process with a loop has its link to itself at the loop's first link", at word 28; the second is unused
link_of_a_loop :
    (drop 28 (start_area loop 1 1 (words 44)) ≡ pos 1 ∷ pos 2 ∷ replicate 14 (pos 0)) ×
    ((run_in (start_area loop 1 1 (words 44))).link 1 1 ≡ Suc ∷ Pre ∷ []) ×
    (marked (start_area loop 1 1 (words 44)) 30 1 ≡ Err (numbered 25) ∷ []) ×
    (marked (start_area loop 1 1 (words 44)) 36 8 ≡ replicate 8 (Err (numbered 21)))
unfolding computing marked
link_of_a_loop = (refl, refl, refl, refl)
