-- How the link at a place in the fixed order is found by what is remembered.
--   Names, lowest_names, drawn_names   == what is chosen is a link of two processes with a message
--   Within r                     == messages wait between processes alone
--   senders_count, links_before, links_all   == the lengths of the lists of links, by the counts
--   link_found                   == the link at a place: its receiver by the links before, its sender by those to the same receiver
--   link_none                    == nobody past the last
--   points_drawn                 == the place that a state points to is that of the drawn link (02, N13)
-- Assumes nothing.
use Rattle.std.specs.Prelude.{ℕ, ◌+◌, ◌-◌, ◌%◌, ◌≤◌, ◌<◌, Bool, true, List, ◌≡◌}
use Rattle.std.proofs.Math.Path.{sym, ap}
use Rattle.std.proofs.Common.{◌∙◌, arith}
use Rattle.std.proofs.Math.ListN.{length}
use Rattle.base.specs.Choice.{bit}
use Rattle.base.specs.ChoiceLaws.{same?, tested}
use Rattle.base.specs.Checks.{Same, same, apart, Tested, passed, failed}
use Rattle.base.specs.Sums.{count_to}
use Rattle.base.specs.SumLaws.{sum_to_cong, sum_to_zero, sum_to_short}
use Rattle.tables.specs.Table.{most_processes, IsProcess}
use Rattle.machine.specs.Calls.{Selection, nobody, pair, waiting, in_row, link_at, link_if, links_to, links_of, lowest, drawn}
use Rattle.machine.proofs.ChooserLaws.{link_if_length, link_if_first, links_of_all}
use Rattle.machine.specs.LinkListLaws.{link_at_end, in_row_length, in_row_at}
use Rattle.checks.specs.Run.{Run}
use Rattle.sets.specs.Sets.{Nth}
use Rattle.marks.specs.Marks.{held_to}
use Rattle.marks.specs.Changes.{Points}
use Rattle.remembering.specs.Memory.{Remembers}

-- ---- what is chosen

-- a choice names a link of two processes with a message
abbrev pub Names : (Run → Selection) → Type 0
Names choice =
    (r : Run) (a b : ℕ) → choice r ≡ pair a b → IsProcess r.waits.n a × IsProcess r.waits.n b × (waiting (r.link a b) ≡ true)

pub lowest_names : Names lowest
unfolding lowest
lowest_names r a b e = (links_of_all r).names 0 e

pub drawn_names : (s : ℕ) → Names (drawn s)
unfolding drawn
drawn_names s r a b e = (links_of_all r).names (s % length (links_of r)) e

-- ---- the lengths

-- messages wait between processes alone
abbrev pub Within : Run → Type 0
Within r = (a b : ℕ) → waiting (r.link a b) ≡ true → IsProcess r.waits.n a × IsProcess r.waits.n b

module _ (r : Run) where
  -- a pair that is marked is a link with a message
  abbrev held : ℕ → ℕ → Bool
  held a b = waiting (r.link a b)

  -- the links to b from senders 1 to m
  senders_count : (b m : ℕ) → length (in_row m (λ a. link_if r a b)) ≡ count_to m (λ a. held a b)
  unfolding count_to
  senders_count b m =
      in_row_length m (λ a. link_if r a b) ∙ sum_to_cong m (λ a. length (link_if r a b)) (λ a. bit (held a b)) (λ a _ _. link_if_length r a b)

  module _ (few : r.waits.n ≤ most_processes) (within : Within r) where
    -- nothing waits where an end is no process
    no_link : (a b : ℕ) → (IsProcess r.waits.n a × IsProcess r.waits.n b → ⊥) → bit (held a b) ≡ 0
    no_link a b no_ends = at (tested (held a b))
      where
        at : Tested (held a b) → bit (held a b) ≡ 0
        at (passed e) = absurd (no_ends (within a b e))
        at (failed e) = ap bit e

    no_receiver : (b : ℕ) → r.waits.n < b → count_to most_processes (λ a. held a b) ≡ 0
    unfolding count_to
    no_receiver b u = sum_to_zero most_processes (λ a. bit (held a b)) (λ a _ _. no_link a b (λ i. absurd (omega (arith, i))))

    links_to_is : (b : ℕ) → length (links_to r b) ≡ count_to most_processes (λ a. held a b)
    unfolding links_to count_to
    links_to_is b =
        senders_count b r.waits.n
        ∙ sym (sum_to_short r.waits.n most_processes (λ a. bit (held a b)) few (λ a u. no_link a b (λ i. absurd (omega (arith, i)))))

    links_before : (m : ℕ) → length (in_row m (λ b. links_to r b)) ≡ held_to held m
    unfolding held_to
    links_before m =
        in_row_length m (λ b. links_to r b)
        ∙ sum_to_cong m (λ b. length (links_to r b)) (λ b. count_to most_processes (λ a. held a b)) (λ b _ _. links_to_is b)

    links_all : length (links_of r) ≡ held_to held most_processes
    unfolding links_of held_to
    links_all =
        links_before r.waits.n
        ∙ sym (sum_to_short r.waits.n most_processes (λ b. count_to most_processes (λ a. held a b)) few no_receiver)

    -- ---- the link at a place

    pub link_none : (k : ℕ) → held_to held r.waits.n ≤ k → link_at k (links_of r) ≡ nobody
    unfolding links_of
    link_none k u = link_at_end k (links_of r) (omega (arith, links_before r.waits.n))

    -- the links to the receivers before b, and left more, are k, and a has so many senders to b below it
    module _ (k a b left : ℕ) (j : IsProcess r.waits.n b) (before : left + held_to held (b - 1) ≡ k)
        (more : left < count_to most_processes (λ x. held x b)) (nth : Nth (λ x. held x b) left a) where
      is_a : held a b ≡ true
      is_a = (nth more).1

      pub sender_in : IsProcess r.waits.n a
      sender_in = (within a b is_a).0

      pub link_waits : waiting (r.link a b) ≡ true
      link_waits = is_a

      pub link_found : link_at k (links_of r) ≡ pair a b
      unfolding links_of links_to
      link_found =
          ap (λ (i : ℕ). link_at i (links_of r)) outer
          ∙ in_row_at (λ y. links_to r y) b r.waits.n left j (omega (arith, more, links_to_is b))
          ∙ ap (λ (i : ℕ). link_at i (links_to r b)) inner
          ∙ in_row_at (λ x. link_if r x b) a r.waits.n 0 sender_in (omega (arith, link_if_length r a b, ap bit is_a))
          ∙ link_if_first r a b is_a
        where
          outer : k ≡ length (in_row (b - 1) (λ y. links_to r y)) + left
          outer = omega (arith, before, links_before (b - 1))

          inner : left ≡ length (in_row (a - 1) (λ x. link_if r x b)) + 0
          inner = omega (arith, (nth more).2, senders_count b (a - 1))

    -- ---- by a state

    pub points_drawn : {l : List ℕ} → Remembers r l → (s k : ℕ) → Points l s k → link_at k (links_of r) ≡ drawn s r
    unfolding drawn
    points_drawn h s k p = at (same? (length (links_of r)) 0)
      where
        at : Same (length (links_of r)) 0 → link_at k (links_of r) ≡ link_at (s % length (links_of r)) (links_of r)
        at (same z _) = link_at_end k (links_of r) (omega arith) ∙ sym (link_at_end (s % length (links_of r)) (links_of r) (omega arith))
        at (apart z _) =
            ap (λ (i : ℕ). link_at i (links_of r))
            (p held h (omega (arith, links_all, z)) ∙ ap (λ (n : ℕ). s % n) (sym links_all))
