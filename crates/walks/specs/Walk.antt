-- A walk along one chain (01, "Wait table"), on any bytes. A walk (the struct `Walk`) holds the table, the chain, the arc that it stands
-- at, 0 if at none, and the number of its opening's refusal, 0 if it was accepted.
--   walk_number w      == that number
--   opened_walk table c p   == the walk that opening leaves, along chain c of process p
--   gives w           == what a step of w gives: the next arc, or the end
--   stepped_walk w     == w after a step
--   steps_on i w       == w after i steps
--   stood_after i w    == what is seen of w after i steps: the number of its opening, the arc that it stands at, what the next step gives, and
--                        the arc that it stands at then
--   before k ks       == arc k before others, none if it is 0
--   arcs_met f w       == the arcs that w stands at, from where it is until it stands at none; at most f of them
--   WholeWalk table c p ks   == ks are the arcs of a walk along chain c of p, from its opening to the end, in chain order, each once
-- opened_of, next_of and Follows are of the crate tables (Walking and Chains), which says what an opening and a step answer on any bytes,
-- and what a chain is as a list.
-- Assumes nothing.
use Rattle.std.specs.Prelude.{ℕ, zero, suc, ◌≤◌, ◌<◌, List, [], ◌∷◌, Option, Some, None, ◌≡◌, length, get_or}
use Rattle.std.specs.Borrow.{Bor}
use Rattle.base.specs.Counts.{occ}
use Rattle.tables.specs.declared.Chain.{Chain}
use Rattle.tables.specs.Table.{field_of, first, arc_at, near}
use Rattle.tables.specs.Layout.{IsArc}
use Rattle.tables.specs.Walking.{opened_of, opened_number, opened_arc, next_of, next_arc}
use Rattle.tables.specs.Chains.{Follows}
use Rattle.walks.specs.declared.Walk.{Walk}
use Rattle.walks.specs.declared.Stood.{Stood}

-- "A refusal returns its number"
abbrev pub walk_number : Walk → ℕ
walk_number w = w.number

-- "Opening it names a process and its out- or in-chain, .. and stands at the chain's first arc, or 0 if it has none": one that was refused
-- stands at 0 too
abbrev pub opened_walk : Bor (List ℕ) → Chain → ℕ → Walk
opened_walk table c p =
    record {
      table = table;
      chain = c;
      arc = opened_arc (opened_of table.now c p);
      number = opened_number (opened_of table.now c p);
    }

-- "A step gives the next arc or the end"
abbrev pub gives : Walk → Option ℕ
gives w = next_of w.table.now w.chain w.arc

-- "Steps keep to the chain named": only the arc is another, 0 at the end
abbrev pub stepped_walk : Walk → Walk
stepped_walk w = record { table = w.table; chain = w.chain; arc = next_arc (gives w); number = w.number }

unfoldable pub steps_on : ℕ → Walk → Walk
steps_on zero w = w
steps_on (suc i) w = steps_on i (stepped_walk w)

abbrev pub stood_after : ℕ → Walk → Stood
stood_after i w =
    record {
      number = w.number;
      arc = (steps_on i w).arc;
      next = gives (steps_on i w);
      then = (stepped_walk (steps_on i w)).arc;
    }

-- an arc before others, none if it is 0
abbrev pub before : ℕ → List ℕ → List ℕ
before zero ks = []
before (suc k) ks = suc k ∷ ks

unfoldable pub arcs_met : ℕ → Walk → List ℕ
arcs_met zero w = []
arcs_met (suc f) w = before w.arc (arcs_met f (stepped_walk w))

pub record WholeWalk (table : Bor (List ℕ)) (c : Chain) (p : ℕ) (ks : List ℕ) : Type 0 where
  -- the opening is accepted
  pub opened : walk_number (opened_walk table c p) ≡ 0
  -- after i steps it stands at arc i of the list, counted from 0, and at 0 when it has passed them all
  pub stands : (i : ℕ) → (steps_on i (opened_walk table c p)).arc ≡ get_or ks i 0
  -- each step before the last arc gives the next one; the step from the last gives the end, and so does every step after it
  pub goes_on : (i : ℕ) → suc i < length ks → gives (steps_on i (opened_walk table c p)) ≡ Some (get_or ks (suc i) 0)
  pub ends : (i : ℕ) → length ks ≤ suc i → gives (steps_on i (opened_walk table c p)) ≡ None
  -- chain order
  pub order : Follows c (field_of table.now) (first c (field_of table.now) p) ks
  -- "It meets each arc with from = p once and meets nothing else." (to = p on the in-chain)
  pub once : (k : ℕ) → IsArc (field_of table.now) k → near c (arc_at (field_of table.now) k) ≡ p → occ k ks ≡ 1
  pub nothing_else : (k : ℕ) → 1 ≤ occ k ks → IsArc (field_of table.now) k × (near c (arc_at (field_of table.now) k) ≡ p)
