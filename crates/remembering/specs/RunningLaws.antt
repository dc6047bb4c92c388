-- What is known of a tested area and the cells of all its pairs.
--   running_row      == the row of a process, as the part of the array between two places
--   running_linked   == where the link of a pair with a message begins, by its cell
--   running_kept     == an area with another run of the same table in it has the same cells
--   linked_kept      == and the same links
-- Assumes nothing.
use Rattle.std.specs.Prelude.{ℕ, ◌+◌, ◌-◌, ◌*◌, ◌≤◌, true, List, ◌≡◌, ℤ, take, drop}
use Rattle.std.proofs.Common.{sym, ap, ◌∙◌, subst, arith}
use Rattle.tables.specs.declared.Sizes.{Sizes}
use Rattle.tables.specs.Table.{Fields}
use Rattle.tables.specs.Pairs.{square_side}
use Rattle.tables.specs.Waits.{Waits, waits_of, neighbours}
use Rattle.machine.specs.Calls.{waiting}
use Rattle.checks.specs.Run.{Run}
use Rattle.areas.specs.Area.{fields_in, run_in, keeping}
use Rattle.areas.specs.RunInLaws.{run_in_contained}
use Rattle.areas.specs.Squares.{cell_of, place_in, Linked, Row, cell, Square}
use Rattle.areas.specs.SquareLaws.{cell_of_place, square_row}
use Rattle.lenses.specs.Storable.{Storable}
use Rattle.lenses.specs.ReadyLaws.{keeping_fields, ready_kept, ready_sizes}
use Rattle.delivery.specs.StorableLaws.{waiting_joined}
use Rattle.remembering.specs.Running.{Running}

module _ {w : List ℤ} {sq : List ℕ} {s : Sizes} (y : Running w sq s) where
  pub running_row : {b : ℕ} → b ≤ s.n → {from to : ℕ} → from ≡ b * square_side → to ≡ from + square_side
      → Row (fields_in w) b (take (to - from) (drop from sq))
  running_row {b} u {from} {to} e f =
      let long : to - from ≡ square_side = omega arith in
      rw (long, e) (square_row (fields_in w) y.square b (omega (arith, ready_sizes y.ready)))

  pub running_linked : {a b : ℕ} → a ≤ s.n → b ≤ s.n → waiting ((run_in w).link a b) ≡ true
      → {k : ℕ} → k ≡ cell sq a b → {i : ℕ} → i ≡ place_in k → Linked (fields_in w) a b i
  running_linked {a} {b} u v e {k} f {i} g =
      let j : neighbours (waits_of (fields_in w)) a b ≡ true =
      subst (λ (q : Waits). neighbours q a b ≡ true) (run_in_contained w).waits (waiting_joined (fields_in w) (run_in w) (run_in_contained w) a b e) in
      let is : k ≡ cell_of (fields_in w) a b =
      f ∙ y.square.cells a b (omega (arith, ready_sizes y.ready)) (omega (arith, ready_sizes y.ready)) in
      record { joined = j; at = g ∙ ap place_in is ∙ cell_of_place (fields_in w) a b j }

  -- an area with another run of the same table in it
  module _ {r : Run} (f : Storable (fields_in w) r) where
    same_table : fields_in w ≡ fields_in (keeping w r)
    same_table = sym (keeping_fields w y.ready.right r f)

    pub running_kept : Running (keeping w r) sq s
    running_kept =
        record {
          ready = ready_kept w y.ready.right r f y.ready;
          square = subst (λ (t : Fields). Square t sq) same_table y.square;
        }

    pub linked_kept : {a b i : ℕ} → Linked (fields_in w) a b i → Linked (fields_in (keeping w r)) a b i
    linked_kept {a} {b} {i} l = subst (λ (t : Fields). Linked t a b i) same_table l
