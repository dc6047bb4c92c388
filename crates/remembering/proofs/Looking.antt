-- How the code looks at the links, arc by arc.
--   looked_some                 == a link with a message
--   arc_ends                    == the two ends of an arc are processes
--   looked_along                == both links of an arc
-- Assumes nothing.
use Rattle.std.proofs.Common.{ℕ, ◌≤◌, Bool, true, List, ◌≡◌, sym, ◌∙◌, arith, ℤ}
use Rattle.tables.specs.declared.Arc.{Arc}
use Rattle.tables.specs.declared.Sizes.{Sizes}
use Rattle.tables.specs.Table.{arc_at, IsProcess}
use Rattle.tables.specs.Layout.{Ends}
use Rattle.machine.specs.Calls.{waiting}
use Rattle.checks.specs.Run.{Run}
use Rattle.areas.specs.Area.{fields_in}
use Rattle.areas.specs.AreaLaws.{area_right_table}
use Rattle.lenses.specs.Ready.{Ready}
use Rattle.marks.specs.Changes.{turned, Turns}
use Rattle.remembering.specs.Noting.{looked_marks, along_marks}
use Rattle.remembering.proofs.Following.{turns_then}

module _ (r : Run) (a b : ℕ) {l : List ℕ} {i : Bool} (e : i ≡ waiting (r.link a b)) where
  pub looked_some : i ≡ true → {k : List ℕ} → Turns l (λ held. turned held a b true) k → Turns l (looked_marks r a b) k
  looked_some z t held h = rw (sym e ∙ z) (t held h)

pub arc_ends : {w : List ℤ} {s : Sizes} (y : Ready w s) {k : ℕ} (h : (1 ≤ k) × (k ≤ s.m)) {x : Arc} → x ≡ arc_at (fields_in w) k
    → IsProcess s.n x.from × IsProcess s.n x.to
arc_ends {w} y {k} h e =
    let g : Ends (fields_in w) k = (area_right_table w y.right).right.ends k (h.0, omega (arith, y.m_is)) in
    rw e ((g.0.0, omega (arith, g.0, y.n_is)), (g.1.0, omega (arith, g.1, y.n_is)))

pub looked_along : (r : Run) {x o : Arc} → x ≡ o → {l k m : List ℕ} → Turns l (looked_marks r x.from x.to) k
    → Turns k (looked_marks r x.to x.from) m → Turns l (along_marks r o) m
looked_along r {x} e t u = rw (sym e) (turns_then (looked_marks r x.from x.to) (looked_marks r x.to x.from) t u)
