-- The small changes of a run, and that they keep it one that the table's area holds.
--   put_process_at, put_process_off, put_link_at, put_link_off   == the changed record or link, and the others
--   contained_joined   == between processes that are no neighbours nothing waits
--   contained_process, contained_link, contained_count   == these changes keep Contained
-- Assumes nothing.
use Rattle.std.specs.Prelude.{ℕ, ◌≤◌, true, false, ◌&&◌, List, [], ◌≡◌, refl, eqb}
use Rattle.std.proofs.lemmas.Bool.{false≢true}
use Rattle.std.proofs.Common.{sym, ap, ap₂, ◌∙◌, subst, eq-eqb, ne_eqb, eqb-true}
use Rattle.tables.specs.TableLaws.{is_process_P}
use Rattle.base.specs.ChoiceLaws.{same?, tested, and_left, and_right}
use Rattle.base.specs.Checks.{Same, same, apart, Tested, passed, failed}
use Rattle.tables.specs.Table.{Fields, n_of, is_process}
use Rattle.tables.specs.Waits.{Waits, waits_of, neighbours}
use Rattle.steps.specs.declared.Message.{Message}
use Rattle.steps.specs.declared.Process.{Process}
use Rattle.steps.specs.Step.{idle}
use Rattle.checks.specs.Run.{Run}
use Rattle.areas.specs.Contained.{Contained}
use Rattle.areas.specs.Replaced.{put_process, put_link, put_count}

pub put_process_at : (r : Run) (p : ℕ) (x : Process) → (put_process r p x).process p ≡ x
unfolding put_process
put_process_at r p x = rw (eq-eqb p p refl)

pub put_process_off : (r : Run) (p : ℕ) (x : Process) (q : ℕ) → (q ≡ p → ⊥) → (put_process r p x).process q ≡ r.process q
unfolding put_process
put_process_off r p x q n = rw (ne_eqb q p n)

pub put_link_at : (r : Run) (a b : ℕ) (ms : List Message) → (put_link r a b ms).link a b ≡ ms
unfolding put_link
put_link_at r a b ms = rw (eq-eqb a a refl, eq-eqb b b refl)

pub put_link_off : (r : Run) (a b : ℕ) (ms : List Message) (x y : ℕ) → (eqb x a && eqb y b) ≡ false → (put_link r a b ms).link x y ≡ r.link x y
unfolding put_link
put_link_off r a b ms x y n = rw n

-- between processes that are no neighbours nothing waits
pub contained_joined : (t : Fields) (r : Run) → Contained t r → (a b : ℕ) → neighbours r.waits a b ≡ false → r.link a b ≡ []
contained_joined t r g a b n = g.links a b (subst (λ (w : Waits). neighbours w a b ≡ false) g.waits n)

-- ---- these changes keep Contained

pub contained_process : (t : Fields) (r : Run) (p : ℕ) (x : Process) → 1 ≤ p → p ≤ n_of t → Contained t r → Contained t (put_process r p x)
unfolding put_process
contained_process t r p x l u g = record { waits = g.waits; processes = λ q o. at q o (same? q p); links = g.links }
  where
    at : (q : ℕ) → is_process (n_of t) q ≡ false → Same q p → (put_process r p x).process q ≡ idle
    at q o (same e _) =
        absurd (false≢true (sym o ∙ ap (λ (k : ℕ). is_process (n_of t) k) e ∙ (is_process_P (n_of t) p).1 (l, u)))
    at q o (apart n _) = put_process_off r p x q n ∙ g.processes q o

pub contained_link : (t : Fields) (r : Run) (a b : ℕ) (ms : List Message) → neighbours (waits_of t) a b ≡ true → Contained t r → Contained t (put_link r a b ms)
unfolding put_link
contained_link t r a b ms n g = record { waits = g.waits; processes = g.processes; links = λ x y o. at x y o (tested (eqb x a && eqb y b)) }
  where
    at : (x y : ℕ) → neighbours (waits_of t) x y ≡ false → Tested (eqb x a && eqb y b) → (put_link r a b ms).link x y ≡ []
    at x y o (passed e) =
        let p : x ≡ a = eqb-true x a (and_left (eqb x a) (eqb y b) e) in
        let q : y ≡ b = eqb-true y b (and_right (eqb x a) (eqb y b) e) in
        absurd (false≢true (sym o ∙ ap₂ (λ (u v : ℕ). neighbours (waits_of t) u v) p q ∙ n))
    at x y o (failed e) = put_link_off r a b ms x y e ∙ g.links x y o

pub contained_count : (t : Fields) (r : Run) (c : ℕ) → Contained t r → Contained t (put_count r c)
unfolding put_count
contained_count t r c g = record { waits = g.waits; processes = g.processes; links = g.links }
