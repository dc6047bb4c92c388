-- How the code follows a delivery in the array, part by part.
--   turns_then                   == one change after another
--   process_most                 == a process of an area is one of the largest
--   taken_falls                  == a link that has fallen empty
--   sent_nobody, sent_one        == nobody is sent a message, and one process is
--   Sent c t b k before l        == the marks once b's probes have gone along its chain up to the arc k
--   sent_first, sent_next, sent_last   == where the chain begins, one arc more, and its end
-- Assumes nothing.
use Rattle.std.proofs.Common.{ℕ, Bool, true, false, ◌&&◌, ◌||◌, List, ◌≡◌, refl, sym, ap, ◌∙◌, arith, eq-eqb, eqb-true, eqb, ℤ}
use Rattle.std.proofs.Math.Logic.{⊎_elim}
use Rattle.base.specs.ChoiceLaws.{and_both, and_left, and_right, or_cases, or_left, or_right, tested}
use Rattle.base.specs.Checks.{Tested, passed, failed}
use Rattle.base.specs.Counts.{sum_over}
use Rattle.tables.specs.declared.Chain.{Chain}
use Rattle.tables.specs.declared.Sizes.{Sizes}
use Rattle.tables.specs.Table.{Fields, n_of, most_processes, IsProcess, first, arc_at, next}
use Rattle.tables.specs.Layout.{Right}
use Rattle.tables.specs.Waits.{Waits, waits_of}
use Rattle.tables.specs.Sound.{Sound}
use Rattle.tables.specs.Chains.{far, joins}
use Rattle.steps.specs.declared.Message.{Message}
use Rattle.machine.specs.Calls.{waiting}
use Rattle.lenses.specs.Ready.{Ready}
use Rattle.lenses.specs.ReadyLaws.{ready_sizes}
use Rattle.lenses.specs.ChangeLaws.{joins_low, joins_high}
use Rattle.lenses.proofs.ChainWalks.{Walked, ends, to_go, left_on, left_end, walked_first, walked_next}
use Rattle.marks.specs.Marks.{Marks}
use Rattle.marks.specs.Changes.{turned, Turns}
use Rattle.marks.specs.GroupLaws.{marks_cong}
use Rattle.remembering.specs.Noting.{taken_marks, sent_marks}
use Rattle.remembering.specs.NotedLaws.{sent_turned}
use Rattle.remembering.specs.FillLaws.{both_ways}

-- ---- changes

pub turns_then : {l k m : List ℕ} (f g : (ℕ → ℕ → Bool) → ℕ → ℕ → Bool) → Turns l f k → Turns k g m → Turns l (λ held. g (f held)) m
turns_then f g t u held h = u (f held) (t held h)

pub process_most : {w : List ℤ} {s : Sizes} → Ready w s → {p : ℕ} → IsProcess s.n p → IsProcess most_processes p
process_most y i = (i.0, omega (arith, i.1, ready_sizes y))

-- ---- the message that is taken

module _ {l : List ℕ} (a b : ℕ) (ms : List Message) {i : Bool} (e : i ≡ waiting ms) where
  pub taken_falls : i ≡ false → {k : List ℕ} → Turns l (λ held. turned held a b false) k → Turns l (taken_marks (waiting ms) a b) k
  taken_falls z t held h = rw (sym e ∙ z) (t held h)

-- ---- messages that are sent

module _ {l : List ℕ} (b : ℕ) where
  pub sent_nobody : Turns l (λ held. sent_marks held b (λ q. false)) l
  sent_nobody held h = marks_cong h (λ x y _ _. at (held x y) (eqb x b))
    where
      at : (u v : Bool) → u ≡ (u || (v && false))
      at true v = refl
      at false true = refl
      at false false = refl

  pub sent_one : (p : ℕ) {k : List ℕ} → Turns l (λ held. turned held b p true) k → Turns l (λ held. sent_marks held b (λ q. eqb p q)) k
  sent_one p t held h = marks_cong (t held h) (λ x y _ _. sent_turned held b p x y)

-- ---- probes along a chain

pub record Sent (c : Chain) (t : Fields) (b k : ℕ) (before : ℕ → ℕ → Bool) (l : List ℕ) : Type 0 where
  pub held : ℕ → ℕ → Bool
  pub marks : Marks held l
  pub walked : Walked c t b k (λ q. held b q)
  pub kept : (x y : ℕ) → before x y ≡ true → held x y ≡ true
  pub only : (x y : ℕ) → held x y ≡ true → sent_marks before b (joins c (waits_of t) b) x y ≡ true

module _ {c : Chain} {t : Fields} (g : Right t) {b : ℕ} (before : ℕ → ℕ → Bool) where
  pub sent_first : IsProcess (n_of t) b → {k : ℕ} → k ≡ first c t b → {l : List ℕ} → Marks before l → Sent c t b k before l
  sent_first own e h =
      record {
        held = before;
        marks = h;
        walked = walked_first g (λ q. before b q) own e;
        kept = λ x y m. m;
        only = λ x y m. or_left (before x y) (eqb x b && joins c (waits_of t) b y) m;
      }

  -- q is the far end of the arc k
  pub sent_next : {k : ℕ} {l m : List ℕ} → Sent c t b k before l → (k ≡ 0 → ⊥) → {q : ℕ} → q ≡ far c (arc_at t k)
      → Turns l (λ held. turned held b q true) m → Sent c t b (next c (arc_at t k)) before m
  sent_next {k} {l} {m} s z {q} e turns =
      record {
        held = now_held;
        marks = turns s.held s.marks;
        walked = walked_next g (λ p. now_held b p) raised z (rw (sym e) here);
        kept = λ x y h. stays x y (s.kept x y h);
        only = λ x y. at x y (tested (eqb x b && eqb y q));
      }
    where
      now_held : ℕ → ℕ → Bool
      now_held = turned s.held b q true

      here : now_held b q ≡ true
      here = rw (eq-eqb b b refl, eq-eqb q q refl)

      stays : (x y : ℕ) → s.held x y ≡ true → now_held x y ≡ true
      stays x y h = by (tested (eqb x b && eqb y q))
        where
          by : Tested (eqb x b && eqb y q) → now_held x y ≡ true
          by (passed f) = rw f
          by (failed f) = rw f h

      raised : Walked c t b k (λ p. now_held b p)
      raised = record { here = s.walked.here; tests = λ p r j o. stays b p (s.walked.tests p r j o) }

      joined : joins c (waits_of t) b q ≡ true
      joined = ap (λ (p : ℕ). joins c (waits_of t) b p) e ∙ (left_on g k s.walked.here z).joined

      at : (x y : ℕ) → Tested (eqb x b && eqb y q) → now_held x y ≡ true → sent_marks before b (joins c (waits_of t) b) x y ≡ true
      at x y (failed f) h = s.only x y (rw f at h)
      at x y (passed f) h =
          let y-is : y ≡ q = eqb-true y q (and_right (eqb x b) (eqb y q) f) in
          let j : joins c (waits_of t) b y ≡ true = ap (λ (p : ℕ). joins c (waits_of t) b p) y-is ∙ joined in
          or_right (before x y) (eqb x b && joins c (waits_of t) b y)
          (and_both (eqb x b) (joins c (waits_of t) b y) (and_left (eqb x b) (eqb y q) f) j)

  all_sent : Sound (waits_of t) → {k : ℕ} {l : List ℕ} → Sent c t b k before l → k ≡ 0 → Marks (sent_marks before b (joins c (waits_of t) b)) l
  unfolding sum_over waits_of
  all_sent sd {k} s z = marks_cong s.marks (λ x y _ _. both_ways (s.held x y) (sent_marks before b (joins c (waits_of t) b) x y) (s.only x y) (all x y))
    where
      none : (q : ℕ) → ends c t (to_go c t k) q ≡ 0
      none q = ap {A = List ℕ} (λ ks. ends c t ks q) (left_end g s.walked.here z)

      all : (x y : ℕ) → sent_marks before b (joins c (waits_of t) b) x y ≡ true → s.held x y ≡ true
      all x y m =
          ⊎_elim
          (λ h. s.kept x y h)
          (λ h. let j = and_right (eqb x b) (joins c (waits_of t) b y) h in
          let x-is : x ≡ b = eqb-true x b (and_left (eqb x b) (joins c (waits_of t) b y) h) in
          rw x-is (s.walked.tests y (joins_low c (waits_of t) sd b y j, joins_high c (waits_of t) sd b y j) j (none y)))
          (or_cases (before x y) (eqb x b && joins c (waits_of t) b y) m)

  -- w are the table's waits
  pub sent_last : {w : Waits} → w ≡ waits_of t → Sound w → {k : ℕ} {l : List ℕ} → Sent c t b k before l → k ≡ 0
      → Marks (sent_marks before b (joins c w b)) l
  sent_last e sd s z = rw e (all_sent (rw e at sd) s z)
