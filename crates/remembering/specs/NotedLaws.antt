-- What is remembered follows a delivery of the oldest message from a to b.
--   sent_turned        == one process more to whom b has sent a message
--   remembers_noted    == the marks that the code makes are what is to be remembered after the delivery
-- Assumes nothing.
use Rattle.std.specs.Prelude.{ℕ, Bool, true, false, ◌&&◌, ◌||◌, ◌≡◌, refl, eqb, Option, Some, None}
use mathlib.Core.List.{List, [], ◌∷◌, ◌++◌}
use Rattle.std.proofs.Common.{sym, ◌∙◌, arith, eq-eqb, ne_eqb}
use Rattle.std.proofs.Math.Path.{ap}
use Rattle.machine.specs.Machine.{taken}
use Rattle.base.specs.Choice.{choose}
use Rattle.base.specs.ChoiceLaws.{same?}
use Rattle.base.specs.Checks.{Same, same, apart}
use Rattle.tables.specs.Sound.{Sound}
use Rattle.tables.specs.Waits.{Waits}
use Rattle.steps.specs.declared.Message.{Message}
use Rattle.steps.specs.declared.Process.{Process}
use Rattle.steps.specs.declared.Probes.{Probes}
use Rattle.steps.specs.declared.Probes.TheVariants.{Sucs, Pres}
use Rattle.steps.specs.declared.Reply.{Reply}
use Rattle.machine.specs.Calls.{waiting}
use Rattle.machine.proofs.ChooserLaws.{waiting_some}
use Rattle.machine.specs.Among.{Here}
use Rattle.machine.proofs.PlaceLaws.{at_place_here}
use Rattle.checks.specs.Run.{Run, one, reply_receiver, probes_to}
use Rattle.areas.specs.Replaced.{put_process, put_link, put_count}
use Rattle.link_lenses.specs.Changes.{answered}
use Rattle.preparing.specs.Receiving.{probes_go, reply_goes}
use Rattle.carrying.specs.Carrying.{changed, carried_out, Carried}
use Rattle.carrying.specs.DeliveryLaws.{relinked_waits, answered_relinked, spread_by_relinked, carried_link}
use Rattle.marks.specs.Changes.{turned, Turns}
use Rattle.marks.specs.GroupLaws.{marks_cong}
use Rattle.remembering.specs.Memory.{Remembers}
use Rattle.remembering.specs.Noting.{taken_marks, sent_marks, noted_marks}

-- ---- marks

-- who is marked by b and by p
pub sent_turned : (held : ℕ → ℕ → Bool) (b p : ℕ) (x y : ℕ) → turned held b p true x y ≡ sent_marks held b (λ q. eqb p q) x y
sent_turned held b p x y = at (same? x b) (same? y p)
  where
    ends : (h : Bool) → true ≡ (h || true)
    ends true = refl
    ends false = refl

    stays : (h : Bool) → h ≡ (h || false)
    stays true = refl
    stays false = refl

    at : Same x b → Same y p → choose (eqb x b && eqb y p) true (held x y) ≡ (held x y || (eqb x b && eqb p y))
    at (same e f) (same g h) = rw (f, h, eq-eqb p y (sym g)) (ends (held x y))
    at (same e f) (apart g h) = rw (f, h, ne_eqb p y (λ q. g (sym q))) (stays (held x y))
    at (apart e f) _ = rw f (stays (held x y))

-- ---- messages

waiting_append : (xs ys : List Message) → waiting (xs ++ ys) ≡ (waiting xs || waiting ys)
waiting_append [] ys = refl
waiting_append (x ∷ xs) ys = refl

waiting_one : (t : Bool) (m : Message) → waiting (one t m) ≡ t
waiting_one true m = refl
waiting_one false m = refl

eqb_turned : (x y : ℕ) → eqb x y ≡ eqb y x
eqb_turned x y = at (same? x y)
  where
    at : Same x y → eqb x y ≡ eqb y x
    at (same e f) = f ∙ sym (eq-eqb y x (sym e))
    at (apart e f) = f ∙ sym (ne_eqb y x (λ q. e (sym q)))

waiting_reply : (z : Option Reply) (q : ℕ) → waiting (reply_receiver z q) ≡ reply_goes z q
unfolding reply_receiver
waiting_reply None q = refl
waiting_reply (Some y) q = waiting_one (eqb q y.to) _ ∙ eqb_turned q y.to

waiting_probes : (w : Waits) (b : ℕ) (y : Probes) (q : ℕ) → waiting (probes_to w b y q) ≡ probes_go w y b q
unfolding probes_to
waiting_probes w b Probes.Nothing q = refl
waiting_probes w b Sucs q = waiting_one (w.waits b q) _
waiting_probes w b Pres q = waiting_one (w.waits q b) _

-- ---- the delivery

-- sent after what stood there, or not sent
sent_waiting : (t : Bool) (k p q : List Message) {i j l : Bool} → waiting k ≡ i → waiting p ≡ j → waiting q ≡ l
    → waiting (choose t (k ++ (p ++ q)) k) ≡ ((i || (t && j)) || (t && l))
sent_waiting t k p q {i} {j} {l} e f g = at t
  where
    both : (u v w : Bool) → (u || (v || w)) ≡ ((u || v) || w)
    both true v w = refl
    both false v w = refl

    none : (u : Bool) → u ≡ ((u || false) || false)
    none true = refl
    none false = refl

    at : (t : Bool) → waiting (choose t (k ++ (p ++ q)) k) ≡ ((i || (t && j)) || (t && l))
    at true = waiting_append k (p ++ q) ∙ ap (λ (u : Bool). waiting k || u) (waiting_append p q) ∙ rw (e, f, g) (both i j l)
    at false = e ∙ none i

-- what was sent on the link itself counts once
sent_twice : (i j l : Bool) → ((i || j) || l) ≡ ((((i || j) || l) || j) || l)
sent_twice true j l = refl
sent_twice false true l = refl
sent_twice false false true = refl
sent_twice false false false = refl

module _ (r : Run) (s : Sound r.waits) (a b : ℕ) (x : Process) (y : Probes) (z : Option Reply) (k : Carried r a b 1 x y z) where
  here : Here 1 (r.link a b)
  here = at_place_here 1 (r.link a b) k.placed.0 k.placed.1

  -- which links hold a message, and the run after the delivery
  abbrev held : ℕ → ℕ → Bool
  held u v = waiting (r.link u v)

  abbrev end : Run
  end = carried_out r a b 1 x y z

  end_waits : end.waits ≡ r.waits
  unfolding carried_out put_count put_process put_link
  end_waits = relinked_waits (spread_by_relinked y (answered (changed r a b 1 x) b z) b) ∙ relinked_waits (answered_relinked (changed r a b 1 x) b z)

  -- what waits on a link by what stayed there
  end_link : (u v : ℕ) {i : Bool} → waiting (taken r a b here.rest u v) ≡ i
      → waiting (end.link u v) ≡ ((i || (eqb u b && reply_goes z v)) || (eqb u b && probes_go end.waits y b v))
  unfolding carried_out put_count
  end_link u v e =
      ap (λ (ms : List Message). waiting ms) (carried_link r s a b 1 here.message here.rest here.is x y z u v)
      ∙ sent_waiting (eqb u b) (taken r a b here.rest u v) (reply_receiver z v) (probes_to r.waits b y v) e (waiting_reply z v)
      (waiting_probes r.waits b y v ∙ ap (λ (w : Waits). probes_go w y b v) (sym end_waits))

  -- the mark of the link itself, and of another
  mark_here : (t : Bool) → taken_marks t a b held a b ≡ t
  mark_here true = waiting_some (r.link a b) (λ e. absurd (omega (arith, k.placed)))
  mark_here false = rw (eq-eqb a a refl, eq-eqb b b refl)

  mark_other : (t : Bool) (u v : ℕ) → (eqb u a && eqb v b) ≡ false → taken_marks t a b held u v ≡ held u v
  mark_other true u v e = refl
  mark_other false u v e = rw e

  -- what b has sent to v, if it is u
  abbrev sent : ℕ → ℕ → Bool → Bool
  sent u v i = (i || (eqb u b && reply_goes z v)) || (eqb u b && probes_go end.waits y b v)

  noted_other : (u v : ℕ) → (eqb u a && eqb v b) ≡ false → waiting (end.link u v) ≡ noted_marks end a b y z held u v
  unfolding taken
  noted_other u v e =
      end_link u v (ap (λ (c : Bool). waiting (choose c here.rest (r.link u v))) e) ∙ ap (sent u v) (sym (mark_other (waiting (end.link a b)) u v e))

  noted_here : waiting (end.link a b) ≡ noted_marks end a b y z held a b
  noted_here =
      let i : Bool = waiting (taken r a b here.rest a b) in
      let w : waiting (end.link a b) ≡ sent a b i = end_link a b refl in
      w ∙ sent_twice i (eqb a b && reply_goes z b) (eqb a b && probes_go end.waits y b b) ∙ ap (sent a b) (sym w)
      ∙ ap (sent a b) (sym (mark_here (waiting (end.link a b))))

  noted_link : (u v : ℕ) → waiting (end.link u v) ≡ noted_marks end a b y z held u v
  noted_link u v = at (same? u a) (same? v b)
    where
      at : Same u a → Same v b → waiting (end.link u v) ≡ noted_marks end a b y z held u v
      at (same e f) (same g h) = rw (e, g) noted_here
      at (same e f) (apart g h) = noted_other u v (rw (f, h))
      at (apart e f) _ = noted_other u v (rw f)

  pub remembers_noted : {l j : List ℕ} → Remembers r l → Turns l (noted_marks end a b y z) j → Remembers end j
  remembers_noted h t = marks_cong (t held h) (λ u v _ _. sym (noted_link u v))
