-- `areas::words::link_length` meets its contract: as many messages as the link has stand before its first word that is 0.
use Rattle.std.proofs.Common.{ℕ, zero, suc, ◌+◌, ◌-◌, ◌≤◌, ◌≡◌, List, ◌∷◌, [], refl, sym, ap, Bool, true, false, Option, Some, None, nat_lt, eq-eqb, ne_eqb, ◌∙◌, cond, not, arith, ℤ, pos, negsuc, nat_abs, eqb, length, get_or, take, drop, length-take, length-drop}
use Rattle.std.proofs.Math.Seq.{drop-cons}
use Rattle.std.proofs.lemmas.Bool.{false≢true}
use Rattle.std.proofs.lemmas.Bool.Decides.{Decides-int_eq}
use Rattle.std.specs.List.{position, position_or_len}
use Rattle.std.specs.Option.{unwrap_or}
use Rattle.std.specs.Ordering.{int_eq}
use Rattle.base.specs.Choice.{choose}
use Rattle.base.specs.ChoiceLaws.{below?}
use Rattle.base.specs.Checks.{Below, below, beyond}
use Rattle.steps.specs.declared.Message.{Message}
use Rattle.areas.specs.Area.{messages_at, message_of}
use Rattle.areas.specs.LinkLaws.{messages_at_length}
use Rattle.areas.proofs.words.link_length.Goals as goal

-- one word before the others
before : (z : ℤ) {n : ℕ} (m : Message) (ms : List Message) → n ≡ length ms
    → cond (not (int_eq z (pos 0))) (1 + n) 0 ≡ length (choose (eqb (nat_abs z) 0) [] (m ∷ ms))
before z {n} m ms e = at (int_eq z (pos 0)) refl
  where
    none : (y : ℤ) → nat_abs y ≡ 0 → y ≡ pos 0
    none (pos k) f = ap pos f
    none (negsuc k) f = absurd (omega (arith, f))

    at : (t : Bool) → int_eq z (pos 0) ≡ t → cond (not (int_eq z (pos 0))) (1 + n) 0 ≡ length (choose (eqb (nat_abs z) 0) [] (m ∷ ms))
    at true f = rw (f, eq-eqb (nat_abs z) 0 (ap nat_abs ((Decides-int_eq z (pos 0)).0 f)))
    at false f =
        rw (f, ne_eqb (nat_abs z) 0 (λ g. false≢true (sym f ∙ (Decides-int_eq z (pos 0)).1 (none z g))))
        (omega (arith, e))

passed : (w : List ℤ) (i s : ℕ) → i + s ≤ length w
    → position_or_len (λ z. int_eq z (pos 0)) (take s (drop i w)) ≡ length (messages_at w i s)
unfolding messages_at
passed w i zero u = refl
passed w i (suc s) u =
    rw (drop-cons w i (pos 0) (omega (arith, u)))
    (before (get_or w i (pos 0)) (message_of (get_or w i (pos 0))) (messages_at w (suc i) s) (passed w (suc i) s (omega (arith, u))))

-- where it stands, or so many as there are
found : {q s n : ℕ} → n ≡ s → q ≤ s → unwrap_or (cond (nat_lt q n) (Some q) None) s ≡ q
found {q} {s} {n} e u = at (below? q n)
  where
    at : Below q n → unwrap_or (cond (nat_lt q n) (Some q) None) s ≡ q
    at (below _ t) = rw t
    at (beyond v t) = rw t (omega (arith, e, u, v))

pub returns : goal.returns
returns c =
    let a = c.args in
    let words = take a.slots (drop a.i a.area.now) in
    let p = passed a.area.now a.i a.slots c.requires in
    let long : length words ≡ a.slots = simp (length-take, length-drop) (omega (arith, c.requires)) in
    let back : a.i + a.slots - a.i ≡ a.slots = omega arith in
    let there : c.first_zero.result ≡ position (λ z. int_eq z (pos 0)) words = rw back at c.first_zero.ensures in
    c.unwrap_or.ensures ∙ ap (λ (r : Option ℕ). unwrap_or r a.slots) there
    ∙ found long (rw p (messages_at_length a.area.now a.i a.slots)) ∙ p
