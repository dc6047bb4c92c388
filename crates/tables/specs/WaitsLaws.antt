-- Laws of the waits that a right table holds.
--   says_wait_from, says_wait_to   == the ends of an arc that says a wait
--   waits_of_P       == a waits for b exactly if some arc has these ends
--   waits_of_sum     == what is summed over the arcs may be summed over the waits: "No two arcs agree in both from and to"
--   arc_count_is     == there are as many waits as arcs
--   waits_of_sound   == the waits of a right table are sound
--   neighbours_swap, neighbours_ends   == neighbours are so both ways, and are processes
-- Assumes nothing.
use Rattle.std.specs.Prelude.{ℕ, ◌*◌, ◌≤◌, true, ◌↔◌, ◌≡◌, eqb}
use Rattle.std.proofs.Math.Bool.{or_comm}
use Rattle.std.proofs.Common.{⊎_elim, sym, ap, ◌∙◌, eqb-true, eq-eqb, mul-one, arith}
use Rattle.base.specs.Choice.{bit}
use Rattle.base.specs.ChoiceLaws.{and_left, and_right, and_both, or_cases}
use Rattle.base.specs.Sums.{sum_to, count_to, any_to}
use Rattle.base.specs.SumLaws.{sum_to_cong, sum_to_most, sum_to_swap, any_to_of, any_to_found, count_to_one, sum_to_least, sum_to_times, sum_to_pick_two}
use Rattle.base.specs.Sums.{Found}
use Rattle.tables.specs.Table.{Fields, n_of, m_of, IsProcess, arc_at, says_wait}
use Rattle.tables.specs.Layout.{IsArc, Right}
use Rattle.tables.specs.Waits.{Waits, waits_of, out_degree, neighbours}
use Rattle.tables.specs.Sound.{arc_count, Sound}

pub says_wait_from : (t : Fields) (a b k : ℕ) → says_wait t a b k ≡ true → (arc_at t k).from ≡ a
says_wait_from t a b k e = eqb-true (arc_at t k).from a (and_left (eqb (arc_at t k).from a) (eqb (arc_at t k).to b) e)

pub says_wait_to : (t : Fields) (a b k : ℕ) → says_wait t a b k ≡ true → (arc_at t k).to ≡ b
says_wait_to t a b k e = eqb-true (arc_at t k).to b (and_right (eqb (arc_at t k).from a) (eqb (arc_at t k).to b) e)

-- "An arc says that *from* waits for *to*."
pub waits_of_P : (t : Fields) (a b : ℕ) → ((waits_of t).waits a b ≡ true) ↔ ((k : ℕ) × IsArc t k × ((arc_at t k).from ≡ a) × ((arc_at t k).to ≡ b))
unfolding waits_of
waits_of_P t a b = (λ e. found (any_to_found (m_of t) (says_wait t a b) e), given)
  where
    found : Found (m_of t) (says_wait t a b) → (k : ℕ) × IsArc t k × ((arc_at t k).from ≡ a) × ((arc_at t k).to ≡ b)
    found f = (f.at, (f.low, f.high), says_wait_from t a b f.at f.passes, says_wait_to t a b f.at f.passes)

    given : (k : ℕ) × IsArc t k × ((arc_at t k).from ≡ a) × ((arc_at t k).to ≡ b) → any_to (m_of t) (says_wait t a b) ≡ true
    given w =
        any_to_of (m_of t) (says_wait t a b) w.0 w.1.0 w.1.1
        (and_both (eqb (arc_at t w.0).from a) (eqb (arc_at t w.0).to b) (eq-eqb (arc_at t w.0).from a w.2) (eq-eqb (arc_at t w.0).to b w.3))

-- as many arcs say a wait as there are: one or none
waits_of_count : (t : Fields) → Right t → (a b : ℕ) → sum_to (m_of t) (λ k. bit (says_wait t a b k)) ≡ bit ((waits_of t).waits a b)
unfolding waits_of
waits_of_count t g a b =
    count_to_one (m_of t) (says_wait t a b)
    (λ j k l u l' u' e e'. g.unlike j k (l, u) (l', u')
    (says_wait_from t a b j e ∙ sym (says_wait_from t a b k e'), says_wait_to t a b j e ∙ sym (says_wait_to t a b k e')))

pub waits_of_sum : (t : Fields) → Right t → (g : ℕ → ℕ → ℕ)
    → sum_to (m_of t) (λ k. g (arc_at t k).from (arc_at t k).to) ≡ sum_to (n_of t) (λ a. sum_to (n_of t) (λ b. bit ((waits_of t).waits a b) * g a b))
waits_of_sum t r g =
    sum_to_cong m (λ k. g (arc_at t k).from (arc_at t k).to) (λ k. sum_to n (λ a. sum_to n (λ b. part k a b))) (λ k l u. sym (whole k (l, u)))
    ∙ sum_to_swap m n (λ k a. sum_to n (λ b. part k a b))
    ∙ sum_to_cong n (λ a. sum_to m (λ k. sum_to n (λ b. part k a b))) (λ a. sum_to n (λ b. bit ((waits_of t).waits a b) * g a b)) (λ a l u. row a)
  where
    n : ℕ
    n = n_of t

    m : ℕ
    m = m_of t

    part : ℕ → ℕ → ℕ → ℕ
    part k a b = bit (says_wait t a b k) * g a b

    whole : (k : ℕ) → IsArc t k → sum_to n (λ a. sum_to n (λ b. part k a b)) ≡ g (arc_at t k).from (arc_at t k).to
    whole k q = let e = r.ends k q in sum_to_pick_two n (arc_at t k).from (arc_at t k).to g e.0.0 e.0.1 e.1.0 e.1.1

    cell : (a b : ℕ) → sum_to m (λ k. part k a b) ≡ bit ((waits_of t).waits a b) * g a b
    cell a b = sum_to_times m (g a b) (λ k. bit (says_wait t a b k)) ∙ ap (λ (v : ℕ). v * g a b) (waits_of_count t r a b)

    row : (a : ℕ) → sum_to m (λ k. sum_to n (λ b. part k a b)) ≡ sum_to n (λ b. bit ((waits_of t).waits a b) * g a b)
    row a = sum_to_swap m n (λ k b. part k a b) ∙ sum_to_cong n (λ b. sum_to m (λ k. part k a b)) (λ b. bit ((waits_of t).waits a b) * g a b) (λ b l u. cell a b)

arc_count_is : (t : Fields) → Right t → arc_count (waits_of t) ≡ m_of t
unfolding arc_count out_degree count_to waits_of
arc_count_is t r =
    sum_to_cong n (λ a. sum_to n (λ b. bit ((waits_of t).waits a b))) (λ a. sum_to n (λ b. bit ((waits_of t).waits a b) * 1))
    (λ a l u. sum_to_cong n (λ b. bit ((waits_of t).waits a b)) (λ b. bit ((waits_of t).waits a b) * 1) (λ b l' u'. sym (mul-one (bit ((waits_of t).waits a b)))))
    ∙ sym (waits_of_sum t r (λ a b. 1))
    ∙ ones (m_of t)
  where
    n : ℕ
    n = n_of t

    ones : (m : ℕ) → sum_to m (λ k. 1) ≡ m
    ones m = omega (arith, sum_to_most m 1 (λ k. 1) (λ k l u. omega arith), sum_to_least m (λ k. 1) (λ k l u. omega arith))

-- the ends of the arc that says a wait are processes
waits_of_ends : (t : Fields) → Right t → (a b : ℕ) → (waits_of t).waits a b ≡ true → IsProcess (n_of t) a × IsProcess (n_of t) b
waits_of_ends t r a b e = at ((waits_of_P t a b).0 e)
  where
    at : (k : ℕ) × IsArc t k × ((arc_at t k).from ≡ a) × ((arc_at t k).to ≡ b) → IsProcess (n_of t) a × IsProcess (n_of t) b
    at w = let q = r.ends w.0 w.1 in (rw w.2 at q.0, rw w.3 at q.1)

pub waits_of_sound : (t : Fields) → Right t → Sound (waits_of t)
unfolding waits_of
waits_of_sound t r =
    record {
      some = r.sizes.0;
      few = r.sizes.1;
      from_low = λ a b e. (waits_of_ends t r a b e).0.0;
      from_high = λ a b e. (waits_of_ends t r a b e).0.1;
      to_low = λ a b e. (waits_of_ends t r a b e).1.0;
      to_high = λ a b e. (waits_of_ends t r a b e).1.1;
      arcs = omega (arith, arc_count_is t r, r.sizes.2);
    }

pub neighbours_swap : (w : Waits) (a b : ℕ) → neighbours w a b ≡ neighbours w b a
unfolding neighbours
neighbours_swap w a b = or_comm (w.waits a b) (w.waits b a)

pub neighbours_ends : (w : Waits) → Sound w → (a b : ℕ) → neighbours w a b ≡ true → (1 ≤ a) × (a ≤ w.n) × (1 ≤ b) × (b ≤ w.n)
unfolding neighbours
neighbours_ends w s a b j =
    ⊎_elim
    (λ (e : w.waits a b ≡ true). (s.from_low a b e, s.from_high a b e, s.to_low a b e, s.to_high a b e))
    (λ (e : w.waits b a ≡ true). (s.to_low b a e, s.to_high b a e, s.from_low b a e, s.from_high b a e))
    (or_cases (w.waits a b) (w.waits b a) j)
