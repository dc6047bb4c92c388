-- The chains of a right table, as lists.
--   right_inside     == first and next fields are at most M, and near ends are processes
--   right_chains_right == both tests of row 6 pass
--   met_listed       == the chain of p is the list met c t p: it ends, and each arc stands in it once if its near end is p, else not at all
--   met_sum          == what is summed over the far ends of the chain's arcs may be summed over the waits
--   met_each         == a process is the far end of one arc of the chain if it is joined to the chain's, and else of none
--   met_length       == the chain is as long as its process has successors, or predecessors
-- Assumes nothing.
use Rattle.std.specs.Prelude.{ℕ, ◌*◌, ◌≤◌, true, ◌≡◌, eqb, length}
use Rattle.std.proofs.Common.{sym, ap, ◌∙◌, mul-one, mul_comm, mul_left_comm}
use Rattle.base.specs.Choice.{bit}
use Rattle.base.specs.ChoiceLaws.{same?, tested, bit_same, bit_apart}
use Rattle.base.specs.Checks.{Same, same, apart, Tested, passed, failed}
use Rattle.base.specs.Sums.{sum_to, count_to}
use Rattle.base.specs.SumLaws.{sum_to_cong, sum_to_swap, sum_to_pick}
use Rattle.base.specs.Counts.{occ, sum_over}
use Rattle.base.specs.CountLaws.{sum_over_occ, sum_over_length}
use Rattle.tables.specs.declared.Chain.{Chain}
use Rattle.tables.specs.declared.Chain.TheVariants.{Out, In}
use Rattle.tables.specs.Table.{Fields, n_of, m_of, IsProcess, arc_at, near}
use Rattle.tables.specs.Layout.{Right}
use Rattle.tables.specs.Reading.{chains_right}
use Rattle.tables.specs.Waits.{waits_of, out_degree, in_degree}
use Rattle.tables.specs.Chains.{met, far, joins, degree, Inside, Listed}
use Rattle.tables.specs.ChainTestLaws.{inside_of, right_faulty, chains_right_listed, chains_right_faulty}
use Rattle.tables.specs.WaitsLaws.{waits_of_sum}

right_inside : (t : Fields) → Right t → (c : Chain) → Inside c t
right_inside t r c = inside_of t r.ends r.firsts r.nexts c

right_chains_right : (t : Fields) → Right t → (c : Chain) → chains_right c t ≡ true
right_chains_right t r c = at (tested (chains_right c t))
  where
    at : Tested (chains_right c t) → chains_right c t ≡ true
    at (passed e) = e
    at (failed e) = let f = chains_right_faulty c t (right_inside t r c) e in absurd (right_faulty c t f.0 (r.chains c f.0 f.1) f.2)

pub met_listed : (t : Fields) → Right t → (c : Chain) (p : ℕ) → IsProcess (n_of t) p → Listed c t p (met c t p)
met_listed t r c p q = chains_right_listed c t (right_inside t r c) (right_chains_right t r c) p q

bit_turn : (x y : ℕ) → bit (eqb x y) ≡ bit (eqb y x)
bit_turn x y = at (same? x y)
  where
    at : Same x y → bit (eqb x y) ≡ bit (eqb y x)
    at (same e _) = bit_same x y e ∙ sym (bit_same y x (sym e))
    at (apart d _) = bit_apart x y d ∙ sym (bit_apart y x (λ e. d (sym e)))

-- summed over the chain, and so over all arcs whose near end is p
met_arcs : (t : Fields) → Right t → (c : Chain) (p : ℕ) → IsProcess (n_of t) p → (g : ℕ → ℕ)
    → sum_over (met c t p) (λ k. g (far c (arc_at t k))) ≡ sum_to (m_of t) (λ k. bit (eqb p (near c (arc_at t k))) * g (far c (arc_at t k)))
met_arcs t r c p q g =
    sum_over_occ (m_of t) (met c t p) (λ k. g (far c (arc_at t k))) l.arcs
    ∙ sum_to_cong (m_of t) (λ k. occ k (met c t p) * g (far c (arc_at t k))) (λ k. bit (eqb p (near c (arc_at t k))) * g (far c (arc_at t k)))
    (λ k a b. ap (λ (v : ℕ). v * g (far c (arc_at t k))) (l.counts k (a, b) ∙ bit_turn (near c (arc_at t k)) p))
  where
    l : Listed c t p (met c t p)
    l = met_listed t r c p q

-- of a sum over a square, one row is picked
pick_row : (n p : ℕ) (w : ℕ → ℕ → ℕ) (g : ℕ → ℕ) → 1 ≤ p → p ≤ n → sum_to n (λ a. sum_to n (λ b. w a b * (bit (eqb p b) * g a))) ≡ sum_to n (λ a. w a p * g a)
pick_row n p w g l u = sum_to_cong n (λ a. sum_to n (λ b. w a b * (bit (eqb p b) * g a))) (λ a. w a p * g a) (λ a h h'. row a)
  where
    row : (a : ℕ) → sum_to n (λ b. w a b * (bit (eqb p b) * g a)) ≡ w a p * g a
    row a =
        sum_to_cong n (λ b. w a b * (bit (eqb p b) * g a)) (λ b. bit (eqb p b) * (w a b * g a)) (λ b h h'. mul_left_comm (w a b) (bit (eqb p b)) (g a))
        ∙ sum_to_pick n p (λ b. w a b * g a) l u

met_sum : (t : Fields) → Right t → (c : Chain) (p : ℕ) → IsProcess (n_of t) p → (g : ℕ → ℕ)
    → sum_over (met c t p) (λ k. g (far c (arc_at t k))) ≡ sum_to (n_of t) (λ q. bit (joins c (waits_of t) p q) * g q)
unfolding near far
met_sum t r Out p q g =
    met_arcs t r Out p q g
    ∙ waits_of_sum t r (λ a b. bit (eqb p a) * g b)
    ∙ sum_to_swap (n_of t) (n_of t) (λ a b. bit ((waits_of t).waits a b) * (bit (eqb p a) * g b))
    ∙ pick_row (n_of t) p (λ b a. bit ((waits_of t).waits a b)) g q.0 q.1
met_sum t r In p q g =
    met_arcs t r In p q g
    ∙ waits_of_sum t r (λ a b. bit (eqb p b) * g a)
    ∙ pick_row (n_of t) p (λ a b. bit ((waits_of t).waits a b)) g q.0 q.1

pub met_length : (t : Fields) → Right t → (c : Chain) (p : ℕ) → IsProcess (n_of t) p → length (met c t p) ≡ degree c (waits_of t) p
unfolding out_degree in_degree count_to waits_of
met_length t r c p q = sym (sum_over_length (met c t p)) ∙ met_sum t r c p q (λ k. 1) ∙ ones c
  where
    ones : (c : Chain) → sum_to (n_of t) (λ q. bit (joins c (waits_of t) p q) * 1) ≡ degree c (waits_of t) p
    ones Out = sum_to_cong (n_of t) (λ q. bit ((waits_of t).waits p q) * 1) (λ q. bit ((waits_of t).waits p q)) (λ q l u. mul-one (bit ((waits_of t).waits p q)))
    ones In = sum_to_cong (n_of t) (λ q. bit ((waits_of t).waits q p) * 1) (λ q. bit ((waits_of t).waits q p)) (λ q l u. mul-one (bit ((waits_of t).waits q p)))

-- each process that the chain's process waits for, or that waits for it, is the far end of one arc of the chain, and no other is of any
pub met_each : (t : Fields) → Right t → (c : Chain) (p : ℕ) → IsProcess (n_of t) p → (q : ℕ) → IsProcess (n_of t) q
    → sum_over (met c t p) (λ k. bit (eqb q (far c (arc_at t k)))) ≡ bit (joins c (waits_of t) p q)
met_each t r c p own q range =
    met_sum t r c p own (λ x. bit (eqb q x))
    ∙ sum_to_cong (n_of t) (λ x. bit (joins c (waits_of t) p x) * bit (eqb q x)) (λ x. bit (eqb q x) * bit (joins c (waits_of t) p x))
    (λ x l u. mul_comm (bit (joins c (waits_of t) p x)) (bit (eqb q x)))
    ∙ sum_to_pick (n_of t) q (λ x. bit (joins c (waits_of t) p x)) range.0 range.1
