-- What a step puts on the links of its process, in weights.
--   one_weight      == one message or none
--   first_weight    == the weight of what the start puts on a link: a suc to a successor, a pre to a predecessor
--   sent_suc, sent_pre, sent_probe, sent_ack   == how many messages of a kind a step of b puts on the link to q
--   sent_count      == a weight of counts: only the acknowledgement has one
--   sum_probes      == the probes sent on all links: as many as the degrees say
--   sum_count       == a weight of counts over all links: that of the acknowledgement's count
--   sent_right      == what a step sends is in range, if its acknowledgement is
-- Assumes nothing.
use Rattle.std.specs.Prelude.{ℕ, ◌+◌, ◌*◌, Bool, true, false, not, ◌++◌, ◌≡◌, eqb, leb, Option, Some, None}
use Rattle.std.proofs.Math.Path.{refl}
use Rattle.std.proofs.Common.{sym, ◌∙◌, one-mul, zero-mul, arith}
use Rattle.base.specs.Choice.{choose, bit}
use Rattle.base.specs.ChoiceLaws.{and_both, and_right}
use Rattle.base.specs.Sums.{sum_to, spot, count_to}
use Rattle.base.specs.SumLaws.{sum_to_cong, sum_to_add, sum_to_spot, sum_to_scale, sum_to_zero}
use Rattle.tables.specs.Waits.{Waits, out_degree, in_degree}
use Rattle.tables.specs.Table.{IsProcess}
use Rattle.machine.specs.Machine.{all_right}
use Rattle.machine.specs.Weights.{weight}
use Rattle.machine.specs.WeightLaws.{weight_append, spot_zero}
use Rattle.machine.specs.FormedLaws.{all_right_append}
use Rattle.steps.specs.declared.Message.{Message}
use Rattle.steps.specs.declared.Message.TheVariants.{Suc, Pre, Ack}
use Rattle.steps.specs.declared.Probes.{Probes}
use Rattle.steps.specs.declared.Probes.TheVariants.{Sucs, Pres}
use Rattle.steps.specs.declared.Reply.{Reply}
use Rattle.steps.specs.declared.TwoCounts.{TwoCounts}
use Rattle.steps.specs.Step.{Turn, acknowledgement, no_counts, both_small, count_small, reply_fits}
use Rattle.steps.specs.Effect.{is_probe, is_suc, is_pre, counts_of, sucs_of, pres_of, counts_replied, acks_to}
use Rattle.checks.specs.Run.{one, reply_receiver, probes_to, sent_to, counts_small}

-- one message or none
one_weight : (μ : Message → ℕ) (b : Bool) (m : Message) → weight μ (one b m) ≡ bit b * μ m
unfolding weight
one_weight μ true m = omega arith
one_weight μ false m = omega arith

-- what the start puts on its links
pub first_weight : (μ : Message → ℕ) (x y : Bool) → weight μ (one x Suc ++ one y Pre) ≡ bit x * μ Suc + bit y * μ Pre
first_weight μ x y = omega (arith, weight_append μ (one x Suc) (one y Pre), one_weight μ x Suc, one_weight μ y Pre)

-- the acknowledgement stands on the link to the process it is for
reply_weight : (μ : Message → ℕ) (y : Reply) (q : ℕ) → weight μ (reply_receiver (Some y) q) ≡ spot y.to (μ (Ack y.counts)) q
unfolding reply_receiver spot
reply_weight μ y q = one_weight μ (eqb q y.to) (Ack y.counts) ∙ at (eqb q y.to)
  where
    at : (x : Bool) → bit x * μ (Ack y.counts) ≡ choose x (μ (Ack y.counts)) 0
    at true = one-mul (μ (Ack y.counts))
    at false = zero-mul (μ (Ack y.counts))

module _ (μ : Message → ℕ) (w : Waits) (b : ℕ) (q : ℕ) where
  -- a weight that an acknowledgement has not
  no_reply : ((c : TwoCounts) → μ (Ack c) ≡ 0) → (y : Option Reply) → weight μ (reply_receiver y q) ≡ 0
  unfolding reply_receiver weight
  no_reply h None = refl
  no_reply h (Some y) = reply_weight μ y q ∙ rw (h y.counts) (spot_zero y.to q)

  probes_weight : (t : Turn) (y : Probes) → t.sent.probes ≡ y
      → weight μ (probes_to w b t.sent.probes q) ≡ sucs_of t * (bit (w.waits b q) * μ Suc) + pres_of t * (bit (w.waits q b) * μ Pre)
  unfolding probes_to weight
  probes_weight t Probes.Nothing e = rw e (omega arith)
  probes_weight t Sucs e = rw e (omega (arith, one_weight μ (w.waits b q) Suc))
  probes_weight t Pres e = rw e (omega (arith, one_weight μ (w.waits q b) Pre))

  -- the acknowledgement part and the probe part
  sent_weight : (t : Turn)
      → weight μ (sent_to w b t q) ≡ weight μ (reply_receiver t.sent.reply q) + (sucs_of t * (bit (w.waits b q) * μ Suc) + pres_of t * (bit (w.waits q b) * μ Pre))
  unfolding sent_to
  sent_weight t = omega (arith, weight_append μ (reply_receiver t.sent.reply q) (probes_to w b t.sent.probes q), probes_weight t t.sent.probes refl)

module _ (w : Waits) (b : ℕ) (t : Turn) (q : ℕ) where
  pub sent_suc : weight is_suc (sent_to w b t q) ≡ sucs_of t * bit (w.waits b q)
  sent_suc = omega (arith, sent_weight is_suc w b q t, no_reply is_suc w b q (λ c. refl) t.sent.reply)

  pub sent_pre : weight is_pre (sent_to w b t q) ≡ pres_of t * bit (w.waits q b)
  sent_pre = omega (arith, sent_weight is_pre w b q t, no_reply is_pre w b q (λ c. refl) t.sent.reply)

  pub sent_probe : weight (λ m. bit (is_probe m)) (sent_to w b t q) ≡ sucs_of t * bit (w.waits b q) + pres_of t * bit (w.waits q b)
  sent_probe = omega (arith, sent_weight (λ m. bit (is_probe m)) w b q t, no_reply (λ m. bit (is_probe m)) w b q (λ c. refl) t.sent.reply)

  -- a weight of counts: only the acknowledgement has one
  sent_count : (μ : Message → ℕ) → μ Suc ≡ 0 → μ Pre ≡ 0 → weight μ (sent_to w b t q) ≡ weight μ (reply_receiver t.sent.reply q)
  sent_count μ e f = sent_weight μ w b q t ∙ rw (e, f) (omega arith)

  pub sent_ack : weight (λ m. bit (not (is_probe m))) (sent_to w b t q) ≡ acks_to t.sent.reply q
  sent_ack = sent_count (λ m. bit (not (is_probe m))) refl refl ∙ at t.sent.reply
    where
      at : (y : Option Reply) → weight (λ m. bit (not (is_probe m))) (reply_receiver y q) ≡ acks_to y q
      at None = unfold reply_receiver weight in refl
      at (Some y) = reply_weight (λ m. bit (not (is_probe m))) y q

-- the probes sent on all links
pub sum_probes : (w : Waits) (b : ℕ) (t : Turn)
    → sum_to w.n (λ q. weight (λ m. bit (is_probe m)) (sent_to w b t q)) ≡ sucs_of t * out_degree w b + pres_of t * in_degree w b
unfolding out_degree in_degree count_to
sum_probes w b t =
    sum_to_cong w.n _ (λ q. sucs_of t * bit (w.waits b q) + pres_of t * bit (w.waits q b)) (λ q _ _. sent_probe w b t q) ∙
    sum_to_add w.n (λ q. sucs_of t * bit (w.waits b q)) (λ q. pres_of t * bit (w.waits q b)) ∙
    rw (sum_to_scale w.n (sucs_of t) (λ q. bit (w.waits b q)), sum_to_scale w.n (pres_of t) (λ q. bit (w.waits q b)))

-- a weight of counts over all that a step sends is the weight of its acknowledgement's count
pub sum_count :
    (w : Waits) (b : ℕ) (t : Turn) → ((p : ℕ) (c : TwoCounts) → t.sent.reply ≡ acknowledgement p c → IsProcess w.n p) → (g : TwoCounts → ℕ) → g no_counts ≡ 0 →
    sum_to w.n (λ q. weight (λ m. g (counts_of m)) (sent_to w b t q)) ≡ g (counts_replied t.sent.reply)
unfolding reply_receiver weight
sum_count w b t h g e =
    sum_to_cong w.n _ (λ q. weight (λ m. g (counts_of m)) (reply_receiver t.sent.reply q)) (λ q _ _. sent_count w b t q (λ m. g (counts_of m)) e e) ∙
    at t.sent.reply h
  where
    at : (y : Option Reply) → ((p : ℕ) (c : TwoCounts) → y ≡ acknowledgement p c → IsProcess w.n p)
        → sum_to w.n (λ q. weight (λ m. g (counts_of m)) (reply_receiver y q)) ≡ g (counts_replied y)
    at None k = sum_to_zero w.n _ (λ _ _ _. refl) ∙ sym e
    at (Some y) k =
        sum_to_cong w.n _ (spot y.to (g y.counts)) (λ q _ _. reply_weight (λ m. g (counts_of m)) y q) ∙
        sum_to_spot w.n y.to (g y.counts) (k y.to y.counts refl).0 (k y.to y.counts refl).1

-- ---- ranges

one_right : (b : Bool) (m : Message) → count_small m ≡ true → counts_small (one b m) ≡ true
unfolding all_right
one_right true m h = and_both _ _ h refl
one_right false m h = refl

pub sent_right : (w : Waits) (b : ℕ) (t : Turn) (q : ℕ) → reply_fits t.sent.reply ≡ true → counts_small (sent_to w b t q) ≡ true
unfolding sent_to count_small
sent_right w b t q h = all_right_append count_small (reply_receiver t.sent.reply q) (probes_to w b t.sent.probes q) (reply t.sent.reply h) (probes t.sent.probes)
  where
    reply : (y : Option Reply) → reply_fits y ≡ true → counts_small (reply_receiver y q) ≡ true
    reply None k = unfold reply_receiver all_right in refl
    reply (Some y) k = unfold reply_receiver in one_right (eqb q y.to) (Ack y.counts) (unfold reply_fits in and_right (leb 1 y.to) (both_small y.counts) k)

    probes : (y : Probes) → counts_small (probes_to w b y q) ≡ true
    probes Probes.Nothing = unfold probes_to all_right in refl
    probes Sucs = unfold probes_to in one_right (w.waits b q) Suc refl
    probes Pres = unfold probes_to in one_right (w.waits q b) Pre refl
