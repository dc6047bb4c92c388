-- Flags spread along the waits, and none is forgotten: `Spread` holds from the start on.
-- Succeeding and preceding are mirror images, so each law is proved once, over a flag, its probes and the direction in which they go.
--   spread_start          == start leaves it so
--   spread_kept           == every delivery keeps it so
-- Assumes nothing.
use Rattle.std.specs.Prelude.{ℕ, ◌+◌, ◌*◌, ◌≤◌, Bool, true, false, [], ◌++◌, ◌≡◌, refl, eqb}
use Rattle.std.proofs.Common.{⊎_elim, add-mul, eq-zero-or-pos, arith}
use Rattle.base.specs.Choice.{choose, bit}
use Rattle.base.specs.ChoiceLaws.{same?}
use Rattle.base.specs.Checks.{Same, same, apart}
use Rattle.base.specs.SumLaws.{spot_at, spot_off}
use Rattle.tables.specs.Waits.{Waits, out_degree, in_degree}
use Rattle.tables.specs.Sound.{Sound}
use Rattle.tables.specs.Table.{IsProcess}
use Rattle.machine.specs.Machine as Machines
use Rattle.machine.specs.Weights.{weight, spot2}
use Rattle.machine.specs.WeightLaws.{spot2_off_y, spot2_most}
use Rattle.machine.specs.Moved.{Moved}
use Rattle.machine.specs.MovedLaws.{moved_at}
use Rattle.steps.specs.declared.Message.{Message}
use Rattle.steps.specs.declared.Message.TheVariants.{Suc, Pre}
use Rattle.steps.specs.declared.Process.{Process}
use Rattle.steps.specs.Step.{Turn, idle}
use Rattle.steps.specs.Effect.{is_suc, is_pre, sucs_of, pres_of, Effect}
use Rattle.checks.specs.Run.{Run, one, started, start_run, sent_to, leaving}
use Rattle.checks.specs.Reach.{here, along}
use Rattle.checks.proofs.ReachLaws.{reaches_trans}
use Rattle.checks.specs.SentLaws.{first_weight, sent_suc, sent_pre}
use Rattle.ending.specs.Weights.{edge}
use Rattle.ending.specs.Spreading.{Side, Grows}
use Rattle.ending.specs.Invariants.{Tidy, Spread}
use Rattle.ending.specs.CountingLaws.{flag_most}

-- ---- start

side_start : {flag : Process → ℕ} {μ : Message → ℕ} {e : ℕ → ℕ → Bool} {R : ℕ → Type 0} (w : Waits) (s ed : ℕ) → R s → flag (started w s) ≡ 1
    → flag idle ≡ 0 → ((j : ℕ) → edge w s j * μ Suc + edge w j s * μ Pre ≡ bit (e s j)) → Side w flag μ e R (start_run w s ed)
unfolding Machines.start_run weight
side_start {flag} {μ} {e} {R} w s ed own first rest sent =
    record {
      goes = λ i j _ _. rw (flags i (same? i s), loads i j (same? i s)) (omega arith);
      may = λ i _. may i (same? i s);
      kept = λ i j _ _. rw (flags i (same? i s), loads i j (same? i s)) (omega arith);
    }
  where
    flags : (i : ℕ) → Same i s → flag (choose (eqb i s) (started w s) idle) ≡ bit (eqb i s)
    flags i (same _ f) = rw f first
    flags i (apart _ f) = rw f rest

    loads : (i j : ℕ) → Same i s → weight μ (choose (eqb i s) (one (w.waits s j) Suc ++ one (w.waits j s) Pre) []) ≡ bit (eqb i s) * bit (e i j)
    loads i j (same f g) = rw (g, f) (omega (arith, first_weight μ (w.waits s j) (w.waits j s), sent j))
    loads i j (apart _ g) = rw g (omega arith)

    may : (i : ℕ) → Same i s → flag (choose (eqb i s) (started w s) idle) ≡ 1 → R i
    may i (same f _) l = rw f own
    may i (apart f g) l = absurd (omega (arith, rw g at l))

pub spread_start : {w : Waits} {s : ℕ} (ed : ℕ) → Sound w → IsProcess w.n s → Spread w s (start_run w s ed)
unfolding started
spread_start {w} {s} ed ok sIn =
    record {
      sucs = side_start w s ed here refl refl (λ j. omega arith);
      pres = side_start w s ed here refl refl (λ j. omega arith);
    }

-- ---- delivery

-- where a flag times a test is not 0 the test passed
flag_passed : (f : ℕ) (b : Bool) → 1 ≤ f * bit b → b ≡ true
flag_passed f true l = refl
flag_passed f false l = absurd (omega arith)

module _
    {w : Waits}
    {flag : Process → ℕ}
    {μ : Message → ℕ}
    {e : ℕ → ℕ → Bool}
    {r q : Run}
    {a b : ℕ}
    {m : Message}
    {t : Turn}
    {more : ℕ}
    (mv : Moved w r a b m (leaving w b t) q)
    (gr : Grows w flag μ e b m (r.process b) t more)
  where
    -- the links of the receiver, and those of the others
    own_weight : (y : ℕ) → weight μ (q.link b y) + spot2 a b (μ m) b y ≡ weight μ (r.link b y) + more * bit (e b y)
    own_weight y = omega (arith, mv.weights μ b y, spot_at b (weight μ (sent_to w b t y)), gr.sent y)

    other_weight : (x y : ℕ) → (x ≡ b → ⊥) → weight μ (q.link x y) + spot2 a b (μ m) x y ≡ weight μ (r.link x y)
    other_weight x y d = omega (arith, mv.weights μ x y, spot_off b (weight μ (sent_to w b t y)) x d)

    side_kept : {R : ℕ → Type 0} → ((i : ℕ) → IsProcess w.n i → flag (r.process i) ≤ 1) → ((i j : ℕ) → e i j ≡ true → R i → R j)
        → IsProcess w.n a → IsProcess w.n b → Side w flag μ e R r → Side w flag μ e R q
    side_kept {R} bits step aIn bIn sd =
        record {
          goes = λ i j iIn jIn. goes i j iIn jIn (same? i b);
          may = λ i iIn. moved_at mv (λ i x. flag x ≡ 1 → R i) own i (sd.may i iIn);
          kept = λ i j iIn jIn. kept i j iIn jIn (same? i b) (same? j b);
        }
      where
        goes : (i j : ℕ) → IsProcess w.n i → IsProcess w.n j → Same i b → weight μ (q.link i j) ≤ flag (q.process i) * bit (e i j)
        goes i j iIn jIn (same f _) =
            rw (f, mv.receiver, gr.adds, add-mul (flag (r.process b)) more (bit (e b j))) (omega (arith, own_weight j, sd.goes b j bIn jIn))
        goes i j iIn jIn (apart f _) = rw (mv.others i f) (omega (arith, other_weight i j f, sd.goes i j iIn jIn))

        -- the receiver had the flag, or the probe that it took says that the sender may have it
        own : flag t.process ≡ 1 → R b
        own l = ⊎_elim by (λ p. sd.may b bIn (omega (arith, bits b bIn))) (eq-zero-or-pos (flag (r.process b)))
          where
            by : flag (r.process b) ≡ 0 → R b
            by z =
                let lent : 1 ≤ flag (r.process a) * bit (e a b) = omega (arith, gr.adds, gr.alone, mv.waited μ, sd.goes a b aIn bIn) in
                step a b (flag_passed (flag (r.process a)) (e a b) lent)
                (sd.may a aIn (omega (arith, lent, flag_most (flag (r.process a)) (e a b), bits a aIn)))

        kept : (i j : ℕ) → IsProcess w.n i → IsProcess w.n j → Same i b → Same j b
            → flag (q.process i) * bit (e i j) ≤ flag (q.process j) + weight μ (q.link i j)
        kept i j iIn jIn (same f _) (same g _) = rw (f, g) (omega (arith, flag_most (flag (q.process b)) (e b b)))
        kept i j iIn jIn (same f _) (apart g _) =
            rw (f, mv.receiver, mv.others j g, gr.adds, add-mul (flag (r.process b)) more (bit (e b j)))
            (omega (arith, own_weight j, spot2_off_y a b (μ m) b j g, sd.kept b j bIn jIn))
        kept i j iIn jIn (apart f _) (same g _) =
            rw (g, mv.receiver, mv.others i f)
            (omega (arith, other_weight i b f, spot2_most a b (μ m) i b, sd.kept i b iIn bIn, bits i iIn, flag_most (flag (r.process i)) (e i b)))
        kept i j iIn jIn (apart f _) (apart g _) =
            rw (mv.others i f, mv.others j g)
            (omega (arith, other_weight i j f, spot2_off_y a b (μ m) i j g, sd.kept i j iIn jIn))

pub spread_kept : {w : Waits} {s : ℕ} {r q : Run} {a b : ℕ} {m : Message} {t : Turn} → Sound w → Tidy w s r → Spread w s r → IsProcess w.n a
    → IsProcess w.n b → Moved w r a b m (leaving w b t) q → Effect (eqb b s) m (out_degree w b) (in_degree w b) a (r.process b) t → Spread w s q
spread_kept {w} {s} {r} {q} {a} {b} {m} {t} ok td sp aIn bIn mv ef =
    record {
      sucs = side_kept mv sucs td.succ_bit (λ i j e p. reaches_trans p (along e here)) aIn bIn sp.sucs;
      pres = side_kept mv pres td.prec_bit (λ i j e p. along e p) aIn bIn sp.pres;
    }
  where
    sucs : Grows w (λ x. x.succeeding) is_suc (λ i j. w.waits i j) b m (r.process b) t (sucs_of t)
    sucs = record { adds = ef.succeeding; sets = ef.suc_sets; alone = ef.suc_alone; sent = sent_suc w b t }

    pres : Grows w (λ x. x.preceding) is_pre (λ i j. w.waits j i) b m (r.process b) t (pres_of t)
    pres = record { adds = ef.preceding; sets = ef.pre_sets; alone = ef.pre_alone; sent = sent_pre w b t }
