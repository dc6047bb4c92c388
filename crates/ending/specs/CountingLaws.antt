-- The knot check spreads by probes and ends by acknowledgements: what the machine asks of its start and of its step.
--   quota_near          == probes go to neighbours alone
--   knot_begins         == the start sends what its num counts
--   effect_counted      == the effect of a step is what the machine asks
--   acknowledged_in     == whom a step acknowledges is a process
--   worked_start, worked_kept   == every probe sent means two deliveries
--   flag_most           == a flag times a test is at most the flag
--   quota_small, link_short, num_small   == a pair has at most 2 probes out, a link at most 4 messages, and num is at most 256
-- Assumes nothing.
use Prim.Native.Nat.{ℕ, ◌+◌, ◌*◌, ◌≤◌}
use Rattle.std.specs.Prelude.{Bool, true, false, ◌||◌, ◌++◌, ◌≡◌, refl, ◌⊎◌, eqb, length}
use Rattle.std.proofs.Math.Path.{sym, ap}
use Rattle.std.proofs.Common.{◌∙◌, inl, inr, ⊎_elim, add-mul, eq-zero-or-pos}
use native.Mathlib.Omega.{arith}
use Rattle.std.proofs.lemmas.Bool.{eqb-false}
use Rattle.steps.specs.declared.TwoCounts.{TwoCounts}
use Rattle.base.specs.Choice.{choose, bit}
use Rattle.base.specs.ChoiceLaws.{same?}
use Rattle.base.specs.Checks.{Same, same, apart}
use Rattle.base.specs.Sums.{sum_to, count_to, spot}
use Rattle.base.specs.SumLaws.{sum_to_cong, sum_to_add, sum_to_spot, sum_to_most}
use Rattle.tables.specs.Waits.{Waits, out_degree, in_degree, neighbours}
use Rattle.tables.specs.Sound.{Sound}
use Rattle.tables.specs.Table.{IsProcess}
use Rattle.machine.specs.Machine.{start_run}
use Rattle.machine.specs.Weights.{weight, pending}
use Rattle.machine.specs.Moved.{Moved}
use Rattle.machine.specs.MovedLaws.{sum_moved}
use Rattle.machine.specs.Diffusing.{Near, Begins, FatherFrom, Counted}
use Rattle.machine.specs.DiffusingLaws.{work_start, work_moved}
use Rattle.machine.specs.RestLaws.{link_most}
use Rattle.steps.specs.declared.Message.{Message}
use Rattle.steps.specs.declared.Message.TheVariants.{Suc, Pre}
use Rattle.steps.specs.declared.Process.{Process}
use Rattle.steps.specs.Step.{most_num, Turn, acknowledgement, idle}
use Rattle.steps.specs.Effect.{is_probe, sucs_of, pres_of, Effect}
use Rattle.checks.specs.Run.{Run, most_waiting, knot, one, started, sent_to, leaving}
use Rattle.checks.specs.SentLaws.{first_weight, sent_probe, sent_ack, sum_probes}
use Rattle.ending.specs.Weights.{edge, quota, sends, Diffuses}
use Rattle.ending.specs.Invariants.{Tidy, Worked}

-- a probe goes along a wait, one way or the other
pub quota_near : (w : Waits) → Near quota w
unfolding quota neighbours
quota_near w i j x = at (w.waits i j) (w.waits j i)
  where
    at : (c d : Bool) → 1 ≤ x.succeeding * bit c + x.preceding * bit d → (c || d) ≡ true
    at true d h = refl
    at false true h = refl
    at false false h = absurd (omega arith)

-- ---- the start

module _ (w : Waits) (s : ℕ) where
  first_probes : (q : ℕ) → weight (λ m. bit (is_probe m)) (one (w.waits s q) Suc ++ one (w.waits q s) Pre) ≡ edge w s q + edge w q s
  first_probes q = omega (arith, first_weight (λ m. bit (is_probe m)) (w.waits s q) (w.waits q s))

  pub knot_begins : Begins knot quota w s
  unfolding started quota out_degree in_degree count_to
  knot_begins =
      record {
        num = sym (sum_to_cong w.n _ (λ q. edge w s q + edge w q s) (λ q _ _. first_probes q) ∙ sum_to_add w.n (λ q. edge w s q) (λ q. edge w q s));
        probes = λ q. first_weight _ (w.waits s q) (w.waits q s) ∙ omega arith;
        pair = λ q. omega (arith, first_probes q);
        idle = refl;
        father_first = refl;
        father_idle = refl;
      }

  pub worked_start : (ed : ℕ) → IsProcess w.n s → Worked w (start_run knot w s ed)
  unfolding start_run sends started
  worked_start ed ps =
      let d : ℕ = out_degree w s + in_degree w s in
      let sent : sends w (start_run knot w s ed) ≡ sum_to w.n (spot s d) = sum_to_cong w.n _ (spot s d) (λ i _ _. at i (same? i s)) in
      let whole : sum_to w.n (spot s d) ≡ d = sum_to_spot w.n s d ps.0 ps.1 in
      omega (arith, work_start ed knot_begins ps)
    where
      at : (i : ℕ) → Same i s
          → (choose (eqb i s) (started w s) idle).succeeding * out_degree w i + (choose (eqb i s) (started w s) idle).preceding * in_degree w i
          ≡ spot s (out_degree w s + in_degree w s) i
      at i (same e f) = unfold spot in rw (f, e) (omega arith)
      at i (apart e f) = unfold spot in rw f (omega arith)

-- ---- a step

module _ (w : Waits) (s : ℕ) {a b : ℕ} {m : Message} {x : Process} {t : Turn} (ef : Effect (eqb b s) m (out_degree w b) (in_degree w b) a x t) where
  fathers : FatherFrom knot s a b x (leaving w b t)
  fathers = at (same? b s) (eq-zero-or-pos x.num)
    where
      at : Same b s → (x.num ≡ 0) ⊎ (1 ≤ x.num) → FatherFrom knot s a b x (leaving w b t)
      at (same e f) z = inr (ef.father_root f, λ h. absurd (h e))
      at (apart e f) (inl z) = inl (ef.father_new f z)
      at (apart e f) (inr z) = inr (ef.father_kept z, λ _ _. z)

  pub effect_counted : Counted knot quota w s a b m x (leaving w b t)
  unfolding quota
  effect_counted =
      record {
        num = ef.num ∙ ap (λ (v : ℕ). x.num + v) (sym (sum_probes w b t));
        heir = λ q. omega (arith, ef.heir q, sent_ack w b t q);
        pair = λ q. pairs q;
        father = fathers;
      }
    where
      pairs : (q : ℕ)
          → x.succeeding * edge w b q + x.preceding * edge w q b + weight (λ m. bit (is_probe m)) (sent_to w b t q)
          ≤ t.process.succeeding * edge w b q + t.process.preceding * edge w q b
      pairs q =
          let sucs : t.process.succeeding * edge w b q ≡ x.succeeding * edge w b q + sucs_of t * edge w b q =
          rw ef.succeeding (add-mul x.succeeding (sucs_of t) (edge w b q)) in
          let pres : t.process.preceding * edge w q b ≡ x.preceding * edge w q b + pres_of t * edge w q b =
          rw ef.preceding (add-mul x.preceding (pres_of t) (edge w q b)) in
          omega (arith, sent_probe w b t q)

-- the acknowledged process is the sender, or the father of a busy process
pub acknowledged_in : {w : Waits} {s : ℕ} {r : Run} {a b : ℕ} {m : Message} {t : Turn} {o i : ℕ} → Diffuses w s r → IsProcess w.n a → IsProcess w.n b
    → Effect (eqb b s) m o i a (r.process b) t → (p : ℕ) (c : TwoCounts) → t.sent.reply ≡ acknowledgement p c → IsProcess w.n p
acknowledged_in {w} {s} {r} {a} {b} df pa pb ef p c e =
    ⊎_elim (λ f. rw f pa) (λ f. rw f.2 (df.father_in b pb (eqb-false b s f.0) f.1)) (ef.replies p c e)

module _ {w : Waits} (s : ℕ) {r q : Run} {a b : ℕ} {m : Message} {t : Turn} (pa : IsProcess w.n a) (pb : IsProcess w.n b)
    (mv : Moved w r a b m (leaving w b t) q) (ef : Effect (eqb b s) m (out_degree w b) (in_degree w b) a (r.process b) t) where
  pub worked_kept : Worked w r → Worked w q
  unfolding sends
  worked_kept h =
      let x : Process = r.process b in
      let flags : sends w q + (x.succeeding * out_degree w b + x.preceding * in_degree w b)
      ≡ sends w r + (t.process.succeeding * out_degree w b + t.process.preceding * in_degree w b) = sum_moved mv pb.0 pb.1
      (λ i x. x.succeeding * out_degree w i + x.preceding * in_degree w i) in
      let sucs : t.process.succeeding * out_degree w b ≡ x.succeeding * out_degree w b + sucs_of t * out_degree w b =
      rw ef.succeeding (add-mul x.succeeding (sucs_of t) (out_degree w b)) in
      let pres : t.process.preceding * in_degree w b ≡ x.preceding * in_degree w b + pres_of t * in_degree w b =
      rw ef.preceding (add-mul x.preceding (pres_of t) (in_degree w b)) in
      omega (arith, sum_probes w b t, work_moved pa pb mv (effect_counted w s ef), h)

-- ---- ranges

-- a flag times a test is at most the flag
pub flag_most : (f : ℕ) (b : Bool) → f * bit b ≤ f
flag_most f true = omega arith
flag_most f false = omega arith

module _ {w : Waits} {s : ℕ} {r : Run} (td : Tidy w s r) where
  quota_small : (i j : ℕ) → IsProcess w.n i → quota w i j (r.process i) ≤ 2
  unfolding quota
  quota_small i j pi =
      omega (
        arith,
        flag_most (r.process i).succeeding (w.waits i j),
        td.succ_bit i pi,
        flag_most (r.process i).preceding (w.waits j i),
        td.prec_bit i pi,
      )

module _ {w : Waits} {s : ℕ} {r : Run} (td : Tidy w s r) (df : Diffuses w s r) where
  pub link_short : {a b : ℕ} → IsProcess w.n a → IsProcess w.n b → length (r.link a b) ≤ most_waiting
  link_short {a} {b} pa pb = omega (arith, link_most df pa pb, quota_small td a b pa, quota_small td b a pb)

  pub num_small : Sound w → {i : ℕ} → IsProcess w.n i → (r.process i).num ≤ most_num
  num_small so {i} pi =
      omega (arith, df.num i pi, sum_to_most w.n 2 (λ j. pending knot s r i j) (λ j l u. out j (l, u)), so.few)
    where
      out : (j : ℕ) → IsProcess w.n j → pending knot s r i j ≤ 2
      out j pj = omega (arith, df.pair i j pi pj, quota_small td i j pi)
