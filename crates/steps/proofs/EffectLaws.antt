-- Laws of the step, from one look at its rules.
--   Asked a x t       == rule 1: a became the father of a process with num 0, or was acknowledged with the old sum
--   Marked m o i x t  == rules 1 and 2: the flag of the probe is set, and num gained the probes sent
--   turn_effect, start_turn_effect   == every step has the effect that Effect says
--   turn_named, start_turn_named     == whom a step of any record takes as father, and whom it acknowledges
-- Assumes nothing.
use Rattle.std.specs.Prelude.{ℕ, ◌+◌, ◌-◌, ◌*◌, ◌≤◌, Bool, true, not, ◌⊎◌, ◌≡◌, refl, eqb, ℤ, ◌+ℤ◌, ◌-ℤ◌, Option, None}
use Rattle.std.proofs.Math.Bool.{false}
use Rattle.std.proofs.lemmas.Bool.{false≢true}
use Rattle.std.proofs.Common.{true≢false, mul-le-mul}
use Rattle.std.proofs.Math.Logic.{inl, inr}
use Rattle.std.proofs.Math.Path.{ap, ◌∙◌}
use native.Mathlib.Omega.{arith}
use Rattle.std.proofs.Math.IntN.{pos}
use Rattle.base.specs.Choice.{bit}
use Rattle.base.specs.ChoiceLaws.{same?, tested}
use Rattle.base.specs.Checks.{Same, same, apart, Tested, passed, failed}
use Rattle.base.specs.Sums.{spot}
use Rattle.base.specs.Parts.{above, below}
use Rattle.machine.specs.WeightLaws.{heir_none, heir_some, heir_start, spot_zero}
use Rattle.base.specs.PartLaws.{parts_sum, parts_sum_below, parts_diff, parts_diff_below}
use Rattle.steps.specs.declared.Message.{Message}
use Rattle.steps.specs.declared.Message.TheVariants.{Suc, Pre, Ack}
use Rattle.steps.specs.declared.Process.{Process}
use Rattle.steps.specs.declared.TwoCounts.{TwoCounts}
use Rattle.steps.specs.declared.Probes.{Probes}
use Rattle.steps.specs.declared.Reply.{Reply}
use Rattle.steps.specs.Step.{Turn, new_subordinate, gained, rule1, set_succeeding, set_preceding, rule3, rule4, acknowledged, turn}
use Rattle.steps.specs.Step.{sums_of, no_counts, own_count, acknowledgement, gaining, start_turn}
use Rattle.steps.specs.Effect.{is_probe, is_suc, is_pre, counts_of, sucs_of, pres_of, counts_replied, acks_to}
use Rattle.steps.specs.Effect.{heir_to, both, Known, Balanced, Effect, Named}
use Rattle.steps.specs.StepLaws.{Plain, rule1_plain, new_subordinate_both, acknowledgement_to, unanswered}

-- ---- rules 1 and 2

-- rule 1 at a process with num 0, and at one that waits for acknowledgements
data Asked (a : ℕ) (x : Process) (t : Turn) : Type 0 where
  first : x.num ≡ 0 → t.process.father ≡ a → t.process.cs ≡ x.cs → t.sent.reply ≡ None → Asked a x t
  busy : (x.num ≡ 0 → ⊥) → t.process.father ≡ x.father → t.process.cs ≡ pos 0 → t.sent.reply ≡ acknowledgement a (sums_of x) → Asked a x t

rule1_asked : (a : ℕ) (x : Process) → Asked a x (rule1 a x)
unfolding rule1
rule1_asked a x = at (same? x.num 0)
  where
    at : Same x.num 0 → Asked a x (rule1 a x)
    at (same e f) = rw f (first e refl refl refl)
    at (apart n f) = rw f (busy n refl refl refl)

-- the second sum after rules 1 and 2, with what rule 1 sent: it gains 1 where a process that waits for nobody becomes succeeding
abbrev Second : ℕ → Process → Turn → Type 0
Second o x t =
    Balanced x.second (pos 0) t.process.second (counts_replied t.sent.reply).second (x.succeeding * own_count o)
    (t.process.succeeding * own_count o) 0 0

rule1_second : (o a : ℕ) (x : Process) → Second o x (rule1 a x)
unfolding rule1
rule1_second o a x = at (same? x.num 0)
  where
    at : Same x.num 0 → Second o x (rule1 a x)
    at (same _ f) = rw f (record { balance = omega arith; falls = omega arith })
    at (apart _ f) = rw f (record { balance = omega arith; falls = omega arith })

-- what rules 1 and 2 leave of the flags and of num; a flag is set only where it was 0
record Marked (m : Message) (o i : ℕ) (x : Process) (t : Turn) : Type 0 where
  succeeding : t.process.succeeding ≡ x.succeeding + sucs_of t
  preceding : t.process.preceding ≡ x.preceding + pres_of t
  suc_fresh : x.succeeding ≤ 1 → x.succeeding + sucs_of t ≤ 1
  pre_fresh : x.preceding ≤ 1 → x.preceding + pres_of t ≤ 1
  suc_sets : is_suc m ≤ t.process.succeeding
  pre_sets : is_pre m ≤ t.process.preceding
  suc_alone : sucs_of t ≤ is_suc m
  pre_alone : pres_of t ≤ is_pre m
  subordinate : t.process.subordinate ≡ x.subordinate
  num : t.process.num ≡ x.num + (sucs_of t * o + pres_of t * i)

module _ {a : ℕ} {x : Process} {t : Turn} where
  set_succeeding_asked : (o : ℕ) → Asked a x t → Asked a x (set_succeeding o t)
  unfolding set_succeeding
  set_succeeding_asked o h = at (same? t.process.succeeding 0) h
    where
      at : Same t.process.succeeding 0 → Asked a x t → Asked a x (set_succeeding o t)
      at (same _ f) (first n d c y) = rw f (first n d c y)
      at (same _ f) (busy n d c y) = rw f (busy n d c y)
      at (apart _ f) h = rw f h

  set_preceding_asked : (i : ℕ) → Asked a x t → Asked a x (set_preceding i t)
  unfolding set_preceding
  set_preceding_asked i h = at (same? t.process.preceding 0) h
    where
      at : Same t.process.preceding 0 → Asked a x t → Asked a x (set_preceding i t)
      at (same _ f) (first n d c y) = rw f (first n d c y)
      at (same _ f) (busy n d c y) = rw f (busy n d c y)
      at (apart _ f) h = rw f h

module _ (o : ℕ) (x : Process) (t : Turn) (h : Second o x t) where
  set_succeeding_second : Second o x (set_succeeding o t)
  unfolding set_succeeding
  set_succeeding_second = at (same? t.process.succeeding 0)
    where
      at : Same t.process.succeeding 0 → Second o x (set_succeeding o t)
      at (same e f) =
          let none : t.process.succeeding * own_count o ≡ 0 = rw e (omega arith) in
          rw f
          (record {
            balance = omega (arith, h.balance, parts_sum t.process.second (pos (own_count o)));
            falls = omega (arith, h.falls, parts_sum_below t.process.second (pos (own_count o)));
          })
      at (apart _ f) = rw f h

  set_preceding_second : (i : ℕ) → Second o x (set_preceding i t)
  unfolding set_preceding
  set_preceding_second i = at (same? t.process.preceding 0)
    where
      at : Same t.process.preceding 0 → Second o x (set_preceding i t)
      at (same _ f) = rw f (record { balance = h.balance; falls = h.falls })
      at (apart _ f) = rw f h

module _ (o i : ℕ) (x : Process) (t : Turn) (p : Plain x t) where
  none_sent : x.num ≡ x.num + (sucs_of t * o + pres_of t * i)
  none_sent = rw (p.sucs, p.pres) (omega arith)

  set_succeeding_marked : Marked Suc o i x (set_succeeding o t)
  unfolding set_succeeding
  set_succeeding_marked = at (same? t.process.succeeding 0)
    where
      at : Same t.process.succeeding 0 → Marked Suc o i x (set_succeeding o t)
      at (same e f) = rw f (omega arith)
      at (apart n f) = rw f (omega (arith, none_sent))

  set_preceding_marked : Marked Pre o i x (set_preceding i t)
  unfolding set_preceding
  set_preceding_marked = at (same? t.process.preceding 0)
    where
      at : Same t.process.preceding 0 → Marked Pre o i x (set_preceding i t)
      at (same e f) = rw f (omega arith)
      at (apart n f) = rw f (omega (arith, none_sent))

-- ---- a probe: rules 3 and 4

-- what rules 3 and 4 leave, with sums c and reply y
abbrev final : TwoCounts → Option Reply → Turn → Turn
final c y t =
    record {
      process = record {
        succeeding = t.process.succeeding;
        preceding = t.process.preceding;
        subordinate = new_subordinate t.process;
        cs = c.count;
        num = t.process.num;
        father = t.process.father;
        second = c.second;
      };
      sent = record t.sent { reply = y };
    }

-- the sum z after rule 3, from the sum c that rule 1 left
record Gained (x : Process) (t : Turn) (c z : ℤ) : Type 0 where
  balance : above z + below c + x.subordinate ≡ below z + above c + new_subordinate t.process
  falls : below z + both x ≤ below c + both t.process

-- the sum after rule 3, and both sums
abbrev sum3 : Turn → ℤ
sum3 t = gained (new_subordinate t.process) t.process

abbrev sums3 : Turn → TwoCounts
sums3 t = record { count = sum3 t; second = t.process.second }

-- rule 4: what was the sum is sent, and the sum is 0
passed_on : {old received z : ℤ} {u v p q : ℕ} → Balanced old received z (pos 0) u v p q → Balanced old received (pos 0) z u v p q
passed_on h = record { balance = omega (arith, h.balance); falls = omega (arith, h.falls) }

module _ {m : Message} {o i : ℕ} {x : Process} {t : Turn} (k : Known false m x) (h : Marked m o i x t) where
  marked_succ : t.process.succeeding ≤ 1
  marked_succ = omega (arith, h.succeeding, h.suc_fresh k.succ_bit)

  marked_prec : t.process.preceding ≤ 1
  marked_prec = omega (arith, h.preceding, h.pre_fresh k.prec_bit)

rule3_gained : {m : Message} {o i : ℕ} {x : Process} {t : Turn} → Known false m x → Marked m o i x t → (c : ℤ) → t.process.cs ≡ c → Gained x t c (sum3 t)
unfolding gained
rule3_gained {x = x} {t = t} k h c e =
    let v : ℕ = new_subordinate t.process in
    let d : ℤ = pos v -ℤ pos t.process.subordinate in
    let old : new_subordinate x + both x ≡ x.succeeding = new_subordinate_both x k.succ_bit k.prec_bit in
    let new : v + both t.process ≡ t.process.succeeding = new_subordinate_both t.process (marked_succ k h) (marked_prec k h) in
    let more : both x ≤ both t.process = mul-le-mul (omega arith) (omega arith) in
    let up : above t.process.cs ≡ above c = ap above e in
    let down : below t.process.cs ≡ below c = ap below e in
    omega (
      arith,
      parts_sum t.process.cs d,
      parts_sum_below t.process.cs d,
      parts_diff v t.process.subordinate,
      parts_diff_below v
          t.process.subordinate,
    )

module _ {m : Message} {o i : ℕ} (a : ℕ) {x : Process} {t : Turn} (k : Known false m x) (h : Marked m o i x t) (probe : is_probe m ≡ true)
    (no-counts : counts_of m ≡ no_counts) where
  -- the flags and num of every case, and what the cases differ in
  assembled :
      (c : TwoCounts) (y : Option Reply) →
      ((q : ℕ) → heir_to false (final c y t).process q + acks_to y q ≡ heir_to false x q + spot a 1 q) →
      Balanced x.cs (pos 0) c.count (counts_replied y).count x.subordinate (new_subordinate t.process) (both x) (both t.process) →
      Balanced x.second (pos 0) c.second (counts_replied y).second (x.succeeding * own_count o) (t.process.succeeding * own_count o) 0 0 →
      (t.process.num ≡ 0 → c ≡ no_counts) →
      (1 ≤ x.num → t.process.father ≡ x.father) →
      (x.num ≡ 0 → t.process.father ≡ a) →
      ((p : ℕ) (z : TwoCounts) → y ≡ acknowledgement p z → p ≡ a) →
      Effect false m o i a x (final c y t)
  unfolding new_subordinate
  assembled c y heirs sums seconds rests kept new replies =
      record {
        succeeding = h.succeeding;
        preceding = h.preceding;
        succ_bit = marked_succ k h;
        prec_bit = marked_prec k h;
        suc_sets = h.suc_sets;
        pre_sets = h.pre_sets;
        suc_alone = h.suc_alone;
        pre_alone = h.pre_alone;
        sub_is = refl;
        num = rw probe (omega (arith, h.num));
        heir = λ q. rw probe (heirs q);
        sums = rw no-counts sums;
        seconds = rw no-counts seconds;
        at_rest = λ _. rests;
        father_root = λ r. absurd (false≢true r);
        father_kept = kept;
        father_new = λ _. new;
        replies = λ p z r. inl (replies p z r);
      }

  rules34_effect : Second o x t → Asked a x t → Effect false m o i a x (rule4 (rule3 t))
  unfolding rule3 rule4
  rules34_effect s w = at w (same? t.process.num 0)
    where
      at : Asked a x t → Same t.process.num 0 → Effect false m o i a x (rule4 (rule3 t))
      -- nobody else is asked: a is acknowledged at once
      at (first e d c y) (same n f) =
          let g : Gained x t x.cs (sum3 t) = rule3_gained k h x.cs c in
          let z : Option Reply = acknowledgement t.process.father (sums3 t) in
          let none : (counts_replied t.sent.reply).second ≡ pos 0 = rw y in
          let b = rw none at s in
          let heirs : (q : ℕ) → heir_to false (final no_counts z t).process q + acks_to z q ≡ heir_to false x q + spot a 1 q =
          λ q. omega (arith, heir_none t.process.num t.process.father q n, heir_none x.num x.father q e, ap (λ (p : ℕ). spot p 1 q) d) in
          rw f
          (assembled no_counts z heirs (record { balance = omega arith; falls = omega arith }) (passed_on b) (λ _. refl)
          (λ l. absurd (omega arith)) (λ _. d) (λ p u r. acknowledgement_to r ∙ d))
      -- a becomes the father
      at (first e d c y) (apart n f) =
          let none : (counts_replied t.sent.reply).second ≡ pos 0 = rw y in
          let b = rw none at s in
          let g : Gained x t x.cs (sum3 t) = rule3_gained k h x.cs c in
          let heirs : (q : ℕ) → heir_to false (final (sums3 t) None t).process q + 0 ≡ heir_to false x q + spot a 1 q =
          λ q. omega (arith, heir_some t.process.num t.process.father q n, heir_none x.num x.father q e, ap (λ (p : ℕ). spot p 1 q) d) in
          rw (f, y)
          (assembled (sums3 t) None heirs (record { balance = omega arith; falls = omega arith }) b (λ l. absurd (n l))
          (λ l. absurd (omega arith)) (λ _. d)
          (λ p u r. absurd (unanswered p u r)))
      at (busy e d c y) (same n f) = absurd (e (omega arith))
      -- a is acknowledged with the old sum
      at (busy e d c y) (apart n f) =
          let g : Gained x t (pos 0) (sum3 t) = rule3_gained k h (pos 0) c in
          let z : Option Reply = acknowledgement a (sums_of x) in
          let sent : (counts_replied t.sent.reply).second ≡ x.second = rw y in
          let b = rw sent at s in
          let heirs : (q : ℕ) → heir_to false (final (sums3 t) z t).process q + acks_to z q ≡ heir_to false x q + spot a 1 q =
          λ q. omega (arith, heir_some t.process.num t.process.father q n, heir_some x.num x.father q e, ap (λ (p : ℕ). spot p 1 q) d) in
          rw (f, y)
          (assembled (sums3 t) z heirs (record { balance = omega arith; falls = omega arith }) b (λ l. absurd (n l)) (λ _. d)
          (λ l. absurd (e l)) (λ p u r. acknowledgement_to r))

-- ---- a step that sets no flag: an acknowledgement, and every step of the start

-- what such a step leaves, with sums z, num n and reply y
abbrev quiet : TwoCounts → ℕ → Option Reply → Process → Turn
quiet z n y x =
    record {
      process = record {
        succeeding = x.succeeding;
        preceding = x.preceding;
        subordinate = x.subordinate;
        cs = z.count;
        num = n;
        father = x.father;
        second = z.second;
      };
      sent = record { probes = Probes.Nothing; reply = y };
    }

quiet_effect :
    (root : Bool) (m : Message) (o i a : ℕ) (x : Process) → Known root m x → (z : TwoCounts) (n : ℕ) (y : Option Reply) →
    is_suc m ≤ x.succeeding → is_pre m ≤ x.preceding → n + bit (not (is_probe m)) ≡ x.num →
    ((q : ℕ) → heir_to root (quiet z n y x).process q + acks_to y q ≡ heir_to root x q + spot a (bit (is_probe m)) q) →
    ((u p : ℕ) → Balanced x.cs (counts_of m).count z.count (counts_replied y).count u u p p) →
    ((u p : ℕ) → Balanced x.second (counts_of m).second z.second (counts_replied y).second u u p p) →
    (root ≡ false → n ≡ 0 → z ≡ no_counts) →
    (root ≡ false → x.num ≡ 0 → x.father ≡ a) →
    ((p : ℕ) (c : TwoCounts) → y ≡ acknowledgement p c → (p ≡ a) ⊎ ((root ≡ false) × (1 ≤ x.num) × (p ≡ x.father))) →
    Effect root m o i a x (quiet z n y x)
unfolding new_subordinate
quiet_effect root m o i a x k z n y sucs pres num heirs sums seconds rests new replies =
    record {
      succeeding = omega arith;
      preceding = omega arith;
      succ_bit = k.succ_bit;
      prec_bit = k.prec_bit;
      suc_sets = sucs;
      pre_sets = pres;
      suc_alone = omega arith;
      pre_alone = omega arith;
      sub_is = k.sub_is;
      num = omega arith;
      heir = heirs;
      sums = sums x.subordinate (both x);
      seconds = seconds (x.succeeding * own_count o) 0;
      at_rest = rests;
      father_root = λ _. refl;
      father_kept = λ _. refl;
      father_new = new;
      replies = replies;
    }

-- a sum that gains a count, and is kept or passed on
gains : (z c : ℤ) (u p : ℕ) → Balanced z c (z +ℤ c) (pos 0) u u p p
gains z c u p = record { balance = omega (arith, parts_sum z c); falls = omega (arith, parts_sum_below z c) }

-- a sum that stays
stays : (z : ℤ) (u p : ℕ) → Balanced z (pos 0) z (pos 0) u u p p
stays z u p = record { balance = omega arith; falls = omega arith }

acknowledged_effect : (c : TwoCounts) (o i a : ℕ) (x : Process) → Known false (Ack c) x → Effect false (Ack c) o i a x (rule4 (acknowledged c x))
unfolding acknowledged rule4
acknowledged_effect c o i a x k = at (same? (x.num - 1) 0)
  where
    z : TwoCounts
    z = gaining c x

    had : x.num ≡ 0 → ⊥
    had e = omega arith

    heir_zero : (q : ℕ) → x.num - 1 ≡ 0
        → heir_to false (quiet no_counts (x.num - 1) (acknowledgement x.father z) x).process q + acks_to (acknowledgement x.father z) q ≡ heir_to false x q + spot a 0 q
    heir_zero q n = omega (arith, heir_none (x.num - 1) x.father q n, heir_some x.num x.father q had, spot_zero a q)

    heir_more : (q : ℕ) → (x.num - 1 ≡ 0 → ⊥) → heir_to false (quiet z (x.num - 1) None x).process q + 0 ≡ heir_to false x q + spot a 0 q
    heir_more q n = omega (arith, heir_some (x.num - 1) x.father q n, heir_some x.num x.father q had, spot_zero a q)

    at : Same (x.num - 1) 0 → Effect false (Ack c) o i a x (rule4 (acknowledged c x))
    at (same n f) =
        rw f (quiet_effect false (Ack c) o i a x k no_counts (x.num - 1) (acknowledgement x.father z) (omega arith) (omega arith) (omega arith)
        (λ q. heir_zero q n) (λ u p. passed_on (gains x.cs c.count u p)) (λ u p. passed_on (gains x.second c.second u p))
        (λ _ _. refl) (λ _ e. absurd (had e))
        (λ p u r. inr (refl, omega arith, acknowledgement_to r)))
    at (apart n f) =
        rw f (quiet_effect false (Ack c) o i a x k z (x.num - 1) None (omega arith) (omega arith) (omega arith) (λ q. heir_more q n)
        (gains x.cs c.count) (gains x.second c.second) (λ _ e. absurd (n e)) (λ _ e. absurd (had e))
        (λ p u r. absurd (unanswered p u r)))

-- ---- the steps

pub turn_effect : (m : Message) (o i a : ℕ) (x : Process) → Known false m x → Effect false m o i a x (turn m o i a x)
unfolding turn
turn_effect Suc o i a x k =
    rules34_effect a k (set_succeeding_marked o i x (rule1 a x) (rule1_plain a x)) refl refl (set_succeeding_second o x (rule1 a x) (rule1_second o a x))
    (set_succeeding_asked o (rule1_asked a x))
turn_effect Pre o i a x k =
    rules34_effect a k (set_preceding_marked o i x (rule1 a x) (rule1_plain a x)) refl refl (set_preceding_second o x (rule1 a x) (rule1_second o a x) i)
    (set_preceding_asked i (rule1_asked a x))
turn_effect (Ack c) o i a x k = acknowledged_effect c o i a x k

pub start_turn_effect : (m : Message) (o i a : ℕ) (x : Process) → Known true m x → Effect true m o i a x (start_turn m a x)
unfolding start_turn acknowledged
start_turn_effect Suc o i a x k =
    quiet_effect true Suc o i a x k (sums_of x) x.num (acknowledgement a no_counts) (omega (arith, k.root_succ refl)) (omega arith) (omega arith) (λ q. omega arith)
    (stays x.cs) (stays x.second) (λ r. absurd (true≢false r)) (λ r. absurd (true≢false r)) (λ p u r. inl (acknowledgement_to r))
start_turn_effect Pre o i a x k =
    quiet_effect true Pre o i a x k (sums_of x) x.num (acknowledgement a no_counts) (omega arith) (omega (arith, k.root_prec refl)) (omega arith) (λ q. omega arith)
    (stays x.cs) (stays x.second) (λ r. absurd (true≢false r)) (λ r. absurd (true≢false r)) (λ p u r. inl (acknowledgement_to r))
start_turn_effect (Ack c) o i a x k =
    quiet_effect true (Ack c) o i a x k (gaining c x) (x.num - 1) None (omega arith) (omega arith) (omega arith)
    (λ q. omega (arith, spot_zero a q, heir_start (x.num - 1) x.father q, heir_start x.num x.father q))
    (gains x.cs c.count) (gains x.second c.second) (λ r. absurd (true≢false r)) (λ r. absurd (true≢false r))
    (λ p u r. absurd (unanswered p u r))

-- ---- father and acknowledgement, of any record

asked_named : {a : ℕ} {x : Process} {t : Turn} → Asked a x t → Named a x t
asked_named (first e d c y) = record { father = inr d; reply = λ q z r. absurd (unanswered q z (rw y at r)) }
asked_named (busy e d c y) = record { father = inl d; reply = λ q z r. inl (acknowledgement_to (rw y at r)) }

-- rules 3 and 4 keep the father, and acknowledge only him
module _ {a : ℕ} {x : Process} {t : Turn} (h : Named a x t) where
  rule4_named : Named a x (rule4 t)
  unfolding rule4
  rule4_named = at (tested (eqb t.process.num 0))
    where
      at : Tested (eqb t.process.num 0) → Named a x (rule4 t)
      at (passed e) = rw e (record { father = h.father; reply = λ q c r. inr (acknowledgement_to r) })
      at (failed e) = rw e h

  rule3_named : Named a x (rule3 t)
  unfolding rule3
  rule3_named = record { father = h.father; reply = h.reply }

acknowledged_named : (a : ℕ) (c : TwoCounts) (x : Process) → Named a x (acknowledged c x)
unfolding acknowledged
acknowledged_named a c x = record { father = inl refl; reply = λ q d r. absurd (unanswered q d r) }

pub turn_named : (m : Message) (o i a : ℕ) (x : Process) → Named a x (turn m o i a x)
unfolding turn
turn_named Suc o i a x = rule4_named (rule3_named (asked_named (set_succeeding_asked o (rule1_asked a x))))
turn_named Pre o i a x = rule4_named (rule3_named (asked_named (set_preceding_asked i (rule1_asked a x))))
turn_named (Ack c) o i a x = rule4_named (acknowledged_named a c x)

pub start_turn_named : (m : Message) (a : ℕ) (x : Process) → Named a x (start_turn m a x)
unfolding start_turn
start_turn_named Suc a x = record { father = inl refl; reply = λ q c r. inl (acknowledgement_to r) }
start_turn_named Pre a x = record { father = inl refl; reply = λ q c r. inl (acknowledgement_to r) }
start_turn_named (Ack c) a x = acknowledged_named a c x
