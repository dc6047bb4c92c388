-- What another fixed order changes, proved (02, N11).
--   senders_first_chooses   == the order before names a link with a message if there is one
--   answers_alike     == one run answers every next call alike in both orders
--   pick_over, run_on_over, run_shuffled_over, read_record_formed   == what a run that is over answers; a record is read whether it is over or not
--   but_for_fathers, over_answers   == two runs of one check that are over are the same but for fathers, and answer every next call alike
--   left_made, over_stays   == what a list leaves came by deliveries and holds the invariants; it is over if it was over before
--   Came cs r         == what the list cs comes to in both orders: one run, two that are over, or Parted
--   in_front, running, came   == a call in front that leaves one run in both orders, and a running on in front; every list comes to that
--   compared          == after every list of calls on a run that holds the invariants, one of the three holds
--   order_changes     == THE LAW: after every list of calls on an accepted start, one of the three holds
-- Assumes nothing.
use Prim.Native.Nat.{ℕ, zero, suc, ◌+◌, ◌≤◌}
use Rattle.std.specs.Prelude.{Bool, not, ◌&&◌, List, [], ◌∷◌, ◌≡◌, eqb, Ok, Err}
use Rattle.std.proofs.Math.Bool.{true, false}
use Rattle.std.proofs.Math.Path.{refl, ap}
use Rattle.std.proofs.Common.{sym, ap₂, ◌∙◌, subst, arith}
use Rattle.base.specs.Choice.{choose}
use Rattle.base.specs.ChoiceLaws.{tested, below?, and_left, and_right}
use Rattle.base.specs.Checks.{Tested, passed, failed, Below, below, beyond}
use Rattle.refusals.specs.Numbers.{numbered}
use Rattle.tables.specs.Waits.{Waits, neighbours}
use Rattle.tables.specs.Sound.{Sound}
use Rattle.tables.specs.Table.{IsProcess, is_process}
use Rattle.tables.specs.TableLaws.{is_process_P}
use Rattle.machine.specs.declared.Ran.{Ran}
use Rattle.machine.specs.Calls.{in_row, link_if, fixed_order, shuffled_order, refused, halted, not_run, run_from, run_on, run_shuffled}
use Rattle.machine.specs.Calls as MachineCalls
use Rattle.machine.specs.Lists.{Call, picking, running_on, running_shuffled, reporting, reading, in_turn, passed_by}
use Rattle.machine.specs.Made.{Made, Chooses, PassMade}
use Rattle.machine.proofs.MadeLaws.{made_waits, made_start, made_edition, made_count, pick_made, run_on_made, run_shuffled_made}
use Rattle.machine.proofs.ChooserLaws.{by_senders, all_links_choose, fixed_order_chooses}
use Rattle.machine.specs.RunningLaws.{from_over, from_spent}
use Rattle.machine.proofs.UpheldLaws.{upheld_list}
use Rattle.steps.specs.declared.Process.{Process}
use Rattle.checks.specs.Run.{Run, IsEdition, knot, over, start_run}
use Rattle.checks.specs.Calls.{delivery_of, pick, read_record}
use Rattle.checks.specs.Lists.{asked, Ended}
use Rattle.checks.specs.Reach.{d_of}
use Rattle.ending.specs.Invariants.{Holds}
use Rattle.ending.specs.HoldsLaws.{holds_start, holds_formed, holds_upheld, holds_made}
use Rattle.ending.specs.Ending.{at_d, before_d, ended}
use Rattle.ending.specs.EndingLaws.{runs_over, runs_spent, ran_alike}
use Rattle.ending.specs.Orders.{Order, lowest_before, senders_first, left_in, picked, ran, reported, read, tells, fatherless, aside}
use Rattle.ending.specs.Orders.{AnswersAlike, ButForFathers, Parted, Compared, alike, over_alike, parted}

pub senders_first_chooses : Chooses senders_first
unfolding lowest_before
senders_first_chooses =
    all_links_choose (λ r. in_row r.waits.n (λ a. in_row r.waits.n (λ b. link_if r a b))) (λ s r. 0) (λ s. s) by_senders (λ s r u. u)

-- ---- one run

module _ (r : Run) (h : Holds r) where
  answers_alike : AnswersAlike r r
  answers_alike (picking a b k) = refl
  answers_alike (running_on k) = ap ran (ran_alike fixed_order_chooses senders_first_chooses r h k 0 0)
  answers_alike (running_shuffled k seed) = refl
  answers_alike reporting = refl
  answers_alike (reading p) = refl

  read_record_formed : (p : ℕ) → read_record r p ≡ choose (not (is_process r.waits.n p)) (Err (numbered 25)) (Ok (r.process p))
  unfolding read_record
  read_record_formed p = rw (holds_formed r h)

  module _ (o : over r ≡ true) where
    pick_over : (a b k : ℕ) → (pick r a b k).answer ≡ choose (not (neighbours r.waits a b)) (Err (numbered 25)) (Err (numbered 23))
    unfolding MachineCalls.pick
    pick_over a b k = rw (holds_formed r h, o) (at (not (neighbours r.waits a b)))
      where
        at : (t : Bool) → delivery_of (choose t (refused 25 r) (refused 23 r)).answer ≡ choose t (Err (numbered 25)) (Err (numbered 23))
        at true = refl
        at false = refl

    run_on_over : (next : Order) (k : ℕ) → (run_on knot next k 0 r).answer ≡ Ok (Ran.Over 0)
    unfolding run_on
    run_on_over next k = rw (holds_formed r h, from_over knot next 0 r k 0 o)

    run_shuffled_over : (k seed : ℕ) → (run_shuffled knot k seed r).answer ≡ choose (eqb seed 0) (halted 37 0) (Ok (Ran.Over 0))
    unfolding run_shuffled
    run_shuffled_over k seed = rw (holds_formed r h, from_over knot shuffled_order seed r k 0 o) (at (eqb seed 0))
      where
        at : (t : Bool) → (choose t (not_run 37 r) (record { answer = Ok (Ran.Over 0); run = r })).answer ≡ choose t (halted 37 0) (Ok (Ran.Over 0))
        at true = refl
        at false = refl

-- ---- two runs that are over

fatherless_same :
    (x y : Process) → x.succeeding ≡ y.succeeding → x.preceding ≡ y.preceding → x.subordinate ≡ y.subordinate → x.cs ≡ y.cs
    → x.num ≡ y.num → x.second ≡ y.second → fatherless x ≡ fatherless y
fatherless_same x y a b c d e f =
    λ i. record { succeeding = a i; preceding = b i; subordinate = c i; cs = d i; num = e i; father = 0; second = f i }

-- both came by deliveries from one run that holds the invariants
module _ {from r q : Run} {k l : ℕ} (h : Holds from) (m : Made knot from k r) (n : Made knot from l q) (o : over r ≡ true) (p : over q ≡ true) where
  holds_one : Holds r
  holds_one = holds_made h m

  holds_other : Holds q
  holds_other = holds_made h n

  same_waits : r.waits ≡ q.waits
  same_waits = made_waits m ∙ sym (made_waits n)

  same_start : r.start ≡ q.start
  same_start = made_start m ∙ sym (made_start n)

  same_edition : r.edition ≡ q.edition
  same_edition = made_edition m ∙ sym (made_edition n)

  -- the same is said of both
  ended_one : Ended r.waits r.start r.edition r
  ended_one = ended r holds_one o

  ended_other : Ended r.waits r.start r.edition q
  ended_other = rw (same_waits, same_start, same_edition) (ended q holds_other p)

  same_records : (x : ℕ) → IsProcess r.waits.n x → fatherless (r.process x) ≡ fatherless (q.process x)
  same_records x i =
      fatherless_same (r.process x) (q.process x)
      (ended_one.succeeding x i ∙ sym (ended_other.succeeding x i)) (ended_one.preceding x i ∙ sym (ended_other.preceding x i))
      (ended_one.subordinate x i ∙ sym (ended_other.subordinate x i)) (ended_one.cs x i ∙ sym (ended_other.cs x i))
      (ended_one.num x i ∙ sym (ended_other.num x i)) (ended_one.second x i ∙ sym (ended_other.second x i))

  but_for_fathers : ButForFathers r q
  but_for_fathers =
      record {
        waits = same_waits;
        start = same_start;
        edition = same_edition;
        count = at_d r holds_one o ∙ ap₂ d_of same_waits same_start ∙ sym (at_d q holds_other p);
        records = same_records;
        links = λ a b i j. ended_one.none_waits a b i j ∙ sym (ended_other.none_waits a b i j);
      }

  over_answers : AnswersAlike r q
  over_answers (picking a b j) = ap picked (rw (pick_over r holds_one o a b j, pick_over q holds_other p a b j, same_waits))
  over_answers (running_on j) = ap ran (run_on_over r holds_one o fixed_order j ∙ sym (run_on_over q holds_other p senders_first j))
  over_answers (running_shuffled j seed) = ap ran (run_shuffled_over r holds_one o j seed ∙ sym (run_shuffled_over q holds_other p j seed))
  over_answers reporting = ap reported (ended_one.reports ∙ sym ended_other.reports)
  over_answers (reading x) =
      rw (read_record_formed r holds_one x, read_record_formed q holds_other x, sym same_waits) (at (tested (is_process r.waits.n x)))
    where
      at : Tested (is_process r.waits.n x)
          → aside (read (choose (not (is_process r.waits.n x)) (Err (numbered 25)) (Ok (r.process x))))
          ≡ aside (read (choose (not (is_process r.waits.n x)) (Err (numbered 25)) (Ok (q.process x))))
      at (passed e) = rw e (ap (λ (y : Process). read (Ok y)) (same_records x ((is_process_P r.waits.n x).0 e)))
      at (failed e) = rw e

-- ---- lists

-- what a list leaves came by deliveries, and holds the invariants
left_made : {next : Order} → Chooses next → (cs : List Call) (r : Run) → Holds r
    → PassMade knot r (in_turn (passed_by knot next asked) cs r) × Holds (left_in next cs r)
left_made {next} c cs r h = upheld_list holds_upheld next c.finds cs r h

over_stays : {next : Order} → Chooses next → (cs : List Call) (r : Run) → Holds r → over r ≡ true → over (left_in next cs r) ≡ true
over_stays {next} c cs r h o = at (tested (over (left_in next cs r)))
  where
    at : Tested (over (left_in next cs r)) → over (left_in next cs r) ≡ true
    at (passed e) = e
    at (failed e) =
        let u = left_made c cs r h in
        let q : Run = left_in next cs r in
        let same : d_of q.waits q.start ≡ d_of r.waits r.start = ap₂ d_of (made_waits u.0.made) (made_start u.0.made) in
        absurd (omega (arith, before_d q u.1 e, at_d r h o, made_count u.0.made))

data Came (cs : List Call) (r : Run) : Type 0 where
  together : left_in fixed_order cs r ≡ left_in senders_first cs r → Came cs r
  both_over : over (left_in fixed_order cs r) ≡ true → over (left_in senders_first cs r) ≡ true → Came cs r
  went_apart : Parted cs r → Came cs r

-- a call in front that leaves the run q
module _ (c : Call) (r q : Run) where
  left_on : (next : Order) → (passed_by knot next asked c r).left ≡ q → (cs : List Call) → left_in next (c ∷ cs) r ≡ left_in next cs q
  unfolding in_turn
  left_on next e cs = ap (λ (x : Run). left_in next cs x) e

  -- .. in both orders
  in_front :
      (passed_by knot fixed_order asked c r).left ≡ q → (passed_by knot senders_first asked c r).left ≡ q → {cs : List Call} → Came cs q → Came (c ∷ cs) r
  in_front e f {cs} (together t) = together (left_on fixed_order e cs ∙ t ∙ sym (left_on senders_first f cs))
  in_front e f {cs} (both_over o p) = both_over (ap over (left_on fixed_order e cs) ∙ o) (ap over (left_on senders_first f cs) ∙ p)
  in_front e f (went_apart d) =
      let on : left_in fixed_order (c ∷ d.front) r ≡ left_in fixed_order d.front q = left_on fixed_order e d.front in
      let on-before : left_in senders_first (c ∷ d.front) r ≡ left_in senders_first d.front q = left_on senders_first f d.front in
      went_apart (record {
        front = c ∷ d.front;
        k = d.k;
        back = d.back;
        stands = ap (λ (l : List Call). c ∷ l) d.stands;
        same = on ∙ d.same ∙ sym on-before;
        some = d.some;
        spent = ap (λ (x : Run). tells fixed_order (running_on d.k) x) on ∙ d.spent;
        spent_before = ap (λ (x : Run). tells senders_first (running_on d.k) x) on-before ∙ d.spent_before;
      })

-- running on in front
module _ (r : Run) (h : Holds r) where
  none_made : (next : Order) → (run_on knot next 0 0 r).run ≡ r
  unfolding run_on
  none_made next = rw (holds_formed r h) (at (tested (over r)))
    where
      at : Tested (over r) → (run_from knot next 0 0 0 r).run ≡ r
      at (passed o) = rw (from_over knot next 0 r 0 0 o)
      at (failed o) = rw (from_spent knot next 0 r 0 o)

  running_over : {next : Order} → Chooses next → (k : ℕ) → d_of r.waits r.start ≤ r.count + k → (cs : List Call)
      → over (left_in next (running_on k ∷ cs) r) ≡ true
  unfolding in_turn
  running_over {next} c k u cs =
      over_stays c cs (run_on knot next k 0 r).run
      (holds_made h (run_on_made knot next c.finds k 0 r)) (runs_over c r h k 0 u)

  running : (k : ℕ) (cs : List Call) → Came cs r → Came (running_on k ∷ cs) r
  unfolding in_turn
  running k cs rest = at k (below? (r.count + k) (d_of r.waits r.start))
    where
      at : (j : ℕ) → Below (r.count + j) (d_of r.waits r.start) → Came (running_on j ∷ cs) r
      at j (beyond u _) = both_over (running_over fixed_order_chooses j u cs) (running_over senders_first_chooses j u cs)
      at zero (below u _) = in_front (running_on 0) r r (none_made fixed_order) (none_made senders_first) rest
      at (suc j) (below u _) =
          went_apart (record {
            front = [];
            k = suc j;
            back = cs;
            stands = refl;
            same = refl;
            some = omega arith;
            spent = ap ran (runs_spent fixed_order_chooses r h (suc j) 0 u).says;
            spent_before = ap ran (runs_spent senders_first_chooses r h (suc j) 0 u).says;
          })

came : (cs : List Call) (r : Run) → Holds r → Came cs r
unfolding in_turn
came [] r h = together refl
came (picking a b k ∷ cs) r h =
    let q : Run = (pick r a b k).run in
    in_front (picking a b k) r q refl refl (came cs q (holds_made h (pick_made knot r h.sound a b k)))
came (running_on k ∷ cs) r h = running r h k cs (came cs r h)
came (running_shuffled k seed ∷ cs) r h =
    let q : Run = (run_shuffled knot k seed r).run in
    in_front (running_shuffled k seed) r q refl refl (came cs q (holds_made h (run_shuffled_made knot k seed r)))
came (reporting ∷ cs) r h = in_front reporting r r refl refl (came cs r h)
came (reading p ∷ cs) r h = in_front (reading p) r r refl refl (came cs r h)

-- ---- the law

compared : (cs : List Call) (r : Run) → Holds r → Compared cs r
compared cs r h = at (came cs r h)
  where
    both_ended : over (left_in fixed_order cs r) ≡ true → over (left_in senders_first cs r) ≡ true → Compared cs r
    both_ended o p =
        let u = (left_made fixed_order_chooses cs r h).0 in
        let v = (left_made senders_first_chooses cs r h).0 in
        over_alike o p (but_for_fathers h u.made v.made o p) (over_answers h u.made v.made o p)

    at : Came cs r → Compared cs r
    at (together e) =
        alike e (subst (λ (q : Run). AnswersAlike (left_in fixed_order cs r) q) e (answers_alike _ (left_made fixed_order_chooses cs r h).1))
    at (both_over o p) = both_ended o p
    at (went_apart d) = by (tested (over (left_in fixed_order cs r) && over (left_in senders_first cs r)))
      where
        by : Tested (over (left_in fixed_order cs r) && over (left_in senders_first cs r)) → Compared cs r
        by (passed e) = both_ended (and_left _ (over (left_in senders_first cs r)) e) (and_right (over (left_in fixed_order cs r)) _ e)
        by (failed e) = parted d e

pub order_changes : (w : Waits) → Sound w → (s : ℕ) → IsProcess w.n s → (ed : ℕ) → IsEdition ed → (cs : List Call) → Compared cs (start_run w s ed)
order_changes w sd s i ed named cs = compared cs (start_run w s ed) (holds_start w s ed sd i named)
