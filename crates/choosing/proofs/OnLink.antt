-- One delivery on a chosen link, in a tested area with the cells of its pairs, whatever the choice.
--   ready_few, ready_within   == N is small, and messages wait between processes alone
--   drawn_chosen              == what is chosen by a state
--   on choice r               == the delivery on what is chosen
--   holding-next-of           == the area after it holds the run after it
--   Left choice w sq s x v l   == what it leaves of the area w: the answer x, the area v, and what is remembered of that, l
--   left_small                == the ends of the link of a delivered message are processes, and so at most the largest N
--   left-refusal, left-message   == what the answer says of the delivery: its refusal, or its message
--   left_none                 == no link is chosen
--   chosen_small              == the ends of the chosen link are at most the largest N
--   link_asks, note-asks      == what the delivery on the chosen link asks, and then noting it
--   left_refused, left_delivered       == the delivery is refused, or a message is delivered
-- Assumes nothing.
use Rattle.std.proofs.Common.{ℕ, ◌≤◌, List, true, ◌≡◌, refl, sym, ap, ◌∙◌, subst, arith, ℤ, Option, Some, None, Result, Ok, Err}
use Rattle.refusals.specs.declared.Refusal.{Refusal}
use Rattle.refusals.specs.Numbers.{numbered}
use Rattle.tables.specs.declared.Sizes.{Sizes}
use Rattle.tables.specs.Sound.{Sound}
use Rattle.tables.specs.Waits.{neighbours}
use Rattle.tables.specs.WaitsLaws.{neighbours_ends}
use Rattle.tables.specs.Table.{most_processes, IsProcess}
use Rattle.steps.specs.declared.Process.{Process}
use Rattle.steps.specs.declared.Reply.{Reply}
use Rattle.checks.specs.Run.{Run}
use Rattle.checks.specs.Calls.{Picked, deliver_on}
use Rattle.machine.specs.Calls.{Selection, nobody, pair, waiting, link_at, links_of, drawn}
use Rattle.areas.specs.Area.{fields_in, run_in, keeping}
use Rattle.areas.specs.Squares.{place_in, Linked, cell}
use Rattle.delivery.specs.declared.delivering.Delivered.{Delivered}
use Rattle.carrying.specs.Carrying.{carried_out}
use Rattle.delivery.specs.Delivering.{deliver_at, told_at}
use Rattle.delivery.specs.DeliveryFacts.{Going}
use Rattle.delivery.specs.PreparedLaws.{left_alone, told_refused, told-going}
use Rattle.delivery.specs.StorableLaws.{storable_on, waiting_joined}
use Rattle.lenses.specs.Ready.{Ready}
use Rattle.lenses.specs.ReadyLaws.{right_storable, ready_n, ready_sizes}
use Rattle.lenses.proofs.Holding.{Holding, holding_first, holding_run, holding_next}
use Rattle.marks.specs.Changes.{Points, MarkedAt, Turns}
use Rattle.remembering.specs.Running.{Running}
use Rattle.remembering.specs.RunningLaws.{running_linked, running_kept, linked_kept}
use Rattle.remembering.specs.Memory.{Remembers}
use Rattle.remembering.specs.Noting.{noted_marks}
use Rattle.remembering.specs.NotedLaws.{remembers_noted}
use Rattle.choosing.specs.declared.Link.{Link}
use Rattle.choosing.specs.declared.ChosenDelivery.{ChosenDelivery}
use Rattle.choosing.specs.Answers.{chosen_of, chosen_answer}
use Rattle.choosing.specs.OrderLaws.{Names, Within, points_drawn}
use Rattle.choosing.specs.AnswerLaws.{chosen_of_nobody, chosen_of_link, deliver_on_nobody, deliver_on_pair, chosenAnswer-refused, chosenAnswer-delivered}

module _ {w : List ℤ} {s : Sizes} (y : Ready w s) where
  pub ready_few : (run_in w).waits.n ≤ most_processes
  ready_few = omega (arith, (ready_sizes y).0, ready_n y)

  pub ready_within : Within (run_in w)
  ready_within a b e =
      let f = right_storable w y.right in
      let i = neighbours_ends (run_in w).waits f.sound a b (waiting_joined (fields_in w) (run_in w) f.held a b e) in
      ((i.0, i.1), (i.2, i.3))

  -- the link at the place that a state points to is the drawn one
  pub drawn_chosen : {l : List ℕ} → Remembers (run_in w) l → (state k : ℕ) → Points l state k → {c : Option Link}
      → c ≡ chosen_of (link_at k (links_of (run_in w))) → c ≡ chosen_of (drawn state (run_in w))
  drawn_chosen h state k p e = e ∙ ap chosen_of (points_drawn (run_in w) ready_few ready_within h state k p)

abbrev pub on : (Run → Selection) → Run → Picked
on choice r = deliver_on r (choice r)

pub holding-next-of
    : {choice : Run → Selection} → Names choice
    → {w : List ℤ} {s : Sizes} (y : Ready w s) {v u : List ℤ} {r : Run}
    → Holding w v r
    → u ≡ keeping v (on choice (run_in v)).run
    → Holding w u (on choice r).run
holding-next-of {choice} named {w} y {r = r} h e =
    holding_next y h (λ q. (on choice q).run) e (storable_on (fields_in w) r h.fit (choice r) (λ a b q. let i = named r a b q in (i.0, i.1)))

abbrev pub Left : (Run → Selection) → List ℤ → List ℕ → Sizes → Result ChosenDelivery Refusal → List ℤ → List ℕ → Type 0
Left choice w sq s x v l =
    (x ≡ chosen_answer (choice (run_in w)) (on choice (run_in w)).answer)
    × ((v ≡ keeping w (on choice (run_in w)).run) × (Remembers (run_in v) l × Running v sq s))

module _ (choice : Run → Selection) (named : Names choice) {w : List ℤ} {sq : List ℕ} {s : Sizes} (y : Running w sq s)
    {x : Result ChosenDelivery Refusal} {v : List ℤ} {l : List ℕ} (d : Left choice w sq s x v l) where
  pub left_small : {z : ChosenDelivery} → x ≡ Ok z → (z.from ≤ most_processes) × (z.to ≤ most_processes)
  left_small {z} e =
      let p = named (run_in w) z.from z.to (chosenAnswer-delivered (run_in w) z.from z.to z.message (choice (run_in w)) (sym d.0 ∙ e)).0 in
      (omega (arith, p.0.1, ready_few y.ready), omega (arith, p.1.1, ready_few y.ready))

  pub left-refusal : {e : Refusal} → x ≡ Err e → (on choice (run_in w)).answer ≡ Err e
  left-refusal e = chosenAnswer-refused (run_in w) (choice (run_in w)) (sym d.0 ∙ e)

  pub left-message : {z : ChosenDelivery} → x ≡ Ok z → (on choice (run_in w)).answer ≡ Ok z.message
  left-message {z} e = (chosenAnswer-delivered (run_in w) z.from z.to z.message (choice (run_in w)) (sym d.0 ∙ e)).1

module _ (choice : Run → Selection) (named : Names choice) {w : List ℤ} {sq : List ℕ} {s : Sizes} (y : Running w sq s)
    {l : List ℕ} (h : Remembers (run_in w) l) {c : Option Link} (g : c ≡ chosen_of (choice (run_in w))) where
  -- a refused delivery leaves the area as it was, whatever was chosen
  left-same : {e : Refusal} → on choice (run_in w) ≡ left_alone e (run_in w) → Left choice w sq s (Err e) w l
  left-same {e} p = (answer, ((holding_first y.ready).is ∙ sym (ap (λ (o : Picked). keeping w o.run) p), (h, y)))
    where
      at : (d : Selection) → chosen_answer d (Err e) ≡ Err e
      at nobody = refl
      at (pair a b) = refl

      answer : Err e ≡ chosen_answer (choice (run_in w)) (on choice (run_in w)).answer
      answer = sym (ap (λ (o : Picked). chosen_answer (choice (run_in w)) o.answer) p ∙ at (choice (run_in w)))

  pub left_none : c ≡ None → Left choice w sq s (Err (numbered 24)) w l
  left_none i = left-same (deliver_on_nobody (run_in w) (chosen_of_nobody (choice (run_in w)) (sym g ∙ i)))

  module _ {link : Link} (i : c ≡ Some link) where
    chosen : choice (run_in w) ≡ pair link.from link.to
    chosen = chosen_of_link (choice (run_in w)) link.from link.to (sym g ∙ i)

    ends : IsProcess s.n link.from × IsProcess s.n link.to × (waiting ((run_in w).link link.from link.to) ≡ true)
    ends =
        let p = named (run_in w) link.from link.to chosen in
        let is = ready_n y.ready in
        ((p.0.0, omega (arith, p.0, is)), (p.1.0, omega (arith, p.1, is)), p.2)

    pub chosen_small : (link.from ≤ most_processes) × (link.to ≤ most_processes)
    chosen_small = let z = ready_sizes y.ready in (omega (arith, ends.0), omega (arith, ends.1))

    joined : neighbours (run_in w).waits link.from link.to ≡ true
    joined = waiting_joined (fields_in w) (run_in w) (right_storable w y.ready.right).held link.from link.to ends.2

    sound : Sound (run_in w).waits
    sound = (right_storable w y.ready.right).sound

    -- where the link begins, by its cell
    module _ {k at : ℕ} (cell-is : k ≡ cell sq link.from link.to) (at-is : at ≡ place_in k) where
      linked : Linked (fields_in w) link.from link.to at
      linked = running_linked y ends.0.1 ends.1.1 ends.2 cell-is at-is

      pub link_asks : Linked (fields_in w) link.from link.to at × ((link.from ≤ s.n) × (link.to ≤ s.n))
      link_asks = (linked, (ends.0.1, ends.1.1))

    this : on choice (run_in w) ≡ deliver_at (run_in w) link.from link.to 1
    this = deliver_on_pair (run_in w) link.from link.to chosen

    -- what the delivery has told, and the area that it has left
    module _ {o : Result Delivered Refusal} {v : List ℤ} (told : o ≡ told_at (run_in w) link.from link.to 1)
        (after : v ≡ keeping w (deliver_at (run_in w) link.from link.to 1).run) where
      pub left_refused : {e : Refusal} → o ≡ Err e → Left choice w sq s (Err e) v l
      left_refused q =
          let p = told_refused (run_in w) link.from link.to 1 (sym told ∙ q) in
          let same : v ≡ w = after ∙ ap (λ (o : Picked). keeping w o.run) p ∙ sym (holding_first y.ready).is in
          rw same (left-same (this ∙ p))

      kept : v ≡ keeping w (on choice (run_in w)).run
      kept = after ∙ ap (λ (o : Picked). keeping w o.run) (sym this)

      holds : Holding w v (on choice (run_in w)).run
      holds = holding-next-of named y.ready (holding_first y.ready) kept

      still_running : Running v sq s
      still_running = rw holds.is (running_kept y holds.fit)

      module _ {d : Delivered} (e : o ≡ Ok d) where
        gone : (x : Process) × Going (run_in w) s.n link.from link.to 1 d.message (record { process = x; sent = d.sent })
        gone = told-going y.ready link.from link.to 1 joined (sym told ∙ e)

        pub note-asks
            : {k at : ℕ} → k ≡ cell sq link.from link.to → at ≡ place_in k
            → Ready v s
            × (Linked (fields_in v) link.from link.to at
            × ((IsProcess s.n link.from × IsProcess s.n link.to) × (((z : Reply) → d.sent.reply ≡ Some z → IsProcess most_processes z.to) × MarkedAt l link.from link.to)))
        note-asks {k} {at} cell-is at-is =
            (still_running.ready, (still_linked, ((ends.0, ends.1), (to, (λ x u. waiting ((run_in w).link x u), h, ends.2)))))
          where
            still_linked : Linked (fields_in v) link.from link.to at
            still_linked = rw holds.is (linked_kept y holds.fit (linked cell-is at-is))

            to : (z : Reply) → d.sent.reply ≡ Some z → IsProcess most_processes z.to
            to z i =
                let j = neighbours_ends (run_in w).waits sound link.to z.to (gone.1.carried.replied z i) in
                (j.2, omega (arith, j.3, sound.few))

        -- the run in the area
        now_run : run_in v ≡ carried_out (run_in w) link.from link.to 1 gone.0 d.sent.probes d.sent.reply
        now_run = holding_run y.ready holds ∙ ap (λ (o : Picked). o.run) this ∙ gone.1.run

        -- what is remembered of it
        pub left_delivered : {j : List ℕ} → Turns l (noted_marks (run_in v) link.from link.to d.sent.probes d.sent.reply) j
            → Left choice w sq s (Ok (record { from = link.from; to = link.to; message = d.message })) v j
        left_delivered {j} t =
            let noted = subst (λ (r : Run). Turns l (noted_marks r link.from link.to d.sent.probes d.sent.reply) j) now_run t in
            let after = remembers_noted (run_in w) sound link.from link.to gone.0 d.sent.probes d.sent.reply gone.1.carried h noted in
            let says : (on choice (run_in w)).answer ≡ Ok d.message = ap (λ (o : Picked). o.answer) this ∙ gone.1.answer in
            let as_chosen : chosen_answer (choice (run_in w)) (on choice (run_in w)).answer ≡ Ok (record { from = link.from; to = link.to; message = d.message }) =
            ap (chosen_answer (choice (run_in w))) says ∙ ap (λ (c : Selection). chosen_answer c (Ok d.message)) chosen in
            (sym as_chosen, (kept, (rw now_run after, still_running)))
