-- Laws on the answers of splitting and of beginning, one for each way that the code goes.
--   split_13, split_1, split_2_none, split_2_many, split_2_arcs, split_3, split_12   == refused
--   split_0           == split into its parts
--   pick_inside, pick_room_is   == the four bytes of a pick lie inside the input, and inside the part that begins at the table's end
--   pick_small        == a field of the picks is below 2 ^ 16
--   pick_made         == a pick put together from its two fields
--   begin_split       == splitting refused
--   begin_inside      == the table of a split input lies inside it
--   begin_unstarted, begin_started   == the start refused, or accepted
-- Assumes nothing.
use Prim.Native.Nat.{ℕ, suc, ◌+◌, ◌-◌, ◌*◌, ◌/◌, ◌%◌, ◌≤◌, ◌<◌}
use mathlib.Core.List.{List}
use mathlib.Core.Path.{◌≡◌, sym, ap, ◌∙◌}
use native.Mathlib.Omega.{arith}
use borrow.Author.Tests.{ne_eqb}
use lib.IntN.{ℤ}
use lib.ListN.{length, take, drop, get_or, length-drop}
use lib.Seq.{take_all, get_or-drop}
use Rattle.tables.specs.TableLaws.{field_of_small}
use Rattle.tables.specs.Table.{field_of, most_processes, most_arcs}
use Rattle.tables.specs.Layout.{Sizes}
use Rattle.std.specs.Prelude.{Result, Ok, Err}
use Rattle.refusals.specs.declared.Refusal.{Refusal}
use Rattle.refusals.specs.Numbers.{numbered}
use Rattle.refusals.specs.NumberLaws.{answered_ok, answered_err, passed_on}
use Rattle.starting.specs.StartCall.{start_number, start_answer, start_area}
use Rattle.inputs.specs.declared.Parts.{Parts}
use Rattle.inputs.specs.declared.Pick.{Pick}
use Rattle.inputs.specs.declared.Begun.{Begun}
use Rattle.inputs.specs.Input.{start_in, edition_in, before_table, table_fields, table_end, table_in, picks_in, input_number, parts_of, split_of}
use Rattle.inputs.specs.Input.{pick_from, pick_to, pick_in, begun_number, begun_of, begun_area, FirstMet, row_13, row_1, row_2, row_3, row_12, no_row}
use Rattle.inputs.specs.InputLaws.{field_of_after, none_rest, some_rest, end_least, first_number, parts_fill}
use Rattle.inputs.proofs.Told.{Parted, split_parted}

module _ (bs : List ℕ) where
  refused : (r : ℕ) → FirstMet bs (suc r) → Err (numbered (suc r)) ≡ split_of bs
  unfolding split_of
  refused r m = rw (first_number bs (suc r) m)

  parted : FirstMet bs 0 → Ok (parts_of bs) ≡ split_of bs
  unfolding split_of
  parted m = rw (first_number bs 0 m)

  pub split_13 : 20480 < length bs → Err (numbered 13) ≡ split_of bs
  split_13 h = refused 12 (row_13 h)

  pub split_1 : length bs ≤ 20480 → length bs < 8 → Err (numbered 1) ≡ split_of bs
  split_1 l h = refused 0 (row_1 l h)

  module _ (l : length bs ≤ 20480) (u : 8 ≤ length bs) (n m : ℕ) (en : n ≡ field_of bs 2) (em : m ≡ field_of bs 3) where
    n_is : n ≡ table_fields bs 0
    unfolding table_fields
    n_is = en ∙ sym (field_of_after bs 0)

    m_is : m ≡ table_fields bs 1
    unfolding table_fields
    m_is = em ∙ sym (field_of_after bs 1)

    end_is : 8 + 4 * n + 8 * m ≡ table_end bs
    unfolding table_end
    end_is = omega (arith, n_is, m_is)

    pub split_2_none : n ≡ 0 → Err (numbered 2) ≡ split_of bs
    split_2_none h = refused 1 (row_2 l u (λ s. omega (arith, n_is)))

    pub split_2_many : most_processes < n → Err (numbered 2) ≡ split_of bs
    split_2_many h = refused 1 (row_2 l u (λ s. omega (arith, n_is)))

    pub split_2_arcs : most_arcs < m → Err (numbered 2) ≡ split_of bs
    split_2_arcs h = refused 1 (row_2 l u (λ s. omega (arith, m_is)))

    module _ (d : n ≡ 0 → ⊥) (h : n ≤ most_processes) (k : m ≤ most_arcs) where
      sizes : Sizes (table_fields bs)
      sizes = (omega (arith, n_is), omega (arith, n_is), omega (arith, m_is))

      pub split_3 : length bs < 8 + 4 * n + 8 * m → Err (numbered 3) ≡ split_of bs
      split_3 f = refused 2 (row_3 l u sizes (omega (arith, end_is)))

      module _ (i : 8 + 4 * n + 8 * m ≤ length bs) where
        inside : table_end bs ≤ length bs
        inside = omega (arith, end_is)

        pub split_12 : ((length bs - (8 + 4 * n + 8 * m)) % 4 ≡ 0 → ⊥) → Err (numbered 12) ≡ split_of bs
        unfolding picks_in
        split_12 f =
            let b = some_rest (length bs) (table_end bs) inside (λ z. f (rw end_is z)) in
            refused 11 (row_12 l sizes b.0 b.1)

        pub split_0 : (s v : ℕ) → s ≡ field_of bs 0 → v ≡ field_of bs 1 → (length bs - (8 + 4 * n + 8 * m)) % 4 ≡ 0
            → Ok (record { start = s; edition = v; end = 8 + 4 * n + 8 * m; picks = (length bs - (8 + 4 * n + 8 * m)) / 4 }) ≡ split_of bs
        unfolding picks_in start_in edition_in
        split_0 s v es ev z =
            rw (es, ev, end_is)
            (parted (no_row l sizes (none_rest (length bs) (table_end bs) inside (rw end_is at z))))

-- the part of an input that begins at an end is the rest of it
part_rest : (bs : List ℕ) (end : ℕ) → take (length bs - end) (drop end bs) ≡ drop end bs
part_rest bs end = take_all (length bs - end) (drop end bs) (simp length-drop (omega arith))

pub pick_small : (bs : List ℕ) (end : ℕ) → ((i : ℕ) → get_or bs i 0 < 256) → (i v : ℕ) → v ≡ field_of (take (length bs - end) (drop end bs)) i → v < 65536
pick_small bs end small i v is = rw (is, part_rest bs end) (field_of_small (drop end bs) (λ k. rw (get_or-drop end bs k 0) (small (end + k))) i)

module _ (bs : List ℕ) (end j : ℕ) (e : end ≡ table_end bs) where
  pub pick_inside : j < picks_in bs → end + 4 * j + 4 ≤ length bs
  unfolding picks_in
  pick_inside h = omega arith

  pub pick_room_is : j < picks_in bs → (i : ℕ) → i ≤ 2 * j + 1 → 2 * i + 2 ≤ length (take (length bs - end) (drop end bs))
  pick_room_is h i l = let room = pick_inside h in rw (part_rest bs end, length-drop end bs) (omega arith)

  pub pick_made : (a b : ℕ) → a ≡ field_of (take (length bs - end) (drop end bs)) (2 * j) → b ≡ field_of (take (length bs - end) (drop end bs)) (2 * j + 1) →
      ◌≡◌ {A = Pick} (record { from = a; to = b }) (pick_in bs j)
  unfolding pick_in pick_from pick_to
  pick_made a b ea eb =
      let from : a ≡ field_of (drop (table_end bs) bs) (2 * j) = rw (part_rest bs end, e) at ea in
      let to : b ≡ field_of (drop (table_end bs) bs) (2 * j + 1) = rw (part_rest bs end, e) at eb in
      λ i. record { from = from i; to = to i }

-- the answer a and the area l are those of beginning
pub record Begins (bs : List ℕ) (w : List ℤ) (a : Result Begun Refusal) (l : List ℤ) : Type 0 where
  pub answer : a ≡ begun_of bs w
  pub area : l ≡ begun_area bs w

module _ (bs : List ℕ) (w : List ℤ) {x : Result Parts Refusal} (ex : x ≡ split_of bs) where
  pub begin_split : {e : Refusal} → x ≡ Err e → Begins bs w (Err e) w
  unfolding begun_of begun_number begun_area split_of
  begin_split q =
      let z = ne_eqb (input_number bs) 0 (answered_err (input_number bs) _ (sym ex ∙ q)) in
      record { answer = rw z (passed_on (input_number bs) _ _ (sym ex ∙ q)); area = rw z }

  module _ {p : Parts} (q : x ≡ Ok p) where
    told : Parted bs p
    told = split_parted bs (sym ex ∙ q)

    pub begin_inside : (before_table ≤ p.end) × (p.end ≤ length bs)
    begin_inside =
        let f = parts_fill bs told.number in
        let e : p.end ≡ table_end bs = ap (λ (p : Parts). p.end) told.is in
        (omega (arith, e, end_least bs), omega (arith, e))

    abbrev table : List ℕ
    table = take (p.end - before_table) (drop before_table bs)

    module _ {a : Result (Unit {0}) Refusal} {l : List ℤ} (ea : a ≡ start_answer table p.start p.edition w) (el : l ≡ start_area table p.start p.edition w) where
      number : begun_number bs w ≡ start_number (table_in bs) (start_in bs) (edition_in bs) w
      unfolding begun_number
      number = rw told.number

      answer : a ≡ start_answer (table_in bs) (start_in bs) (edition_in bs) w
      unfolding table_in
      answer = rw told.is at ea

      area : l ≡ begun_area bs w
      unfolding begun_area table_in
      area = rw told.number (rw told.is at el)

      pub begin_unstarted : {e : Refusal} → a ≡ Err e → Begins bs w (Err e) l
      unfolding begun_of start_answer
      begin_unstarted c =
          record { answer = rw number (passed_on (start_number (table_in bs) (start_in bs) (edition_in bs) w) _ _ (sym answer ∙ c)); area = area }

      pub begin_started : {u : Unit {0}} → a ≡ Ok u → Begins bs w (Ok (record { end = p.end; picks = p.picks })) l
      unfolding begun_of start_answer
      begin_started c =
          let n = (answered_ok (start_number (table_in bs) (start_in bs) (edition_in bs) w) _ (sym answer ∙ c)).0 in
          record { answer = rw (number ∙ n, told.is); area = area }
