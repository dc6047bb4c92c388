-- Laws on the number of checks 4 to 7 and on their answer, one for each way that the code goes.
--   fields_number_ends, fields_number_firsts, fields_number_nexts, fields_number_out, fields_number_in, fields_number_alike   == the first that fails
--   fields_number_none   == none fails
--   Says k t       == the answer of checks that come to k is that for the fields
--   says_ends, says_firsts, says_nexts, says_out, says_in, says_alike, says_none   == the same of the answer
-- Assumes nothing.
use Rattle.std.specs.Prelude.{ℕ, true, false, Result, ◌≡◌}
use Rattle.std.proofs.Common.{sym, ap, ◌∙◌}
use Rattle.base.specs.Sums.{all_to}
use Rattle.refusals.specs.declared.Refusal.{Refusal}
use Rattle.refusals.specs.Numbers.{answered}
use Rattle.tables.specs.declared.Chain.TheVariants.{Out, In}
use Rattle.tables.specs.Table.{Fields, n_of, m_of}
use Rattle.tables.specs.Reading.{ends_right, firsts_right, nexts_right, chains_right, unlike_before, fields_number}

abbrev pub Says : ℕ → Fields → Type 0
Says k t = ◌≡◌ {A = Result (Unit {0}) Refusal} (answered k tt) (answered (fields_number t) tt)

says : (k : ℕ) (t : Fields) → k ≡ fields_number t → Says k t
says k t e = ap (λ (j : ℕ). answered j tt) e

-- the tests of the fields t of a table with N n and M m, as the code makes them
module _ (t : Fields) (n m : ℕ) (en : n ≡ n_of t) (em : m ≡ m_of t) where
  fields_number_ends : false ≡ all_to m (ends_right t) → 4 ≡ fields_number t
  unfolding fields_number
  fields_number_ends e0 = rw (← en, ← em, ← e0)

  pub says_ends : false ≡ all_to m (ends_right t) → Says 4 t
  says_ends e0 = says 4 t (fields_number_ends e0)

  module _ (e0 : true ≡ all_to m (ends_right t)) where
    fields_number_firsts : false ≡ all_to n (firsts_right t) → 5 ≡ fields_number t
    unfolding fields_number
    fields_number_firsts e1 = rw (← en, ← em, ← e0, ← e1)

    pub says_firsts : false ≡ all_to n (firsts_right t) → Says 5 t
    says_firsts e1 = says 5 t (fields_number_firsts e1)

    module _ (e1 : true ≡ all_to n (firsts_right t)) where
      fields_number_nexts : false ≡ all_to m (nexts_right t) → 5 ≡ fields_number t
      unfolding fields_number
      fields_number_nexts e2 = rw (← en, ← em, ← e0, ← e1, ← e2)

      pub says_nexts : false ≡ all_to m (nexts_right t) → Says 5 t
      says_nexts e2 = says 5 t (fields_number_nexts e2)

      module _ (e2 : true ≡ all_to m (nexts_right t)) where
        fields_number_out : false ≡ chains_right Out t → 6 ≡ fields_number t
        unfolding fields_number
        fields_number_out e3 = rw (← en, ← em, ← e0, ← e1, ← e2, ← e3)

        pub says_out : false ≡ chains_right Out t → Says 6 t
        says_out e3 = says 6 t (fields_number_out e3)

        module _ (e3 : true ≡ chains_right Out t) where
          fields_number_in : false ≡ chains_right In t → 6 ≡ fields_number t
          unfolding fields_number
          fields_number_in e4 = rw (← en, ← em, ← e0, ← e1, ← e2, ← e3, ← e4)

          pub says_in : false ≡ chains_right In t → Says 6 t
          says_in e4 = says 6 t (fields_number_in e4)

          module _ (e4 : true ≡ chains_right In t) where
            fields_number_alike : false ≡ all_to (m_of t) (unlike_before t) → 7 ≡ fields_number t
            unfolding fields_number
            fields_number_alike e5 = rw (← e5, ← en, ← em, ← e0, ← e1, ← e2, ← e3, ← e4)

            pub says_alike : false ≡ all_to (m_of t) (unlike_before t) → Says 7 t
            says_alike e5 = says 7 t (fields_number_alike e5)

            fields_number_none : true ≡ all_to (m_of t) (unlike_before t) → 0 ≡ fields_number t
            unfolding fields_number
            fields_number_none e5 = rw (← e5, ← en, ← em, ← e0, ← e1, ← e2, ← e3, ← e4)

            pub says_none : true ≡ all_to (m_of t) (unlike_before t) → Says 0 t
            says_none e5 = says 0 t (fields_number_none e5)
