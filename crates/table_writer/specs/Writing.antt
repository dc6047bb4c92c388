-- Writing a table from N and a list of entries, from and to by turns ("The writer takes N and a list of from, to pairs").
--   pairs list          == how many pairs the list has
--   end c list k        == pair k's from (whose out-chain it belongs to), or its to (whose in-chain)
--   front c list p k    == the first arc of p's chain once arcs 1 to k have been put, 0 if it has none
--   process_field, arc_field   == the fields of a process record, and of an arc record
--   written_field n list j   == field j of the table
--   bytes_of t j         == the first j fields, low byte first
--   table_over n list out   == the table, and then what the output held past it
--   given list k a b    == one of the first k pairs is a and b
--   ends_fit, unlike     == the tests of the checks 4 and 7 on one pair
--   write_number n list space   == the first check that is met, in the writer's order, 0 if none is
--   Fit n list space    == no check is met, as facts
--   output_for, written n list out   == the output at exit
--   writing_of n list out   == the answer: the table's length in bytes, or the refusal with that number
--   WrittenRight n list bs   == bytes are a table as 01 states it, with N, M and each pair as given
-- Assumes nothing.
use Rattle.std.specs.Prelude.{ℕ, zero, suc, ◌+◌, ◌-◌, ◌*◌, ◌/◌, ◌%◌, ◌≤◌, ◌<◌, Bool, not, ◌&&◌, List, [], ◌∷◌, ◌++◌, Result, ◌≡◌, eqb, ltb, length, get_or, drop}
use Rattle.base.specs.Choice.{choose}
use Rattle.base.specs.Sums.{all_to, any_to}
use Rattle.tables.specs.declared.Chain.{Chain}
use Rattle.tables.specs.declared.Chain.TheVariants.{Out, In}
use Rattle.refusals.specs.declared.Refusal.{Refusal}
use Rattle.refusals.specs.Numbers.{answered}
use Rattle.tables.specs.Table.{Fields, field_of, n_of, m_of, SizesFit, sizes_fit, field_total, table_length, IsProcess, is_process, arc_at}
use Rattle.tables.specs.Layout.{MeetsLayout}
use Rattle.tables.specs.Waits.{Waits, waits_of}

-- "a list of from, to pairs"
abbrev pub pairs : List ℕ → ℕ
pairs list = length list / 2

-- "Arc k is pair k": pair 1 has entries 0 and 1
unfoldable pub end : Chain → List ℕ → ℕ → ℕ
end Out list k = get_or list (2 * k - 2) 0
end In list k = get_or list (2 * k - 1) 0

-- "Each arc is put at the front of its two chains, in list order": after arc k the front of p's chain is arc k if that is p's, else what it was
unfoldable pub front : Chain → List ℕ → ℕ → ℕ → ℕ
front c list p zero = 0
front c list p (suc k) =
    let before : ℕ = front c list p k in
    choose (eqb (end c list (suc k)) p) (suc k) before

-- ---- the fields

-- "N process records: first-out, first-in", once all arcs have been put
unfoldable pub process_field : List ℕ → ℕ → ℕ → ℕ
process_field list p zero = front Out list p (pairs list)
process_field list p (suc i) = front In list p (pairs list)

-- "M arc records: from, to, next-out, next-in". Put at the front, an arc is followed by what was the front before it
unfoldable pub arc_field : List ℕ → ℕ → ℕ → ℕ
arc_field list k zero = end Out list k
arc_field list k (suc zero) = end In list k
arc_field list k (suc (suc zero)) = front Out list (end Out list k) (k - 1)
arc_field list k (suc (suc (suc i))) = front In list (end In list k) (k - 1)

-- "First N (processes, 1 to 128) and M (arcs, 0 to 512). Then N process records .. Then M arc records"; both count from 1
unfoldable pub written_field : ℕ → List ℕ → Fields
written_field n list j =
    choose (eqb j 0) n
    (choose (eqb j 1) (pairs list)
    (choose (ltb j (2 + 2 * n)) (process_field list (j / 2) (j % 2))
    (arc_field list ((j - (2 + 2 * n)) / 4 + 1) ((j - (2 + 2 * n)) % 4))))

-- "Each field is 16 bits, unsigned, low byte first."
unfoldable pub bytes_of : Fields → ℕ → List ℕ
bytes_of t zero = []
bytes_of t (suc j) = bytes_of t j ++ (t j % 256 ∷ t j / 256 ∷ [])

-- "Output bytes past the table keep their values."
unfoldable pub table_over : ℕ → List ℕ → List ℕ → List ℕ
table_over n list out = bytes_of (written_field n list) (field_total n (pairs list)) ++ drop (table_length n (pairs list)) out

-- ---- the checks

-- "4: a from or to is 0 or over N": both entries of pair k are processes
unfoldable pub ends_fit : ℕ → List ℕ → ℕ → Bool
ends_fit n list k = is_process n (end Out list k) && is_process n (end In list k)

-- "7: two arcs agree in from and to": some pair of 1 to k has the ends a and b
unfoldable pub given : List ℕ → ℕ → ℕ → ℕ → Bool
given list k a b = any_to k (λ j. eqb (end Out list j) a && eqb (end In list j) b)

-- pair k has other ends than each pair before it
unfoldable pub unlike : List ℕ → ℕ → Bool
unlike list k = not (given list (k - 1) (end Out list k) (end In list k))

-- "The writer checks 10, 2, 4, 7, 11": 10 odd number of list entries, 11 output too short
unfoldable pub write_number : ℕ → List ℕ → ℕ → ℕ
write_number n list space =
    choose (not (eqb (length list % 2) 0)) 10
    (choose (not (sizes_fit n (pairs list))) 2
    (choose (not (all_to (pairs list) (ends_fit n list))) 4
    (choose (not (all_to (pairs list) (unlike list))) 7
    (choose (ltb space (table_length n (pairs list))) 11
    0))))

-- the same as facts: no check is met
pub record Fit (n : ℕ) (list : List ℕ) (space : ℕ) : Type 0 where
  pub even : length list % 2 ≡ 0
  pub sizes : SizesFit n (pairs list)
  pub ends : (c : Chain) (k : ℕ) → 1 ≤ k → k ≤ pairs list → IsProcess n (end c list k)
  pub differ : (j k : ℕ) → 1 ≤ j → j < k → k ≤ pairs list → end Out list j ≡ end Out list k → end In list j ≡ end In list k → ⊥
  pub room : table_length n (pairs list) ≤ space

-- ---- the outcome

-- "A refusal returns its number, zeros elsewhere, and changes no lent byte or word"
unfoldable pub output_for : ℕ → List ℕ → List ℕ → List ℕ
output_for zero new old = new
output_for (suc r) new old = old

-- the whole output at exit: the table and the bytes past it, or every byte as it was
unfoldable pub written : ℕ → List ℕ → List ℕ → List ℕ
written n list out = output_for (write_number n list (length out)) (table_over n list out) out

-- "A refusal returns its number": the answer of the writer, with the table's "4 + 4N + 8M bytes" if it wrote one
unfoldable pub writing_of : ℕ → List ℕ → List ℕ → Result ℕ Refusal
writing_of n list out = answered (write_number n list (length out)) (table_length n (pairs list))

-- "An arc says that *from* waits for *to*": some pair has these ends
unfoldable pub given_waits : ℕ → List ℕ → Waits
given_waits n list = record { n = n; waits = given list (pairs list) }

-- "Arc k is pair k", pair k being the entries 2 (k - 1) and 2 (k - 1) + 1
pub record WrittenRight (n : ℕ) (list bs : List ℕ) : Type 0 where
  pub accepted : MeetsLayout bs
  pub n_is : n_of (field_of bs) ≡ n
  pub m_is : m_of (field_of bs) ≡ pairs list
  pub from_is : (k : ℕ) → 1 ≤ k → k ≤ pairs list → (arc_at (field_of bs) k).from ≡ get_or list (2 * (k - 1)) 0
  pub to_is : (k : ℕ) → 1 ≤ k → k ≤ pairs list → (arc_at (field_of bs) k).to ≡ get_or list (2 * (k - 1) + 1) 0
  pub waits_are : waits_of (field_of bs) ≡ given_waits n list
