-- Laws on the area of a start before anything is sent, one for each step of the code.
--   cleared_none, cleared_more   == no word is cleared, and one word more
--   copied_none, copied_more     == no field is copied, and one field more
--   quiet_laid   == words cleared, fields copied, the check, the start and the edition named: the area of the quiet run
-- Assumes nothing.
use Prim.Native.Nat.{ℕ, zero, suc, ◌+◌, ◌≤◌, ◌<◌}
use mathlib.Core.List.{List, []}
use mathlib.Core.Path.{◌≡◌, refl, sym, ap, ◌∙◌}
use native.Mathlib.Omega.{arith}
use lib.ListN.{length, get_or, set, length-set}
use lib.Seq.{get_or-set_same, get_or-set_other}
use lib.IntN.{ℤ, pos}
use lib.Dec.{ltb}
use mathlib.Core.Bool.{Bool, true, false}
use Rattle.base.specs.Choice.{choose}
use Rattle.base.specs.ChoiceLaws.{same?}
use Rattle.base.specs.Checks.{Same, same, apart}
use Rattle.tables.specs.Table.{Fields}
use Rattle.steps.specs.Step.{idle}
use Rattle.areas.specs.Places.{start_place, edition_place, head_size, field_place}
use Rattle.areas.specs.Used.{check_place}
use Rattle.areas.specs.Area.{field_total_of, record_place, link_place, knot_check, head_word, flags_of, record_word, slot_word, link_word, arc_word, word_of, stored}
use Rattle.areas.specs.Area.{area_of}
use Rattle.areas.specs.StoredLaws.{stored_of}
use Rattle.areas.specs.WordLaws.{word_of_head, word_of_field, word_of_record, word_of_arc, place?}
use Rattle.areas.specs.Regions.{Place, in_head, in_table, in_record, in_links}
use Rattle.beginning.specs.Starting.{quiet, Cleared, Copied}

-- ---- words cleared

pub cleared_none : (old : List ℤ) → Cleared old 0 old
cleared_none old = record { long = refl; zeros = λ k h. absurd (omega arith); kept = λ k h. refl }

pub cleared_more : (old new : List ℤ) (n : ℕ) → n < length old → Cleared old n new → Cleared old (n + 1) (set new n (pos 0))
cleared_more old new n h c =
    record {
      long = length-set new n (pos 0) ∙ c.long;
      zeros = λ k u. at k u (same? k n);
      kept = λ k u. get_or-set_other new n k (pos 0) (pos 0) (λ e. omega arith) ∙ c.kept k (omega arith);
    }
  where
    at : (k : ℕ) → k < n + 1 → Same k n → get_or (set new n (pos 0)) k (pos 0) ≡ pos 0
    at k u (same e _) = rw e (get_or-set_same new n (pos 0) (pos 0) (omega (arith, c.long)))
    at k u (apart d _) = get_or-set_other new n k (pos 0) (pos 0) d ∙ c.zeros k (omega arith)

-- ---- fields copied

pub copied_none : (t : Fields) (old : List ℤ) → Copied t old 0 old
copied_none t old = record { long = refl; fields = λ j h. absurd (omega arith); before = λ k h. refl; behind = λ k h. refl }

pub copied_more : (t : Fields) (old new : List ℤ) (n : ℕ) → head_size + n < length old → Copied t old n new
    → Copied t old (n + 1) (set new (head_size + n) (pos (t n)))
copied_more t old new n h c =
    record {
      long = length-set new (head_size + n) (pos (t n)) ∙ c.long;
      fields = λ j u. at j u (same? j n);
      before = λ k u. other k (λ e. omega arith) ∙ c.before k u;
      behind = λ k u. other k (λ e. omega arith) ∙ c.behind k (omega arith);
    }
  where
    other : (k : ℕ) → (k ≡ head_size + n → ⊥) → get_or (set new (head_size + n) (pos (t n))) k (pos 0) ≡ get_or new k (pos 0)
    other k d = get_or-set_other new (head_size + n) k (pos (t n)) (pos 0) d

    at : (j : ℕ) → j < n + 1 → Same j n → get_or (set new (head_size + n) (pos (t n))) (field_place j) (pos 0) ≡ pos (t j)
    at j u (same e _) = rw e (get_or-set_same new (head_size + n) (pos (t n)) (pos 0) (omega (arith, c.long)))
    at j u (apart d _) = other (field_place j) (λ e. d (omega arith)) ∙ c.fields j (omega arith)

-- ---- the words of the quiet run

module _ (t : Fields) (s ed : ℕ) where
  quiet_head : (k : ℕ) → 4 ≤ k → head_word (quiet t s ed) k ≡ pos 0
  unfolding quiet
  quiet_head zero h = absurd (omega arith)
  quiet_head (suc zero) h = absurd (omega arith)
  quiet_head (suc (suc zero)) h = absurd (omega arith)
  quiet_head (suc (suc (suc zero))) h = absurd (omega arith)
  quiet_head (suc (suc (suc (suc k)))) h = refl

  idle_word : (j : ℕ) → record_word idle j ≡ pos 0
  unfolding flags_of
  idle_word zero = refl
  idle_word (suc zero) = refl
  idle_word (suc (suc zero)) = refl
  idle_word (suc (suc (suc zero))) = refl
  idle_word (suc (suc (suc (suc zero)))) = refl
  idle_word (suc (suc (suc (suc (suc j))))) = refl

  quiet_record : (p j : ℕ) → record_word ((quiet t s ed).process p) j ≡ pos 0
  unfolding quiet
  quiet_record p j = idle_word j

  either : (b : Bool) → choose b (pos 0) (pos 0) ≡ pos 0
  either true = refl
  either false = refl

  empty_word : (j : ℕ) → link_word [] j ≡ pos 0
  unfolding link_word slot_word
  empty_word j = either (ltb j 4)

  quiet_arc : (k j : ℕ) → arc_word t (quiet t s ed) k j ≡ pos 0
  unfolding arc_word quiet
  quiet_arc k j = simp (empty_word, either)

  module _ (w a b : List ℤ) (long : area_of t ≤ length w) (cleared : Cleared w (area_of t) a) (copied : Copied t a (field_total_of t) b) where
    one : List ℤ
    one = set b check_place knot_check

    two : List ℤ
    two = set one start_place (pos s)

    laid : List ℤ
    laid = set two edition_place (pos ed)

    -- the words that are not named stay
    unnamed : (k : ℕ) → (k ≡ check_place → ⊥) → (k ≡ start_place → ⊥) → (k ≡ edition_place → ⊥) → get_or laid k (pos 0) ≡ get_or b k (pos 0)
    unfolding laid two one
    unnamed k c d e =
        get_or-set_other two edition_place k (pos ed) (pos 0) e
        ∙ get_or-set_other one start_place k (pos s) (pos 0) d
        ∙ get_or-set_other b check_place k knot_check (pos 0) c

    others : (k : ℕ) → 4 ≤ k → get_or laid k (pos 0) ≡ get_or b k (pos 0)
    others k h = unnamed k (λ e. omega arith) (λ e. omega arith) (λ e. omega arith)

    long_b : length b ≡ length w
    long_b = copied.long ∙ cleared.long

    long_one : length one ≡ length w
    unfolding one
    long_one = length-set b check_place knot_check ∙ long_b

    long_two : length two ≡ length w
    unfolding two
    long_two = length-set one start_place (pos s) ∙ long_one

    -- a word past the copied table is 0
    past : (k : ℕ) → 14 + field_total_of t ≤ k → k < area_of t → get_or laid k (pos 0) ≡ pos 0
    past k h u = others k (omega arith) ∙ copied.behind k h ∙ cleared.zeros k u

    same_long : length laid ≡ length w
    unfolding laid
    same_long = length-set two edition_place (pos ed) ∙ long_two

    head : (k : ℕ) → k < 14 → get_or laid k (pos 0) ≡ head_word (quiet t s ed) k
    unfolding laid two one quiet
    head zero h =
        get_or-set_other two edition_place check_place (pos ed) (pos 0) (λ e. omega arith)
        ∙ get_or-set_other one start_place check_place (pos s) (pos 0) (λ e. omega arith)
        ∙ get_or-set_same b check_place knot_check (pos 0) (omega (arith, long_b))
    head (suc zero) h =
        get_or-set_other two edition_place start_place (pos ed) (pos 0) (λ e. omega arith)
        ∙ get_or-set_same one start_place (pos s) (pos 0) (omega (arith, long_one))
    head (suc (suc zero)) h =
        unnamed 2 (λ e. omega arith) (λ e. omega arith) (λ e. omega arith) ∙ copied.before 2 h ∙ cleared.zeros 2 (omega arith)
    head (suc (suc (suc zero))) h = get_or-set_same two edition_place (pos ed) (pos 0) (omega (arith, long_two))
    head (suc (suc (suc (suc k)))) h =
        let j : ℕ = suc (suc (suc (suc k))) in
        others j (omega arith) ∙ copied.before j h ∙ cleared.zeros j (omega arith) ∙ sym (quiet_head j (omega arith))

    word : (k : ℕ) → k < area_of t → Place t k → get_or laid k (pos 0) ≡ word_of t (quiet t s ed) k
    unfolding record_place link_place
    word k h (in_head u) = head k u ∙ sym (word_of_head t (quiet t s ed) k u)
    word k h (in_table j u e) = rw e (others (field_place j) (omega arith) ∙ copied.fields j u ∙ sym (word_of_field t (quiet t s ed) j u))
    word k h (in_record p j l u v e) =
        past k (omega arith) h
        ∙ sym (quiet_record p j)
        ∙ sym (word_of_record t (quiet t s ed) p j l u v)
        ∙ ap (word_of t (quiet t s ed)) (sym e)
    word k h (in_links x j l u v e) =
        past k (omega arith) h
        ∙ sym (quiet_arc x j)
        ∙ sym (word_of_arc t (quiet t s ed) x j l v)
        ∙ ap (word_of t (quiet t s ed)) (sym e)

    pub quiet_laid : set (set (set b check_place knot_check) start_place (pos s)) edition_place (pos ed) ≡ stored t (quiet t s ed) w
    unfolding laid two one
    quiet_laid =
        stored_of t (quiet t s ed) w laid (pos 0) long same_long (λ k h. word k h (place? t k h))
        (λ k h. others k (omega arith) ∙ copied.behind k (omega arith) ∙ cleared.kept k h)
