-- A word that is put at a place of the lent bytes.
--   put_mid_is   == the part of the bytes that was written over with the word
--   written      == the word stands from the place on, before what stood behind its end, and the bytes before it stayed
-- Assumes nothing.
use Rattle.std.proofs.Common.{ℕ, ◌+◌, ◌≤◌, List, ◌++◌, ◌≡◌, refl, sym, ap, ◌∙◌, subst, arith, length, take, drop, length-append, length-take, length-drop, drop-drop}
use Rattle.std.proofs.Math.Seq.{take-append-add, take-append_seam, drop-append_seam}
use Rattle.std.proofs.lemmas.List.{take-append-drop, length-take-le}
use Rattle.std.proofs.lemmas.Slice.{take-put_mid, drop-put_mid}
use borrow.Rule.Slice.PartMut.{put_mid}
use Rattle.lines.specs.Adding.{Put}

module _ (before : List ℕ) (at : ℕ) (word : List ℕ) (room : at + length word ≤ length before) where
  pub put_mid_is : (k : ℕ) → k ≡ length word → (part : List ℕ) → part ≡ word → Put before at word (put_mid at k before part) (at + length word)
  put_mid_is k is part same = rw (is, same) (record {
    grows = refl;
    text = take-put_mid at (length word) before word (at + length word) refl (omega arith);
    rest = drop-put_mid at (length word) before word (at + length word) (omega arith) (omega arith) refl;
    kept = omega (arith, length-append (take at before) (word ++ drop (length word) (drop at before)), length-append word (drop (length word) (drop at before)), length-take at before, length-drop (length word) (drop at before), length-drop at before);
  })

module _ (before after word : List ℕ) (at end : ℕ) (ends : end ≡ at + length word) (room : end ≤ length before)
    (front : take at after ≡ take at before) (back : drop at after ≡ word ++ drop end before) where
  whole : after ≡ take at before ++ (word ++ drop end before)
  whole = sym (take-append-drop at after) ∙ ap (λ (l : List ℕ). l ++ drop at after) front ∙ ap (λ (l : List ℕ). take at before ++ l) back

  first : length (take at before) ≡ at
  first = length-take-le at before (omega arith)

  pub written : Put before at word after end
  written = record {
    grows = ends;
    text =
        ap (take end) whole ∙ ap (λ (j : ℕ). take j (take at before ++ (word ++ drop end before))) ends
        ∙ subst
        (λ (j : ℕ). take (j + length word) (take at before ++ (word ++ drop end before)) ≡ take at before ++ word) first
        (take-append-add (take at before) (word ++ drop end before) (length word) ∙ ap (λ (l : List ℕ). take at before ++ l) (take-append_seam word (drop end before)));
    rest =
        ap (λ (j : ℕ). drop j after) ends ∙ sym (drop-drop (length word) at after) ∙ ap (drop (length word)) back ∙ drop-append_seam word (drop end before);
    kept = omega (
      arith,
      ap {A = List ℕ} length whole,
      length-append (take at before) (word ++ drop end before),
      length-append word (drop end before),
      first,
      length-drop end before,
    );
  }
