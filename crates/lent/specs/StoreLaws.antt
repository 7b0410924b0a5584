-- Laws of the whole words that bytes are. Assumes nothing.
use Rattle.std.specs.Prelude.{Bool, true, false, List, ◌⊎◌, ◌≡◌, refl, ℕ, ◌+◌, ◌*◌, ◌/◌, ◌%◌, ◌^◌, ◌<◌, ◌≤◌, ltb, length, get_or, set, replicate}
use Rattle.std.proofs.lemmas.List.{length-replicate}
use Rattle.std.proofs.Common.{inl, inr, ap, sym, ◌∙◌, arith, length-set, get_or-set_same, get_or-set_other, ext_get_or, ltb-true, ltb-false}
use Rattle.std.proofs.lemmas.List.Edits.{sets}
use Rattle.std.proofs.Math.Seq.{length-sets}
use Rattle.words.specs.Bytes.{bytes_of, num_at}
use Rattle.words.specs.BytesLaws.{length_bytes, num_sets, num_stored}
use Rattle.lent.specs.Lent.{words_from, words_of, whole_of}
use Rattle.lent.specs.LentLaws.{length_from, from_at, words_at_lem, from_zeros}

-- ---- whole words

pub length_wholes : (b : List ℕ) → length (whole_of b) ≡ length b / 8
unfolding whole_of
length_wholes b = length_from b 0 (length b / 8)

pub whole_at : (b : List ℕ) (i : ℕ) → i < length b / 8 → get_or (whole_of b) i 0 ≡ num_at b (i * 8) 8
unfolding whole_of
whole_at b i h = let e : 0 + i * 8 ≡ i * 8 = omega arith in rw e at (from_at b 0 (length b / 8) i h)

-- bytes that are whole words are read to the last
pub whole_words : (b : List ℕ) → length b % 8 ≡ 0 → whole_of b ≡ words_of b
unfolding whole_of words_of
whole_words b e = let f : length b / 8 ≡ (length b + 7) / 8 = omega arith in ap (words_from b 0) f

-- a word that is stored
module _ (b : List ℕ) (i x : ℕ) (fits : i < length b / 8) (word : x < 2 ^ 64) where
  abbrev stored : List ℕ
  stored = sets b (i * 8) (bytes_of 8 x)

  same_length : length (whole_of stored) ≡ length (whole_of b)
  same_length = length_wholes stored ∙ ap (λ (n : ℕ). n / 8) (length-sets b (i * 8) (bytes_of 8 x)) ∙ sym (length_wholes b)

  module _ (j : ℕ) (within : j < length b / 8) where
    apart : (i * 8 + 8 ≤ j * 8) ⊎ (j * 8 + 8 ≤ i * 8) → (j ≡ i → ⊥) → num_at stored (j * 8) 8 ≡ get_or (set (whole_of b) i x) j 0
    apart o n =
        let l : length (bytes_of 8 x) ≡ 8 = length_bytes 8 x in
        num_sets (bytes_of 8 x) b (i * 8) (j * 8) 8 (rw l o) ∙ sym (get_or-set_other (whole_of b) i j x 0 n ∙ whole_at b j within)

    together : j ≡ i → num_at stored (j * 8) 8 ≡ get_or (set (whole_of b) i x) j 0
    together e =
        let l = length_wholes b in
        let r : x % 256 ^ 8 ≡ x = omega arith in
        let k : get_or (set (whole_of b) i x) i 0 ≡ x = get_or-set_same (whole_of b) i x 0 (omega arith) in
        rw e (num_stored b (i * 8) 8 x (omega arith) ∙ r ∙ sym k)

    either : (s t : Bool) → ltb j i ≡ s → ltb i j ≡ t → num_at stored (j * 8) 8 ≡ get_or (set (whole_of b) i x) j 0
    either true t p q = let l = ltb-true j i p in apart (inr (omega arith)) (λ e. omega arith)
    either false true p q = let l = ltb-true i j q in apart (inl (omega arith)) (λ e. omega arith)
    either false false p q = let l = ltb-false j i p in let m = ltb-false i j q in together (omega arith)

  stored_at : (j : ℕ) → j < length (whole_of stored) → get_or (whole_of stored) j 0 ≡ get_or (set (whole_of b) i x) j 0
  stored_at j h =
      let l = length_wholes b in
      let s : length stored ≡ length b = length-sets b (i * 8) (bytes_of 8 x) in
      let m = same_length in
      whole_at stored j (omega arith) ∙ either j (omega arith) (ltb j i) (ltb i j) refl refl

  pub whole_set : whole_of (sets b (i * 8) (bytes_of 8 x)) ≡ set (whole_of b) i x
  whole_set = ext_get_or 0 _ _ (same_length ∙ sym (length-set (whole_of b) i x)) stored_at

-- ---- an index of whole words

module _ (b : List ℕ) (k : ℕ) (h : k < length (whole_of b)) where
  pub whole_fits : k * 8 + 8 ≤ length b
  whole_fits = let m = length_wholes b in omega arith

  pub whole_word : get_or (words_of b) k 0 ≡ get_or (whole_of b) k 0
  whole_word = let f = whole_fits in words_at_lem b k (omega arith) ∙ sym (whole_at b k (omega arith))

  pub whole_put : (x : ℕ) → x < 2 ^ 64 → whole_of (sets b (k * 8) (bytes_of 8 x)) ≡ set (whole_of b) k x
  whole_put x small = let f = whole_fits in whole_set b k x (omega arith) small

-- bytes that are all 0
pub whole_zeros : (b : List ℕ) → whole_of (replicate (length b) 0) ≡ replicate (length (whole_of b)) 0
unfolding whole_of
whole_zeros b = rw (length-replicate {A = ℕ} (length b) 0, length_from) (from_zeros (length b) 0 (length b / 8))
