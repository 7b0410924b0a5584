-- Laws of words lent as bytes. Assumes nothing.
use Rattle.std.specs.Prelude.{Bool, List, [], ◌∷◌, ◌++◌, ◌⊎◌, ◌≡◌, ℕ, zero, suc, ◌+◌, ◌*◌, ◌/◌, ◌%◌, ◌^◌, ◌<◌, ◌≤◌, ltb, length, get_or, take, set, replicate}
use Rattle.std.proofs.Math.Bool.{true, false}
use Rattle.std.proofs.Common.{append_assoc, append-nil, inl, inr, ap, ◌∙◌, length-set, length-append, take_all, take-suc, length-take-le, take-suc-set, get_or-set_same, get_or-set_other, ext_get_or}
use Rattle.std.proofs.Math.Path.{refl, sym}
use native.Mathlib.Omega.{arith}
use Rattle.std.proofs.Math.Dec.{eqb}
use Rattle.std.proofs.lemmas.List.{length-replicate}
use Rattle.std.proofs.lemmas.List.Edits.{sets}
use Rattle.std.proofs.Math.Seq.{length-sets}
use borrow.Author.Tests.{eq-eqb, ne_eqb, eqb-true, ltb-true, ltb-false}
use Rattle.words.specs.Bytes.{bytes_of, num_at, Bytes}
use Rattle.words.specs.BytesLaws.{sets_append, length_bytes, num_sets, num_stored, num_byte, num_zeros}
use Rattle.words.specs.Pick.{pick}
use Rattle.lent.specs.Lent.{words_from, words_of, word_count, lent}

-- ---- lengths and entries

pub length_from : (b : List ℕ) (at k : ℕ) → length (words_from b at k) ≡ k
unfolding words_from
length_from b at zero = refl
length_from b at (suc k) = ap suc (length_from b (at + 8) k)

pub length_words : (b : List ℕ) → length (words_of b) ≡ (length b + 7) / 8
unfolding words_of
length_words b = length_from b 0 ((length b + 7) / 8)

-- a whole number of words
pub length_whole : (b : List ℕ) (n : ℕ) → length b ≡ n * 8 → length (words_of b) ≡ n
length_whole b n e = length_words b ∙ omega arith

pub from_at : (b : List ℕ) (at k i : ℕ) → i < k → get_or (words_from b at k) i 0 ≡ num_at b (at + i * 8) 8
unfolding words_from
from_at b at zero i h = absurd (omega arith)
from_at b at (suc k) zero h = let e : at + 0 * 8 ≡ at = omega arith in rw e
from_at b at (suc k) (suc i) h =
    let e : at + suc i * 8 ≡ at + 8 + i * 8 = omega arith in
    rw e (from_at b (at + 8) k i (omega arith))

pub words_at_lem : (b : List ℕ) (i : ℕ) → i * 8 < length b → get_or (words_of b) i 0 ≡ num_at b (i * 8) 8
unfolding words_of
words_at_lem b i h = let e : 0 + i * 8 ≡ i * 8 = omega arith in rw e at (from_at b 0 ((length b + 7) / 8) i (omega arith))

-- one word more at the end
pub from_more : (b : List ℕ) (at k : ℕ) → words_from b at (k + 1) ≡ words_from b at k ++ (num_at b (at + k * 8) 8 ∷ [])
unfolding words_from
from_more b at zero = let e : at + 0 * 8 ≡ at = omega arith in rw e
from_more b at (suc k) =
    let e : at + suc k * 8 ≡ at + 8 + k * 8 = omega arith in
    let f : suc k + 1 ≡ suc (k + 1) = omega arith in
    rw (e, f) (ap (λ (l : List ℕ). num_at b at 8 ∷ l) (from_more b (at + 8) k))

-- words that are read one by one into a list
module _ (b : List ℕ) (at : ℕ) (words : List ℕ) where
  pub filled_more : (i x : ℕ) → i < length words → x ≡ num_at b (at + i * 8) 8 → take i words ≡ words_from b at i → take (i + 1) (set words i x) ≡ words_from b at (i + 1)
  filled_more i x h e t =
      let f : i + 1 ≡ suc i = omega arith in
      ap (λ (k : ℕ). take k (set words i x)) f ∙ take-suc-set words i x h ∙ rw (t, e) (sym (from_more b at i))

  pub filled_all : (k i : ℕ) → length words ≡ k → k ≤ i → i ≤ k → take i words ≡ words_from b at i → words ≡ words_from b at k
  filled_all k i l g h t =
      let e : i ≡ k = omega arith in
      sym (take_all i words (omega arith)) ∙ t ∙ ap (words_from b at) e

-- ---- a word that is stored

module _ (b : List ℕ) (i x : ℕ) (fits : i * 8 + 8 ≤ length b) (word : x < 2 ^ 64) where
  abbrev stored : List ℕ
  stored = sets b (i * 8) (bytes_of 8 x)

  same_length : length (words_of stored) ≡ length (words_of b)
  same_length = length_words stored ∙ ap (λ (n : ℕ). (n + 7) / 8) (length-sets b (i * 8) (bytes_of 8 x)) ∙ sym (length_words b)

  module _ (j : ℕ) (within : j * 8 < length b) where
    apart : (i * 8 + 8 ≤ j * 8) ⊎ (j * 8 + 8 ≤ i * 8) → (j ≡ i → ⊥) → num_at stored (j * 8) 8 ≡ get_or (set (words_of b) i x) j 0
    apart o n =
        let l : length (bytes_of 8 x) ≡ 8 = length_bytes 8 x in
        num_sets (bytes_of 8 x) b (i * 8) (j * 8) 8 (rw l o) ∙ sym (get_or-set_other (words_of b) i j x 0 n ∙ words_at_lem b j within)

    together : j ≡ i → num_at stored (j * 8) 8 ≡ get_or (set (words_of b) i x) j 0
    together e =
        let l = length_words b in
        let r : x % 256 ^ 8 ≡ x = omega arith in
        let k : get_or (set (words_of b) i x) i 0 ≡ x = get_or-set_same (words_of b) i x 0 (omega arith) in
        rw e (num_stored b (i * 8) 8 x fits ∙ r ∙ sym k)

    either : (s t : Bool) → ltb j i ≡ s → ltb i j ≡ t → num_at stored (j * 8) 8 ≡ get_or (set (words_of b) i x) j 0
    either true t p q = let l = ltb-true j i p in apart (inr (omega arith)) (λ e. omega arith)
    either false true p q = let l = ltb-true i j q in apart (inl (omega arith)) (λ e. omega arith)
    either false false p q = let l = ltb-false j i p in let m = ltb-false i j q in together (omega arith)

  stored_at : (j : ℕ) → j < length (words_of stored) → get_or (words_of stored) j 0 ≡ get_or (set (words_of b) i x) j 0
  stored_at j h =
      let l = length_words b in
      let s : length stored ≡ length b = length-sets b (i * 8) (bytes_of 8 x) in
      let m = same_length in
      words_at_lem stored j (omega arith) ∙ either j (omega arith) (ltb j i) (ltb i j) refl refl

  -- eight bytes stored in a word's place are that word stored
  pub words_set : words_of (sets b (i * 8) (bytes_of 8 x)) ≡ set (words_of b) i x
  words_set = ext_get_or 0 _ _ (same_length ∙ sym (length-set (words_of b) i x)) stored_at

-- ---- zeros

pub from_zeros : (len at k : ℕ) → words_from (replicate len 0) at k ≡ replicate k 0
unfolding words_from
from_zeros len at zero = refl
from_zeros len at (suc k) = rw (num_zeros len at 8, from_zeros len (at + 8) k)

pub words_zeros : (n : ℕ) → words_of (replicate (n * 8) 0) ≡ replicate n 0
unfolding words_of
words_zeros n =
    let l : length (replicate {A = ℕ} (n * 8) 0) ≡ n * 8 = length-replicate (n * 8) 0 in
    let e : (n * 8 + 7) / 8 ≡ n = omega arith in
    rw (l, e) (from_zeros (n * 8) 0 n)

-- ---- the words tell the bytes

pub words_unique : (a b : List ℕ) → Bytes a → Bytes b → length a ≡ length b → words_of a ≡ words_of b → a ≡ b
words_unique a b f g l e = ext_get_or 0 a b l same
  where
    same : (i : ℕ) → i < length a → get_or a i 0 ≡ get_or b i 0
    same i h =
        let w : num_at a (i / 8 * 8) 8 ≡ num_at b (i / 8 * 8) 8 = sym (words_at_lem a (i / 8) (omega arith)) ∙ ap (λ (x : List ℕ). get_or x (i / 8) 0) e ∙ words_at_lem b (i / 8) (omega arith) in
        let s : i / 8 * 8 + i % 8 ≡ i = omega arith in
        let m : get_or a (i / 8 * 8 + i % 8) 0 ≡ get_or b (i / 8 * 8 + i % 8) 0 = num_byte a b f g (i / 8 * 8) 8 w (i % 8) (omega arith) in
        rw s at m

-- ---- words as bytes

pub lent_append : (a b : List ℕ) → lent (a ++ b) ≡ lent a ++ lent b
unfolding lent
lent_append [] b = refl
lent_append (x ∷ a) b = rw (lent_append a b) (sym (append_assoc (bytes_of 8 x) (lent a) (lent b)))

pub length_lent : (a : List ℕ) → length (lent a) ≡ length a * 8
unfolding lent
length_lent [] = refl
length_lent (x ∷ a) = length-append (bytes_of 8 x) (lent a) ∙ rw (length_bytes 8 x, length_lent a) (omega arith)

lent_one : (x : ℕ) → lent (x ∷ []) ≡ bytes_of 8 x
unfolding lent
lent_one x = append-nil (bytes_of 8 x)

-- words that are stored one by one
module _ (out : List ℕ) (at : ℕ) (words : List ℕ) where
  pub storing_more : (i : ℕ) (now after : List ℕ) → i < length words → now ≡ sets out at (lent (take i words)) → after ≡ sets now (at + i * 8) (bytes_of 8 (get_or words i 0))
      → after ≡ sets out at (lent (take (i + 1) words))
  storing_more i now after h n a =
      let f : i + 1 ≡ suc i = omega arith in
      let l : length (lent (take i words)) ≡ i * 8 = length_lent (take i words) ∙ ap (λ (k : ℕ). k * 8) (length-take-le i words (omega arith)) in
      let t : lent (take (i + 1) words) ≡ lent (take i words) ++ bytes_of 8 (get_or words i 0) =
      ap (λ (k : ℕ). lent (take k words)) f ∙ ap lent (take-suc words i 0 h) ∙ lent_append (take i words) _ ∙ ap (λ (r : List ℕ). lent (take i words) ++ r) (lent_one (get_or words i 0)) in
      a ∙ rw (n, t, sets_append, l)

  pub storing_all : (i : ℕ) (now : List ℕ) → length words ≤ i → now ≡ sets out at (lent (take i words)) → now ≡ sets out at (lent words)
  storing_all i now h n = n ∙ ap (λ (r : List ℕ). sets out at (lent r)) (take_all i words h)

-- ---- how many entries bytes lend

module _ (len : ℕ) where
  pub count_whole : len % 8 ≡ 0 → len / 8 ≡ word_count len
  unfolding word_count
  count_whole e = sym (rw (eq-eqb _ _ e))

  pub count_broken : (len % 8 ≡ 0 → ⊥) → 0 ≡ word_count len
  unfolding word_count
  count_broken e = sym (rw (ne_eqb _ _ e))

  -- a number of entries other than none is a whole number of words
  pub count_some : (n : ℕ) → 0 < n → word_count len ≡ n → len ≡ n * 8
  unfolding word_count
  count_some n h e = go (eqb (len % 8) 0) refl e
    where
      go : (t : Bool) → eqb (len % 8) 0 ≡ t → pick t (len / 8) 0 ≡ n → len ≡ n * 8
      go true q p = let z : len % 8 ≡ 0 = eqb-true _ _ q in omega arith
      go false q p = absurd (omega arith)
