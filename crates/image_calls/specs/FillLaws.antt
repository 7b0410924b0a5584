-- Filling, entry by entry and field by field. Assumes nothing.
use Rattle.std.specs.Prelude.{◌≡◌, refl, Bool, true, false, List, [], ◌∷◌, ◌++◌, ℕ, ◌+◌, ◌-◌, ◌/◌, ◌<◌, ◌≤◌, length, set, ltb, leb}
use Rattle.std.proofs.Math.Path.{ap, sym}
use Rattle.std.proofs.Common.{◌∙◌, arith, ltb-true, leb-true}
use Rattle.std.proofs.Math.ListN.{length-set}
use Rattle.words.specs.Pick.{pick}
use Rattle.words.specs.Bytes.{num_at}
use Rattle.image.specs.Format.{entry_size, Entry, entry}
use Rattle.image.specs.TestLaws.{not_both}
use Rattle.image.specs.Reading.{entries_at, rising}
use Rattle.image.specs.RiseLaws.{entries_more}
use Rattle.image_calls.specs.Fill.{fill_words, fill_flags, Fills, Fits}

-- what rising entries say of the first
pub record RisenHead (n floor : ℕ) (x : Entry) (es : List Entry) : Type 0 where
  pub least : floor ≤ x.slot
  pub below : x.slot < n
  pub rest : rising n (x.slot + 1) es ≡ true

pub risen_head : (n floor : ℕ) (x : Entry) (es : List Entry) → rising n floor (x ∷ es) ≡ true → RisenHead n floor x es
unfolding rising
risen_head n floor x es h = go (leb floor x.slot) refl (ltb x.slot n) refl h
  where
    go : (u : Bool) → leb floor x.slot ≡ u → (v : Bool) → ltb x.slot n ≡ v → pick u (pick v (rising n (x.slot + 1) es) false) false ≡ true → RisenHead n floor x es
    go true d true e h = record { least = leb-true _ _ d; below = ltb-true _ _ e; rest = h }
    go true d false e h = not_both (sym h)
    go false d v e h = not_both (sym h)

pub fill_words_append : (w : List ℕ) (a c : List Entry) → fill_words w (a ++ c) ≡ fill_words (fill_words w a) c
unfolding fill_words
fill_words_append w [] c = refl
fill_words_append w (x ∷ a) c = fill_words_append (set w x.slot x.identity) a c

pub fill_flags_append : (w : List ℕ) (a c : List Entry) → fill_flags w (a ++ c) ≡ fill_flags (fill_flags w a) c
unfolding fill_flags
fill_flags_append w [] c = refl
fill_flags_append w (x ∷ a) c = fill_flags_append (set w x.slot 1) a c

-- entries still to be filled in
pub record Filling (b : List ℕ) (at count : ℕ) (words₀ flags₀ words flags : List ℕ) (p k : ℕ) : Type 0 where
  pub words_left : fill_words words₀ (entries_at b at count) ≡ fill_words words (entries_at b p k)
  pub flags_left : fill_flags flags₀ (entries_at b at count) ≡ fill_flags flags (entries_at b p k)
  pub fits : Fits (entries_at b p k) (length words₀) (length flags₀)
  pub size_w : length words ≡ length words₀
  pub size_f : length flags ≡ length flags₀

pub filling_none : (b : List ℕ) (at count : ℕ) (words flags : List ℕ) → Fits (entries_at b at count) (length words) (length flags) → Filling b at count words flags words flags at count
filling_none b at count words flags f = record { words_left = refl; flags_left = refl; fits = f; size_w = refl; size_f = refl }

module _ {b : List ℕ} {at count : ℕ} {words₀ flags₀ words flags : List ℕ} {p k : ℕ} (l : Filling b at count words₀ flags₀ words flags p k) where
  module _ (h : 0 < k) where
    head : RisenHead l.fits.n l.fits.floor (entry (num_at b p 8) (num_at b (p + 8) 8)) (entries_at b (p + entry_size) (k - 1))
    head = risen_head l.fits.n l.fits.floor _ _ (rw (entries_more b p k h) at l.fits.rise)

    pub filling_slot : (num_at b p 8 < length words) × (num_at b p 8 < length flags)
    filling_slot =
        let q = head.below in let a = l.fits.in_words in let c = l.fits.in_flags in let s = l.size_w in let t = l.size_f in
        (omega arith, omega arith)

    pub filling_more : Filling b at count words₀ flags₀ (set words (num_at b p 8) (num_at b (p + 8) 8)) (set flags (num_at b p 8) 1) (p + entry_size) (k - 1)
    unfolding fill_words fill_flags
    filling_more =
        record {
          words_left = l.words_left ∙ rw (entries_more b p k h);
          flags_left = l.flags_left ∙ rw (entries_more b p k h);
          fits = record { n = l.fits.n; floor = num_at b p 8 + 1; rise = head.rest; in_words = l.fits.in_words; in_flags = l.fits.in_flags };
          size_w = simp length-set l.size_w;
          size_f = simp length-set l.size_f;
        }

  pub filling_end : k ≡ 0 → Fills words₀ flags₀ (entries_at b at count) words flags
  unfolding fill_words fill_flags entries_at
  filling_end e = record { words_are_lem = sym (l.words_left ∙ rw e); flags_are_lem = sym (l.flags_left ∙ rw e) }

pub length_fill_words : (w : List ℕ) (es : List Entry) → length (fill_words w es) ≡ length w
unfolding fill_words
length_fill_words w [] = refl
length_fill_words w (x ∷ es) = length_fill_words (set w x.slot x.identity) es ∙ length-set w x.slot x.identity

pub length_fill_flags : (w : List ℕ) (es : List Entry) → length (fill_flags w es) ≡ length w
unfolding fill_flags
length_fill_flags w [] = refl
length_fill_flags w (x ∷ es) = length_fill_flags (set w x.slot 1) es ∙ length-set w x.slot 1
