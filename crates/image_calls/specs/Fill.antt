-- Buffers filled from entries. Assumes nothing.
use Rattle.std.specs.Prelude.{◌≡◌, Bool, true, false, List, [], ◌∷◌, ℕ, ◌≤◌, set}
use Rattle.image.specs.Format.{Entry}
use Rattle.image.specs.Reading.{Reading, bad, good, rising}

-- each identity stands in its slot
unfoldable pub fill_words : List ℕ → List Entry → List ℕ
fill_words words [] = words
fill_words words (x ∷ es) = fill_words (set words x.slot x.identity) es

-- and the slot is occupied
unfoldable pub fill_flags : List ℕ → List Entry → List ℕ
fill_flags flags [] = flags
fill_flags flags (x ∷ es) = fill_flags (set flags x.slot 1) es

-- both buffers hold the entries besides what they held
pub record Fills (words flags : List ℕ) (es : List Entry) (words' flags' : List ℕ) : Type 0 where
  pub words_are_lem : words' ≡ fill_words words es
  pub flags_are_lem : flags' ≡ fill_flags flags es

-- slots that can be filled: they rise from some floor, below a bound that both buffers reach
pub record Fits (es : List Entry) (a b : ℕ) : Type 0 where
  pub n : ℕ
  pub floor : ℕ
  pub rise : rising n floor es ≡ true
  pub in_words : n ≤ a
  pub in_flags : n ≤ b

-- the entries of a right image, and its n
abbrev pub entries_in : Reading → List Entry
entries_in (bad p) = []
entries_in (good s) = s.entries

abbrev pub slots_in : Reading → ℕ
slots_in (bad p) = 0
slots_in (good s) = s.head.n

abbrev pub is_good : Reading → Bool
is_good (bad p) = false
is_good (good s) = true
