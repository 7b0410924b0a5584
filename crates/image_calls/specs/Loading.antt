-- What the loader answers, and what it leaves in words and flags. Assumes nothing.
use Rattle.std.specs.Prelude.{Result, Ok, Err, List, ℕ, length, replicate}
use Rattle.words.specs.Pick.{pick}
use Rattle.image_calls.specs.Fill.{fill_words, fill_flags}
use Rattle.image.specs.Head.{same_head}
use Rattle.image.specs.declared.head.Head.{Head}
use Rattle.image.specs.Reading.{Seen, Reading, bad, good, read_of}
use Rattle.image_calls.specs.declared.loader.Filled.{Filled}
use Rattle.image_calls.specs.declared.loader.LoadRefusal.{LoadRefusal}
use Rattle.image_calls.specs.declared.loader.LoadRefusal.TheVariants as refusal

-- what an image says of a table that is loaded from it
abbrev pub filled : (count label_at label_len : ℕ) → Filled
filled count label_at label_len = record { count = count; label_at = label_at; label_len = label_len }

-- that, or why nothing is loaded
abbrev pub LoadAnswer : Type 0
LoadAnswer = Result Filled LoadRefusal

-- an answer, with words and flags as the call leaves them
pub record Loads : Type 0 where
  pub answer : LoadAnswer
  pub words : List ℕ
  pub flags : List ℕ

abbrev pub loads : LoadAnswer → List ℕ → List ℕ → Loads
loads a words flags = record { answer = a; words = words; flags = flags }

-- "The loader zeroes, fills, sets the count from 6, and answers the offset and length of the label's body, two zeros if there is none."
unfoldable pub load_good : List ℕ → List ℕ → Seen → Loads
load_good words flags s =
    loads (Ok (filled (length s.entries) s.label_at s.label_len)) (fill_words (replicate (length words) 0) s.entries) (fill_flags (replicate (length flags) 0) s.entries)

-- "Loader: 24, 25"
unfoldable pub load_after : Head → List ℕ → List ℕ → Reading → Loads
load_after hd words flags (bad place) = loads (Err (refusal.Image place)) words flags
load_after hd words flags (good s) = pick (same_head s.head hd) (load_good words flags s) (loads (Err refusal.Foreign) words flags)

unfoldable pub load_of : Head → (words flags image : List ℕ) → Loads
load_of hd words flags image = load_after hd words flags (read_of image)
