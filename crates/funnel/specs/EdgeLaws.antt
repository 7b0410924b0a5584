-- Where bytes are lent to the engine: bytes that are whole words are read to the last. Assumes nothing.
use Rattle.std.specs.Prelude.{List, ◌≡◌, ℕ, ◌*◌, ◌%◌, length}
use Rattle.std.proofs.Common.{ap, ◌∙◌, arith}
use Rattle.funnel.specs.Valid.{Valid}
use Rattle.funnel.specs.ValidLent.{ValidLent}
use Rattle.funnel.specs.declared.table.FunnelTable.{FunnelTable}
use Rattle.lent.specs.Lent.{words_of, whole_of}
use Rattle.lent.specs.LentLaws.{length_words}
use Rattle.lent.specs.StoreLaws.{whole_words}

pub lent_in : (words : List ℕ) → length words % 8 ≡ 0 → whole_of words ≡ words_of words
lent_in words w = whole_words words w

-- eight bytes beside each flag
pub flags_in : (words flags : List ℕ) → length words ≡ length flags * 8 → whole_of words ≡ words_of words
flags_in words flags e = lent_in words (omega arith)

pub flags_length : (words flags : List ℕ) → length words ≡ length flags * 8 → length (whole_of words) ≡ length flags
flags_length words flags e = ap length (flags_in words flags e) ∙ length_words words ∙ omega arith

-- a valid table
module _ {table : FunnelTable} {counts words flags : List ℕ} (v : ValidLent table counts words flags) where
  pub words_valid : whole_of words ≡ words_of words
  words_valid = let w = v.whole in lent_in words (omega arith)

  pub valid_in : Valid table counts (whole_of words) flags
  valid_in = rw words_valid v.valid

  -- after a call, which keeps lengths
  pub words_after : (after : List ℕ) → length after ≡ length words → whole_of after ≡ words_of after
  words_after after l = let w = v.whole in lent_in after (omega arith)
