-- `lent::word::word_at` meets its contract. A word is the number of its eight bytes. Assumes nothing.
use native.Mathlib.Omega.{arith}
use mathlib.Core.Path.{sym, ◌∙◌}
use Rattle.lent.specs.LentLaws.{words_at_lem}
use Rattle.lent.proofs.word.word_at.Goals as goal

pub returns : goal.returns
returns c = c.read64.ensures ∙ sym (words_at_lem _ _ (omega arith))
