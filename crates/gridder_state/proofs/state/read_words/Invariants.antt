-- The invariant: the words in front are those of the bytes. Assumes nothing.
use mathlib.Core.Path.{◌≡◌}
use lib.ListN.{length, take}
use Rattle.lent.specs.Lent.{words_from}
use Rattle.gridder_state.proofs.state.read_words.Given as goal

abbrev pub invariant-loop-i : goal.invariant-loop-i
invariant-loop-i l = (length l.into ≡ length l.initial.into) × (take l.i l.into ≡ words_from l.from l.at l.i)
