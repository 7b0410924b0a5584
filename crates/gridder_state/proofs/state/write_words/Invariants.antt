-- `gridder_state::state::write_words` meets its contract. The invariant: the words so far are stored. Assumes nothing.
use mathlib.Core.Path.{◌≡◌}
use Prim.Native.Nat.{◌≤◌}
use lib.ListN.{length, take}
use lib.Seq.{sets}
use Rattle.lent.specs.Lent.{lent}
use Rattle.gridder_state.proofs.state.write_words.Given as goal

abbrev pub invariant-loop-i : goal.invariant-loop-i
invariant-loop-i l = (l.i ≤ length l.words) × (length l.out ≡ length l.initial.out) × (l.out ≡ sets l.initial.out l.at (lent (take l.i l.words)))
