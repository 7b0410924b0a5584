-- `examine::read_full` meets its contract. Assumes nothing.
use Rattle.std.proofs.Common.{◌≡◌, ◌-◌, ◌≤◌, length}
use Rattle.examine.proofs.read_full.Given as goal

abbrev pub invariant-loop-done : goal.invariant-loop-done
invariant-loop-done g l = (l.done ≤ length l.image) × (length l.image ≡ length l.initial.image)

abbrev pub decreases-loop-done : goal.decreases-loop-done
decreases-loop-done g l = length l.image - l.done
