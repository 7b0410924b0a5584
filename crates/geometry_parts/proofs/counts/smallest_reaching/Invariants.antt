-- `geometry_parts::counts::smallest_reaching` meets its contract. Assumes nothing.
use Prim.Native.Nat.{◌-◌}
use Rattle.geometry.specs.FilledLaws.{Reach}
use Rattle.geometry_parts.proofs.counts.smallest_reaching.Given as goal

abbrev pub invariant-loop-lo : goal.invariant-loop-lo
invariant-loop-lo l = Reach l.t l.levels l.lo l.hi

abbrev pub decreases-loop-lo : goal.decreases-loop-lo
decreases-loop-lo l = l.hi - l.lo
