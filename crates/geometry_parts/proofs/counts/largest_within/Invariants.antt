-- `geometry_parts::counts::largest_within` meets its contract. Assumes nothing.
use Prim.Native.Nat.{◌-◌}
use Rattle.geometry.specs.FilledLaws.{Within}
use Rattle.geometry_parts.proofs.counts.largest_within.Given as goal

abbrev pub invariant-loop-lo : goal.invariant-loop-lo
invariant-loop-lo l = Within l.t l.levels l.lo l.hi

abbrev pub decreases-loop-lo : goal.decreases-loop-lo
decreases-loop-lo l = l.hi - l.lo
