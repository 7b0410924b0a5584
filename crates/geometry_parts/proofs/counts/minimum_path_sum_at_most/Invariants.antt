-- `geometry_parts::counts::minimum_path_sum_at_most` meets its contract. Assumes nothing.
use Prim.Native.Nat.{◌-◌}
use Rattle.geometry.specs.PathLaws.{LowLeft}
use Rattle.geometry_parts.proofs.counts.minimum_path_sum_at_most.Given as goal

abbrev pub invariant-loop : goal.invariant-loop
invariant-loop l = LowLeft l.x l.levels l.sum l.cur (l.levels - l.counter) l.rem
