-- `geometry_parts::counts::maximum_path_sum_at_least` meets its contract. Assumes nothing.
use Prim.Native.Nat.{◌-◌}
use Rattle.geometry.specs.PathLaws.{HighLeft}
use Rattle.geometry_parts.proofs.counts.maximum_path_sum_at_least.Given as goal

abbrev pub invariant-loop : goal.invariant-loop
invariant-loop l = HighLeft l.x l.levels l.sum l.cur (l.levels - l.counter) l.rem
