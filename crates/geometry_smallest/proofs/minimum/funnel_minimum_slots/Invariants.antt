-- `geometry_smallest::minimum::funnel_minimum_slots` meets its contract. The loop's invariant: none below n will do. Each turn raises n. Assumes nothing.
use Prim.Native.Nat.{◌-◌, ◌≤◌}
use Rattle.geometry_smallest.specs.Minimum.{Raised}
use Rattle.geometry_smallest.proofs.minimum.funnel_minimum_slots.Given as goal

abbrev pub invariant-loop-need : goal.invariant-loop-need
invariant-loop-need l = Raised l.e l.from l.n × (l.n ≤ 18446744073709551615)

abbrev pub decreases-loop-need : goal.decreases-loop-need
decreases-loop-need l = 18446744073709551615 - l.n
