-- `geometry_smallest::layouts::first_layout` meets its contract. The loop's invariant: from the start to below n there is none, and the
-- search ends within the turns that are left. Assumes nothing.
use Prim.Native.Nat.{◌-◌, ◌≤◌}
use Rattle.geometry_smallest.specs.Layouts.{Bare}
use Rattle.geometry_smallest.specs.Turns.{Ends}
use Rattle.geometry_smallest.proofs.layouts.first_layout.Given as goal

abbrev pub invariant-loop : goal.invariant-loop
invariant-loop l = (l.start ≤ l.n) × Bare l.e l.start l.n × Ends l.e l.last l.n (l.end - l.counter)
