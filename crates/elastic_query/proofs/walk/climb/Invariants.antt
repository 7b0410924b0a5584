-- `elastic_query::walk::climb` meets its contract. The loop's invariant: the node of j ends here. Assumes nothing.
use Prim.Native.Nat.{◌^◌, ◌<◌}
use Rattle.elastic_probe.specs.TreeLaws.{Ends}
use Rattle.elastic_query.proofs.walk.climb.Given as goal

abbrev pub invariant-loop-j : goal.invariant-loop-j
invariant-loop-j l = (Ends l.end l.j l.q) × (l.end < 2 ^ 62)

abbrev pub decreases-loop-j : goal.decreases-loop-j
decreases-loop-j l = l.j
