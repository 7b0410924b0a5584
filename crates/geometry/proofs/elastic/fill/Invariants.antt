-- `geometry::elastic::fill` meets its contract. The loop's invariant: what is filled in, and then what the definition gives from here, is the whole. Assumes nothing.
use Rattle.geometry.proofs.Fill.{Filling}
use Rattle.geometry.proofs.elastic.fill.Given as goal

abbrev pub invariant-loop-i : goal.invariant-loop-i
invariant-loop-i l = Filling l.n l.e l.levels l.maximum l.lengths l.quotas l.rest l.before l.spare l.i
