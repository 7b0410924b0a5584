-- `geometry::elastic::active_batch` meets its contract. The loop's invariant: the batch is that of the quotas from here on. Assumes nothing.
use Rattle.geometry.proofs.ActiveBatch.{Looking}
use Rattle.geometry.proofs.elastic.active_batch.Given as goal

abbrev pub invariant-loop-i : goal.invariant-loop-i
invariant-loop-i l = Looking l.n l.e l.levels l.initial.spare l.count l.rest l.before l.spare l.left l.i
