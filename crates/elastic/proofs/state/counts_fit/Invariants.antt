-- `elastic::state::counts_fit` meets its contract. The loop's invariant: the test of all counts is that of those from here on. Assumes nothing.
use Rattle.elastic.proofs.CountsFit.{Counting}
use Rattle.elastic.proofs.state.counts_fit.Given as goal

abbrev pub invariant-loop-i : goal.invariant-loop-i
invariant-loop-i l = Counting l.n l.levels l.count l.counts l.rest l.left l.i
