-- `geometry_funnel::counts_test::zero_from` meets its contract. The invariant: the bits of the entries so far, together. Assumes nothing.
use Prim.Native.Nat.{◌+◌}
use Rattle.geometry.specs.ZeroLaws.{Others}
use Rattle.geometry_funnel.proofs.counts_test.zero_from.Given as goal

abbrev pub invariant-loop-count : goal.invariant-loop-count
invariant-loop-count l = Others l.counts l.from (l.from + l.count-index) l.others
