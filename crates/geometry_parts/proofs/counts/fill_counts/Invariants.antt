-- `geometry_parts::counts::fill_counts` meets its contract. Assumes nothing.
use Rattle.geometry.specs.FilledLaws.{Partial}
use Rattle.geometry_parts.proofs.counts.fill_counts.Given as goal

abbrev pub invariant-loop-i : goal.invariant-loop-i
invariant-loop-i l = Partial l.t l.levels l.initial.counts l.counts l.i l.cur l.rem
