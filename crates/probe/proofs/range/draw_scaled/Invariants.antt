-- `probe::range::draw_scaled` meets its contract. Assumes nothing.
use Rattle.probe.specs.RangeLaws.{Drawing}
use Rattle.probe.proofs.range.draw_scaled.Given as goal

abbrev pub invariant-loop-used : goal.invariant-loop-used
invariant-loop-used l = Drawing l.inner l.outer l.base l.upper l.cap l.used
