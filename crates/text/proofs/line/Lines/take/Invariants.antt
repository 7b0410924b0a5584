-- `text::line::Lines::take` meets its contract. Assumes nothing.
use Rattle.std.proofs.Common.{◌-◌, length}
use Rattle.text.specs.LineLaws.{Held}
use Rattle.text.proofs.line.Lines.take.Given as goal

abbrev pub invariant-loop-from : goal.invariant-loop-from
invariant-loop-from g l = Held l.part l.initial.self.bytes.now l.initial.self.length l.self.bytes.now l.self.length l.from

abbrev pub decreases-loop-from : goal.decreases-loop-from
decreases-loop-from g l = length l.part - l.from
