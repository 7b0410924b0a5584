-- `text::field::Fields::numbers` meets its contract. Assumes nothing.
use Rattle.std.proofs.Common.{◌≡◌, ◌+◌, length}
use Rattle.text.specs.Fields.{fields_left}
use Rattle.text.proofs.field.Fields.numbers.Given as goal

abbrev pub invariant-loop-x : goal.invariant-loop-x
invariant-loop-x g l = length (fields_left l.initial.self) ≡ length (fields_left l.self) + l.x-index
