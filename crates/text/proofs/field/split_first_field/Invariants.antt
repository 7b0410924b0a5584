-- `text::field::split_first_field` meets its contract. Assumes nothing.
use Rattle.std.proofs.Common.{◌≡◌, false, take, All}
use Rattle.text.specs.Fields.{is_space}
use Rattle.text.proofs.field.split_first_field.Given as goal

abbrev pub invariant-loop-at : goal.invariant-loop-at
invariant-loop-at l = All (λ x. is_space x ≡ false) (take l.at l.line)
