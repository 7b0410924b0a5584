-- `gridder_answer::answer::say_both` meets its contract. Zeros, and then both numbers. Assumes nothing.
use Rattle.gridder_answer.specs.AnswerLaws.{stored_first, stored_last, said}
use Rattle.gridder_answer.proofs.answer.say_both.Goals as goal

pub returns : goal.returns
returns c = said _ _ _ _ c.told-answer c.clear_bytes.ensures (stored_first _ _ _ _ _ c.write64.ensures (stored_last _ _ _ c.write64-2.ensures))
