-- `gridder_answer::answer::say_number` meets its contract. Zeros, and then the number. Assumes nothing.
use Rattle.gridder_answer.specs.AnswerLaws.{stored_last, said}
use Rattle.gridder_answer.proofs.answer.say_number.Goals as goal

pub returns : goal.returns
returns c = said _ _ _ _ c.told-answer c.clear_bytes.ensures (stored_last _ _ _ c.write64.ensures)
