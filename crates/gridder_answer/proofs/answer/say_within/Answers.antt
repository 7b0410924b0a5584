-- `gridder_answer::answer::say_within` meets its contract. One number after the other. Assumes nothing.
use Rattle.gridder_answer.specs.AnswerLaws.{stored_first, stored_last}
use Rattle.gridder_answer.proofs.answer.say_within.Goals as goal

pub returns : goal.returns
returns c = stored_first _ _ _ _ _ c.write64.ensures (stored_first _ _ _ _ _ c.write64-2.ensures (stored_last _ _ _ c.write64-3.ensures))
