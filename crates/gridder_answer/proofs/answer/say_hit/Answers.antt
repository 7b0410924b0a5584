-- `gridder_answer::answer::say_hit` meets its contract. Zeros, two numbers, and then the place. Assumes nothing.
use Rattle.gridder_answer.specs.AnswerLaws.{stored_first, said}
use Rattle.gridder_answer.proofs.answer.say_hit.Goals as goal

pub returns : goal.returns
returns c = said _ _ _ _ c.told-answer c.clear_bytes.ensures (stored_first _ _ _ _ _ c.write64.ensures (stored_first _ _ _ _ _ c.write64-2.ensures c.say_place.ensures))
