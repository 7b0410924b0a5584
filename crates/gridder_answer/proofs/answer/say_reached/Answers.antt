-- `gridder_answer::answer::say_reached` meets its contract. Zeros, the probes, and then the place. Assumes nothing.
use Rattle.gridder_answer.specs.AnswerLaws.{stored_first, said}
use Rattle.gridder_answer.proofs.answer.say_reached.Goals as goal

pub returns : goal.returns
returns c = said _ _ _ _ c.told-answer c.clear_bytes.ensures (stored_first _ _ _ _ _ c.write64.ensures c.say_place.ensures)
