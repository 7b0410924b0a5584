-- `gridder_elastic_answer::say::say_five` meets its contract. Five numbers in turn. Assumes nothing.
use Rattle.gridder_elastic_answer.specs.SayLaws.{stored_five}
use Rattle.gridder_elastic_answer.proofs.say.say_five.Goals as goal

pub returns : goal.returns
returns c = stored_five _ _ _ _ _ _ _ _ _ _ _ _ _ _ _ _ c.write64.ensures c.write64-2.ensures c.write64-3.ensures c.write64-4.ensures c.write64-5.ensures
