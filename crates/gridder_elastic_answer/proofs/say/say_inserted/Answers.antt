-- `gridder_elastic_answer::say::say_inserted` meets its contract. The case, then the place. Assumes nothing.
use Rattle.gridder_elastic_answer.specs.SayLaws.{stored_five, inserted_stored}
use Rattle.gridder_elastic_answer.proofs.say.say_inserted.Goals as goal

pub returns : goal.returns
returns c = inserted_stored _ _ _ _ c.say_case.ensures
    (stored_five _ _ _ _ _ _ _ _ _ _ _ _ _ _ _ _ c.write64.ensures c.write64-2.ensures c.write64-3.ensures c.write64-4.ensures c.write64-5.ensures)
