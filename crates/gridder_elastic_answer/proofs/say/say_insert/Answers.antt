-- `gridder_elastic_answer::say::say_insert` meets its contract. By the answer. Assumes nothing.
use Rattle.gridder_elastic_answer.specs.SayLaws.{zeros_are, insert_says, insert_refuses}
use Rattle.gridder_elastic_answer.proofs.say.say_insert.Goals as goal

pub say_refusal-requires : goal.say_refusal-requires
say_refusal-requires c = zeros_are _ _ c.told-answer c.clear_bytes.ensures

pub returns-in-Ok : goal.returns-in-Ok
returns-in-Ok c = insert_says _ _ _ _ c.told-answer c.clear_bytes.ensures _ c.in-Ok.is c.say_inserted.ensures

pub returns-in-Err : goal.returns-in-Err
returns-in-Err c = insert_refuses _ _ _ _ c.told-answer c.clear_bytes.ensures _ _ c.in-Err.is c.say_refusal.ensures
