-- `gridder_elastic_answer::say::say_query` meets its contract. By the answer. Assumes nothing.
use Rattle.gridder_elastic_answer.specs.SayLaws.{stored_five, zeros_are, query_says, query_found}
use Rattle.gridder_elastic_answer.specs.Say.{fields_at, query_fields}
use Rattle.elastic_query.specs.Query.{query_report}
use mathlib.Core.Path.{refl}
use Rattle.gridder_elastic_answer.proofs.say.say_query.Goals as goal

pub returns-in-Ok : goal.returns-in-Ok
unfolding query_report query_fields fields_at
returns-in-Ok c = query_says _ _ _ _ c.told-answer c.clear_bytes.ensures _ _ _ c.in-Ok.is refl (query_found _)
    (stored_five _ _ _ _ _ _ _ _ _ _ _ _ _ _ _ _ c.write64.ensures c.write64-in-Ok.ensures c.write64-in-Ok-2.ensures c.write64-in-Ok-3.ensures c.write64-in-Ok-4.ensures)

pub say_unfound-requires : goal.say_unfound-requires
say_unfound-requires c = zeros_are _ _ c.told-answer c.clear_bytes.ensures

pub returns-in-Err : goal.returns-in-Err
returns-in-Err c = rw c.in-Err.is c.say_unfound.ensures
