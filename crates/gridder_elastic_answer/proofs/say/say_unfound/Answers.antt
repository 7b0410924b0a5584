-- `gridder_elastic_answer::say::say_unfound` meets its contract. By the refusal. Assumes nothing.
use Rattle.gridder_elastic_answer.specs.SayLaws.{stored_none, stored_one, query_says}
use Rattle.gridder_elastic_answer.specs.Say.{fields_at, query_fields}
use Rattle.elastic_query.specs.Query.{query_report}
use Rattle.refusal.specs.Table.{number_of}
use Rattle.std.proofs.Common.{Err}
use mathlib.Core.Path.{refl, ap, ◌∙◌}
use Rattle.gridder_elastic_answer.proofs.say.say_unfound.Goals as goal

pub returns-in-Range : goal.returns-in-Range
unfolding query_report query_fields fields_at
returns-in-Range c = query_says _ 128 _ _ refl c.requires _ _ _ (ap Err c.in-Range.is) c.number.ensures refl (stored_one _ _ _ _ c.write64.ensures)

pub returns-in-Absent : goal.returns-in-Absent
unfolding query_report query_fields fields_at
returns-in-Absent c = query_says _ 128 _ _ refl c.requires _ _ _ (ap Err c.in-Absent.is) c.number-in-Absent.ensures refl (stored_none _)

pub returns-in-Gate : goal.returns-in-Gate
unfolding query_report query_fields fields_at
returns-in-Gate c = query_says _ 128 _ _ refl c.requires _ _ _ (ap Err c.in-Gate.is) (c.number-in-Gate.ensures ∙ ap number_of c.gate_name.ensures) refl (stored_none _)
