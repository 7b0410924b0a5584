-- `gridder_elastic_answer::say::say_refusal` meets its contract. By the refusal. Assumes nothing.
use Rattle.gridder_elastic_answer.specs.SayLaws.{zeros_long, refusal_bare, refusal_one}
use Rattle.gridder_elastic_answer.specs.Say.{fields_at}
use Rattle.elastic_steps.specs.Insert.{refusal_report}
use Rattle.refusal.specs.Table.{number_of}
use native.Mathlib.Omega.{arith}
use mathlib.Core.Path.{refl, ap, ◌∙◌}
use Rattle.gridder_elastic_answer.proofs.say.say_refusal.Goals as goal

pub write64-requires : goal.write64-requires
write64-requires c = let l = zeros_long _ c.requires in omega (arith, l)

pub write64-requires-in-Range : goal.write64-requires-in-Range
write64-requires-in-Range c = let l = zeros_long _ c.requires in omega (arith, l)

pub returns-in-Gate : goal.returns-in-Gate
unfolding refusal_report fields_at
returns-in-Gate c = refusal_bare _ _ _ c.requires _ c.in-Gate.is (c.number.ensures ∙ ap number_of c.gate_name.ensures) refl

pub returns-in-Duplicate : goal.returns-in-Duplicate
unfolding refusal_report fields_at
returns-in-Duplicate c = refusal_one _ _ _ c.requires _ _ _ _ c.in-Duplicate.is c.number-in-Duplicate.ensures refl c.write64.ensures

pub returns-in-Exhausted : goal.returns-in-Exhausted
unfolding refusal_report fields_at
returns-in-Exhausted c = refusal_bare _ _ _ c.requires _ c.in-Exhausted.is c.number-in-Exhausted.ensures refl

pub returns-in-Schedule : goal.returns-in-Schedule
unfolding refusal_report fields_at
returns-in-Schedule c = refusal_bare _ _ _ c.requires _ c.in-Schedule.is c.number-in-Schedule.ensures refl

pub returns-in-Range : goal.returns-in-Range
unfolding refusal_report fields_at
returns-in-Range c = refusal_one _ _ _ c.requires _ _ _ _ c.in-Range.is c.number-in-Range.ensures refl c.write64-in-Range.ensures

pub returns-in-Search : goal.returns-in-Search
unfolding refusal_report fields_at
returns-in-Search c = refusal_bare _ _ _ c.requires _ c.in-Search.is c.number-in-Search.ensures refl

pub returns-in-Position : goal.returns-in-Position
unfolding refusal_report fields_at
returns-in-Position c = refusal_bare _ _ _ c.requires _ c.in-Position.is c.number-in-Position.ensures refl
