-- `gridder_elastic_answer::say::say_case` meets its contract. Case by case. Assumes nothing.
use Rattle.gridder_elastic_answer.specs.SayLaws.{case_first, case_one, case_two, case_three}
use Rattle.gridder_elastic_answer.proofs.say.say_case.Goals as goal

pub returns-in-Batch0 : goal.returns-in-Batch0
returns-in-Batch0 c = case_first _ _ _ _ c.in-Batch0.is c.say_five.ensures

pub returns-in-Case1 : goal.returns-in-Case1
returns-in-Case1 c = case_one _ _ _ _ _ _ _ _ _ c.in-Case1.is c.say_five-in-Case1.ensures

pub returns-in-Case2 : goal.returns-in-Case2
returns-in-Case2 c = case_two _ _ _ _ _ _ _ _ c.in-Case2.is c.say_five-in-Case2.ensures

pub returns-in-Case3 : goal.returns-in-Case3
returns-in-Case3 c = case_three _ _ _ _ _ _ _ _ c.in-Case3.is c.say_five-in-Case3.ensures
