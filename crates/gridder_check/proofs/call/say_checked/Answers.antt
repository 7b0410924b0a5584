-- `gridder_check::call::say_checked` meets its contract: a refusal of the gate says nothing but its number. Assumes nothing.
use mathlib.Core.Path.{◌≡◌}
use Rattle.audit_calls.specs.declared.check.CheckRefusal.TheVariants.{Gate}
use Rattle.gridder_answer.specs.AnswerLaws.{gate_says}
use Rattle.gridder_check.proofs.call.say_checked.Goals as goal

pub returns-in-Err-Gate : goal.returns-in-Err-Gate
returns-in-Err-Gate c =
    let arm = c.in-Err-Gate in
    let is : arm.field-0 ≡ Gate arm.gate = rw arm.is at arm.field-0-is in
    rw (arm.is, is) (gate_says _ _ _ _ c.told-answer c.say_gate.ensures)
