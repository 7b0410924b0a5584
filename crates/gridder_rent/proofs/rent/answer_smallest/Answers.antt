-- `gridder_rent::rent::answer_smallest` meets its contract. By what the base answers. Assumes nothing.
use Rattle.gridder_rent.specs.RentLaws.{rented_found, rented_refused, rented_none}
use Rattle.gridder_rent.proofs.rent.answer_smallest.Goals as goal

pub returns-in-Ok : goal.returns-in-Ok
returns-in-Ok c = rented_found _ _ _ _ c.args.answer.now _ _ c.smallest_funnel.ensures _ _ c.in-Ok.is c.say_plan.ensures

pub returns-in-Err-Refused : goal.returns-in-Err-Refused
returns-in-Err-Refused c =
    rented_refused _ _ _ _ _ _ _ c.smallest_funnel.ensures _ _ c.told-answer _ (rw c.in-Err-Refused.field-0-is at c.in-Err-Refused.is) c.say_gate.ensures

pub returns-in-Err-Nothing : goal.returns-in-Err-Nothing
returns-in-Err-Nothing c =
    rented_none _ _ _ _ c.args.answer.now _ _ c.smallest_funnel.ensures _ _ c.told-answer
    (rw c.in-Err-Nothing.field-0-is at c.in-Err-Nothing.is) c.number.ensures c.clear_bytes.ensures
