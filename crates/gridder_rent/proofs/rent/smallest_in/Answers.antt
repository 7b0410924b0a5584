-- `gridder_rent::rent::smallest_in` meets its contract. By what its gate said. Assumes nothing.
use Rattle.gridder_rent.specs.RentLaws.{rent_long, rents_refused, rents_passed}
use Rattle.gridder_rent.proofs.rent.smallest_in.Goals as goal

pub unwrap-requires : goal.unwrap-requires
unwrap-requires c = c.as_mut_array.ensures.variant.1 (rent_long _ _ _ _ _ c.rent_gate.ensures c.in-Ok.is)

pub returns-in-Err : goal.returns-in-Err
returns-in-Err c = rents_refused _ _ _ _ _ _ c.rent_gate.ensures _ _ _ c.in-Err.is c.say_gate.ensures

pub returns-in-Ok : goal.returns-in-Ok
returns-in-Ok c = rents_passed _ _ _ _ c.args.answer.now _ c.rent_gate.ensures _ _ c.in-Ok.is c.answer_smallest.ensures
