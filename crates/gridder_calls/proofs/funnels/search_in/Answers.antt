-- `gridder_calls::funnels::search_in` meets its contract. By how the table was entered. Assumes nothing.
use Rattle.gridder_calls.specs.EnterLaws.{entry_ready, valid_in}
use Rattle.gridder_calls.specs.CallLaws.{search_refused, search_open}
use Rattle.gridder_calls.proofs.funnels.search_in.Goals as goal

pub invariant_of-view : goal.invariant_of-view
invariant_of-view c = record { valid = valid_in (entry_ready _ c.args.words.now c.args.flags.now c.args.answer.now _ _ c.enter.ensures _ c.in-Ok.is) }

pub unwrap-requires : goal.unwrap-requires
unwrap-requires c =
    c.as_mut_array.ensures.variant.1 (entry_ready _ c.args.words.now c.args.flags.now c.args.answer.now _ _ c.enter.ensures _ c.in-Ok.is).room

pub returns-in-Err : goal.returns-in-Err
returns-in-Err c = search_refused _ _ _ _ _ _ c.enter.ensures _ _ _ _ c.in-Err.is c.refuse.ensures

pub returns-in-Ok : goal.returns-in-Ok
returns-in-Ok c = search_open _ _ _ _ _ _ c.enter.ensures _ _ _ _ c.in-Ok.is _ c.find-found.ensures c.say_search.ensures
