-- `gridder_elastic::calls::query_in` meets its contract. By how the table was entered. Assumes nothing.
use Rattle.gridder_elastic.specs.EnterLaws.{call_ready}
use Rattle.gridder_elastic.specs.CallLaws.{query_refused, query_open}
use Rattle.gridder_elastic.proofs.calls.query_in.Goals as goal

pub look-found-requires : goal.look-found-requires
look-found-requires c = (call_ready _ c.args.words.now c.args.flags.now c.args.answer.now _ _ c.enter.ensures _ c.in-Ok.is).valid

pub unwrap-requires : goal.unwrap-requires
unwrap-requires c =
    c.as_mut_array.ensures.variant.1 (call_ready _ c.args.words.now c.args.flags.now c.args.answer.now _ _ c.enter.ensures _ c.in-Ok.is).room

pub returns-in-Err : goal.returns-in-Err
returns-in-Err c = query_refused _ _ _ _ _ _ c.enter.ensures _ _ _ _ c.in-Err.is c.refuse.ensures

pub returns-in-Ok : goal.returns-in-Ok
returns-in-Ok c = query_open _ _ _ _ _ _ c.enter.ensures _ _ _ _ c.in-Ok.is _ c.look-found.ensures c.say_query.ensures
