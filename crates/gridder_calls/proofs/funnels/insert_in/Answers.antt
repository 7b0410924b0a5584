-- `gridder_calls::funnels::insert_in` meets its contract. By how the table was entered. Assumes nothing.
use mathlib.Core.Path.{◌≡◌, sym, ◌∙◌}
use Prim.Native.Nat.{◌+◌}
use native.Mathlib.Omega.{arith}
use Rattle.gridder_state.specs.StateLaws.{holds_facts}
use Rattle.gridder_calls.specs.Calls.{counted_in}
use Rattle.gridder_calls.specs.EnterLaws.{entry_open, entry_ready, valid_in, ready_count}
use Rattle.gridder_calls.specs.CallLaws.{insert_refused, insert_open, counted_inserted, uncounted}
use Rattle.gridder_calls.proofs.funnels.insert_in.Goals as goal
use Rattle.gridder_calls.proofs.funnels.insert_in.Goals.{then-is_ok, else-is_ok}

pub put-done-requires : goal.put-done-requires
put-done-requires c =
    let r = entry_ready _ c.args.words.now c.args.flags.now c.args.answer.now _ _ c.enter.ensures _ c.in-Ok.is in
    (valid_in r, (ready_count r).0)

pub overflow_add-table : goal.overflow_add-table
overflow_add-table c =
    let n = ready_count (entry_ready _ c.args.words.now c.args.flags.now c.args.answer.now _ _ c.enter.ensures _ c.in-Ok.is) in
    omega arith

pub write_count-requires : goal.write_count-requires
write_count-requires c = (holds_facts _ _ (entry_open _ c.args.words.now c.args.flags.now c.args.answer.now _ _ c.enter.ensures _ c.in-Ok.is).held).long

pub unwrap-requires : goal.unwrap-requires
unwrap-requires c =
    c.as_mut_array.ensures.variant.1 (entry_ready _ c.args.words.now c.args.flags.now c.args.answer.now _ _ c.enter.ensures _ c.in-Ok.is).room

pub returns-in-Err : goal.returns-in-Err
returns-in-Err c = insert_refused _ _ _ _ _ _ c.enter.ensures _ _ _ _ c.in-Err.is c.refuse.ensures

pub returns-after-is_ok : goal.returns-after-is_ok
returns-after-is_ok c =
    let counted : c.if-is_ok.state ≡ counted_in c.args.state.now c.put-done.result (c.in-Ok.table.count + 1) = elim c.if-is_ok.branch [
      | then-is_ok w ↦ counted_inserted _ _ _ _ (sym c.is_ok.ensures.value ∙ w.if-is_ok.true) (w.state-is ∙ w.write_count.ensures)
      | else-is_ok w ↦ w.state-is ∙ uncounted _ _ _ (sym c.is_ok.ensures.value ∙ w.if-is_ok.false)
    ] in
    insert_open _ _ _ _ _ _ c.enter.ensures _ _ _ _ c.in-Ok.is _ _ _ _ c.put-done.auto.words c.put-done.ensures counted c.say_insertion.ensures
