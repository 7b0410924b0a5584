-- `gridder_elastic::calls::insert_in` meets its contract. By how the table was entered. Assumes nothing.
use mathlib.Core.Path.{◌≡◌, sym, ◌∙◌}
use Rattle.gridder_state.specs.StateLaws.{holds_facts}
use Rattle.gridder_elastic.specs.Calls.{counted_in}
use Rattle.gridder_elastic.specs.EnterLaws.{entry_open, call_ready}
use Rattle.gridder_elastic.specs.CallLaws.{insert_refused, insert_open, counted_inserted, counted_refused}
use Rattle.gridder_elastic.proofs.calls.insert_in.Goals as goal
use Rattle.gridder_elastic.proofs.calls.insert_in.Goals.{then-is_ok, else-is_ok}

pub place-done-requires : goal.place-done-requires
place-done-requires c = (call_ready _ c.args.words.now c.args.flags.now c.args.answer.now _ _ c.enter.ensures _ c.in-Ok.is).valid

pub write_counts-requires : goal.write_counts-requires
write_counts-requires c = (holds_facts _ _ (entry_open _ c.args.words.now c.args.flags.now c.args.answer.now _ _ c.enter.ensures _ c.in-Ok.is).held).long

pub unwrap-requires : goal.unwrap-requires
unwrap-requires c =
    c.as_mut_array.ensures.variant.1 (call_ready _ c.args.words.now c.args.flags.now c.args.answer.now _ _ c.enter.ensures _ c.in-Ok.is).room

pub returns-in-Err : goal.returns-in-Err
returns-in-Err c = insert_refused _ _ _ _ _ _ c.enter.ensures _ _ _ _ c.in-Err.is c.refuse.ensures

pub returns-after-is_ok : goal.returns-after-is_ok
returns-after-is_ok c =
    let d = c.place-done in
    let counted : c.if-is_ok.state ≡ counted_in c.args.state.now d.result.answer d.result.st.count d.new.counts = elim c.if-is_ok.branch [
      | then-is_ok w ↦ counted_inserted _ _ _ _ _ (sym c.is_ok.ensures.value ∙ w.if-is_ok.true) (w.state-is ∙ w.write_counts.ensures)
      | else-is_ok w ↦ w.state-is ∙ counted_refused _ _ _ _ (sym c.is_ok.ensures.value ∙ w.if-is_ok.false)
    ] in
    insert_open _ _ _ _ _ _ c.enter.ensures _ _ _ _ c.in-Ok.is _ _ _ _ _ _ d.auto.words d.ensures counted c.say_insert.ensures
