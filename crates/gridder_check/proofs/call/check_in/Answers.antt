-- `gridder_check::call::check_in` meets its contract. By what its gate said of the table in the block. Assumes nothing.
use Rattle.gridder_state.specs.StateLaws.{reads_none, reads_some}
use Rattle.gridder_check.specs.CheckLaws.{checking_ready, checking_refused, checking_passed, checking_unheld}
use Rattle.gridder_check.proofs.call.check_in.Goals as goal

pub returns-in_default : goal.returns-in_default
returns-in_default c = checking_unheld _ c.args.words.now c.args.flags.now _ _ _ _ (reads_none _ _ _ _ c.read_table.ensures c.in_default.is) c.number.ensures

pub invariant_of-view : goal.invariant_of-view
invariant_of-view c =
    let f = reads_some _ _ _ _ c.read_table.ensures _ c.in-Some.is in
    let r = checking_ready _ c.args.words.now c.args.flags.now c.args.marks.now c.args.order.now c.args.answer.now _ _ _ _ f.1 f.2
    c.word_count-entries.ensures c.word_count-places.ensures _ c.check_call_gate.ensures c.in-Ok.is in
    record { valid = r.valid }

pub audit-done-requires : goal.audit-done-requires
audit-done-requires c =
    let f = reads_some _ _ _ _ c.read_table.ensures _ c.in-Some.is in
    let r = checking_ready _ c.args.words.now c.args.flags.now c.args.marks.now c.args.order.now c.args.answer.now _ _ _ _ f.1 f.2
    c.word_count-entries.ensures c.word_count-places.ensures _ c.check_call_gate.ensures c.in-Ok.is in
    (r.marks_n, r.order_n)

pub unwrap-requires : goal.unwrap-requires
unwrap-requires c =
    let f = reads_some _ _ _ _ c.read_table.ensures _ c.in-Some.is in
    c.as_mut_array.ensures.variant.1 (checking_ready _ c.args.words.now c.args.flags.now c.args.marks.now c.args.order.now c.args.answer.now _ _ _ _ f.1 f.2
    c.word_count-entries.ensures c.word_count-places.ensures _ c.check_call_gate.ensures c.in-Ok.is).room

pub returns-in-Err : goal.returns-in-Err
returns-in-Err c =
    let f = reads_some _ _ _ _ c.read_table.ensures _ c.in-Some.is in
    checking_refused _ _ _ _ _ _ _ _ _ _ f.1 f.2 c.word_count-entries.ensures c.word_count-places.ensures _ c.check_call_gate.ensures f.0 _ _ _ c.in-Err.is
    c.say_gate.ensures

pub returns-in-Ok : goal.returns-in-Ok
returns-in-Ok c =
    let f = reads_some _ _ _ _ c.read_table.ensures _ c.in-Some.is in
    checking_passed _ _ _ _ _ _ _ _ _ _ f.1 f.2 c.word_count-entries.ensures c.word_count-places.ensures _ c.check_call_gate.ensures f.0 _ _ _ _ _
    c.in-Ok.is c.audit-done.auto.order c.audit-done.ensures c.say_checked.ensures
