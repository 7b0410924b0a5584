-- `gridder_images::calls::write_in` meets its contract. By what its gate said of the table in the block. Assumes nothing.
use Rattle.funnel.specs.EdgeLaws.{flags_in, flags_length}
use Rattle.gridder_state.specs.StateLaws.{reads_none, reads_some}
use Rattle.gridder_images.specs.CallLaws.{write_ready, write_refused, write_passed, write_unheld}
use Rattle.gridder_images.proofs.calls.write_in.Goals as goal

pub write-written-requires : goal.write-written-requires
write-written-requires c = let r = reads_some _ _ _ _ c.read_table.ensures _ c.in-Some.is in
    let v = write_ready _ c.args.words.now c.args.flags.now c.args.label.now c.args.image.now c.args.answer.now _ _ _ r.1 r.2
    c.word_count-entries.ensures _ c.write_call_gate.ensures c.in-Ok.is in
    (flags_length _ c.args.flags.now v.whole, v.few, v.short)

pub unwrap-requires : goal.unwrap-requires
unwrap-requires c = let r = reads_some _ _ _ _ c.read_table.ensures _ c.in-Some.is in
    c.as_mut_array.ensures.variant.1 (write_ready _ c.args.words.now c.args.flags.now c.args.label.now c.args.image.now c.args.answer.now _ _ _ r.1 r.2
    c.word_count-entries.ensures _ c.write_call_gate.ensures c.in-Ok.is).room

pub returns-in_default : goal.returns-in_default
returns-in_default c = write_unheld _ _ _ _ _ _ _ (reads_none _ _ _ _ c.read_table.ensures c.in_default.is) c.number.ensures

pub returns-in-Err : goal.returns-in-Err
returns-in-Err c = let r = reads_some _ _ _ _ c.read_table.ensures _ c.in-Some.is in
    write_refused _ _ _ _ _ _ _ _ _ r.1 r.2 c.word_count-entries.ensures _ c.write_call_gate.ensures r.0 _ _ _ c.in-Err.is c.say_gate.ensures

pub returns-in-Ok : goal.returns-in-Ok
returns-in-Ok c = let r = reads_some _ _ _ _ c.read_table.ensures _ c.in-Some.is in
    let v = write_ready _ c.args.words.now c.args.flags.now c.args.label.now c.args.image.now c.args.answer.now _ _ _ r.1 r.2
    c.word_count-entries.ensures _ c.write_call_gate.ensures c.in-Ok.is in
    write_passed _ _ _ _ _ _ _ _ _ r.1 r.2 c.word_count-entries.ensures _ c.write_call_gate.ensures r.0 _ _ _ _ c.in-Ok.is
    (rw (flags_in _ c.args.flags.now v.whole) at c.write-written.ensures) c.say_write.ensures
