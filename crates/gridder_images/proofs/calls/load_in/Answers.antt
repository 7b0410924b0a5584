-- `gridder_images::calls::load_in` meets its contract. By how the table was entered. Assumes nothing.
use mathlib.Core.Path.{◌≡◌, sym, ◌∙◌}
use Rattle.gridder_state.specs.StateLaws.{holds_facts}
use Rattle.gridder_calls.specs.EnterLaws.{entry_open, entry_ready, valid_in}
use Rattle.gridder_images.specs.Calls.{filled_in}
use Rattle.gridder_images.specs.CallLaws.{filled_refused, filled_done, load_refused, load_passed}
use Rattle.gridder_images.proofs.calls.load_in.Goals as goal
use Rattle.gridder_images.proofs.calls.load_in.Goals.{in-Ok-loaded, in_default}

pub load-loaded-requires : goal.load-loaded-requires
load-loaded-requires c =
    let v = valid_in (entry_ready _ c.args.words.now c.args.flags.now c.args.answer.now _ _ c.enter.ensures _ c.in-Ok.is) in
    (v.words_length, v.flags_length)

pub write_count-requires : goal.write_count-requires
write_count-requires c = (holds_facts _ _ (entry_open _ c.args.words.now c.args.flags.now c.args.answer.now _ _ c.enter.ensures _ c.in-Ok.is).held).long

pub unwrap-requires : goal.unwrap-requires
unwrap-requires c =
    c.as_mut_array.ensures.variant.1 (entry_ready _ c.args.words.now c.args.flags.now c.args.answer.now _ _ c.enter.ensures _ c.in-Ok.is).room

pub returns-in-Err : goal.returns-in-Err
returns-in-Err c = load_refused _ _ _ _ _ _ c.enter.ensures _ _ _ _ c.in-Err.is c.refuse.ensures

pub returns-after-loaded : goal.returns-after-loaded
returns-after-loaded c =
    let counted : c.match-loaded.state ≡ filled_in c.args.state.now c.load-loaded.result = elim c.match-loaded.branch [
      | in-Ok-loaded w ↦ filled_done _ _ _ _ w.in-Ok-loaded.is (w.state-is ∙ w.write_count.ensures)
      | in_default w ↦ w.state-is ∙ filled_refused _ _ _ w.in_default.is
    ] in
    let same : c.match-loaded.loaded ≡ c.load-loaded.result = elim c.match-loaded.branch [ in-Ok-loaded w ↦ w.loaded-is ∙ sym w.in-Ok-loaded.is | in_default w ↦ w.loaded-is ] in
    load_passed _ _ _ _ _ _ c.enter.ensures _ _ _ _ c.in-Ok.is _ _ _ _ c.load-loaded.auto.words c.load-loaded.ensures counted (rw same at c.say_load.ensures)
