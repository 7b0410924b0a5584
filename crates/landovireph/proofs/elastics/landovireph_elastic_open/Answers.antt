-- `landovireph::elastics::landovireph_elastic_open` meets its contract. By what its gate said. Assumes nothing.
use Rattle.gridder_elastic.specs.OpenLaws.{open_room, opens_refused, opens_passed}
use Rattle.landovireph.proofs.elastics.landovireph_elastic_open.Goals as goal

pub open_in-requires : goal.open_in-requires
open_in-requires c = (open_room c.args.n c.args.e c.args.seed _ c.args.state.now c.args.words.now c.args.flags.now c.args.answer.now _ c.word_count-entries.ensures _ c.open_blocks_gate.ensures c.in-Ok.is).state_right

pub returns-in-Err : goal.returns-in-Err
returns-in-Err c = opens_refused _ _ _ _ _ _ _ _ _ c.word_count-entries.ensures _ c.open_blocks_gate.ensures _ _ _ c.in-Err.is c.refuse_open.ensures

pub returns-in-Ok : goal.returns-in-Ok
returns-in-Ok c = opens_passed _ _ _ _ _ _ _ _ _ c.word_count-entries.ensures _ c.open_blocks_gate.ensures _ _ _ _ _ _ c.in-Ok.is c.fresh.ensures c.open_in.ensures
