-- `gridder_open::open::open_in` meets its contract. Where the gate passes there is a plan; then zeros and the numbers are written. Assumes nothing.
use Rattle.gridder_open.specs.OpenLaws.{room, opens_planned, opens_open}
use Rattle.gridder_open.proofs.open.open_in.Goals as goal

pub write_table-requires : goal.write_table-requires
write_table-requires c = (room _ _ _ _ _ _ _ c.requires).state_right

pub returns-in-Err : goal.returns-in-Err
returns-in-Err c = absurd (opens_planned _ _ c.args.seed _ c.args.state.now c.args.words.now c.args.flags.now c.args.answer.now c.requires _ _ _ c.funnel_plan.ensures _ c.in-Err.is)

pub returns-in-Ok : goal.returns-in-Ok
returns-in-Ok c = opens_open _ _ _ _ _ _ _ _ c.requires _ _ _ c.funnel_plan.ensures _ _ _ _ _ c.in-Ok.is c.write_table.ensures c.clear_bytes.ensures c.clear_bytes-in-Ok.ensures c.clear_bytes-in-Ok-2.ensures
