-- `gridder_open::open::refuse_open` meets its contract. By the refusal and the length of the state block. Assumes nothing.
use Rattle.gridder_open.specs.OpenLaws.{refuse_other, refuse_stays, refuse_says}
use Rattle.gridder_open.proofs.open.refuse_open.Goals as goal

pub returns-then-state-ne-STATE_LENGTH : goal.returns-then-state-ne-STATE_LENGTH
returns-then-state-ne-STATE_LENGTH c = refuse_stays _ _ _ c.in-State.is c.if-state-ne-STATE_LENGTH.true _ c.number.ensures

pub returns-else-state-ne-STATE_LENGTH : goal.returns-else-state-ne-STATE_LENGTH
returns-else-state-ne-STATE_LENGTH c = refuse_says _ _ _ c.in-State.is c.if-state-ne-STATE_LENGTH.false _ _ c.say_gate.ensures

pub returns-in_default : goal.returns-in_default
returns-in_default c = refuse_other _ _ _ c.in_default.not-State _ _ c.say_gate-in_default.ensures
