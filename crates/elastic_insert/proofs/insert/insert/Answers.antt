-- `elastic_insert::insert::insert` meets its contract: the gate refuses, or the insertion of a table whose tests passed. Assumes nothing.
use mathlib.Core.Path.{sym, ◌∙◌}
use Rattle.elastic.specs.StateLaws.{gate_valid}
use Rattle.elastic_steps.specs.InsertLaws.{insert_gate, insert_place}
use Rattle.elastic_insert.proofs.insert.insert.Goals as goal

pub returns-in-Err : goal.returns-in-Err
returns-in-Err g c = rw c.from.ensures (insert_gate _ _ _ _ _ _ (sym (rw c.count.ensures at c.state_gate.ensures) ∙ c.in-Err.is))

pub place-requires : goal.place-requires
place-requires g c = gate_valid _ _ _ _ (sym (rw c.count.ensures at c.state_gate.ensures) ∙ c.in-Ok.is)

pub returns-in-Ok : goal.returns-in-Ok
returns-in-Ok g c = insert_place _ _ _ _ _ _ (sym (rw c.count.ensures at c.state_gate.ensures) ∙ c.in-Ok.is) c.place.ensures
