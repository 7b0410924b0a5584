-- `funnel_insert::insert::insert` meets its contract. `put` with the table's own count. Assumes nothing.
use Rattle.funnel.proofs.InsertLaws.{done_table, stepped_inserted}
use Rattle.funnel_insert.proofs.Stepped.{unstepped}
use Rattle.funnel_insert.proofs.insert.insert.Goals as goal

pub returns-in_default : goal.returns-in_default
returns-in_default g c = done_table _ _ _ _ _ _ (unstepped c.put-answer.result _ c.in_default.not-Ok) c.put-answer.ensures

pub returns : goal.returns
returns g c = done_table _ _ _ _ _ _ (stepped_inserted _ c.args.table _ _ c.in-Ok.is) c.put-answer.ensures
