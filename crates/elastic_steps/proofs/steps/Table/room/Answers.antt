-- `elastic_steps::steps::Table::room` meets its contract: a level counts no more members than it has slots. Assumes nothing.
use native.Mathlib.Omega.{arith}
use Rattle.elastic_steps.specs.InsertLaws.{valid_searching, searching_few, searching_length}
use Rattle.elastic_steps.proofs.steps.Table.room.Goals as goal

pub offset_bounds-self-level : goal.offset_bounds-self-level
offset_bounds-self-level c = omega (arith, searching_few (valid_searching c.args.self.now.valid _ c.requires))

pub bounds-self-level : goal.bounds-self-level
bounds-self-level c = searching_few (valid_searching c.args.self.now.valid _ c.requires)

pub overflow_sub-result : goal.overflow_sub-result
overflow_sub-result c = let f = searching_length (valid_searching c.args.self.now.valid _ c.requires) _ c.level_length-size.ensures in omega (arith, f.0, c.args.self.now.valid.within c.args.level)

pub returns : goal.returns
returns c = let f = searching_length (valid_searching c.args.self.now.valid _ c.requires) _ c.level_length-size.ensures in (f.0, omega (arith, f.0), f.1)
