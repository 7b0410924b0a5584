-- `elastic_steps::steps::Table::budgeted` meets its contract: the budget is that of the rules. Assumes nothing.
use native.Mathlib.Omega.{arith}
use Rattle.geometry.specs.ElasticLaws.{levels_facts}
use Rattle.elastic_steps.proofs.steps.Table.budgeted.Goals as goal

pub overflow_add-next : goal.overflow_add-next
overflow_add-next c = omega (arith, c.requires.0, (levels_facts c.args.self.now.st.n c.args.self.now.st.e c.args.self.now.valid.config).few)

pub returns : goal.returns
returns c = rw (← c.probes_of-probes.ensures.0) c.then_next.ensures
