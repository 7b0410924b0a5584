-- `elastic_steps::steps::probes_of` meets its contract: the budget is given. Assumes nothing.
use Rattle.std.proofs.Common.{refl}
use Rattle.elastic_steps.specs.InsertLaws.{budget_given, budget_probes}
use Rattle.elastic_steps.proofs.steps.probes_of.Goals as goal

pub unwrap-requires : goal.unwrap-requires
unwrap-requires c = rw (budget_given _ _ _ _ c.requires _ c.budget.ensures) refl

pub returns : goal.returns
returns c = budget_probes _ _ _ _ c.requires _ c.budget.ensures _ c.unwrap.ensures
