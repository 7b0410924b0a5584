-- `probe::counter::funnel_base` meets its contract. Assumes nothing.
use Rattle.probe.specs.CounterLaws.{funnel_shifts}
use Rattle.probe.proofs.counter.funnel_base.Goals as goal

pub returns : goal.returns
returns c = funnel_shifts c.args.domain _ _ c.domain_base.ensures c.requires.1
