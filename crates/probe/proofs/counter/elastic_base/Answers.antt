-- `probe::counter::elastic_base` meets its contract. Assumes nothing.
use Rattle.probe.specs.CounterLaws.{elastic_shifts}
use Rattle.probe.proofs.counter.elastic_base.Goals as goal

pub returns : goal.returns
returns c = elastic_shifts c.args.level c.args.probe.0 c.requires.0 c.requires.1
