-- `elastic_probe::phi::spread` meets its contract. Assumes nothing.
use Rattle.elastic_probe.specs.SpreadLaws.{step, spread_steps}
use Rattle.elastic_probe.proofs.phi.spread.Goals as goal

pub returns : goal.returns
unfolding step
returns c = spread_steps c.args.j c.requires
