-- `probe::mix::mix64` meets its contract. Assumes nothing.
use Rattle.probe.specs.MixLaws.{mix_steps}
use Rattle.std.proofs.Common.{rules}
use Rattle.probe.proofs.mix.mix64.Goals as goal

pub returns : goal.returns
returns c = mix_steps c.args.x c.multiply-a.result c.multiply-b.result (search rules) (search rules) (search rules) c.multiply-a.ensures c.multiply-b.ensures
