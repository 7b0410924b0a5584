-- `geometry_funnel::plan::numbers_hold` meets its contract. Assumes nothing.
use mathlib.Core.Path.{◌≡◌}
use native.Mathlib.Omega.{arith}
use Rattle.std.proofs.lemmas.Grind.{common_steps}
use Rattle.geometry.specs.Special.{loglog}
use Rattle.geometry.specs.LoglogLaws.{loglog_facts}
use Rattle.geometry_funnel.proofs.plan.numbers_hold.Goals as goal

pub overflow_mul-g : goal.overflow_mul-g
overflow_mul-g c =
    let g : c.args.plan.loglog_ceiling ≡ loglog c.args.n = grind (arith, common_steps) in
    omega (arith, g, (loglog_facts c.args.n c.requires.0).most)
