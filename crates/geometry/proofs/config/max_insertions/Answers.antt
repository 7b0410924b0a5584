-- `geometry::config::max_insertions` meets its contract. Assumes nothing.
use native.Mathlib.Omega.{arith}
use Rattle.geometry.specs.ConfigLaws.{reserve_le}
use Rattle.geometry.proofs.config.max_insertions.Goals as goal

pub overflow_sub-result : goal.overflow_sub-result
overflow_sub-result c = omega (arith, c.floor_div_pow2.ensures, reserve_le c.args.n c.args.e)
