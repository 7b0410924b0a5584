-- `geometry_parts::special::base_two_loglog_ceiling` meets its contract. Assumes nothing.
use borrow.Author.Rules.{rules}
use native.Mathlib.Omega.{arith}
use Rattle.geometry.specs.LoglogLaws.{loglog_by}
use Rattle.geometry_parts.proofs.special.base_two_loglog_ceiling.Goals as goal

pub returns : goal.returns
returns c = omega (arith, c.max.ensures, loglog_by _ _ _ (search rules) (search rules) c.ceil_log2.ensures c.ceil_log2-2.ensures)
