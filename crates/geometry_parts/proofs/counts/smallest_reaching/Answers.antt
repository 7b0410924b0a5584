use mathlib.Core.Path.{sym, ◌∙◌}
use native.Mathlib.Omega.{arith}
use Rattle.geometry.specs.FilledLaws.{reach_start, reach_left, reach_right, reach_end}
use Rattle.geometry_parts.proofs.counts.smallest_reaching.Goals as goal

pub overflow_add-lo : goal.overflow_add-lo
overflow_add-lo c = let r = (reach_start _ _ _ c.requires.0 c.requires.1).order in omega arith

pub loop-lo-init : goal.loop-lo-init
loop-lo-init c = reach_start _ _ _ c.requires.0 c.requires.1

pub overflow_sub-mid : goal.overflow_sub-mid
overflow_sub-mid c = omega arith

pub overflow_add-mid : goal.overflow_add-mid
overflow_add-mid c = omega arith

pub maximum_path_sum_at_least-requires : goal.maximum_path_sum_at_least-requires
maximum_path_sum_at_least-requires c = omega arith

pub loop-lo-smaller-then-maximum_path_sum_at_least : goal.loop-lo-smaller-then-maximum_path_sum_at_least
loop-lo-smaller-then-maximum_path_sum_at_least c = omega arith

pub loop-lo-preserved-then-maximum_path_sum_at_least : goal.loop-lo-preserved-then-maximum_path_sum_at_least
loop-lo-preserved-then-maximum_path_sum_at_least c = reach_left c.loop-lo.invariant _ (omega arith) (omega arith) (sym c.maximum_path_sum_at_least.ensures ∙ c.if-maximum_path_sum_at_least.true)

pub overflow_add-lo-else-maximum_path_sum_at_least : goal.overflow_add-lo-else-maximum_path_sum_at_least
overflow_add-lo-else-maximum_path_sum_at_least c = omega arith

pub loop-lo-smaller : goal.loop-lo-smaller
loop-lo-smaller c = omega arith

pub loop-lo-preserved : goal.loop-lo-preserved
loop-lo-preserved c = reach_right c.loop-lo.invariant _ (omega arith) (sym c.maximum_path_sum_at_least.ensures ∙ c.if-maximum_path_sum_at_least.false)

pub returns : goal.returns
returns c = reach_end c.loop-lo.invariant (omega arith)
