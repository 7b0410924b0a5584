use mathlib.Core.Path.{sym, ◌∙◌}
use native.Mathlib.Omega.{arith}
use Rattle.geometry.specs.FilledLaws.{within_two, within_start, within_right, within_left, within_end}
use Rattle.geometry_parts.proofs.counts.largest_within.Goals as goal

pub overflow_sub-hi : goal.overflow_sub-hi
overflow_sub-hi c = let r = within_two _ _ _ c.requires.1 c.requires.2 in omega arith

pub loop-lo-init : goal.loop-lo-init
loop-lo-init c = within_start _ _ _ c.requires.1 c.requires.2 c.requires.3

pub overflow_sub-mid : goal.overflow_sub-mid
overflow_sub-mid c = omega arith

pub overflow_sub-mid-in-loop-lo : goal.overflow_sub-mid-in-loop-lo
overflow_sub-mid-in-loop-lo c = omega arith

pub minimum_path_sum_at_most-requires : goal.minimum_path_sum_at_most-requires
minimum_path_sum_at_most-requires c = omega arith

pub loop-lo-smaller-then-minimum_path_sum_at_most : goal.loop-lo-smaller-then-minimum_path_sum_at_most
loop-lo-smaller-then-minimum_path_sum_at_most c = omega arith

pub loop-lo-preserved-then-minimum_path_sum_at_most : goal.loop-lo-preserved-then-minimum_path_sum_at_most
loop-lo-preserved-then-minimum_path_sum_at_most c = within_right c.loop-lo.invariant _ (omega arith) (omega arith) (sym c.minimum_path_sum_at_most.ensures ∙ c.if-minimum_path_sum_at_most.true)

pub overflow_sub-hi-else-minimum_path_sum_at_most : goal.overflow_sub-hi-else-minimum_path_sum_at_most
overflow_sub-hi-else-minimum_path_sum_at_most c = omega arith

pub loop-lo-smaller : goal.loop-lo-smaller
loop-lo-smaller c = omega arith

pub loop-lo-preserved : goal.loop-lo-preserved
loop-lo-preserved c = within_left c.loop-lo.invariant _ (omega arith) (omega arith) (sym c.minimum_path_sum_at_most.ensures ∙ c.if-minimum_path_sum_at_most.false)

pub returns : goal.returns
returns c = within_end c.loop-lo.invariant (omega arith)
