use Rattle.geometry.specs.FilledLaws.{partial_first, partial_more, partial_end, first_most, next_most}
use native.Mathlib.Omega.{arith}
use Rattle.geometry_parts.proofs.counts.fill_counts.Goals as goal

pub overflow_sub-rem : goal.overflow_sub-rem
overflow_sub-rem c = first_most _ _ _ c.requires.0 c.nearest_feasible_first_count-first.ensures

pub loop-i-init : goal.loop-i-init
loop-i-init c = partial_first _ _ _ c.args.counts.now c.requires.0 c.requires.2 c.requires.1 c.nearest_feasible_first_count-first.ensures

pub overflow_sub-rem-in-loop-i : goal.overflow_sub-rem-in-loop-i
overflow_sub-rem-in-loop-i c = next_most _ _ _ _ (omega arith) c.select_largest_feasible_next-next.ensures

pub loop-i-preserved : goal.loop-i-preserved
loop-i-preserved c = partial_more _ _ _ _ _ _ _ _ c.loop-i-test.true c.loop-i.invariant c.select_largest_feasible_next-next.ensures

pub returns : goal.returns
returns c = partial_end _ _ _ _ _ _ _ _ c.requires.0 c.loop-i-test.false c.loop-i.invariant
