use native.Mathlib.Omega.{arith}
use Rattle.elastic_probe.specs.TreeLaws.{ends_j, ends_over, ends_up, ends_root, ends_pos}
use Rattle.elastic_query.proofs.walk.climb.Goals as goal

pub loop-j-init : goal.loop-j-init
loop-j-init c = c.requires

pub overflow_add-result : goal.overflow_add-result
overflow_add-result c = omega (arith, ends_j _ _ _ c.loop-j.invariant.0)

pub returns-then-j-eq0 : goal.returns-then-j-eq0
returns-then-j-eq0 c = ends_over _ _ _ c.loop-j.invariant.0 c.if-j-eq0.true

pub overflow_mul-q : goal.overflow_mul-q
overflow_mul-q c = omega arith

pub loop-j-smaller : goal.loop-j-smaller
loop-j-smaller c = omega arith

pub loop-j-preserved : goal.loop-j-preserved
loop-j-preserved c = (ends_up _ _ _ c.loop-j.invariant.0 (omega arith) (omega arith), omega arith)

pub overflow_mul-result : goal.overflow_mul-result
overflow_mul-result c = omega arith

pub overflow_mul-result-2 : goal.overflow_mul-result-2
overflow_mul-result-2 c = omega arith

pub returns : goal.returns
returns c = ends_root _ _ _ c.loop-j.invariant.0 (omega (arith, ends_pos _ _ _ c.loop-j.invariant.0))
