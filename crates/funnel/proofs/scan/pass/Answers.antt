-- `funnel::scan::pass` meets its contract. Assumes nothing.
use native.Mathlib.Omega.{arith}
use Rattle.funnel.specs.StopLaws.{halts_hit, halts_vacant, halts_nowhere, inside_hit, inside_vacant}
use Rattle.funnel.proofs.scan.pass.Goals as goal

pub overflow_add-result : goal.overflow_add-result
overflow_add-result g c = let l = inside_hit _ _ c.halt.ensures.inside _ c.in-Hit.is in omega arith

pub overflow_add-result-in-Vacant : goal.overflow_add-result-in-Vacant
overflow_add-result-in-Vacant g c = let l = inside_vacant _ _ c.halt.ensures.inside _ c.in-Vacant.is in omega arith

pub returns-in-Hit : goal.returns-in-Hit
returns-in-Hit g c = halts_hit _ _ _ _ _ _ c.halt.ensures _ c.in-Hit.is

pub returns-in-Vacant : goal.returns-in-Vacant
returns-in-Vacant g c = halts_vacant _ _ _ _ _ _ c.halt.ensures _ c.in-Vacant.is

pub returns-in-Nowhere : goal.returns-in-Nowhere
returns-in-Nowhere g c = halts_nowhere _ _ _ _ _ _ c.halt.ensures c.in-Nowhere.is
