-- `funnel::scan::halted` meets its contract. The index lies within the bucket, so the numbers are small. Assumes nothing.
use mathlib.Core.Path.{ap, sym}
use native.Mathlib.Omega.{arith}
use Rattle.funnel.specs.Stop.{halt_of}
use Rattle.funnel.specs.StopLaws.{inside_hit, inside_vacant}
use Rattle.funnel.proofs.scan.halted.Goals as goal

pub overflow_add-result : goal.overflow_add-result
overflow_add-result c = let l = inside_hit _ _ c.requires.0 _ c.in-Hit.is in omega arith

pub overflow_add-result-in-Hit : goal.overflow_add-result-in-Hit
overflow_add-result-in-Hit c = let l = inside_hit _ _ c.requires.0 _ c.in-Hit.is in omega arith

pub overflow_add-result-in-Hit-2 : goal.overflow_add-result-in-Hit-2
overflow_add-result-in-Hit-2 c = let l = inside_hit _ _ c.requires.0 _ c.in-Hit.is in omega arith

pub overflow_add-result-in-Vacant : goal.overflow_add-result-in-Vacant
overflow_add-result-in-Vacant c = let l = inside_vacant _ _ c.requires.0 _ c.in-Vacant.is in omega arith

pub overflow_add-result-in-Vacant-2 : goal.overflow_add-result-in-Vacant-2
overflow_add-result-in-Vacant-2 c = let l = inside_vacant _ _ c.requires.0 _ c.in-Vacant.is in omega arith

pub overflow_add-result-in-Vacant-3 : goal.overflow_add-result-in-Vacant-3
overflow_add-result-in-Vacant-3 c = let l = inside_vacant _ _ c.requires.0 _ c.in-Vacant.is in omega arith

pub returns-in-Hit : goal.returns-in-Hit
unfolding halt_of
returns-in-Hit c = sym (ap (halt_of _ _ _ _ _) c.in-Hit.is)

pub returns-in-Vacant : goal.returns-in-Vacant
unfolding halt_of
returns-in-Vacant c = sym (ap (halt_of _ _ _ _ _) c.in-Vacant.is)

pub returns-in-Nowhere : goal.returns-in-Nowhere
unfolding halt_of
returns-in-Nowhere c = sym (ap (halt_of _ _ _ _ _) c.in-Nowhere.is)
