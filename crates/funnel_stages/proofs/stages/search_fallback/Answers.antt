-- `funnel_stages::stages::search_fallback` meets its contract. By the laws of the two draws. Assumes nothing.
use mathlib.Core.Path.{◌∙◌}
use native.Mathlib.Omega.{arith}
use Rattle.funnel.specs.StageLaws.{drew, drew_room, fallback_refused_a, fallback_refused_b, fallback_both}
use Rattle.funnel_stages.proofs.stages.search_fallback.Goals as goal

pub returns-in-Err : goal.returns-in-Err
returns-in-Err g c = fallback_refused_a _ _ _ _ _ _ _ _ _ (drew c.requires.1 _ _ _ _ _ _ c.sample.ensures c.in-Err.is)

pub returns-in-Err-sample : goal.returns-in-Err-sample
returns-in-Err-sample g c = fallback_refused_b _ _ _ _ _ _ _ _ _ _ (drew c.requires.1 _ _ _ _ _ _ c.sample.ensures c.in-Ok.is) (drew c.requires.1 _ _ _ _ _ _ c.sample-2.ensures c.in-Err-sample.is)

pub overflow_mul-at_a : goal.overflow_mul-at_a
overflow_mul-at_a g c = let p = c.requires.0 in let a = drew_room p _ _ _ _ _ c.sample.ensures c.in-Ok.is in omega arith

pub overflow_add-at_a : goal.overflow_add-at_a
overflow_add-at_a g c = let p = c.requires.0 in let a = drew_room p _ _ _ _ _ c.sample.ensures c.in-Ok.is in omega arith

pub overflow_mul-at_b : goal.overflow_mul-at_b
overflow_mul-at_b g c = let p = c.requires.0 in let b = drew_room p _ _ _ _ _ c.sample-2.ensures c.in-Ok-sample.is in omega arith

pub overflow_add-at_b : goal.overflow_add-at_b
overflow_add-at_b g c = let p = c.requires.0 in let b = drew_room p _ _ _ _ _ c.sample-2.ensures c.in-Ok-sample.is in omega arith

pub scan_pairs-requires : goal.scan_pairs-requires
scan_pairs-requires g c = let p = c.requires.0 in
    let a = drew_room p _ _ _ _ _ c.sample.ensures c.in-Ok.is in
    let b = drew_room p _ _ _ _ _ c.sample-2.ensures c.in-Ok-sample.is in
    omega arith

pub returns : goal.returns
returns g c = c.scan_pairs.ensures ∙ fallback_both _ _ _ _ _ _ _ _ _ _ (drew c.requires.1 _ _ _ _ _ _ c.sample.ensures c.in-Ok.is) (drew c.requires.1 _ _ _ _ _ _ c.sample-2.ensures c.in-Ok-sample.is)
