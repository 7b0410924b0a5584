use mathlib.Core.Path.{sym, ◌∙◌, ap}
use native.Mathlib.Omega.{arith}
use Rattle.geometry.specs.FunnelLaws.{plan_facts}
use Rattle.funnel.specs.PlanLaws.{level_none, level_room, bucket_room}
use Rattle.funnel.specs.SearchLaws.{resume}
use Rattle.funnel.specs.StageLaws.{drew, drew_below, levels_none, levels_refused, levels_found, levels_end, bucket_full}
use Rattle.funnel.proofs.Stays.{stays}
use Rattle.funnel_stages.proofs.stages.search_levels.Goals as goal

pub loop-level-init : goal.loop-level-init
loop-level-init g c = (level_none c.args.sought.now.view.now.table.now.plan c.args.sought.now.view.now.counts.now, omega arith, levels_none _ _ _ _ _ _ _)

pub offset_bounds-view-level : goal.offset_bounds-view-level
offset_bounds-view-level g c = let f = plan_facts c.args.sought.now.view.now.valid.planned in let l = c.loop-level-test.true in omega arith

pub bounds-view-level : goal.bounds-view-level
bounds-view-level g c = let f = plan_facts c.args.sought.now.view.now.valid.planned in let l = c.loop-level-test.true in omega arith

pub sample-requires : goal.sample-requires
sample-requires g c = let r = level_room c.args.sought.now.view.now.valid.planned _ c.loop-level-test.true in
    let f = plan_facts c.args.sought.now.view.now.valid.planned in
    let v = c.args.sought.now.view.now.valid in
    let l = c.loop-level-test.true in
    (omega arith, omega arith, omega arith, omega arith)

pub returns-in-Err : goal.returns-in-Err
returns-in-Err g c = levels_refused _ _ _ _ _ _ _ c.loop-level.invariant.2 _ c.loop-level-test.true (drew c.args.sought.now.keyed _ _ _ _ _ _ c.sample.ensures c.in-Err.is)

pub overflow_mul-from : goal.overflow_mul-from
overflow_mul-from g c = let d = drew_below _ _ _ _ _ _ (level_room c.args.sought.now.view.now.valid.planned _ c.loop-level-test.true).some c.sample.ensures c.in-Ok.is in
    let b = bucket_room c.args.sought.now.view.now.valid.planned _ _ c.loop-level-test.true d in
    let f = plan_facts c.args.sought.now.view.now.valid.planned in
    omega arith

pub overflow_add-from : goal.overflow_add-from
overflow_add-from g c = let d = drew_below _ _ _ _ _ _ (level_room c.args.sought.now.view.now.valid.planned _ c.loop-level-test.true).some c.sample.ensures c.in-Ok.is in
    let b = bucket_room c.args.sought.now.view.now.valid.planned _ _ c.loop-level-test.true d in
    let f = plan_facts c.args.sought.now.view.now.valid.planned in
    let s = c.loop-level.invariant.0 in
    omega arith

pub scan-found-requires : goal.scan-found-requires
scan-found-requires g c = let d = drew_below _ _ _ _ _ _ (level_room c.args.sought.now.view.now.valid.planned _ c.loop-level-test.true).some c.sample.ensures c.in-Ok.is in
    let b = bucket_room c.args.sought.now.view.now.valid.planned _ _ c.loop-level-test.true d in
    let f = plan_facts c.args.sought.now.view.now.valid.planned in
    let v = c.args.sought.now.view.now.valid in
    let s = c.loop-level.invariant in
    let t = c.loop-level-test.true in
    omega arith

pub returns-in_default : goal.returns-in_default
returns-in_default g c = stays _ _ _ _ _ c.in_default.not-Full ∙ sym (levels_found _ _ _ _ _ _ _ c.loop-level.invariant.2 _ _ _ c.loop-level-test.true c.loop-level.invariant.0 (drew c.args.sought.now.keyed _ _ _ _ _ _ c.sample.ensures c.in-Ok.is) c.scan-found.ensures)

pub overflow_mul-start : goal.overflow_mul-start
overflow_mul-start g c = let r = level_room c.args.sought.now.view.now.valid.planned _ c.loop-level-test.true in
    let f = plan_facts c.args.sought.now.view.now.valid.planned in
    omega arith

pub overflow_add-start : goal.overflow_add-start
overflow_add-start g c = let r = level_room c.args.sought.now.view.now.valid.planned _ c.loop-level-test.true in
    let f = plan_facts c.args.sought.now.view.now.valid.planned in
    let s = c.loop-level.invariant.0 in
    omega arith

pub loop-level-preserved : goal.loop-level-preserved
unfolding resume
loop-level-preserved g c = let r = level_room c.args.sought.now.view.now.valid.planned _ c.loop-level-test.true in
    let f = plan_facts c.args.sought.now.view.now.valid.planned in
    let j = bucket_full _ _ _ _ _ _ _ _ _ _ c.scan-found.ensures c.in-Full.is in
    let s = c.loop-level.invariant in
    let t = c.loop-level-test.true in
    (omega arith, omega arith, record { left = levels_found _ _ _ _ _ _ _ c.loop-level.invariant.2 _ _ _ c.loop-level-test.true c.loop-level.invariant.0 (drew c.args.sought.now.keyed _ _ _ _ _ _ c.sample.ensures c.in-Ok.is) c.scan-found.ensures ∙ ap (resume _ _ _ _) c.in-Full.is })

pub returns : goal.returns
returns g c = levels_end _ _ _ _ _ _ _ c.loop-level.invariant.2 c.loop-level-test.false
