use mathlib.Core.Path.{subst}
use native.Mathlib.Omega.{arith}
use Rattle.geometry.specs.FunnelLaws.{plan_facts, count_some}
use Rattle.funnel.specs.PlanLaws.{level_room}
use Rattle.funnel.specs.Stop.{StopsAt, BucketStops}
use Rattle.funnel.specs.StopLaws.{passed_none, passed_room, passed_stops, passed_more}
use Rattle.funnel_search.proofs.search.pass_levels.Goals as goal

pub first_bucket-bucket-requires : goal.first_bucket-bucket-requires
first_bucket-bucket-requires g c = ((plan_facts c.args.view.now.valid.planned).alpha_most, count_some c.args.view.now.valid.planned)

pub loop-level-init : goal.loop-level-init
loop-level-init g c = passed_none _ _ _ _ _ _ _ c.first_bucket-bucket.ensures

pub offset_bounds-view-level : goal.offset_bounds-view-level
offset_bounds-view-level g c = let f = plan_facts c.args.view.now.valid.planned in let l = c.loop-level-test.true in omega arith

pub bounds-view-level : goal.bounds-view-level
bounds-view-level g c = let f = plan_facts c.args.view.now.valid.planned in let l = c.loop-level-test.true in omega arith

pub returns-then-count-bucket : goal.returns-then-count-bucket
unfolding StopsAt
returns-then-count-bucket g c = tt

pub overflow_add-level : goal.overflow_add-level
overflow_add-level g c = let f = plan_facts c.args.view.now.valid.planned in let l = c.loop-level-test.true in omega arith

pub first_bucket-ahead-requires : goal.first_bucket-ahead-requires
first_bucket-ahead-requires g c = ((plan_facts c.args.view.now.valid.planned).alpha_most, count_some c.args.view.now.valid.planned)

pub overflow_mul-from : goal.overflow_mul-from
overflow_mul-from g c = let v = c.args.view.now.valid in
    let r = passed_room _ _ _ _ _ _ v (record { is_inner = c.funnel_key-key.ensures.0; is_outer = c.funnel_key-key.ensures.1 }) c.loop-level.invariant c.loop-level-test.true (omega (arith, c.if-count-bucket.false)) in
    let f = plan_facts v.planned in omega arith

pub overflow_add-from : goal.overflow_add-from
overflow_add-from g c = let v = c.args.view.now.valid in
    let r = passed_room _ _ _ _ _ _ v (record { is_inner = c.funnel_key-key.ensures.0; is_outer = c.funnel_key-key.ensures.1 }) c.loop-level.invariant c.loop-level-test.true (omega (arith, c.if-count-bucket.false)) in
    let f = plan_facts v.planned in omega arith

pub pass-requires : goal.pass-requires
pass-requires g c = let v = c.args.view.now.valid in
    let r = passed_room _ _ _ _ _ _ v (record { is_inner = c.funnel_key-key.ensures.0; is_outer = c.funnel_key-key.ensures.1 }) c.loop-level.invariant c.loop-level-test.true (omega (arith, c.if-count-bucket.false)) in
    let f = plan_facts v.planned in (omega arith, omega arith, omega arith)

pub returns-in-Hit : goal.returns-in-Hit
returns-in-Hit g c = passed_stops _ _ _ _ _ _ c.args.view.now.valid (record { is_inner = c.funnel_key-key.ensures.0; is_outer = c.funnel_key-key.ensures.1 }) c.loop-level.invariant c.loop-level-test.true (omega (arith, c.if-count-bucket.false)) _ (subst (BucketStops _ _ _ _ _) c.in-Hit.is c.pass.ensures)

pub returns-in-Vacant : goal.returns-in-Vacant
returns-in-Vacant g c = passed_stops _ _ _ _ _ _ c.args.view.now.valid (record { is_inner = c.funnel_key-key.ensures.0; is_outer = c.funnel_key-key.ensures.1 }) c.loop-level.invariant c.loop-level-test.true (omega (arith, c.if-count-bucket.false)) _ (subst (BucketStops _ _ _ _ _) c.in-Vacant.is c.pass.ensures)

pub overflow_mul-start : goal.overflow_mul-start
overflow_mul-start g c = let v = c.args.view.now.valid in let r = level_room v.planned _ c.loop-level-test.true in let f = plan_facts v.planned in omega arith

pub overflow_add-start : goal.overflow_add-start
overflow_add-start g c = let v = c.args.view.now.valid in let r = level_room v.planned _ c.loop-level-test.true in let f = plan_facts v.planned in let s = c.loop-level.invariant.starts in omega arith

pub loop-level-preserved : goal.loop-level-preserved
loop-level-preserved g c = passed_more _ _ _ _ _ _ c.args.view.now.valid (record { is_inner = c.funnel_key-key.ensures.0; is_outer = c.funnel_key-key.ensures.1 }) c.loop-level.invariant c.loop-level-test.true (omega (arith, c.if-count-bucket.false)) _
    (subst (BucketStops _ _ _ _ _) c.in-Nowhere.is c.pass.ensures) c.first_bucket-ahead.ensures

pub returns : goal.returns
unfolding StopsAt
returns g c = tt
