use mathlib.Core.Path.{◌≡◌, ◌∙◌}
use native.Mathlib.Omega.{arith}
use Rattle.geometry.specs.ElasticLaws.{length_fits, quota_fits}
use Rattle.geometry.proofs.ActiveBatch.{looking_found, looking_step, looking_end}
use Rattle.geometry.proofs.elastic.active_batch.Goals as goal

pub next_quota-quota-requires : goal.next_quota-quota-requires
next_quota-quota-requires c =
    let k = c.loop-i.invariant in
    let m = length_fits _ _ _ c.next_length-length.ensures in
    (c.requires.1, k.before_most, omega (arith, k.rest_most))

pub returns-then-left-quota : goal.returns-then-left-quota
returns-then-left-quota c =
    let d = c in
    looking_found _ _ _ _ _ _ _ _ _ _ d.loop-i.invariant d.loop-i-test.true _ _ c.next_length-length.ensures c.next_quota-quota.ensures c.if-left-quota.true

pub overflow_sub-rest : goal.overflow_sub-rest
overflow_sub-rest c = length_fits _ _ _ c.next_length-length.ensures

pub overflow_sub-spare : goal.overflow_sub-spare
overflow_sub-spare c = quota_fits _ _ _ _ _ _ c.next_quota-quota.ensures

pub loop-i-preserved : goal.loop-i-preserved
loop-i-preserved c =
    let d = c in
    looking_step _ _ _ _ _ _ _ _ _ _ d.loop-i.invariant d.loop-i-test.true _ _ c.next_length-length.ensures c.next_quota-quota.ensures c.if-left-quota.false

pub returns : goal.returns
returns c =
    let k = c.loop-i.invariant in
    let last : c.args.plan.levels ≡ c.loop-i.i = omega (arith, k.within) in
    last ∙ looking_end _ _ _ _ _ _ _ _ _ _ k c.loop-i-test.false
