use native.Mathlib.Omega.{arith}
use Rattle.geometry.specs.ElasticLaws.{length_fits, quota_fits}
use Rattle.geometry.proofs.Fill.{filling_step, filled}
use Rattle.geometry.proofs.elastic.fill.Goals as goal

pub next_quota-quota-requires : goal.next_quota-quota-requires
next_quota-quota-requires c =
    let f = c.loop-i.invariant in
    let m = length_fits _ _ _ c.next_length-length.ensures in
    (c.requires.1, f.before_most, omega (arith, f.rest_most))

pub overflow_sub-rest : goal.overflow_sub-rest
overflow_sub-rest c = length_fits _ _ _ c.next_length-length.ensures

pub overflow_sub-spare : goal.overflow_sub-spare
overflow_sub-spare c = quota_fits _ _ _ _ _ _ c.next_quota-quota.ensures

pub loop-i-preserved : goal.loop-i-preserved
loop-i-preserved c = filling_step _ _ _ _ _ _ _ _ _ _ c.loop-i.invariant c.loop-i-test.true _ _ c.next_length-length.ensures c.next_quota-quota.ensures

pub returns : goal.returns
returns c =
    let f = c.loop-i.invariant in
    (filled _ _ _ _ f.lengths_size c.loop-i-test.false f.within f.lengths, filled _ _ _ _ f.quotas_size c.loop-i-test.false f.within f.quotas)
