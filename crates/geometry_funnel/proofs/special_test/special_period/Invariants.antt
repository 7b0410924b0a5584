-- `geometry_funnel::special_test::special_period` meets its contract. The invariant: two rows of multiples, which have not met before
-- and meet at w * h at the latest. The measure is what each row has left to there. Assumes nothing.
use Prim.Native.Nat.{◌+◌, ◌-◌, ◌*◌}
use Rattle.geometry.specs.PeriodLaws.{Meeting}
use Rattle.geometry_funnel.proofs.special_test.special_period.Given as goal

abbrev pub invariant-loop-a : goal.invariant-loop-a
invariant-loop-a l = Meeting l.h l.w l.k l.a l.b

abbrev pub decreases-loop-a : goal.decreases-loop-a
decreases-loop-a l = l.w * l.h - l.a + (l.w * l.h - l.b)
