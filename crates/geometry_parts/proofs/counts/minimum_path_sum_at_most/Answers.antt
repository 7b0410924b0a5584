use mathlib.Core.Path.{◌≡◌}
use Prim.Native.Nat.{◌+◌, ◌-◌}
use native.Mathlib.Omega.{arith}
use Rattle.geometry.specs.PathLaws.{low_past, low_more, low_end}
use Rattle.geometry_parts.proofs.counts.minimum_path_sum_at_most.Goals as goal

pub returns-then-rem-cur : goal.returns-then-rem-cur
returns-then-rem-cur c = low_past c.loop.invariant (omega arith) c.if-rem-cur.true

pub loop-preserved : goal.loop-preserved
loop-preserved c =
    let l = c.loop in
    let one : c.args.levels - l.counter - 1 ≡ c.args.levels - (l.counter + 1) = omega arith in
    rw (c.minimum_next_bucket_count-cur.ensures, ← one) (low_more l.invariant (omega arith) c.if-rem-cur.false)

pub returns : goal.returns
returns c = low_end c.loop.invariant (omega arith)
