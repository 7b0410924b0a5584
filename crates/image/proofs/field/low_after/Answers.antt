-- `image::field::low_after` meets its contract. Assumes nothing.
use Rattle.image.specs.Reading.{low_after, low_behind}
use Rattle.image.specs.KindLaws.{rank_most}
use borrow.Author.Tests.{eq-eqb, ne_eqb}
use native.Mathlib.Omega.{arith}
use Rattle.image.proofs.field.low_after.Goals as goal
use Rattle.image.proofs.field.low_after.Goals.{else-k-via-then-k+else-len-k, else-k-via-else-k}

pub returns-then-len-k : goal.returns-then-len-k
unfolding low_after low_behind
returns-then-len-k c = rw (← c.rank-place.ensures, ← c.kind_at-k.ensures, c.if-k.true, eq-eqb _ _ c.if-len-k.true)

pub overflow_add-result : goal.overflow_add-result
overflow_add-result c = omega (arith, c.rank-place.ensures, rank_most c.args.tag)

pub returns-else-k : goal.returns-else-k
unfolding low_after low_behind
returns-else-k c =
    elim c.else-k.branch [
      | else-k-via-then-k+else-len-k w ↦ rw (← c.rank-place.ensures, ← c.kind_at-k.ensures, w.if-k.true, ne_eqb _ _ w.if-len-k.false)
      | else-k-via-else-k w ↦ rw (← c.rank-place.ensures, ← c.kind_at-k.ensures, w.if-k.false)
    ]
