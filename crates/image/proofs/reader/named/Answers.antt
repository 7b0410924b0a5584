-- `image::reader::named` meets its contract. Assumes nothing.
use Rattle.image.specs.Reading.{told_head}
use Rattle.image.specs.KindLaws.{len_1, len_2, len_3}
use borrow.Author.Tests.{eq-eqb, ne_eqb}
use native.Mathlib.Omega.{arith}
use Rattle.image.proofs.reader.named.Goals as goal

pub read64-requires : goal.read64-requires
read64-requires c = omega (arith, len_1 _ _ c.args.body.now.right c.if-body-eq1.true)

pub returns-then-body-eq1 : goal.returns-then-body-eq1
unfolding told_head
returns-then-body-eq1 c = simp (c.read64.ensures, eq-eqb _ _ c.if-body-eq1.true)

pub read32-requires : goal.read32-requires
read32-requires c = omega (arith, len_2 _ _ c.args.body.now.right c.if-body-eq2.true)

pub returns-then-body-eq2 : goal.returns-then-body-eq2
unfolding told_head
returns-then-body-eq2 c = simp (c.read32.ensures.is, ne_eqb _ _ c.if-body-eq1.false, eq-eqb _ _ c.if-body-eq2.true)

pub read64-requires-then-body-eq3 : goal.read64-requires-then-body-eq3
read64-requires-then-body-eq3 c = omega (arith, len_3 _ _ c.args.body.now.right c.if-body-eq3.true)

pub returns-then-body-eq3 : goal.returns-then-body-eq3
unfolding told_head
returns-then-body-eq3 c = simp (c.read64-then-body-eq3.ensures, ne_eqb _ _ c.if-body-eq1.false, ne_eqb _ _ c.if-body-eq2.false, eq-eqb _ _ c.if-body-eq3.true)

pub returns-else-body-eq3 : goal.returns-else-body-eq3
unfolding told_head
returns-else-body-eq3 c = simp (ne_eqb _ _ c.if-body-eq1.false, ne_eqb _ _ c.if-body-eq2.false, ne_eqb _ _ c.if-body-eq3.false)
