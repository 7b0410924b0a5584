-- `image::reader::took` meets its contract. Assumes nothing.
use Rattle.image.specs.Cursor.{took_of}
use borrow.Author.Tests.{eq-eqb, ne_eqb}
use Rattle.image.proofs.reader.took.Goals as goal

pub returns-then-body-eq4 : goal.returns-then-body-eq4
unfolding took_of
returns-then-body-eq4 c = simp (c.named-t.ensures, c.low_after.ensures, c.if-body-eq4.true)

pub returns-then-body-eq5 : goal.returns-then-body-eq5
unfolding took_of
returns-then-body-eq5 c = simp (c.named-t.ensures, c.low_after.ensures, ne_eqb _ _ c.if-body-eq4.false, eq-eqb _ _ c.if-body-eq5.true)

pub returns-else-body-eq5 : goal.returns-else-body-eq5
unfolding took_of
returns-else-body-eq5 c = simp (c.named-t.ensures, c.low_after.ensures, ne_eqb _ _ c.if-body-eq4.false, ne_eqb _ _ c.if-body-eq5.false)
