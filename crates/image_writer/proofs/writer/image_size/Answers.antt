-- `image_writer::writer::image_size` meets its contract. Assumes nothing.
use native.Mathlib.Omega.{arith}
use borrow.Author.Tests.{eq-eqb, ne_eqb}
use Rattle.image.specs.Format.{fields_for}
use Rattle.image_writer.specs.Pieces.{size_of}
use Rattle.image_writer.proofs.writer.image_size.Goals as goal

pub returns-then-label_len-eq0 : goal.returns-then-label_len-eq0
unfolding size_of fields_for
returns-then-label_len-eq0 c = rw (eq-eqb _ _ c.if-label_len-eq0.true) (omega arith)

pub returns : goal.returns
unfolding size_of fields_for
returns c = rw (ne_eqb _ _ c.if-label_len-eq0.false) (omega arith)
