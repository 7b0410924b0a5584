-- `image_writer::writer::write_label` meets its contract. Assumes nothing.
use Rattle.image_writer.specs.ImageLaws.{put_none, put_label}
use Rattle.image_writer.proofs.writer.write_label.Goals as goal

pub returns-then-n-eq0 : goal.returns-then-n-eq0
returns-then-n-eq0 c = put_none _ _ _ c.if-n-eq0.true

pub returns : goal.returns
returns c = put_label _ _ _ _ _ c.if-n-eq0.false c.write_head.ensures c.copy_in.ensures
