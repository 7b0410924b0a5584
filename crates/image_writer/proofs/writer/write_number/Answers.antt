-- `image_writer::writer::write_number` meets its contract. Assumes nothing.
use Rattle.std.proofs.Common.{◌≡◌, ◌+◌, length, take, ap, sym, ◌∙◌}
use lib.Seq.{length-sets}
use native.Mathlib.Omega.{arith}
use Rattle.words.specs.Bytes.{bytes_of}
use Rattle.words.specs.BytesLaws.{low_8, length_bytes, part_put}
use Rattle.image_writer.specs.ImageLaws.{put_number, take_bytes}
use Rattle.image_writer.proofs.writer.write_number.Goals as goal

pub returns : goal.returns
returns g c =
    let b : c.to_le_bytes.result ≡ bytes_of 8 c.args.x = c.to_le_bytes.ensures ∙ sym (low_8 c.args.x) in
    let e : c.copy_from_slice.new.self ≡ bytes_of g.row.N c.args.x = c.copy_from_slice.ensures.after ∙ ap (take g.row.N) b ∙ take_bytes g.row.N 8 c.args.x c.requires.0 in
    let n = simp length-sets at (ap length c.write_head.ensures) in
    let l = length_bytes g.row.N c.args.x in
    put_number c.args.tag g.row.N c.args.x _ c.write_head.new.out _ c.args.at c.write_head.ensures
    (rw e (part_put c.write_head.new.out (bytes_of g.row.N c.args.x) (c.args.at + 3) (c.args.at + (3 + g.row.N)) (omega arith) (omega arith)))
