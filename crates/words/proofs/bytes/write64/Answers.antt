use Rattle.std.proofs.Common.{◌≡◌, ◌+◌, refl, sym, ◌∙◌}
use Rattle.words.specs.Bytes.{bytes_of}
use Rattle.words.specs.BytesLaws.{low_8, length_bytes, part_put}
use Rattle.words.proofs.bytes.write64.Goals as goal

pub returns : goal.returns
returns c =
    let e : c.copy_from_slice.new.self ≡ bytes_of 8 c.args.x = c.copy_from_slice.ensures.after ∙ c.to_le_bytes.ensures ∙ sym (low_8 c.args.x) in
    rw e (part_put _ (bytes_of 8 c.args.x) c.args.at (c.args.at + 8) (rw length_bytes refl) c.requires)
