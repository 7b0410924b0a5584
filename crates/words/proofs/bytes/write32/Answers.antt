use Rattle.std.proofs.Common.{◌≡◌, ◌+◌, refl, sym, ◌∙◌}
use Rattle.words.specs.Bytes.{bytes_of}
use Rattle.words.specs.BytesLaws.{low_4, length_bytes, part_put}
use Rattle.words.proofs.bytes.write32.Goals as goal

pub returns : goal.returns
returns c =
    let e : c.copy_from_slice.new.self ≡ bytes_of 4 c.args.x = c.copy_from_slice.ensures.after ∙ c.to_le_bytes.ensures ∙ sym (low_4 c.args.x) in
    rw e (part_put _ (bytes_of 4 c.args.x) c.args.at (c.args.at + 4) (rw length_bytes refl) c.requires)
