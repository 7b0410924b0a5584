use Rattle.std.proofs.Common.{◌≡◌, ◌+◌, refl, sym, ◌∙◌}
use Rattle.words.specs.Bytes.{bytes_of}
use Rattle.words.specs.BytesLaws.{low_2, length_bytes, part_put}
use Rattle.words.proofs.bytes.write16.Goals as goal

pub returns : goal.returns
returns c =
    let e : c.copy_from_slice.new.self ≡ bytes_of 2 c.args.x = c.copy_from_slice.ensures.after ∙ c.to_le_bytes.ensures ∙ sym (low_2 c.args.x) in
    rw e (part_put _ (bytes_of 2 c.args.x) c.args.at (c.args.at + 2) (rw length_bytes refl) c.requires)
