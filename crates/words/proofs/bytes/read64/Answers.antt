use Rattle.words.specs.BytesLaws.{digits_8}
use Rattle.words.proofs.bytes.read64.Goals as goal

pub returns : goal.returns
returns c = rw digits_8 c.from_le_bytes.ensures
