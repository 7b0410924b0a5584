use native.Mathlib.Omega.{arith}
use Rattle.words.specs.BytesLaws.{digits_4}
use Rattle.words.proofs.bytes.read32.Goals as goal

pub returns : goal.returns
returns c = record { is = rw digits_4 (omega (arith, c.from.ensures, c.from_le_bytes.ensures)); below = omega (arith, c.from.ensures) }
