use native.Mathlib.Omega.{arith}
use Rattle.words.specs.BytesLaws.{digits_2}
use Rattle.words.proofs.bytes.read16.Goals as goal

pub returns : goal.returns
returns c = record { is = rw digits_2 (omega (arith, c.from.ensures, c.from_le_bytes.ensures)); below = omega (arith, c.from.ensures) }
