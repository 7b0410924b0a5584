-- The length of a block, tested past the other tests of a call. Assumes nothing.
use Rattle.std.specs.Prelude.{Ok, Err, not, ℕ, eqb}
use Rattle.refusal.specs.declared.Gate.TheVariants as gate
use Rattle.geometry.specs.Config.{Gated, refuse_if}

-- "a block of another length .. is STATE, tested with the other buffers"
unfoldable pub block_gate : Gated → (given wanted : ℕ) → Gated
block_gate (Err g) given wanted = Err g
block_gate (Ok _) given wanted = refuse_if (not (eqb given wanted)) gate.State (Ok tt)
