-- `replay::line_buffer` meets its contract: the length of a repeated value, without counting it out. Assumes nothing.
use Rattle.std.proofs.Common.{ℕ, sym}
use lib.ListN.{length-replicate}
use Rattle.replay.proofs.line_buffer.Goals as goal

pub returns : goal.returns
returns c = sym (length-replicate {A = ℕ} 524289 0)
