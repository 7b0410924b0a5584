-- `words::power::floor_div_pow2` meets its contract. Assumes nothing.
use mathlib.Core.Path.{sym}
use native.Mathlib.Nat.{div-eq_of_lt}
use native.Mathlib.Omega.{arith}
use lib.Pow.{pow_mono}
use Rattle.words.proofs.power.floor_div_pow2.Goals as goal

pub returns-then-k-ge64 : goal.returns-then-k-ge64
returns-then-k-ge64 c = sym (div-eq_of_lt (omega (arith, pow_mono c.if-k-ge64.true)))
