-- `words::power::ceil_log2` meets its contract. Assumes nothing.
use mathlib.Core.Path.{◌≡◌, subst}
use Prim.Native.Nat.{ℕ, ◌+◌, ◌-◌}
use native.Mathlib.Omega.{arith}
use Rattle.words.specs.Log.{CeilLog2}
use Rattle.words.proofs.power.ceil_log2.Goals as goal

pub returns : goal.returns
returns c =
    let n = c.args.n in
    let e : n - 1 + 1 ≡ n = omega arith in
    subst (λ (x : ℕ). CeilLog2 x c.bit_length.result) e c.bit_length.ensures
