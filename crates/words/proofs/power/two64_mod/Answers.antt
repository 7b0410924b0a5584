-- `words::power::two64_mod` meets its contract. Assumes nothing.
use mathlib.Core.Path.{◌≡◌, ap, sym, ◌∙◌}
use Prim.Native.Nat.{ℕ, ◌+◌, ◌-◌, ◌%◌, ◌^◌}
use native.Mathlib.Nat.{mod-eq-sub-mod}
use native.Mathlib.Omega.{arith}
use Rattle.words.proofs.power.two64_mod.Goals as goal

pub returns : goal.returns
returns c =
    let u = c.args.u in
    let e : 18446744073709551615 - u + 1 ≡ 2 ^ 64 - u = omega arith in
    ap (λ (n : ℕ). n % u) e ∙ sym (mod-eq-sub-mod {n = 2 ^ 64} {m = u} (omega arith))
