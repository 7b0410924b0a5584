-- `words::power::ceil_div_pow2` meets its contract. Assumes nothing.
use mathlib.Core.Path.{sym, ap, ◌∙◌}
use Prim.Native.Nat.{ℕ, ◌+◌, ◌-◌, ◌^◌}
use native.Mathlib.Omega.{arith}
use native.Mathlib.Nat.{div-le_self}
use lib.Pow.{pow_pos}
use Rattle.words.specs.Quotient.{ceil_div}
use Rattle.words.specs.QuotientLaws.{ceil_zero, ceil_floor}
use Rattle.words.proofs.power.ceil_div_pow2.Goals as goal

pub returns-then-x-eq0 : goal.returns-then-x-eq0
returns-then-x-eq0 c = sym (ap (λ (x : ℕ). ceil_div x (2 ^ c.args.k)) c.if-x-eq0.true ∙ ceil_zero (2 ^ c.args.k) (pow_pos c.args.k))

pub overflow_add-result : goal.overflow_add-result
overflow_add-result c = omega (arith, div-le_self (c.args.x - 1) (2 ^ c.args.k))

pub returns : goal.returns
returns c =
    ap (λ (r : ℕ). r + 1) c.floor_div_pow2.ensures
    ∙ sym (ceil_floor c.args.x (2 ^ c.args.k) (pow_pos c.args.k) (omega arith))
