-- Laws of quotients rounded up. Assumes nothing.
use Rattle.std.specs.Prelude.{◌≡◌, ℕ, ◌+◌, ◌-◌, ◌*◌, ◌/◌, ◌<◌}
use Rattle.std.proofs.Common.{ap, ◌∙◌, mul-one, arith}
use Rattle.std.proofs.Math.Nat.{add-mul-div_left, div-eq_of_lt}
use Rattle.words.specs.Quotient.{ceil_div}

pub ceil_zero : (d : ℕ) → 0 < d → ceil_div 0 d ≡ 0
ceil_zero d pos = div-eq_of_lt (omega arith)

-- one more than the floor of what is below x
pub ceil_floor : (x d : ℕ) → 0 < d → 0 < x → ceil_div x d ≡ (x - 1) / d + 1
ceil_floor x d pos some =
    let e : x + (d - 1) ≡ x - 1 + d * 1 = omega (arith, mul-one d) in
    ap (λ (n : ℕ). n / d) e ∙ add-mul-div_left (x - 1) 1 {y = d} pos
