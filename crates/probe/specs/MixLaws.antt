-- Laws of the exclusive or and of mix64. Assumes nothing.
use Rattle.std.specs.Prelude.{◌≡◌, ℕ, zero, suc, ◌+◌, ◌*◌, ◌/◌, ◌%◌, ◌^◌, ◌<◌, bit_xor, refl}
use Rattle.std.proofs.Common.{sym, ap, ap₂, ◌∙◌, pow-suc, zero-lt-suc, div-le_self, lt_of_le_of_lt, arith}
use Rattle.std.proofs.Math.Nat.{add-mod}
use Rattle.std.proofs.Math.Arith.{lt-one}
use Rattle.std.specs.Int.Bits.{differ, xor_step}
use Rattle.probe.specs.Mix.{xor_bits, xor_shift, mix64_of}

-- k bits make a number below 2 ^ k
pub xor_below : (k a b : ℕ) → xor_bits k a b < 2 ^ k
unfolding xor_bits
xor_below zero a b = zero-lt-suc zero
xor_below (suc k) a b = let h = xor_below k (a / 2) (b / 2) in omega (arith, pow-suc 2 k)

pub mix_below : (x : ℕ) → mix64_of x < 2 ^ 64
unfolding mix64_of xor_shift
mix_below x = xor_below 64 _ _

-- of two bits
differ_bits : (x y : ℕ) → x < 2 → y < 2 → differ x y ≡ (x + y) % 2
differ_bits zero y hx hy = omega arith
differ_bits (suc zero) zero hx hy = refl
differ_bits (suc zero) (suc zero) hx hy = refl
differ_bits (suc zero) (suc (suc y)) hx hy = absurd (omega arith)
differ_bits (suc (suc x)) y hx hy = absurd (omega arith)

-- the machine's exclusive or is that of the definition
pub xor_bits_lem : (k a b : ℕ) → a < 2 ^ k → b < 2 ^ k → bit_xor a b ≡ xor_bits k a b
unfolding xor_bits
xor_bits_lem zero a b ha hb = ap₂ bit_xor (lt-one ha) (lt-one hb)
xor_bits_lem (suc k) a b ha hb =
    xor_step a b
    ∙ ap₂ (λ (x y : ℕ). x * 2 + y) (xor_bits_lem k (a / 2) (b / 2) (omega (arith, pow-suc 2 k)) (omega (arith, pow-suc 2 k)))
    (differ_bits (a % 2) (b % 2) (omega arith) (omega arith) ∙ sym (add-mod a b 2))

xor_shift_lem : (k x : ℕ) → x < 2 ^ 64 → bit_xor x (x / 2 ^ k) ≡ xor_shift k x
unfolding xor_shift
xor_shift_lem k x h = xor_bits_lem 64 x (x / 2 ^ k) h (lt_of_le_of_lt (div-le_self x (2 ^ k)) h)

-- the steps of the code, with what each multiplication ensures
pub mix_steps : (x a b : ℕ) → x < 2 ^ 64 → a < 2 ^ 64 → b < 2 ^ 64
    → a ≡ bit_xor x (x / 2 ^ 30) * 0xBF58476D1CE4E5B9 % 2 ^ 64
    → b ≡ bit_xor a (a / 2 ^ 27) * 0x94D049BB133111EB % 2 ^ 64
    → bit_xor b (b / 2 ^ 31) ≡ mix64_of x
unfolding mix64_of
mix_steps x a b hx ha hb ea eb =
    xor_shift_lem 31 b hb
    ∙ ap (xor_shift 31) (eb ∙ ap (λ (y : ℕ). y * 0x94D049BB133111EB % 2 ^ 64) (xor_shift_lem 27 a ha
    ∙ ap (xor_shift 27) (ea ∙ ap (λ (y : ℕ). y * 0xBF58476D1CE4E5B9 % 2 ^ 64) (xor_shift_lem 30 x hx))))
