-- The finaliser of splitmix64, on numbers below 2 ^ 64. Assumes nothing.
use Rattle.std.specs.Prelude.{ℕ, zero, suc, ◌+◌, ◌*◌, ◌/◌, ◌%◌, ◌^◌}

-- the exclusive or of the k low bits of two numbers: each bit of the result is the sum of the two bits, modulo 2
unfoldable pub xor_bits : ℕ → ℕ → ℕ → ℕ
xor_bits zero a b = 0
xor_bits (suc k) a b = xor_bits k (a / 2) (b / 2) * 2 + (a + b) % 2

-- the exclusive or of two words
abbrev pub xor : ℕ → ℕ → ℕ
xor a b = xor_bits 64 a b

-- one of "x ^= x>>30", "x ^= x>>27", "x ^= x>>31"
unfoldable pub xor_shift : ℕ → ℕ → ℕ
xor_shift k x = xor x (x / 2 ^ k)

-- "x ^= x>>30, times BF58476D1CE4E5B9, x ^= x>>27, times 94D049BB133111EB, x ^= x>>31, modulo 2^64"
unfoldable pub mix64_of : ℕ → ℕ
unfolding xor_shift
mix64_of x = xor_shift 31 (xor_shift 27 (xor_shift 30 x * 0xBF58476D1CE4E5B9 % 2 ^ 64) * 0x94D049BB133111EB % 2 ^ 64)
