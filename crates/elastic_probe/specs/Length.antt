-- The length of a number in bits. Assumes nothing.
use Rattle.std.specs.Prelude.{ℕ, zero, suc, ◌/◌}

-- the length of n in bits, where d is at least n
unfoldable pub length_in : ℕ → ℕ → ℕ
length_in zero n = 0
length_in (suc d) zero = 0
length_in (suc d) (suc n) = suc (length_in d (suc n / 2))

-- none for 0, else one more than the place of the highest 1
unfoldable pub bits_of : ℕ → ℕ
unfolding length_in
bits_of n = length_in n n
