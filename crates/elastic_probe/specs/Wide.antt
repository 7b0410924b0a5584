-- Numbers of two words. Assumes nothing.
use Rattle.std.specs.Prelude.{ℕ, ◌+◌, ◌*◌, ◌/◌, ◌%◌, ◌^◌}
use Rattle.words.specs.declared.product.Wide.{Wide}

-- the number that two words make
abbrev pub wide_of : Wide → ℕ
wide_of w = w.hi * 2 ^ 64 + w.lo

-- the two words of a number
abbrev pub to_wide : ℕ → Wide
to_wide n = record { hi = n / 2 ^ 64; lo = n % 2 ^ 64 }
