-- Quotients rounded up. Assumes nothing.
use Rattle.std.specs.Prelude.{ℕ, ◌+◌, ◌-◌, ◌/◌}

-- ceil(x / d), for d above 0
abbrev pub ceil_div : ℕ → ℕ → ℕ
ceil_div x d = (x + (d - 1)) / d
