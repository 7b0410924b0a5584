-- Bits spread to every second place. Assumes nothing.
use Rattle.std.specs.Prelude.{ℕ, zero, suc, ◌+◌, ◌*◌, ◌/◌, ◌%◌}

-- bit k of j at place 2 k, for the t low bits
unfoldable pub spread_of : ℕ → ℕ → ℕ
spread_of zero j = 0
spread_of (suc t) j = spread_of t (j / 2) * 4 + j % 2
