-- phi and its inverse, on numbers. Assumes nothing.
use Rattle.std.specs.Prelude.{ℕ, zero, suc, ◌+◌, ◌*◌, ◌-◌, ◌/◌, ◌%◌, ◌^◌, ltb}
use Rattle.words.specs.Pick.{pick}
use Rattle.elastic_probe.specs.Length.{bits_of}

-- "for each bit of j from the top, a 1 then that bit", of the t low bits of j
unfoldable pub pairs : ℕ → ℕ → ℕ
pairs zero j = 0
pairs (suc t) j = pairs t (j / 2) * 4 + 2 + j % 2

-- "then 0; then i from its top bit"
unfoldable pub phi : ℕ → ℕ → ℕ
unfolding pairs bits_of
phi i j = pairs (bits_of j) j * 2 ^ (bits_of i + 1) + i

-- what stands at a position
pub data Coords : Type 0 where
  gap : Coords
  at : (i j : ℕ) → Coords

-- k bits are left and they hold x; j has been read. The next bit is 0: i is the rest, whose top bit is 1.
-- It is 1: a bit of j follows.
unfoldable pub parse : ℕ → ℕ → ℕ → Coords
parse zero x j = gap
parse (suc zero) x j = gap
parse (suc (suc k)) x j =
    pick (ltb x (2 * 2 ^ k))
    (pick (ltb x (2 ^ k)) gap (at x j))
    (parse k (x % 2 ^ k) (j * 2 + x / 2 ^ k % 2))

-- the first pair is two ones, since j's top bit is 1
unfoldable pub start : ℕ → ℕ → Coords
unfolding parse
start zero p = gap
start (suc zero) p = gap
start (suc (suc k)) p = pick (ltb p (3 * 2 ^ k)) gap (parse k (p - 3 * 2 ^ k) 1)

-- the coordinates of a position, read from its top bit down
unfoldable pub coords_of : ℕ → Coords
unfolding start bits_of
coords_of p = start (bits_of p) p
