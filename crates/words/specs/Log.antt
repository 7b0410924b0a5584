-- The logarithm to base 2, rounded up. Assumes nothing.
use Rattle.std.specs.Prelude.{ℕ, zero, suc, ◌+◌, ◌^◌, ◌≤◌, leb}
use Rattle.words.specs.Pick.{pick}

-- ceil(log2 n): k is the least with n ≤ 2 ^ k
pub record CeilLog2 (n k : ℕ) : Type 0 where
  pub covers : n ≤ 2 ^ k
  pub least : (j : ℕ) → n ≤ 2 ^ j → k ≤ j

-- the first of k, k + 1, .. whose power of two covers n, of at most `tries`
unfoldable pub first_from : (tries k n : ℕ) → ℕ
first_from zero k n = k
first_from (suc tries) k n = pick (leb n (2 ^ k)) k (first_from tries (k + 1) n)

-- the same as a number that computes, for n ≤ 2 ^ 64
unfoldable pub ceil_log2 : ℕ → ℕ
ceil_log2 n = first_from 64 0 n
