-- A list that is cleared to its end. Assumes nothing.
use Rattle.std.specs.Prelude.{◌≡◌, List, ◌++◌, ℕ, ◌≤◌, length, drop, replicate}
use Rattle.std.proofs.Common.{append-nil, arith, drop_of_length-le}

pub cleared : (n : ℕ) (l : List ℕ) → length l ≤ n → n ≤ length l → replicate n 0 ++ drop n l ≡ replicate (length l) 0
cleared n l a b = let e : n ≡ length l = omega arith in rw (drop_of_length-le l a, append-nil, e)
