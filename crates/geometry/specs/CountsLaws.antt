-- Laws of the counts: path sums are monotone and leave no gap, at most one list of counts, when a next count is the largest. Assumes nothing.
use Rattle.std.specs.Prelude.{◌≡◌, refl, List, [], ◌∷◌, ℕ, zero, suc, ◌+◌, ◌-◌, ◌≤◌, ◌<◌, length}
use Rattle.std.proofs.Common.{ap₂, lt_of_not-le, arith}
use Rattle.std.proofs.Math.Decide.{dec_le}
use Rattle.geometry.specs.Extreme.{IsLargest}
use Rattle.geometry.specs.ExtremeLaws.{largest_one, smallest_one}
use Rattle.geometry.specs.Counts.{low, high, low_sum, high_sum, Follows, Rest, First, Counts}

pub low_mono : (x y : ℕ) → x ≤ y → low x ≤ low y
low_mono x y h = omega arith

pub high_mono : (x y : ℕ) → x ≤ y → high x ≤ high y
high_mono x y h = omega arith

pub low_high : (x : ℕ) → 0 < x → low x ≤ high x
low_high x h = omega arith

pub low_suc : (x : ℕ) → 0 < x → low (x + 1) ≤ high x
low_suc x h = omega arith

pub low_pos : (x : ℕ) → 0 < low x
low_pos x = omega arith

pub high_pos : (x : ℕ) → 0 < x → 0 < high x
high_pos x h = omega arith

pub low_sum_mono : (x y n : ℕ) → x ≤ y → low_sum x n ≤ low_sum y n
unfolding low_sum
low_sum_mono x y zero h = omega arith
low_sum_mono x y (suc n) h = let i = low_sum_mono (low x) (low y) n (low_mono x y h) in omega arith

pub high_sum_mono : (x y n : ℕ) → x ≤ y → high_sum x n ≤ high_sum y n
unfolding high_sum
high_sum_mono x y zero h = omega arith
high_sum_mono x y (suc n) h = let i = high_sum_mono (high x) (high y) n (high_mono x y h) in omega arith

-- one more at the start is at least one more in the sum
pub low_sum_more : (x n : ℕ) → low_sum x (suc n) < low_sum (x + 1) (suc n)
unfolding low_sum
low_sum_more x n = let i = low_sum_mono (low x) (low (x + 1)) n (low_mono x (x + 1) (omega arith)) in omega arith

pub high_sum_more : (x n : ℕ) → high_sum x (suc n) < high_sum (x + 1) (suc n)
unfolding high_sum
high_sum_more x n = let i = high_sum_mono (high x) (high (x + 1)) n (high_mono x (x + 1) (omega arith)) in omega arith

pub low_high_sums : (x n : ℕ) → 0 < x → low_sum x n ≤ high_sum x n
unfolding low_sum high_sum
low_high_sums x zero h = omega arith
low_high_sums x (suc n) h =
    let i = low_high_sums (low x) n (low_pos x) in
    let j = high_sum_mono (low x) (high x) n (low_high x h) in
    omega arith

-- the sums that x and x + 1 reach leave no gap
pub no_gap : (x n : ℕ) → 0 < x → low_sum (x + 1) n ≤ high_sum x n + 1
unfolding low_sum high_sum
no_gap x zero h = omega arith
no_gap x (suc n) h =
    let i = low_sum_mono (low (x + 1)) (high x) n (low_suc x h) in
    let j = low_high_sums (high x) n (high_pos x h) in
    omega arith

-- at most one list of counts
pub rest_one : (x sum : ℕ) (ys zs : List ℕ) → length ys ≡ length zs → Rest x sum ys → Rest x sum zs → ys ≡ zs
unfolding Rest
rest_one x sum [] [] e p q = refl
rest_one x sum [] (z ∷ zs) e p q = absurd (omega arith)
rest_one x sum (y ∷ ys) [] e p q = absurd (omega arith)
rest_one x sum (y ∷ ys) (z ∷ zs) e p q =
    let l : length ys ≡ length zs = omega arith in
    let b : IsLargest (Follows x (suc (length ys)) sum) z = rw l q.0 in
    let f : y ≡ z = largest_one p.0 b in
    let s : Rest y (sum - y) zs = rw f q.1 in
    ap₂ ◌∷◌ f (rest_one y (sum - y) ys zs l p.1 s)

pub first_one : {t n x y : ℕ} → First t n x → First t n y → x ≡ y
first_one p q =
    let a = smallest_one p.lo_smallest q.lo_smallest in
    let b = largest_one p.hi_largest q.hi_largest in
    omega arith

pub counts_one : (t n : ℕ) (xs ys : List ℕ) → Counts t n xs → Counts t n ys → xs ≡ ys
unfolding Counts
counts_one t n [] ys p q = absurd p
counts_one t n (x ∷ xs) [] p q = absurd q
counts_one t n (x ∷ xs) (y ∷ ys) p q =
    let f : x ≡ y = first_one p.1 q.1 in
    let s : Rest x (t - x) ys = rw f q.2 in
    let l : length xs ≡ length ys = omega arith in
    ap₂ ◌∷◌ f (rest_one x (t - x) xs ys l p.2 s)

-- a count that follows is the largest where it is the top, or where the next larger goes past the sum
module _ (x n sum y : ℕ) (from : low x ≤ y) (to : y ≤ high x) (next : y < high x → sum < low_sum (y + 1) (suc n)) where
  none_above : (z : ℕ) → Follows x (suc n) sum z → z ≤ y
  none_above z f = go (dec_le z y)
    where
      go : Dec (z ≤ y) → z ≤ y
      go (yes p) = p
      go (no q) =
          let l : y < z = lt_of_not-le q in
          let t = f.to in
          let g = next (omega arith) in
          let m = low_sum_mono (y + 1) z (suc n) (omega arith) in
          let b = f.brackets.least in
          absurd (omega arith)

  reaches : sum ≤ high_sum (high x) (suc n) → sum ≤ high_sum y (suc n)
  reaches h = go (dec_le (high x) y)
    where
      go : Dec (high x ≤ y) → sum ≤ high_sum y (suc n)
      go (yes p) = let m = high_sum_mono (high x) y (suc n) p in omega arith
      go (no q) =
          let g = next (lt_of_not-le q) in
          let m = no_gap y (suc n) (omega arith) in
          omega arith

  pub is_next : low_sum y (suc n) ≤ sum → sum ≤ high_sum (high x) (suc n) → IsLargest (Follows x (suc n) sum) y
  is_next a b = record { holds = record { from = from; to = to; brackets = record { least = a; most = reaches b } }; above = none_above }

-- the other way round
pub next_past : (x n sum y : ℕ) → IsLargest (Follows x n sum) y → y < high x → sum < low_sum (y + 1) n
next_past x n sum y l h = go (dec_le (low_sum (y + 1) n) sum)
  where
    go : Dec (low_sum (y + 1) n ≤ sum) → sum < low_sum (y + 1) n
    go (no q) = lt_of_not-le q
    go (yes p) =
        let f = l.holds in
        let m = high_sum_mono y (y + 1) n (omega arith) in
        let a = f.brackets.most in
        let b = f.from in
        let e = l.above (y + 1) (record { from = omega arith; to = omega arith; brackets = record { least = p; most = omega arith } }) in
        absurd (omega arith)
