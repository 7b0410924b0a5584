-- There are counts exactly where there are as many buckets as levels. Assumes nothing.
use Rattle.std.specs.Prelude.{◌≡◌, refl, List, [], ◌∷◌, ℕ, zero, suc, ◌+◌, ◌-◌, ◌≤◌, ◌<◌, min, max, length}
use Rattle.std.proofs.Common.{ap, lt_of_not-le, arith}
use Rattle.std.proofs.Math.Decide.{dec_le}
use Rattle.geometry.specs.Extreme.{IsLargest, IsSmallest}
use Rattle.geometry.specs.Counts.{low, high, low_sum, high_sum, Brackets, Follows, Rest, quarter, First, Counts}
use Rattle.geometry.specs.Filled.{Fits}
use Rattle.geometry.specs.CountsLaws.{low_sum_mono, high_sum_mono, no_gap, is_next}
use Rattle.geometry.specs.ChainLaws.{first_tests, down, up}

pub fits_next : (x n sum y : ℕ) → IsLargest (Follows x (suc n) sum) y → Fits y n (sum - y)
unfolding low_sum high_sum
fits_next x n sum y l =
    let f = l.holds in
    let a = f.from in
    let b = f.brackets.least in
    let d = f.brackets.most in
    record { pos = omega arith; least = omega arith; most = omega arith }

pub fits_first : (t n x : ℕ) → 0 < x → Brackets x (suc n) t → Fits x n (t - x)
unfolding low_sum high_sum
fits_first t n x h b =
    let a = b.least in
    let d = b.most in
    record { pos = h; least = omega arith; most = omega arith }

-- the three ways to choose what follows
module _ (x n sum : ℕ) (f : Fits x (suc n) sum) where
  pub choose_top : low_sum (high x) (suc n) ≤ sum → IsLargest (Follows x (suc n) sum) (high x)
  choose_top h = let p = f.pos in is_next x n sum (high x) (omega arith) (omega arith) (λ l. absurd (omega arith)) h f.most

  module _ (past : sum < low_sum (high x) (suc n)) where
    above_bottom : low x < high x
    above_bottom = go (dec_le (high x) (low x))
      where
        go : Dec (high x ≤ low x) → low x < high x
        go (yes p) = let m = low_sum_mono (high x) (low x) (suc n) p in let l = f.least in absurd (omega arith)
        go (no q) = lt_of_not-le q

    pub choose_middle : low_sum (high x - 1) (suc n) ≤ sum → IsLargest (Follows x (suc n) sum) (high x - 1)
    choose_middle h =
        let a = above_bottom in
        let e : high x - 1 + 1 ≡ high x = omega arith in
        is_next x n sum (high x - 1) (omega arith) (omega arith) (λ l. rw e past) h f.most

    pub choose_bottom : sum < low_sum (high x - 1) (suc n) → IsLargest (Follows x (suc n) sum) (low x)
    choose_bottom h =
        let a = above_bottom in
        let g : sum < low_sum (low x + 1) (suc n) = go (dec_le (high x) (low x + 1)) in
        is_next x n sum (low x) (omega arith) (omega arith) (λ l. g) f.least f.most
      where
        go : Dec (high x ≤ low x + 1) → sum < low_sum (low x + 1) (suc n)
        go (yes p) = let m = low_sum_mono (high x) (low x + 1) (suc n) p in omega arith
        go (no q) = let p = f.pos in let l = lt_of_not-le q in let m = low_sum_mono (high x - 1) (low x + 1) (suc n) (omega arith) in omega arith

  pub choose : (y : ℕ) × IsLargest (Follows x (suc n) sum) y
  choose = go (dec_le (low_sum (high x) (suc n)) sum) (dec_le (low_sum (high x - 1) (suc n)) sum)
    where
      go : Dec (low_sum (high x) (suc n) ≤ sum) → Dec (low_sum (high x - 1) (suc n) ≤ sum) → (y : ℕ) × IsLargest (Follows x (suc n) sum) y
      go (yes p) r = (high x, choose_top p)
      go (no q) (yes p) = (high x - 1, choose_middle (lt_of_not-le q) p)
      go (no q) (no r) = (low x, choose_bottom (lt_of_not-le q) (lt_of_not-le r))

pub rest_exists : (x n sum : ℕ) → Fits x n sum → (ys : List ℕ) × (length ys ≡ n) × Rest x sum ys
unfolding Rest low_sum high_sum
rest_exists x zero sum f = ([], refl, let a = f.most in omega arith)
rest_exists x (suc n) sum f = let c = choose x n sum f in go c.0 c.1 (rest_exists c.0 n (sum - c.0) (fits_next x n sum c.0 c.1))
  where
    go : (y : ℕ) → IsLargest (Follows x (suc n) sum) y → (ys : List ℕ) × (length ys ≡ n) × Rest y (sum - y) ys → (ys : List ℕ) × (length ys ≡ suc n) × Rest x sum ys
    go y l r = let e = r.1 in (y ∷ r.0, omega arith, (rw e l, r.2))

pub low_sum_one : (n : ℕ) → low_sum 1 n ≡ n
unfolding low_sum
low_sum_one zero = refl
low_sum_one (suc n) = let i = low_sum_one n in omega arith

pub high_sum_zero : (n : ℕ) → high_sum 0 n ≡ 0
unfolding high_sum
high_sum_zero zero = refl
high_sum_zero (suc n) = let i = high_sum_zero n in omega arith

pub reach_pos : (t n y : ℕ) → 0 < t → t ≤ high_sum y n → 0 < y
reach_pos t n zero h r = absurd (omega (arith, high_sum_zero n))
reach_pos t n (suc y) h r = omega arith

-- the first count is there, and its paths bracket the sum
pub first_exists : (t n : ℕ) → suc n ≤ t → (x : ℕ) × First t (suc n) x × (0 < x) × Brackets x (suc n) t
first_exists t n h = go (up t n 1 t (omega arith) (omega (arith, low_sum_one (suc n))))
  where
    go : (y : ℕ) × IsLargest (λ z. low_sum z (suc n) ≤ t) y → (x : ℕ) × First t (suc n) x × (0 < x) × Brackets x (suc n) t
    go b = more (down t (suc n) b.0 reach)
      where
        pos : 1 ≤ b.0
        pos = b.1.above 1 (omega (arith, low_sum_one (suc n)))

        past : Dec (low_sum (b.0 + 1) (suc n) ≤ t) → t < low_sum (b.0 + 1) (suc n)
        past (yes p) = let a = b.1.above (b.0 + 1) p in absurd (omega arith)
        past (no q) = lt_of_not-le q

        reach : t ≤ high_sum b.0 (suc n)
        reach = omega (arith, no_gap b.0 (suc n) pos, past (dec_le (low_sum (b.0 + 1) (suc n)) t))

        more : (y : ℕ) × IsSmallest (λ z. t ≤ high_sum z (suc n)) y → (x : ℕ) × First t (suc n) x × (0 < x) × Brackets x (suc n) t
        more a =
            let o = a.1.below b.0 reach in
            let x = max a.0 (min b.0 (quarter t)) in (
              x,
              record { lo = a.0; hi = b.0; lo_smallest = a.1; hi_largest = b.1; ordered = o; clamped = refl },
              omega (arith, reach_pos t (suc n) a.0 (omega arith) a.1.holds),
              record { least = omega (arith, low_sum_mono x b.0 (suc n) (omega arith), b.1.holds); most = omega (arith, high_sum_mono a.0 x (suc n) (omega arith), a.1.holds) },
            )

pub counts_exist : (t n : ℕ) → suc n ≤ t → (xs : List ℕ) × Counts t (suc n) xs
unfolding Counts
counts_exist t n h = go (first_exists t n h)
  where
    go : (x : ℕ) × First t (suc n) x × (0 < x) × Brackets x (suc n) t → (xs : List ℕ) × Counts t (suc n) xs
    go f = let r = rest_exists f.0 n (t - f.0) (fits_first t n f.0 f.2 f.3) in (f.0 ∷ r.0, (ap suc r.1, f.1, r.2))

-- and only there: fewer buckets than levels have none
pub low_sum_levels : (x n : ℕ) → 0 < x → n ≤ low_sum x n
unfolding low_sum
low_sum_levels x zero h = omega arith
low_sum_levels x (suc n) h = let i = low_sum_levels (low x) n (omega arith) in omega arith

pub counts_need : (t n : ℕ) (xs : List ℕ) → 0 < t → Counts t n xs → n ≤ t
unfolding Counts
counts_need t n [] h c = absurd c
counts_need t n (x ∷ xs) h c =
    let b = (first_tests t n x c.1).brackets in
    let l = low_sum_levels x n (reach_pos t n x h b.most) in
    let m = b.least in
    omega arith
