-- The counts are exactly what the cheap test sees: largest steps within the bounds with the right sum, and the first count. Assumes nothing.
use Rattle.std.specs.Prelude.{◌≡◌, refl, List, [], ◌∷◌, ℕ, zero, suc, ◌+◌, ◌-◌, ◌≤◌, ◌<◌, min, max, length}
use Rattle.std.proofs.Common.{ap, ◌∙◌, lt_of_not-le, arith}
use Rattle.std.proofs.Math.Decide.{dec_le}
use Rattle.geometry.specs.Extreme.{IsLargest, IsSmallest}
use Rattle.geometry.specs.Counts.{low, high, low_sum, high_sum, Brackets, Rest, quarter, First, Counts, total}
use Rattle.geometry.specs.CountsLaws.{low_sum_mono, high_sum_mono, low_sum_more, is_next, next_past}
use Rattle.geometry.specs.Chain.{Steps, Tight}

-- a path whose steps lie within the bounds has its sum between those of the smallest and of the largest
pub steps_bracket : (x : ℕ) (ys : List ℕ) → Steps x ys → Brackets x (suc (length ys)) (x + total ys)
unfolding Steps total low_sum high_sum
steps_bracket x [] s = record { least = omega arith; most = omega arith }
steps_bracket x (y ∷ ys) s =
    let i = steps_bracket y ys s.2 in
    let a = i.least in
    let b = i.most in
    let u = low_sum_mono (low x) y (suc (length ys)) s.0 in
    let v = high_sum_mono y (high x) (suc (length ys)) s.1 in
    record { least = omega arith; most = omega arith }

pub low_sum_from : (x n : ℕ) → x ≤ low_sum x (suc n)
unfolding low_sum
low_sum_from x n = omega arith

-- from x on along the smallest path to the end
unfoldable pub Lowest : ℕ → List ℕ → Type 0
Lowest x [] = Unit {0}
Lowest x (y ∷ ys) = (y ≡ low x) × Lowest y ys

pub lowest_sum : (x : ℕ) (ys : List ℕ) → Lowest x ys → x + total ys ≡ low_sum x (suc (length ys))
unfolding Lowest total low_sum
lowest_sum x [] l = refl
lowest_sum x (y ∷ ys) l =
    let e : y ≡ low x = l.0 in
    let i = lowest_sum y ys l.1 in
    ap (λ (n : ℕ). x + n) (i ∙ ap (λ (n : ℕ). low_sum n (suc (length ys))) e)

-- there the next larger goes past the sum by itself
pub lowest_past : (y : ℕ) (ys : List ℕ) → Lowest y ys → y + total ys < low_sum (y + 1) (suc (length ys))
lowest_past y ys l = omega (arith, lowest_sum y ys l, low_sum_more y (length ys))

pub rest_of_test : (x : ℕ) (ys : List ℕ) → Steps x ys → Tight x ys → Rest x (total ys) ys
unfolding Rest Steps Tight total
rest_of_test x [] s m = refl
rest_of_test x (y ∷ ys) s m =
    let b = steps_bracket y ys s.2 in
    let e : y + total ys - y ≡ total ys = omega arith in
    let v = high_sum_mono y (high x) (suc (length ys)) s.1 in
    let u = b.most in
    (is_next x (length ys) (y + total ys) y s.0 s.1 m.0 b.least (omega arith), rw e (rest_of_test y ys s.2 m.1))

-- what the rest of the counts comes to, in parts
pub record Tested (x sum : ℕ) (ys : List ℕ) : Type 0 where
  pub steps : Steps x ys
  pub tight : Tight x ys
  pub sums : sum ≡ total ys

pub test_of_rest : (x sum : ℕ) (ys : List ℕ) → Rest x sum ys → Tested x sum ys
unfolding Rest Steps Tight total low_sum
test_of_rest x sum [] r = record { steps = tt; tight = tt; sums = r }
test_of_rest x sum (y ∷ ys) r =
    let i = test_of_rest y (sum - y) ys r.1 in
    let h = r.0.holds in
    let b = h.brackets.least in
    let s = i.sums in
    let e : sum ≡ y + total ys = omega arith in
    let p = next_past x (suc (length ys)) sum y r.0 in
    record { steps = (h.from, h.to, i.steps); tight = ((λ k. let q = p k in omega arith), i.tight); sums = e }

pub test_gives : (x sum : ℕ) (ys : List ℕ) → Tested x sum ys → Rest x sum ys
test_gives x sum ys t = let e = t.sums in rw e (rest_of_test x ys t.steps t.tight)

-- the first count, by itself
pub record FirstTested (t n x : ℕ) : Type 0 where
  pub brackets : Brackets x n t
  pub larger : quarter t < x → high_sum (x - 1) n < t
  pub smaller : x < quarter t → t < low_sum (x + 1) n

pub first_tests : (t n x : ℕ) → First t n x → FirstTested t n x
first_tests t n x f = record { brackets = record { least = least; most = most }; larger = larger; smaller = smaller }
  where
    e : x ≡ max f.lo (min f.hi (quarter t))
    e = f.clamped

    o : f.lo ≤ f.hi
    o = f.ordered

    least : low_sum x n ≤ t
    least = let m = low_sum_mono x f.hi n (omega arith) in let h = f.hi_largest.holds in omega arith

    most : t ≤ high_sum x n
    most = let m = high_sum_mono f.lo x n (omega arith) in let h = f.lo_smallest.holds in omega arith

    larger : quarter t < x → high_sum (x - 1) n < t
    larger h = go (dec_le t (high_sum (x - 1) n))
      where
        go : Dec (t ≤ high_sum (x - 1) n) → high_sum (x - 1) n < t
        go (yes p) = let b = f.lo_smallest.below (x - 1) p in absurd (omega arith)
        go (no q) = lt_of_not-le q

    smaller : x < quarter t → t < low_sum (x + 1) n
    smaller h = go (dec_le (low_sum (x + 1) n) t)
      where
        go : Dec (low_sum (x + 1) n ≤ t) → t < low_sum (x + 1) n
        go (yes p) = let b = f.hi_largest.above (x + 1) p in absurd (omega arith)
        go (no q) = lt_of_not-le q

-- the smallest whose largest path reaches t, from one that does
pub down : (t n x : ℕ) → t ≤ high_sum x n → (y : ℕ) × IsSmallest (λ z. t ≤ high_sum z n) y
down t n zero h = (zero, record { holds = h; below = λ z p. omega arith })
down t n (suc x) h = go (dec_le t (high_sum x n)) (down t n x)
  where
    go : Dec (t ≤ high_sum x n) → (t ≤ high_sum x n → (y : ℕ) × IsSmallest (λ z. t ≤ high_sum z n) y) → (y : ℕ) × IsSmallest (λ z. t ≤ high_sum z n) y
    go (yes p) r = r p
    go (no q) r = (suc x, record { holds = h; below = λ z p. under z p (dec_le (suc x) z) })
      where
        under : (z : ℕ) → t ≤ high_sum z n → Dec (suc x ≤ z) → suc x ≤ z
        under z p (yes l) = l
        under z p (no f) = let m = high_sum_mono z x n (let l = lt_of_not-le f in omega arith) in let g = lt_of_not-le q in absurd (omega arith)

-- the largest whose smallest path stays within t, from one that does
pub up : (t n x fuel : ℕ) → x + fuel ≡ t + 1 → low_sum x (suc n) ≤ t → (y : ℕ) × IsLargest (λ z. low_sum z (suc n) ≤ t) y
unfolding low_sum
up t n x zero e h = absurd (omega arith)
up t n x (suc fuel) e h = go (dec_le (low_sum (x + 1) (suc n)) t) (up t n (x + 1) fuel (omega arith))
  where
    go : Dec (low_sum (x + 1) (suc n) ≤ t) → (low_sum (x + 1) (suc n) ≤ t → (y : ℕ) × IsLargest (λ z. low_sum z (suc n) ≤ t) y) → (y : ℕ) × IsLargest (λ z. low_sum z (suc n) ≤ t) y
    go (yes p) r = r p
    go (no q) r = (x, record { holds = h; above = λ z p. over z p (dec_le z x) })
      where
        over : (z : ℕ) → low_sum z (suc n) ≤ t → Dec (z ≤ x) → z ≤ x
        over z p (yes l) = l
        over z p (no f) = let m = low_sum_mono (x + 1) z (suc n) (let l = lt_of_not-le f in omega arith) in let g = lt_of_not-le q in absurd (omega arith)

pub first_of_test : (t n x : ℕ) → FirstTested t (suc n) x → First t (suc n) x
unfolding low_sum
first_of_test t n x f = make (down t (suc n) x f.brackets.most) (up t n x (t + 1 - x) (let b = f.brackets.least in omega arith) f.brackets.least)
  where
    make : (y : ℕ) × IsSmallest (λ z. t ≤ high_sum z (suc n)) y → (y : ℕ) × IsLargest (λ z. low_sum z (suc n) ≤ t) y → First t (suc n) x
    make a b = record { lo = a.0; hi = b.0; lo_smallest = a.1; hi_largest = b.1; ordered = omega (arith, under, over); clamped = clamp (dec_le x (quarter t)) (dec_le (quarter t) x) }
      where
        under : a.0 ≤ x
        under = a.1.below x f.brackets.most

        over : x ≤ b.0
        over = b.1.above x f.brackets.least

        not_less : quarter t < x → Dec (x ≤ a.0) → x ≤ a.0
        not_less h (yes p) = p
        not_less h (no q) = let l = lt_of_not-le q in let m = high_sum_mono a.0 (x - 1) (suc n) (omega arith) in let g = f.larger h in let k = a.1.holds in absurd (omega arith)

        not_more : x < quarter t → Dec (b.0 ≤ x) → b.0 ≤ x
        not_more h (yes p) = p
        not_more h (no q) = let l = lt_of_not-le q in let m = low_sum_mono (x + 1) b.0 (suc n) (omega arith) in let g = f.smaller h in let k = b.1.holds in absurd (omega arith)

        clamp : Dec (x ≤ quarter t) → Dec (quarter t ≤ x) → x ≡ max a.0 (min b.0 (quarter t))
        clamp (yes p) (yes q) = omega (arith, under, over)
        clamp (no p) r = let l = lt_of_not-le p in let g = not_less l (dec_le x a.0) in omega (arith, under, over)
        clamp (yes p) (no q) = let l = lt_of_not-le q in let g = not_more l (dec_le b.0 x) in omega (arith, under, over)

-- the whole
pub record CountsTested (t n x : ℕ) (xs : List ℕ) : Type 0 where
  pub size : suc (length xs) ≡ n
  pub steps : Steps x xs
  pub tight : Tight x xs
  pub sums : x + total xs ≡ t
  pub larger : quarter t < x → high_sum (x - 1) n < t
  pub smaller : x < quarter t → t < low_sum (x + 1) n

pub counts_of_test : (t n x : ℕ) (xs : List ℕ) → CountsTested t n x xs → Counts t n (x ∷ xs)
unfolding Counts
counts_of_test t n x xs c =
    let s = c.size in
    let e : t - x ≡ total xs = omega arith in
    let b : Brackets x n t = rw (← s, ← c.sums) (steps_bracket x xs c.steps) in
    let f : FirstTested t (suc (length xs)) x = rw s (record { brackets = b; larger = c.larger; smaller = c.smaller }) in
    (s, rw (← s) (first_of_test t (length xs) x f), rw e (rest_of_test x xs c.steps c.tight))

pub test_of_counts : (t n x : ℕ) (xs : List ℕ) → Counts t n (x ∷ xs) → CountsTested t n x xs
unfolding Counts
test_of_counts t n x xs c =
    let f = first_tests t n x c.1 in
    let r = test_of_rest x (t - x) xs c.2 in
    let s = c.0 in
    let l : low_sum x (suc (length xs)) ≤ t = rw s f.brackets.least in
    let g = low_sum_from x (length xs) in
    let u = r.sums in
    record { size = s; steps = r.steps; tight = r.tight; sums = omega arith; larger = f.larger; smaller = f.smaller }
