-- Laws of counts that callers use: how many, their sum, positive, not rising; and the starts of levels. Assumes nothing.
use Rattle.std.specs.Prelude.{◌≡◌, List, [], ◌∷◌, ℕ, zero, suc, ◌+◌, ◌*◌, ◌≤◌, ◌<◌, length, take, get_or}
use Rattle.std.proofs.Common.{ap, ◌∙◌, add-mul, mul-le-mul_right, lt_of_not-le, add-one, arith}
use Rattle.std.proofs.Math.Decide.{dec_le}
use Rattle.geometry.specs.Counts.{Counts, total}
use Rattle.geometry.specs.Chain.{Steps}
use Rattle.geometry.specs.ChainLaws.{first_tests, test_of_counts}
use Rattle.geometry.specs.CountsExist.{reach_pos}

pub counts_length : (t n : ℕ) (xs : List ℕ) → Counts t n xs → length xs ≡ n
unfolding Counts
counts_length t n [] c = absurd c
counts_length t n (x ∷ xs) c = c.0

pub counts_total : (t n : ℕ) (xs : List ℕ) → Counts t n xs → total xs ≡ t
unfolding Counts total
counts_total t n [] c = absurd c
counts_total t n (x ∷ xs) c = (test_of_counts t n x xs c).sums

steps_some : (x : ℕ) (ys : List ℕ) → 0 < x → Steps x ys → (k : ℕ) → k < suc (length ys) → 0 < get_or (x ∷ ys) k 0
unfolding Steps
steps_some x ys p s zero h = p
steps_some x [] p s (suc k) h = absurd (omega arith)
steps_some x (y ∷ ys) p s (suc k) h = let l = s.0 in steps_some y ys (omega arith) s.2 k (omega arith)

steps_fall : (x : ℕ) (ys : List ℕ) → Steps x ys → (k : ℕ) → k < length ys → get_or (x ∷ ys) (suc k) 0 ≤ get_or (x ∷ ys) k 0
unfolding Steps
steps_fall x [] s k h = absurd (omega arith)
steps_fall x (y ∷ ys) s zero h = let l = s.1 in omega arith
steps_fall x (y ∷ ys) s (suc k) h = steps_fall y ys s.2 k (omega arith)

pub counts_some : (t n : ℕ) (xs : List ℕ) → 0 < t → Counts t n xs → (k : ℕ) → k < n → 0 < get_or xs k 0
unfolding Counts
counts_some t n [] p c k h = absurd c
counts_some t n (x ∷ xs) p c k h =
    let l = c.0 in
    steps_some x xs (reach_pos t n x p (first_tests t n x c.1).brackets.most) (test_of_counts t n x xs c).steps k (omega arith)

pub counts_fall : (t n : ℕ) (xs : List ℕ) → Counts t n xs → (k : ℕ) → k + 1 < n → get_or xs (k + 1) 0 ≤ get_or xs k 0
unfolding Counts
counts_fall t n [] c k h = absurd c
counts_fall t n (x ∷ xs) c k h =
    let l = c.0 in
    rw (add-one k) (steps_fall x xs (test_of_counts t n x xs c).steps k (omega arith))

-- sums of the first levels
pub total_next : (xs : List ℕ) (k : ℕ) → k < length xs → total (take (k + 1) xs) ≡ total (take k xs) + get_or xs k 0
unfolding total
total_next [] k h = absurd (omega arith)
total_next (x ∷ xs) zero h = omega arith
total_next (x ∷ xs) (suc k) h = let i = total_next xs k (omega arith) in let e : suc k + 1 ≡ suc (k + 1) = omega arith in rw e (omega arith)

pub total_le : (xs : List ℕ) (k l : ℕ) → k ≤ l → total (take k xs) ≤ total (take l xs)
unfolding total
total_le xs zero l h = omega arith
total_le [] (suc k) l h = omega arith
total_le (x ∷ xs) (suc k) zero h = absurd (omega arith)
total_le (x ∷ xs) (suc k) (suc l) h = let i = total_le xs k l (omega arith) in omega arith

pub total_take : (xs : List ℕ) (k : ℕ) → total (take k xs) ≤ total xs
unfolding total
total_take xs zero = omega arith
total_take [] (suc k) = omega arith
total_take (x ∷ xs) (suc k) = let i = total_take xs k in omega arith

-- the next level starts where this one ends
pub start_next : (xs : List ℕ) (beta k : ℕ) → k < length xs → total (take (k + 1) xs) * beta ≡ total (take k xs) * beta + get_or xs k 0 * beta
start_next xs beta k h = ap (λ (x : ℕ). x * beta) (total_next xs k h) ∙ add-mul (total (take k xs)) (get_or xs k 0) beta

-- a place below the sum of the levels lies in one of them
pub record InLevel (xs : List ℕ) (beta x k : ℕ) : Type 0 where
  pub is_level : k < length xs
  pub from : total (take k xs) * beta ≤ x
  pub below : x < total (take (k + 1) xs) * beta

find_level : (xs : List ℕ) (beta x k : ℕ) → k ≤ length xs → x < total (take k xs) * beta → (j : ℕ) × InLevel xs beta x j
unfolding total
find_level xs beta x zero h l = absurd (omega arith)
find_level xs beta x (suc k) h l = go (dec_le (total (take k xs) * beta) x) (find_level xs beta x k (omega arith))
  where
    go : Dec (total (take k xs) * beta ≤ x) → (x < total (take k xs) * beta → (j : ℕ) × InLevel xs beta x j) → (j : ℕ) × InLevel xs beta x j
    go (yes p) r = (k, record { is_level = omega arith; from = p; below = rw (add-one k) l })
    go (no q) r = r (lt_of_not-le q)

pub level_of_lem : (xs : List ℕ) (beta x : ℕ) → x < total (take (length xs) xs) * beta → (k : ℕ) × InLevel xs beta x k
level_of_lem xs beta x l = find_level xs beta x (length xs) (omega arith) l

-- and in one only
pub level_one : (xs : List ℕ) (beta x j k : ℕ) → InLevel xs beta x j → InLevel xs beta x k → j ≡ k
level_one xs beta x j k p q = go (dec_le j k) (dec_le k j)
  where
    past : (i l : ℕ) → InLevel xs beta x i → InLevel xs beta x l → i < l → ⊥
    past i l a b h = let m = mul-le-mul_right beta (total_le xs (i + 1) l (omega arith)) in omega (arith, a.below, b.from)

    go : Dec (j ≤ k) → Dec (k ≤ j) → j ≡ k
    go (yes a) (yes b) = omega arith
    go (no a) b = absurd (past k j q p (lt_of_not-le a))
    go (yes a) (no b) = absurd (past j k p q (lt_of_not-le b))
