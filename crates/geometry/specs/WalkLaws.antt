-- The test of the counts as a walk from their end. Assumes nothing.
use Rattle.std.specs.Prelude.{◌≡◌, refl, Bool, true, false, List, [], ◌∷◌, ℕ, zero, suc, ◌+◌, ◌-◌, ◌≤◌, ◌<◌, length, take, get_or}
use Rattle.std.proofs.Math.Path.{sym, ap}
use Rattle.std.proofs.Common.{◌∙◌, arith, length-take, length-drop, drop-cons, get_or-take}
use Rattle.std.proofs.Math.ListN.{drop}
use Rattle.std.proofs.Math.Seq.{drop-length}
use Rattle.geometry.specs.Says.{Says}
use Rattle.geometry.specs.SaysLaws.{says_true, says_false}
use Rattle.geometry.specs.Counts.{low, high, low_sum, Counts, total}
use Rattle.geometry.specs.Chain.{Steps, Tight, Step, Good, Chain, FirstStep}
use Rattle.geometry.specs.ChainLaws.{Lowest, lowest_past, counts_of_test, test_of_counts}

good_tail : (x : ℕ) (xs : List ℕ) → Good (x ∷ xs) → Good xs
unfolding Good Steps Tight
good_tail x [] g = tt
good_tail x (y ∷ ys) g = (g.0.2, g.1.1)

good_drop : (k : ℕ) (xs : List ℕ) → Good xs → Good (drop k xs)
good_drop zero xs g = g
good_drop (suc k) [] g = g
good_drop (suc k) (x ∷ xs) g = good_drop k xs (good_tail x xs g)

total_drop : (k : ℕ) (xs : List ℕ) → total (drop k xs) ≤ total xs
unfolding total
total_drop zero xs = omega arith
total_drop (suc k) [] = omega arith
total_drop (suc k) (x ∷ xs) = let i = total_drop k xs in omega arith

-- the list from j on, where i is the next index
pub here_at : (all : List ℕ) (levels j i : ℕ) → j + 1 ≡ i → j < levels → levels ≤ length all → drop j (take levels all) ≡ get_or all j 0 ∷ drop i (take levels all)
here_at all levels j i e h l =
    let k : j < length (take levels all) = simp length-take (omega arith) in
    let s : suc j ≡ i = omega arith in
    drop-cons (take levels all) j 0 k ∙ rw (s, get_or-take levels all j 0 h)

pub sized : (all : List ℕ) (levels : ℕ) → levels ≤ length all → length (take levels all) ≡ levels
sized all levels h = simp length-take (omega arith)

-- what is walked, from i on
pub record From (t : ℕ) (xs : List ℕ) (i y sum : ℕ) (lowest : Bool) : Type 0 where
  pub is : drop i xs ≡ y ∷ drop (i + 1) xs
  pub good : Good (drop i xs)
  pub sums : sum ≡ total (drop i xs)
  pub most : sum ≤ t
  pub follows : lowest ≡ true → Lowest y (drop (i + 1) xs)

pub from_last : (t : ℕ) (xs : List ℕ) (i y : ℕ) → i + 1 ≡ length xs → drop i xs ≡ y ∷ drop (i + 1) xs → y ≤ t → From t xs i y y true
unfolding Good Steps Tight total Lowest
from_last t xs i y e h m =
    let n : drop (i + 1) xs ≡ [] = rw e (drop-length xs) in
    record { is = h; good = rw (h, n) (tt, tt); sums = rw (h, n) (omega arith); most = m; follows = λ r. rw n tt }

pub last_past : (t : ℕ) (xs ys : List ℕ) (i y : ℕ) → drop i xs ≡ y ∷ ys → t < y → Chain t xs → ⊥
unfolding total
last_past t xs ys i y h l c = omega (arith, total_drop i xs, ap total h, c.sums)

module _ (t : ℕ) (xs : List ℕ) (i j x y sum : ℕ) (lowest : Bool) (next : j + 1 ≡ i) (is : drop j xs ≡ x ∷ drop i xs) (f : From t xs i y sum lowest) where
  sum_is : sum ≡ y + total (drop (i + 1) xs)
  unfolding total
  sum_is = f.sums ∙ ap total f.is

  many : suc (length (drop (i + 1) xs)) ≡ length xs - i
  many = sym (ap length f.is) ∙ length-drop i xs

  list : drop j xs ≡ x ∷ (y ∷ drop (i + 1) xs)
  list = is ∙ ap (λ (l : List ℕ). x ∷ l) f.is

  pub from_more : (lower : Bool) → Step x y (length xs - i) sum → x ≤ t - sum → (lower ≡ true → (lowest ≡ true) × (y ≡ low x)) → From t xs j x (sum + x) lower
  unfolding Good Steps Tight total Lowest
  from_more lower s m l =
      let g : Good (y ∷ drop (i + 1) xs) = rw f.is at f.good in
      let e = sum_is in
      let u = f.most in
      let p : y < high x → y + total (drop (i + 1) xs) < low_sum (y + 1) (suc (length (drop (i + 1) xs))) = λ k. rw (many, ← e) (s.past k) in
      record {
        is = is ∙ rw next refl;
        good = rw list ((s.from, s.to, g.0), (p, g.1));
        sums = rw list (omega arith);
        most = omega arith;
        follows = λ r. let q = l r in rw (next, f.is) (q.1, f.follows q.0);
      }

  pub from_wrong : (Step x y (length xs - i) sum → ⊥) → Chain t xs → ⊥
  unfolding Good Steps Tight
  from_wrong n c =
      let g : Good (x ∷ (y ∷ drop (i + 1) xs)) = rw list at (good_drop j xs c.good) in
      n (record { from = g.0.0; to = g.0.1; past = λ k. rw (← many, sum_is) (g.1.0 k) })

  pub from_past : t - sum < x → Chain t xs → ⊥
  unfolding total
  from_past l c = omega (arith, total_drop j xs, ap total is, f.sums, c.sums)

  -- where the rest follows the smallest path the next larger count goes past
  pub from_low : lowest ≡ true → sum < low_sum (y + 1) (length xs - i)
  from_low e = rw (← many, sum_is) (lowest_past y (drop (i + 1) xs) (f.follows e))

pub from_end : (t : ℕ) (xs : List ℕ) (i y sum : ℕ) (lowest : Bool) → i ≤ 0 → From t xs i y sum lowest → sum ≡ t → Chain t xs
from_end t xs zero y sum lowest z f e = record { good = f.good; sums = sym f.sums ∙ e }
from_end t xs (suc i) y sum lowest z f e = absurd (omega arith)

pub from_not : (t : ℕ) (xs : List ℕ) (i y sum : ℕ) (lowest : Bool) → i ≤ 0 → From t xs i y sum lowest → (sum ≡ t → ⊥) → Chain t xs → ⊥
from_not t xs zero y sum lowest z f n c = n (f.sums ∙ c.sums)
from_not t xs (suc i) y sum lowest z f n c = absurd (omega arith)

-- one turn of the walk over the first levels of an array
module _ (t levels : ℕ) (all : List ℕ) (fits : levels ≤ length all) (i y sum : ℕ) (lowest : Bool) (pos : 0 < i) (less : i < levels) (f : From t (take levels all) i y sum lowest) where
  prior : drop (i - 1) (take levels all) ≡ get_or all (i - 1) 0 ∷ drop i (take levels all)
  prior = here_at all levels (i - 1) i (omega arith) (omega arith) fits

  pub walk_low : lowest ≡ true → sum < low_sum (y + 1) (levels - i)
  walk_low e = rw (sized all levels fits) at (from_low t (take levels all) i (i - 1) (get_or all (i - 1) 0) y sum lowest (omega arith) prior f e)

  pub walk_wrong : (Step (get_or all (i - 1) 0) y (levels - i) sum → ⊥) → Chain t (take levels all) → ⊥
  walk_wrong n = from_wrong t (take levels all) i (i - 1) (get_or all (i - 1) 0) y sum lowest (omega arith) prior f (rw (sized all levels fits) n)

  pub walk_past : t - sum < get_or all (i - 1) 0 → Chain t (take levels all) → ⊥
  walk_past = from_past t (take levels all) i (i - 1) (get_or all (i - 1) 0) y sum lowest (omega arith) prior f

  pub walk_more : (lower : Bool) → Step (get_or all (i - 1) 0) y (levels - i) sum → get_or all (i - 1) 0 ≤ t - sum → (lower ≡ true → (lowest ≡ true) × (y ≡ low (get_or all (i - 1) 0)))
      → From t (take levels all) (i - 1) (get_or all (i - 1) 0) (sum + get_or all (i - 1) 0) lower
  walk_more lower s = from_more t (take levels all) i (i - 1) (get_or all (i - 1) 0) y sum lowest (omega arith) prior f lower (rw (sized all levels fits) s)

module _ (t levels x : ℕ) (xs ys : List ℕ) (is : xs ≡ x ∷ ys) (size : length xs ≡ levels) where
  many_first : suc (length ys) ≡ levels
  many_first = sym (ap length is) ∙ size

  pub counts_of_chain : Chain t xs → FirstStep t levels x → Counts t levels xs
  unfolding Good total
  counts_of_chain c f =
      let g : Good (x ∷ ys) = rw is at c.good in
      rw is (counts_of_test t levels x ys (record { size = many_first; steps = g.0; tight = g.1; sums = sym (ap total is) ∙ c.sums; larger = f.larger; smaller = f.smaller }))

  pub chain_of_counts : Counts t levels xs → Chain t xs × FirstStep t levels x
  unfolding Good total
  chain_of_counts c =
      let d = test_of_counts t levels x ys (rw is at c) in
      (record { good = rw is (d.steps, d.tight); sums = ap total is ∙ d.sums }, record { larger = d.larger; smaller = d.smaller })

-- the answer of the two tests together
pub both_say : (t levels : ℕ) (all : List ℕ) (b d : Bool) → 0 < levels → levels ≤ length all → Says b (Chain t (take levels all)) → Says d (FirstStep t levels (get_or all 0 0)) → b ≡ true → Says d (Counts t levels (take levels all))
both_say t levels all b d p h s u e = go d u
  where
    is : take levels all ≡ get_or all 0 0 ∷ drop 1 (take levels all)
    is = here_at all levels 0 1 refl p h

    go : (d : Bool) → Says d (FirstStep t levels (get_or all 0 0)) → Says d (Counts t levels (take levels all))
    go true f = counts_of_chain t levels (get_or all 0 0) (take levels all) (drop 1 (take levels all)) is (sized all levels h) (says_true b _ s e) f
    go false f = λ c. f (chain_of_counts t levels (get_or all 0 0) (take levels all) (drop 1 (take levels all)) is (sized all levels h) c).1

pub no_chain : (t levels : ℕ) (all : List ℕ) (b : Bool) → 0 < levels → levels ≤ length all → Says b (Chain t (take levels all)) → b ≡ false → Counts t levels (take levels all) → ⊥
no_chain t levels all b p h s e c =
    says_false b _ s e (chain_of_counts t levels (get_or all 0 0) (take levels all) (drop 1 (take levels all)) (here_at all levels 0 1 refl p h) (sized all levels h) c).0
