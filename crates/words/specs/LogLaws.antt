-- Laws of the logarithm rounded up. Assumes nothing.
use Rattle.std.specs.Prelude.{Bool, true, false, ◌≡◌, refl, ℕ, zero, suc, ◌+◌, ◌-◌, ◌*◌, ◌^◌, ◌≤◌, ◌<◌, leb}
use Rattle.std.proofs.Common.{sym, subst, lt_of_not-le, pow-suc, le_antisymm, arith, pow_mono, leb-true, leb-false}
use Rattle.std.proofs.Math.Decide.{dec_le}
use Rattle.std.specs.Int.Count.{count_leading_zeros}
use Rattle.std.proofs.lemmas.Nat.{leading_length}
use Rattle.words.specs.Log.{CeilLog2, first_from, ceil_log2}
use Rattle.words.specs.Pick.{pick}

-- it is one number
pub log_unique : (n k l : ℕ) → CeilLog2 n k → CeilLog2 n l → k ≡ l
log_unique n k l p q = le_antisymm (p.least l q.covers) (q.least k p.covers)

-- no j below m will do, where 2 ^ m is less than twice n
no_less : (n m j : ℕ) → 2 ^ m < 2 * n → n ≤ 2 ^ j → m ≤ j
no_less n m j top h = go (dec_le m j)
  where
    go : Dec (m ≤ j) → m ≤ j
    go (yes p) = p
    go (no f) = let less : suc j ≤ m = lt_of_not-le f in omega (arith, pow_mono less, pow-suc 2 j)

-- one more than x is covered first by the power of its length in bits
pub log_leading : (x : ℕ) → x < 2 ^ 64 → CeilLog2 (x + 1) (64 - count_leading_zeros 64 x)
log_leading x h =
    let s = leading_length 64 x h in
    let e : s.0 ≡ 64 - count_leading_zeros 64 x = omega arith in
    subst (CeilLog2 (x + 1)) e (record { covers = omega arith; least = λ j g. no_less (x + 1) s.0 j (omega arith) g })

pub log_zero : CeilLog2 0 0
log_zero = record { covers = omega arith; least = λ j g. omega arith }

-- one try: either k is it, or the answer is above k
step : (k n m r : ℕ) → CeilLog2 n m → k ≤ m → (k + 1 ≤ m → r ≡ m) → pick (leb n (2 ^ k)) k r ≡ m
step k n m r c lo rest = go (leb n (2 ^ k)) refl
  where
    above : leb n (2 ^ k) ≡ false → Dec (m ≤ k) → k + 1 ≤ m
    above e (yes p) = absurd (omega (arith, pow_mono p, leb-false n (2 ^ k) e, c.covers))
    above e (no f) = let less = lt_of_not-le f in omega arith

    go : (t : Bool) → leb n (2 ^ k) ≡ t → pick t k r ≡ m
    go true e = let up = c.least k (leb-true n (2 ^ k) e) in omega arith
    go false e = rest (above e (dec_le m k))

found : (tries k n m : ℕ) → CeilLog2 n m → k ≤ m → m ≤ k + tries → first_from tries k n ≡ m
unfolding first_from
found zero k n m c lo hi = omega arith
found (suc tries) k n m c lo hi = step k n m (first_from tries (k + 1) n) c lo (λ up. found tries (k + 1) n m c up (omega arith))

-- the number that computes is the least, for words
pub log_computed : (n m : ℕ) → n ≤ 2 ^ 64 → CeilLog2 n m → m ≡ ceil_log2 n
unfolding ceil_log2
log_computed n m h c = sym (found 64 0 n m c (omega arith) (c.least 64 h))
