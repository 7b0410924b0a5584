-- What is left of a path's sum decides as the whole does. Assumes nothing.
use Rattle.std.specs.Prelude.{◌≡◌, refl, true, false, ℕ, zero, suc, ◌+◌, ◌-◌, ◌≤◌, ◌<◌, leb}
use Rattle.std.proofs.Math.Path.{sym}
use Rattle.std.proofs.Common.{◌∙◌, lt_of_not-le, arith, le-leb}
use Rattle.std.proofs.Math.Decide.{dec_le}
use Rattle.std.proofs.lemmas.Bool.{lt-leb}
use Rattle.geometry.specs.Counts.{low, high, low_sum, high_sum}

-- two tests that hold together are equal
pub leb_same : (a b c d : ℕ) → (a ≤ b → c ≤ d) → (c ≤ d → a ≤ b) → leb a b ≡ leb c d
leb_same a b c d f g = go (dec_le a b) (dec_le c d)
  where
    go : Dec (a ≤ b) → Dec (c ≤ d) → leb a b ≡ leb c d
    go (yes p) r = le-leb a b p ∙ sym (le-leb c d (f p))
    go (no p) (yes q) = absurd (p (g q))
    go (no p) (no q) = lt-leb a b (lt_of_not-le p) ∙ sym (lt-leb c d (lt_of_not-le q))

-- one level of a path
pub low_sum_step : (x n : ℕ) → 0 < n → low_sum x n ≡ x + low_sum (low x) (n - 1)
unfolding low_sum
low_sum_step x zero h = absurd (omega arith)
low_sum_step x (suc n) h = let e : suc n - 1 ≡ n = omega arith in rw e

pub high_sum_step : (x n : ℕ) → 0 < n → high_sum x n ≡ x + high_sum (high x) (n - 1)
unfolding high_sum
high_sum_step x zero h = absurd (omega arith)
high_sum_step x (suc n) h = let e : suc n - 1 ≡ n = omega arith in rw e

pub record LowLeft (x levels sum cur left rem : ℕ) : Type 0 where
  pub same : leb (low_sum x levels) sum ≡ leb (low_sum cur left) rem

pub low_none : (x levels sum : ℕ) → LowLeft x levels sum x levels sum
low_none x levels sum = record { same = refl }

module _ {x levels sum cur left rem : ℕ} (l : LowLeft x levels sum cur left rem) where
  pub low_past : 0 < left → rem < cur → false ≡ leb (low_sum x levels) sum
  low_past p h = sym (l.same ∙ lt-leb (low_sum cur left) rem (omega (arith, low_sum_step cur left p)))

  pub low_more : 0 < left → cur ≤ rem → LowLeft x levels sum (low cur) (left - 1) (rem - cur)
  low_more p h =
      let s = low_sum_step cur left p in
      record { same = l.same ∙ leb_same (low_sum cur left) rem (low_sum (low cur) (left - 1)) (rem - cur) (λ k. omega arith) (λ k. omega arith) }

  pub low_end : left ≡ 0 → true ≡ leb (low_sum x levels) sum
  unfolding low_sum
  low_end e = sym (l.same ∙ rw e (le-leb 0 rem (omega arith)))

pub record HighLeft (x levels sum cur left rem : ℕ) : Type 0 where
  pub same : leb sum (high_sum x levels) ≡ leb rem (high_sum cur left)

pub high_none : (x levels sum : ℕ) → HighLeft x levels sum x levels sum
high_none x levels sum = record { same = refl }

module _ {x levels sum cur left rem : ℕ} (l : HighLeft x levels sum cur left rem) where
  pub high_past : 0 < left → rem ≤ cur → true ≡ leb sum (high_sum x levels)
  high_past p h = sym (l.same ∙ le-leb rem (high_sum cur left) (omega (arith, high_sum_step cur left p)))

  pub high_more : 0 < left → cur < rem → HighLeft x levels sum (high cur) (left - 1) (rem - cur)
  high_more p h =
      let s = high_sum_step cur left p in
      record { same = l.same ∙ leb_same rem (high_sum cur left) (rem - cur) (high_sum (high cur) (left - 1)) (λ k. omega arith) (λ k. omega arith) }

  pub high_end : left ≡ 0 → leb rem 0 ≡ leb sum (high_sum x levels)
  unfolding high_sum
  high_end e = sym (l.same ∙ rw e)
