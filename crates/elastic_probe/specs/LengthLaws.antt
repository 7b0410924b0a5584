-- Laws of the length of a number in bits. Assumes nothing.
use Rattle.std.specs.Prelude.{◌≡◌, refl, ℕ, zero, suc, ◌+◌, ◌*◌, ◌/◌, ◌^◌, ◌≤◌, ◌<◌}
use Rattle.std.proofs.Common.{ap, sym, ◌∙◌, pow-suc, suc-mul, mul_assoc, mul-le-mul_right, lt_of_not-le, lt_of_lt_of_le, arith, pow_pos, pow_mono, pow-add}
use Rattle.std.proofs.Math.Nat.{pow-zero}
use Rattle.std.proofs.Math.Decide.{dec_le}
use Rattle.std.proofs.lemmas.Nat.{leading_top}
use Rattle.words.specs.Log.{CeilLog2}
use Rattle.elastic_probe.specs.Length.{length_in, bits_of}

-- t is the place of n's top bit
pub record Top (n t : ℕ) : Type 0 where
  pub from : 2 ^ t ≤ n
  pub below : n < 2 * 2 ^ t

none : (d : ℕ) → length_in d 0 ≡ 0
unfolding length_in
none zero = refl
none (suc d) = refl

pub length_in_lem : (t d n : ℕ) → n ≤ d → Top n t → length_in d n ≡ suc t
unfolding length_in
length_in_lem t zero n h p = absurd (omega (arith, pow_pos t))
length_in_lem t (suc d) zero h p = absurd (omega (arith, pow_pos t))
length_in_lem zero (suc d) (suc n) h p =
    let e : suc n / 2 ≡ 0 = omega (arith, pow-zero 2) in
    rw e (ap suc (none d))
length_in_lem (suc t) (suc d) (suc n) h p =
    let q : Top (suc n / 2) t = record { from = omega (arith, pow-suc 2 t); below = omega (arith, pow-suc 2 t) } in
    ap suc (length_in_lem t d (suc n / 2) (omega arith) q)

pub bits_top : (n t : ℕ) → Top n t → bits_of n ≡ suc t
unfolding bits_of
bits_top n t p = length_in_lem t n n (omega arith) p

self_lt : (n : ℕ) → n < 2 ^ n
self_lt zero = omega (arith, pow-zero 2)
self_lt (suc n) = omega (arith, self_lt n, pow-suc 2 n)

-- every positive number has a top bit
pub record Has (n : ℕ) : Type 0 where
  pub t : ℕ
  pub top : Top n t
  pub bits : bits_of n ≡ suc t

pub has_top : (n : ℕ) → 0 < n → Has n
has_top n h =
    let s = leading_top n n h (self_lt n) in
    let p : Top n s.0 = record { from = s.2; below = omega (arith, s.3, pow-suc 2 s.0) } in
    record { t = s.0; top = p; bits = bits_top n s.0 p }

-- the length by its bounds
pub bits_by : (m n : ℕ) → n < 2 ^ m → 2 ^ m ≤ 2 * n + 1 → bits_of n ≡ m
unfolding bits_of length_in
bits_by zero zero lo hi = refl
bits_by zero (suc n) lo hi = absurd (omega (arith, pow-zero 2))
bits_by (suc t) n lo hi = bits_top n t (record { from = omega (arith, pow-suc 2 t); below = omega (arith, pow-suc 2 t) })

-- it is the logarithm of one more, rounded up
pub bits_log : (n r : ℕ) → CeilLog2 (n + 1) r → r ≡ bits_of n
bits_log n zero p = sym (bits_by zero n (omega (arith, p.covers)) (omega (arith, pow-zero 2)))
bits_log n (suc t) p = go (dec_le (n + 1) (2 ^ t))
  where
    go : Dec (n + 1 ≤ 2 ^ t) → suc t ≡ bits_of n
    go (yes l) = absurd (omega (arith, p.least t l))
    go (no f) = let g = lt_of_not-le f in sym (bits_by (suc t) n (omega (arith, p.covers)) (omega (arith, pow-suc 2 t)))

pub bits_zero : (n : ℕ) → n ≡ 0 → bits_of n ≡ 0
unfolding bits_of length_in
bits_zero n e = rw e

pub bits_pos : (n : ℕ) → 0 < n → 0 < bits_of n
bits_pos n h = omega (arith, (has_top n h).bits)

pub bits_none : (n : ℕ) → bits_of n ≡ 0 → n ≡ 0
bits_none zero e = refl
bits_none (suc n) e = absurd (omega (arith, bits_pos (suc n) (omega arith)))

pub bits_over : (n : ℕ) → n < 2 ^ bits_of n
bits_over zero = pow_pos (bits_of 0)
bits_over (suc n) = let t = has_top (suc n) (omega arith) in rw t.bits (omega (arith, t.top.below, pow-suc 2 t.t))

-- a number of at most m bits is below 2 ^ m, and the other way
pub bits_fits : (n m : ℕ) → bits_of n ≤ m → n < 2 ^ m
bits_fits n m h = lt_of_lt_of_le (bits_over n) (pow_mono h)

pub bits_below : (n m : ℕ) → n < 2 ^ m → bits_of n ≤ m
unfolding bits_of length_in
bits_below zero m h = omega arith
bits_below (suc n) m h = let t = has_top (suc n) (omega arith) in go t.t t.top t.bits (dec_le m t.t)
  where
    go : (t : ℕ) → Top (suc n) t → bits_of (suc n) ≡ suc t → Dec (m ≤ t) → bits_of (suc n) ≤ m
    go t p e (yes l) = absurd (omega (arith, p.from, pow_mono l))
    go t p e (no f) = let l = lt_of_not-le f in omega arith

pub bits_half : (n : ℕ) → 0 < n → bits_of n ≡ suc (bits_of (n / 2))
bits_half n h = go (has_top n h).t (has_top n h).top
  where
    go : (t : ℕ) → Top n t → bits_of n ≡ suc (bits_of (n / 2))
    go zero p =
        let e : n / 2 ≡ 0 = omega (arith, p.below, pow-zero 2) in
        bits_top n 0 p ∙ ap suc (sym (bits_zero (n / 2) e))
    go (suc t) p =
        let q : Top (n / 2) t = record { from = omega (arith, p.from, pow-suc 2 t); below = omega (arith, p.below, pow-suc 2 t) } in
        bits_top n (suc t) p ∙ ap suc (sym (bits_top (n / 2) t q))

scaled : (h t p l q : ℕ) → t ≤ h → h < 2 * t → l < p → q ≡ t * p → (q ≤ h * p + l) × (h * p + l < 2 * q)
scaled h t p l q lo hi few e =
    let a : t * p ≤ h * p = mul-le-mul_right p lo in
    let b : suc h * p ≤ 2 * t * p = mul-le-mul_right p hi in
    (omega arith, omega (arith, suc-mul h p, mul_assoc 2 t p))

-- a number before m places
pub bits_before : (h l m : ℕ) → 0 < h → l < 2 ^ m → bits_of (h * 2 ^ m + l) ≡ m + bits_of h
bits_before h l m some few =
    let p = has_top h some in
    let s = scaled h (2 ^ p.t) (2 ^ m) l (2 ^ (p.t + m)) p.top.from p.top.below few (pow-add 2 p.t m) in
    bits_top (h * 2 ^ m + l) (p.t + m) (record { from = s.0; below = s.1 }) ∙ omega (arith, p.bits)

-- a number has room in one place more than its bits
pub bits_room : (n r : ℕ) → r ≡ bits_of n → n < 2 ^ (r + 1)
bits_room n r e = bits_fits n (r + 1) (omega arith)
