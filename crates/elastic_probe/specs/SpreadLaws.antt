-- Laws of spread bits: by shifts, and as the pairs of phi. Assumes nothing.
use Rattle.std.specs.Prelude.{Bool, true, false, ◌≡◌, refl, ℕ, zero, suc, ◌+◌, ◌*◌, ◌/◌, ◌%◌, ◌^◌, ◌<◌, eqb, ltb}
use Rattle.std.proofs.Common.{ap, ap₂, sym, ◌∙◌, pow-suc, mod-eq_of_lt, arith, eqb-true, ltb-true}
use Rattle.std.proofs.Math.Nat.{pow-zero}
use Rattle.std.proofs.Math.Decide.{ℕ_discrete}
use Rattle.std.specs.Int.Bits.{bit_and, bit_or, or_block, or_zero_l, or_zero_r, block_half, block_odd}
use Rattle.std.proofs.lemmas.Nat.{and_block, and_mask, or_mod, or_lt}
use Rattle.words.specs.Pick.{pick}
use Rattle.elastic_probe.specs.Phi.{pairs}
use Rattle.elastic_probe.specs.Spread.{spread_of}

-- a 1 before each of t bits
unfoldable pub marks : ℕ → ℕ
marks zero = 0
marks (suc t) = marks t * 4 + 2

pub pairs_spread : (t j : ℕ) → pairs t j ≡ spread_of t j + marks t
unfolding pairs spread_of marks
pairs_spread zero j = refl
pairs_spread (suc t) j = omega (arith, pairs_spread t (j / 2))

abbrev pub more : ℕ → ℕ → ℕ
more zero m = m
more (suc k) m = suc (more k m)

spread_cat : (k m a r : ℕ) → r < 2 ^ k → spread_of (more k m) (a * 2 ^ k + r) ≡ spread_of m a * 4 ^ k + spread_of k r
unfolding spread_of
spread_cat zero m a r h =
    let e : a * 2 ^ 0 + r ≡ a = omega (arith, pow-zero 2) in
    rw e (omega (arith, pow-zero 4))
spread_cat (suc k) m a r h =
    let i = spread_cat k m a (r / 2) (omega (arith, pow-suc 2 k)) in
    rw (block_half a k r, block_odd a k r, i, pow-suc 4 k) (omega arith)

spread_none : (t : ℕ) → spread_of t 0 ≡ 0
unfolding spread_of
spread_none zero = refl
spread_none (suc t) = rw (spread_none t)

-- bits beyond the number's own change nothing
pub spread_more : (k m j : ℕ) → j < 2 ^ k → spread_of (more k m) j ≡ spread_of k j
spread_more k m j h =
    let z : 0 * 2 ^ k + j ≡ j = omega arith in
    rw (spread_none m) at (rw z at (spread_cat k m 0 j h)) ∙ omega arith

-- ---- one step: shift, or, mask
unfoldable pub step : (s mask v : ℕ) → ℕ
step s mask v = bit_and (bit_or v (v * 2 ^ s % 2 ^ 64)) mask

-- what holds of each number below n, by a test that computes
unfoldable pub all_below : ℕ → (ℕ → Bool) → Bool
all_below zero f = true
all_below (suc n) f = pick (f n) (all_below n f) false

pub all_at : (n : ℕ) (f : ℕ → Bool) (x : ℕ) → x < n → all_below n f ≡ true → f x ≡ true
unfolding all_below
all_at zero f x h e = absurd (omega arith)
all_at (suc n) f x h e = go (f n) refl (ℕ_discrete x n) e (λ l d. all_at n f x l d)
  where
    go : (b : Bool) → f n ≡ b → Dec (x ≡ n) → pick b (all_below n f) false ≡ true → (x < n → all_below n f ≡ true → f x ≡ true) → f x ≡ true
    go true d (yes q) e ih = ap f q ∙ d
    go true d (no q) e ih = ih (omega arith) e
    go false d q e ih = let z : ◌≡◌ {A = ℕ} 0 1 = cc in absurd (omega arith)

wide : (x y : ℕ) → x < 2 ^ 16 → y < 2 ^ 16 → x * 2 ^ 16 + y < 2 ^ 64
wide x y h k = omega arith

narrow : (x : ℕ) → x < 2 ^ 16 → x < 2 ^ 64
narrow x h = omega arith

zero_mod : (b : ℕ) → b * 2 ^ 8 % 2 ^ 8 ≡ 0
zero_mod b = omega arith

module _ (s m a b : ℕ) (la : a < 2 ^ 16) (lb : b < 2 ^ 16) (ha : a * 2 ^ s < 2 ^ 16) (hb : b * 2 ^ s < 2 ^ 16) (hm : m < 2 ^ 16) where
  shifted : (a * 2 ^ 16 + b) * 2 ^ s % 2 ^ 64 ≡ (a * 2 ^ s % 2 ^ 64) * 2 ^ 16 + b * 2 ^ s % 2 ^ 64
  shifted =
      let e : (a * 2 ^ 16 + b) * 2 ^ s ≡ a * 2 ^ s * 2 ^ 16 + b * 2 ^ s = omega arith in
      rw (e, mod-eq_of_lt (wide (a * 2 ^ s) (b * 2 ^ s) ha hb), mod-eq_of_lt (narrow (a * 2 ^ s) ha), mod-eq_of_lt (narrow (b * 2 ^ s) hb))

  short : (x : ℕ) → x * 2 ^ s < 2 ^ 16 → x * 2 ^ s % 2 ^ 64 < 2 ^ 16
  short x h = rw (mod-eq_of_lt (narrow (x * 2 ^ s) h)) h

  -- a step on two halves that keep apart is a step on each
  step_block : step s (m * 2 ^ 16 + m) (a * 2 ^ 16 + b) ≡ step s m a * 2 ^ 16 + step s m b
  unfolding step
  step_block =
      rw (shifted, or_block 16 a (a * 2 ^ s % 2 ^ 64) b (b * 2 ^ s % 2 ^ 64) lb (short b hb))
      (and_block 16 (bit_or a (a * 2 ^ s % 2 ^ 64)) m (bit_or b (b * 2 ^ s % 2 ^ 64)) m (or_lt 16 b (b * 2 ^ s % 2 ^ 64) lb (short b hb)) hm)

-- the first step parts the two bytes
step_first : (a b : ℕ) → a < 256 → b < 256 → step 8 0x00ff00ff (a * 2 ^ 8 + b) ≡ a * 2 ^ 16 + b
unfolding step
step_first a b ha hb =
    let e : (a * 2 ^ 8 + b) * 2 ^ 8 % 2 ^ 64 ≡ a * 2 ^ 16 + b * 2 ^ 8 = omega arith in
    let z : a * 2 ^ 8 + b ≡ 0 * 2 ^ 16 + (a * 2 ^ 8 + b) = omega arith in
    let o = or_block 16 0 a (a * 2 ^ 8 + b) (b * 2 ^ 8) (omega arith) (omega arith) in
    let n = and_block 16 (bit_or 0 a) 0xff (bit_or (a * 2 ^ 8 + b) (b * 2 ^ 8)) 0xff (or_lt 16 (a * 2 ^ 8 + b) (b * 2 ^ 8) (omega arith) (omega arith)) (omega arith) in
    let u : a * 2 ^ 8 + b ≡ 0 * 2 ^ 16 + (a * 2 ^ 8 + b) = omega arith in
    let high : bit_and (bit_or 0 a) 0xff ≡ a = ap (λ (x : ℕ). bit_and x 0xff) (or_zero_l a) ∙ and_mask a 8 ∙ omega arith in
    let low : bit_and (bit_or (a * 2 ^ 8 + b) (b * 2 ^ 8)) 0xff ≡ b =
    and_mask (bit_or (a * 2 ^ 8 + b) (b * 2 ^ 8)) 8 ∙ or_mod (a * 2 ^ 8 + b) (b * 2 ^ 8) 8
    ∙ ap (λ (x : ℕ). bit_or ((a * 2 ^ 8 + b) % 2 ^ 8) x) (zero_mod b) ∙ or_zero_r ((a * 2 ^ 8 + b) % 2 ^ 8) ∙ omega arith in
    ap (λ (x : ℕ). bit_and (bit_or (a * 2 ^ 8 + b) x) 0x00ff00ff) e
    ∙ ap (λ (x : ℕ). bit_and (bit_or x (a * 2 ^ 16 + b * 2 ^ 8)) 0x00ff00ff) z
    ∙ ap (λ (x : ℕ). bit_and x 0x00ff00ff) o ∙ n ∙ ap₂ (λ (x y : ℕ). x * 2 ^ 16 + y) high low

-- the other steps on a byte, by a test of each
unfoldable byte_test : ℕ → Bool
unfolding step spread_of
byte_test x =
    pick (ltb (step 4 0x0f0f x) 4096)
    (pick (ltb (step 2 0x3333 (step 4 0x0f0f x)) 16384) (eqb (step 1 0x5555 (step 2 0x3333 (step 4 0x0f0f x))) (spread_of 8 x)) false) false

bytes_pass : all_below 256 byte_test ≡ true
unfolding all_below byte_test step spread_of
bytes_pass = refl

record Byte (x : ℕ) : Type 0 where
  first : step 4 0x0f0f x < 4096
  second : step 2 0x3333 (step 4 0x0f0f x) < 16384
  third : step 1 0x5555 (step 2 0x3333 (step 4 0x0f0f x)) ≡ spread_of 8 x

byte : (x : ℕ) → x < 256 → Byte x
unfolding byte_test
byte x h =
    go (ltb (step 4 0x0f0f x) 4096) refl (ltb (step 2 0x3333 (step 4 0x0f0f x)) 16384) refl
    (eqb (step 1 0x5555 (step 2 0x3333 (step 4 0x0f0f x))) (spread_of 8 x)) refl (all_at 256 byte_test x h bytes_pass)
  where
    go : (a : Bool) → ltb (step 4 0x0f0f x) 4096 ≡ a → (b : Bool) → ltb (step 2 0x3333 (step 4 0x0f0f x)) 16384 ≡ b
        → (c : Bool) → eqb (step 1 0x5555 (step 2 0x3333 (step 4 0x0f0f x))) (spread_of 8 x) ≡ c → pick a (pick b c false) false ≡ true → Byte x
    go true p true q true r e = record { first = ltb-true _ _ p; second = ltb-true _ _ q; third = eqb-true _ _ r }
    go true p true q false r e = let z : ◌≡◌ {A = ℕ} 0 1 = cc in absurd (omega arith)
    go true p false q c r e = let z : ◌≡◌ {A = ℕ} 0 1 = cc in absurd (omega arith)
    go false p b q c r e = let z : ◌≡◌ {A = ℕ} 0 1 = cc in absurd (omega arith)

steps_16 : (a b : ℕ) → a < 256 → b < 256
    → step 1 0x55555555 (step 2 0x33333333 (step 4 0x0f0f0f0f (step 8 0x00ff00ff (a * 2 ^ 8 + b)))) ≡ spread_of 8 a * 4 ^ 8 + spread_of 8 b
steps_16 a b ha hb =
    let p = byte a ha in
    let q = byte b hb in
    let p1 = p.first in
    let q1 = q.first in
    let p2 = p.second in
    let q2 = q.second in
    let u = step_block 4 0x0f0f a b (omega arith) (omega arith) (omega arith) (omega arith) (omega arith) in
    let v = step_block 2 0x3333 (step 4 0x0f0f a) (step 4 0x0f0f b) (omega arith) (omega arith) (omega arith) (omega arith) (omega arith) in
    let w = step_block 1 0x5555 (step 2 0x3333 (step 4 0x0f0f a)) (step 2 0x3333 (step 4 0x0f0f b)) (omega arith) (omega arith) (omega arith) (omega arith) (omega arith) in
    ap (λ (x : ℕ). step 1 0x55555555 (step 2 0x33333333 (step 4 0x0f0f0f0f x))) (step_first a b ha hb)
    ∙ ap (λ (x : ℕ). step 1 0x55555555 (step 2 0x33333333 x)) u
    ∙ ap (step 1 0x55555555) v
    ∙ w
    ∙ ap₂ (λ (x y : ℕ). x * 2 ^ 16 + y) p.third q.third

pub spread_steps : (j : ℕ) → j < 65536 → step 1 0x55555555 (step 2 0x33333333 (step 4 0x0f0f0f0f (step 8 0x00ff00ff j))) ≡ spread_of 16 j
spread_steps j h =
    let e : j / 256 * 2 ^ 8 + j % 256 ≡ j = omega arith in
    let s = steps_16 (j / 256) (j % 256) (omega arith) (omega arith) in
    let c = spread_cat 8 8 (j / 256) (j % 256) (omega arith) in
    rw e at (s ∙ sym c)
