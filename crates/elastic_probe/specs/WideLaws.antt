-- Laws of numbers of two words: their length, their bits, and one more bit. Assumes nothing.
use Rattle.std.specs.Prelude.{◌≡◌, ℕ, suc, ◌+◌, ◌-◌, ◌*◌, ◌/◌, ◌%◌, ◌^◌, ◌≤◌, ◌<◌}
use Rattle.std.proofs.Common.{sym, ap, ◌∙◌, zero-add, add_comm, mul_assoc, pow-suc, mod-eq_of_lt, mul-le-mul_right, arith, pow_pos, pow_mono, pow-add, shr-shr}
use Rattle.std.proofs.Math.Nat.{add-mul-div_right, mul-add-mod_self_right}
use Rattle.std.proofs.Math.Decide.{ℕ_discrete}
use Rattle.std.proofs.Math.Pow.{pow-lt, high, low}
use Rattle.std.proofs.lemmas.Nat.{mod-pow-add}
use Rattle.elastic_probe.specs.Length.{bits_of}
use Rattle.elastic_probe.specs.LengthLaws.{bits_before, bits_below}
use Rattle.elastic_probe.specs.Wide.{wide_of, to_wide}
use Rattle.words.specs.declared.product.Wide.{Wide}

-- ---- the words of a number

wide_hi : (h l : ℕ) → l < 2 ^ 64 → (h * 2 ^ 64 + l) / 2 ^ 64 ≡ h
wide_hi h l few = high h 64 few

wide_lo : (h l : ℕ) → l < 2 ^ 64 → (h * 2 ^ 64 + l) % 2 ^ 64 ≡ l
wide_lo h l few = low h 64 few

-- two words are those of the number they make
pub wide_is : (w : Wide) (n : ℕ) → w.lo < 2 ^ 64 → wide_of w ≡ n → w ≡ to_wide n
wide_is w n few e = rw (← e, wide_hi w.hi w.lo few, wide_lo w.hi w.lo few)

-- ---- length

pub wide_short : (h l : ℕ) → h ≡ 0 → bits_of l ≡ bits_of (h * 2 ^ 64 + l)
wide_short h l e = let z : l ≡ h * 2 ^ 64 + l = omega arith in ap bits_of z

pub wide_long : (h l : ℕ) → (h ≡ 0 → ⊥) → l < 2 ^ 64 → 64 + bits_of h ≡ bits_of (h * 2 ^ 64 + l)
wide_long h l n few = sym (bits_before h l 64 (omega arith) few)

pub wide_most : (h l : ℕ) → h < 2 ^ 64 → l < 2 ^ 64 → bits_of (h * 2 ^ 64 + l) ≤ 128
wide_most h l upper few = go (ℕ_discrete h 0)
  where
    go : Dec (h ≡ 0) → bits_of (h * 2 ^ 64 + l) ≤ 128
    go (yes e) = omega (arith, wide_short h l e, bits_below l 64 few)
    go (no n) = omega (arith, wide_long h l n few, bits_below h 64 upper)

-- ---- bits

even : (x y : ℕ) → (x + y * 2) % 2 ≡ x % 2
even x y = omega arith

-- below the upper word's places
lower_div : (h l a k : ℕ) → (h * 2 ^ (a + k) + l) / 2 ^ k ≡ l / 2 ^ k + h * 2 ^ a
lower_div h l a k =
    let e : h * 2 ^ (a + k) + l ≡ l + h * 2 ^ a * 2 ^ k = rw (pow-add 2 a k, ← mul_assoc h (2 ^ a) (2 ^ k)) (add_comm (h * 2 ^ a * 2 ^ k) l) in
    ap (λ (x : ℕ). x / 2 ^ k) e ∙ add-mul-div_right l (h * 2 ^ a) {z = 2 ^ k} (pow_pos k)

lower_bit : (h l a k : ℕ) → (h * 2 ^ (suc a + k) + l) / 2 ^ k % 2 ≡ l / 2 ^ k % 2
lower_bit h l a k =
    let e : h * 2 ^ suc a ≡ h * 2 ^ a * 2 = rw (pow-suc 2 a) (sym (mul_assoc h (2 ^ a) 2)) in
    ap (λ (x : ℕ). x % 2) (lower_div h l (suc a) k ∙ ap (λ (x : ℕ). l / 2 ^ k + x) e) ∙ even (l / 2 ^ k) (h * 2 ^ a)

lower_mod : (h l a k : ℕ) → (h * 2 ^ (a + k) + l) % 2 ^ k ≡ l % 2 ^ k
lower_mod h l a k =
    let e : h * 2 ^ (a + k) + l ≡ h * 2 ^ a * 2 ^ k + l = rw (pow-add 2 a k, ← mul_assoc h (2 ^ a) (2 ^ k)) in
    ap (λ (x : ℕ). x % 2 ^ k) e ∙ mul-add-mod_self_right (h * 2 ^ a) (2 ^ k) l

module _ (h l k : ℕ) (few : k < 64) where
  pub bit_lower : l / 2 ^ k % 2 ≡ (h * 2 ^ 64 + l) / 2 ^ k % 2
  bit_lower =
      let s : suc (63 - k) + k ≡ 64 = omega arith in
      sym (rw s at (lower_bit h l (63 - k) k))

  pub mod_lower : 0 + l % 2 ^ k ≡ (h * 2 ^ 64 + l) % 2 ^ k
  mod_lower =
      let s : 64 - k + k ≡ 64 = omega arith in
      zero-add (l % 2 ^ k) ∙ sym (rw s at (lower_mod h l (64 - k) k))

module _ (h l k : ℕ) (word : l < 2 ^ 64) (many : 64 ≤ k) where
  pub bit_upper : h / 2 ^ (k - 64) % 2 ≡ (h * 2 ^ 64 + l) / 2 ^ k % 2
  bit_upper =
      let s : 64 + (k - 64) ≡ k = omega arith in
      let d : (h * 2 ^ 64 + l) / 2 ^ 64 / 2 ^ (k - 64) ≡ (h * 2 ^ 64 + l) / 2 ^ k = rw s at (shr-shr (h * 2 ^ 64 + l) 64 (k - 64)) in
      ap (λ (x : ℕ). x % 2) (ap (λ (x : ℕ). x / 2 ^ (k - 64)) (sym (wide_hi h l word)) ∙ d)

  pub mod_upper : h % 2 ^ (k - 64) * 2 ^ 64 + l ≡ (h * 2 ^ 64 + l) % 2 ^ k
  mod_upper =
      let s : k - 64 + 64 ≡ k = omega arith in
      let m : (h * 2 ^ 64 + l) % 2 ^ k ≡ ((h * 2 ^ 64 + l) / 2 ^ 64 % 2 ^ (k - 64)) * 2 ^ 64 + (h * 2 ^ 64 + l) % 2 ^ 64 = rw s at (mod-pow-add (h * 2 ^ 64 + l) (k - 64) 64) in
      sym (rw (wide_hi h l word, wide_lo h l word) at m)

-- a shift of one
pub one_shifted : (k : ℕ) → k < 64 → 1 * 2 ^ k % 2 ^ 64 ≡ 2 ^ k
one_shifted k h =
    let e : 1 * 2 ^ k ≡ 2 ^ k = omega arith in
    rw e (mod-eq_of_lt (pow-lt h))

-- ---- one more bit

half_room : (k : ℕ) → k < 64 → 2 * 2 ^ k ≤ 2 ^ 64
half_room k h = omega (arith, pow_mono {i = suc k} {j = 64} h, pow-suc 2 k)

module _ (x b k : ℕ) (bit : b < 2) (few : k < 64) (below : x < 2 ^ k) where
  bit_most : b * 2 ^ k ≤ 1 * 2 ^ k
  bit_most = mul-le-mul_right (2 ^ k) (omega arith)

  pub bit_shifted : b * 2 ^ k % 2 ^ 64 ≡ b * 2 ^ k
  bit_shifted = omega (arith, bit_most, half_room k few)

  pub bit_added : x + b * 2 ^ k % 2 ^ 64 < 2 ^ 64
  bit_added = rw bit_shifted (omega (arith, bit_most, half_room k few))

module _ (h l b k : ℕ) (bit : b < 2) (below : h * 2 ^ 64 + l < 2 ^ k) where
  module _ (few : k < 64) where
    lower_below : l < 2 ^ k
    lower_below = omega arith

    pub add_lower : l + b * 2 ^ k % 2 ^ 64 < 2 ^ 64
    add_lower = bit_added l b k bit few lower_below

    pub with_lower : h * 2 ^ 64 + (l + b * 2 ^ k % 2 ^ 64) ≡ b * 2 ^ k + (h * 2 ^ 64 + l)
    with_lower = rw (bit_shifted l b k bit few lower_below) (omega arith)

  module _ (many : 64 ≤ k) (most : k < 128) where
    split : 2 ^ k ≡ 2 ^ (k - 64) * 2 ^ 64
    split = let s : k - 64 + 64 ≡ k = omega arith in rw s at (pow-add 2 (k - 64) 64)

    upper_below : h < 2 ^ (k - 64)
    upper_below = let m : h * 2 ^ 64 + l < 2 ^ (k - 64) * 2 ^ 64 = rw split at below in omega arith

    pub add_upper : h + b * 2 ^ (k - 64) % 2 ^ 64 < 2 ^ 64
    add_upper = bit_added h b (k - 64) bit (omega arith) upper_below

    pub with_upper : (h + b * 2 ^ (k - 64) % 2 ^ 64) * 2 ^ 64 + l ≡ b * 2 ^ k + (h * 2 ^ 64 + l)
    with_upper = rw (bit_shifted h b (k - 64) bit (omega arith) upper_below, split) (omega arith)
