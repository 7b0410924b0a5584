-- Laws of the reduction to a power of two. Assumes nothing.
use Rattle.std.specs.Prelude.{◌≡◌, ℕ, zero, suc, ◌+◌, ◌-◌, ◌*◌, ◌/◌, ◌%◌, ◌^◌, ◌<◌, ◌≤◌, Bool, true, List, ◌∷◌, ◌==◌, ◌≢◌, refl, Ok}
use Rattle.std.proofs.Common.{sym, ap, ◌∙◌, pow-suc, arith, pow-add, pow_pos, shr-shr, eqb-true, le-leb}
use Rattle.std.proofs.Math.Nat.{div-eq_of_lt}
use Rattle.std.specs.Int.Count.{count_trailing_zeros, under}
use Rattle.std.proofs.lemmas.Nat.{shl-shr}
use Rattle.std.proofs.Math.Pow.{low}
use Rattle.probe.specs.Word.{word_of}
use Rattle.probe.specs.WordLaws.{word_below}
use Rattle.probe.specs.Range.{indexed, words_at, reduce_of, draw_of}

-- ---- 2^k values

-- 2^64 in parts
parts : (k : ℕ) → k ≤ 64 → 2 ^ 64 ≡ 2 ^ (64 - k) * 2 ^ k
parts k h = let e : 64 ≡ 64 - k + k = omega arith in ap (λ (m : ℕ). 2 ^ m) e ∙ pow-add 2 (64 - k) k

-- 2^k divides 2^64, so that no word is rejected
no_rest : (k : ℕ) → k ≤ 64 → 2 ^ 64 % 2 ^ k ≡ 0
no_rest k h = let z : 2 ^ (64 - k) * 2 ^ k ≡ 2 ^ (64 - k) * 2 ^ k + 0 = omega arith in ap (λ (m : ℕ). m % 2 ^ k) (parts k h ∙ z) ∙ low (2 ^ (64 - k)) k (pow_pos k)

-- the high half of the product is the word's top k bits
high_shift : (k word : ℕ) → k ≤ 64 → word * 2 ^ k / 2 ^ 64 ≡ word / 2 ^ (64 - k)
high_shift k word h =
    let e : 64 ≡ k + (64 - k) = omega arith in
    ap (λ (m : ℕ). word * 2 ^ k / 2 ^ m) e ∙ sym (shr-shr (word * 2 ^ k) k (64 - k)) ∙ ap (λ (m : ℕ). m / 2 ^ (64 - k)) (shl-shr word k)

-- For 2^k values no word is rejected and the index is the word divided by 2^(64-k), rounded down.
pub reduce_power : (k word : ℕ) (words : List ℕ) (used : ℕ) → k ≤ 64 → reduce_of (word ∷ words) (2 ^ k) used ≡ Ok (indexed (word / 2 ^ (64 - k)) (used + 1))
unfolding reduce_of
reduce_power k word words used h = rw (le-leb (2 ^ 64 % 2 ^ k) (word * 2 ^ k % 2 ^ 64) (omega (arith, no_rest k h)), high_shift k word h)

-- "One word is spent": the first, however many are allowed.
pub draw_power : (inner outer base k cap : ℕ) → k ≤ 64 → 0 < cap → draw_of inner outer base (2 ^ k) cap ≡ Ok (indexed (word_of inner outer base / 2 ^ (64 - k)) 1)
unfolding draw_of words_at
draw_power inner outer base k zero h some = absurd (omega arith)
draw_power inner outer base k (suc cap) h some = reduce_power k (word_of inner outer base) (words_at inner outer (base + 1) cap) 0 h

-- "Length 1 gives 0."
pub draw_one : (inner outer base cap : ℕ) → 0 < cap → draw_of inner outer base 1 cap ≡ Ok (indexed 0 1)
draw_one inner outer base cap some =
    draw_power inner outer base 0 cap (omega arith) some ∙ ap (λ (i : ℕ). Ok (indexed i 1)) (div-eq_of_lt (word_below inner outer base))

-- what a draw answers where u is 2 to its trailing zeros
pub draw_shifted : (inner outer base u cap zeros word index : ℕ) (t : Bool) → zeros ≤ 64 → t ≡ (2 ^ zeros == u) → t ≡ true → (cap ≢ 0)
    → word ≡ word_of inner outer base → index ≡ word / 2 ^ (64 - zeros) → Ok (indexed index 1) ≡ draw_of inner outer base u cap
draw_shifted inner outer base u cap zeros word index t most test on some w i =
    let power : u ≡ 2 ^ zeros = sym (eqb-true (2 ^ zeros) u (sym test ∙ on)) in
    rw (i, w, power) (sym (draw_power inner outer base zeros cap most (omega arith)))

-- ---- trailing zeros

-- a number that is not 0 has a lowest 1
pub trailing_below : (bits n : ℕ) → 0 < n → n < 2 ^ bits → count_trailing_zeros bits n < bits
unfolding count_trailing_zeros
trailing_below zero n some h = absurd (omega arith)
trailing_below (suc bits) n some h = go (n % 2) refl (λ more. trailing_below bits (n / 2) more (omega (arith, pow-suc 2 bits)))
  where
    go : (digit : ℕ) → n % 2 ≡ digit → (0 < n / 2 → count_trailing_zeros bits (n / 2) < bits) → under digit (count_trailing_zeros bits (n / 2)) < suc bits
    go zero e rest = let r = rest (omega arith) in omega arith
    go (suc digit) e rest = omega arith
