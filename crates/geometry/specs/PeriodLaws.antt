-- The period of the special lengths, as the first meeting of two rows of multiples, and the test of a length by it. Assumes nothing.
use Rattle.std.specs.Prelude.{◌≡◌, ℕ, ◌+◌, ◌-◌, ◌*◌, ◌/◌, ◌≤◌, ◌<◌}
use Rattle.std.proofs.Common.{sym, ap, ◌∙◌, lt_of_not-le, one-mul, add-mul, mul-le-mul, mul-le-mul_left, mul-le-mul_right, mul-div_cancel, mul-one, arith}
use Rattle.std.proofs.Math.Path.{subst}
use Rattle.std.specs.Int.{◌∣◌}
use Rattle.std.proofs.Math.Nat.{dvd_refl, dvd-add, dvd-sub, dvd-mul_left, dvd-mul_right, le_of_dvd, div-mul_cancel}
use Rattle.std.proofs.Math.Decide.{dec_le}
use Rattle.geometry.specs.Special.{IsPeriod, Measured}
use Rattle.geometry.specs.SpecialLaws.{largest_if, largest_only}

-- a is k times h, b a multiple of w, and no number of buckets below k will do, nor one whose halves stay below b
pub record Meeting (h w k a b : ℕ) : Type 0 where
  pub some : 0 < k
  pub is_a : a ≡ k * h
  pub is_b : w ∣ b
  pub least : (j : ℕ) → 0 < j → w ∣ j * h → k ≤ j
  pub past : (j : ℕ) → 0 < j → w ∣ j * h → b ≤ j * h

less_of_mul : (k j h : ℕ) → k * h < j * h → k < j
less_of_mul k j h l = go (dec_le j k)
  where
    go : Dec (j ≤ k) → k < j
    go (yes p) = let m = mul-le-mul_right h p in absurd (omega arith)
    go (no q) = lt_of_not-le q

mul_pos : (j h : ℕ) → 0 < j → 0 < h → 0 < j * h
mul_pos j h p q = let m : 1 * h ≤ j * h = mul-le-mul_right h p in omega (arith, one-mul h)

pub meeting_start : (h w : ℕ) → 0 < h → Meeting h w 1 h w
meeting_start h w p = record { some = omega arith; is_a = sym (one-mul h); is_b = dvd_refl w; least = λ j q d. q; past = λ j q d. le_of_dvd (mul_pos j h q p) d }

module _ (h w k a b : ℕ) (m : Meeting h w k a b) where
  pub meeting_a : a < b → Meeting h w (k + 1) (a + h) b
  meeting_a l =
      let i = m.is_a in
      let e : (k + 1) * h ≡ k * h + 1 * h = add-mul k 1 h in
      record {
        some = omega arith;
        is_a = omega (arith, one-mul h);
        is_b = m.is_b;
        least = λ j q d. let x : k < j = less_of_mul k j h (omega (arith, m.past j q d)) in omega arith;
        past = m.past;
      }

  pub meeting_b : b < a → Meeting h w k a (b + w)
  meeting_b l =
      let i = m.is_a in
      record {
        some = m.some;
        is_a = i;
        is_b = dvd_add_self m.is_b;
        least = m.least;
        past = λ j q d. next j q d (mul-le-mul_right h (m.least j q d));
      }
    where
      dvd_add_self : w ∣ b → w ∣ b + w
      dvd_add_self d = dvd-add w d (dvd_refl w)

      next : (j : ℕ) → 0 < j → w ∣ j * h → k * h ≤ j * h → b + w ≤ j * h
      next j q d x =
          let y = le_of_dvd (omega (arith, m.is_a)) (dvd-sub w d m.is_b) in
          omega (arith, m.is_a)

  pub meeting_end : a ≡ b → IsPeriod h w k
  unfolding IsPeriod
  meeting_end e = record { holds = (m.some, subst (λ (x : ℕ). w ∣ x) (sym e ∙ m.is_a) m.is_b); below = λ j p. m.least j p.0 p.1 }

  -- the two rows meet at w times h, at the latest
  pub meeting_within : 0 < w → (k ≤ w) × (b ≤ w * h) × (a ≤ w * h)
  meeting_within p =
      let x = m.least w p (dvd-mul_right w h) in
      (x, m.past w p (dvd-mul_right w h), (let y = mul-le-mul_right h x in omega (arith, m.is_a)))

pub rows_small : (h w : ℕ) → h ≤ 27 → w ≤ 10 → w * h ≤ 270
rows_small h w p q = mul-le-mul {n₂ = 10} {m₂ = 27} q p

pub period_within : (h w k : ℕ) → 0 < w → IsPeriod h w k → k ≤ w
unfolding IsPeriod
period_within h w k p g = g.below w (p, dvd-mul_right w h)

pub product_small : (x y : ℕ) → x ≤ 4294967296 → y ≤ 54 → x * y ≤ 231928233984
product_small x y p q = mul-le-mul {n₂ = 4294967296} {m₂ = 54} p q

-- the tests of a length, one by one
module _ (n lo hi h w s main half : ℕ) where
  main_is : 0 < h → main * (2 * h) ≡ n - s → main ≡ (n - s) / (2 * h)
  main_is p e = sym (mul-div_cancel main {n = 2 * h} (omega arith)) ∙ ap (λ (x : ℕ). x / (2 * h)) e

  half_is : 0 < w → half * w ≡ s / 2 → half ≡ s / 2 / w
  half_is p e = sym (mul-div_cancel half {n = w} p) ∙ ap (λ (x : ℕ). x / w) e

  pub measured_main : Measured n lo hi (2 * h) w s main half → main * (2 * h) ≡ n - s
  measured_main d = ap (λ (x : ℕ). x * (2 * h)) d.is_main ∙ div-mul_cancel (2 * h) d.largest.holds.main

  pub measured_half : Measured n lo hi (2 * h) w s main half → half * w ≡ s / 2
  measured_half d = ap (λ (x : ℕ). x * w) d.is_half ∙ div-mul_cancel w d.largest.holds.fallback

  le_product : (x y : ℕ) → 0 < y → x ≤ x * y
  le_product x y p = let m = mul-le-mul_left x p in omega (arith, mul-one x)

  pub measured_most : 0 < h → 0 < w → hi ≤ n → Measured n lo hi (2 * h) w s main half → (main ≤ n) × (half ≤ n)
  measured_most p q l d = (omega (arith, measured_main d, le_product main (2 * h) (omega arith)), omega (arith, measured_half d, le_product half w q, d.largest.holds.to))

  module _ (k : ℕ) (p : 0 < h) (q : 0 < w) (l : hi ≤ n) (g : IsPeriod h w k) where
    pub measured_past : s ≤ hi → k * (2 * h) ≤ hi - s → Measured n lo hi (2 * h) w s main half → ⊥
    measured_past t f d = omega (arith, largest_only n lo hi h w l p s k d.largest.holds g d.largest)

    pub measured : 2 ≤ lo → lo ≤ s → s ≤ hi → main * (2 * h) ≡ n - s → half * w ≡ s / 2 → hi - s < k * (2 * h) → Measured n lo hi (2 * h) w s main half
    measured two a b x y f =
        record {
          largest =
              largest_if n lo hi h w l p s k
              (record { from = a; to = b; main = subst (λ (z : ℕ). 2 * h ∣ z) x (dvd-mul_left (2 * h) main); fallback = subst (λ (z : ℕ). w ∣ z) y (dvd-mul_left w half); some = omega arith })
              g
              (omega arith);
          is_main = main_is p x;
          is_half = half_is q y;
        }
