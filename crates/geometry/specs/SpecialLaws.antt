-- The special length: lengths in one residue class, the search from the top, and the largest by its period. Assumes nothing.
use Rattle.std.specs.Prelude.{Some, None, ◌≡◌}
use Rattle.std.proofs.Common.{ap, subst, ◌∙◌, le-div_iff_mul-le, zero-mul, mul_left_comm, mul_comm, mod-lt, add-mul}
use Prim.Native.Nat.{ℕ, zero, suc, ◌+◌, ◌-◌, ◌*◌, ◌/◌, ◌%◌, ◌≤◌, ◌<◌, ◌∣◌}
use Rattle.std.proofs.Math.Nat.{lt_of_not-le, dvd_refl, dvd-add, dvd-add_iff_right, dvd-sub, dvd-mul_left, dvd-mul_right, mod-eq-zero_of_dvd, dvd_of_mod-eq-zero, div-add-mod, le_of_dvd, mul-le-mul_right, mod-le}
use Rattle.std.proofs.Math.Decide.{dec_le}
use native.Mathlib.Omega.{arith}
use Rattle.geometry.specs.Extreme.{IsLargest}
use Rattle.geometry.specs.Special.{Special, Found, Below, IsPeriod}

-- beta is 2 * h; k times beta more is k times h more in the half
twice : (h k : ℕ) → k * (2 * h) ≡ 2 * (k * h)
twice h k = mul_left_comm k 2 h

half_more : (h s k : ℕ) → (s + k * (2 * h)) / 2 ≡ s / 2 + k * h
half_more h s k = let e = twice h k in omega arith

pub factor_pos : (k m : ℕ) → 0 < k * m → 0 < k
factor_pos zero m l = absurd (omega (arith, zero-mul m))
factor_pos (suc k) m l = omega arith

-- a multiple that is not 0 is at least as large
pub multiple_le : (m d : ℕ) → m ∣ d → 0 < d → m ≤ d
multiple_le m d p l = le_of_dvd l p

module _ (n lo hi h w : ℕ) (within : hi ≤ n) (pos : 0 < h) where
  -- further up by a number of buckets whose half w divides
  pub shift_up : (s k : ℕ) → Special n lo hi (2 * h) w s → w ∣ k * h → s + k * (2 * h) ≤ hi → Special n lo hi (2 * h) w (s + k * (2 * h))
  shift_up s k p d l =
      let f = p.from in
      let m = p.some in
      let e : n - (s + k * (2 * h)) ≡ n - s - k * (2 * h) = omega arith in
      let x = half_more h s k in
      record {
        from = omega arith;
        to = l;
        main = rw e (dvd-sub (2 * h) p.main (dvd-mul_left (2 * h) k));
        fallback = rw x (dvd-add w p.fallback d);
        some = omega arith;
      }

  -- a larger one is further up by such a number
  pub shift_of : (s z : ℕ) → Special n lo hi (2 * h) w s → Special n lo hi (2 * h) w z → s < z → (k : ℕ) × (z ≡ s + k * (2 * h)) × (0 < k) × (w ∣ k * h)
  shift_of s z p q l =
      let a = q.to in
      let e : n - s - (n - z) ≡ z - s = omega arith in
      let d : 2 * h ∣ z - s = rw e at (dvd-sub (2 * h) p.main q.main) in
      let k : ℕ = (z - s) / (2 * h) in
      let m = mod-eq-zero_of_dvd (2 * h) d in
      let f = div-add-mod (z - s) (2 * h) in
      let c = mul_comm (2 * h) ((z - s) / (2 * h)) in
      let g : z ≡ s + (z - s) / (2 * h) * (2 * h) = omega arith in
      let x : z / 2 ≡ s / 2 + (z - s) / (2 * h) * h = ap (λ (i : ℕ). i / 2) g ∙ half_more h s ((z - s) / (2 * h)) in
      let y : w ∣ s / 2 + (z - s) / (2 * h) * h = rw x at q.fallback in
      ((z - s) / (2 * h), g, factor_pos ((z - s) / (2 * h)) (2 * h) (omega arith), (dvd-add_iff_right w p.fallback).1 y)

  module _ (s period : ℕ) (p : Special n lo hi (2 * h) w s) (least : IsPeriod h w period) where
    -- the largest exactly where one period more is past the range
    pub largest_if : hi < s + period * (2 * h) → IsLargest (Special n lo hi (2 * h) w) s
    unfolding IsPeriod
    largest_if past = record { holds = p; above = λ z q. go z q (dec_le z s) }
      where
        go : (z : ℕ) → Special n lo hi (2 * h) w z → Dec (z ≤ s) → z ≤ s
        go z q (yes l) = l
        go z q (no f) =
            let k = shift_of s z p q (lt_of_not-le f) in
            let j = least.below k.0 (k.2, k.3) in
            let m = mul-le-mul_right (2 * h) j in
            let e = k.1 in
            let t = q.to in
            absurd (omega arith)

    pub largest_only : IsLargest (Special n lo hi (2 * h) w) s → hi < s + period * (2 * h)
    unfolding IsPeriod
    largest_only l = go (dec_le (s + period * (2 * h)) hi)
      where
        go : Dec (s + period * (2 * h) ≤ hi) → hi < s + period * (2 * h)
        go (no f) = lt_of_not-le f
        go (yes q) =
            let b = l.above (s + period * (2 * h)) (shift_up s period p least.holds.1 q) in
            let m : 1 * (2 * h) ≤ period * (2 * h) = mul-le-mul_right (2 * h) least.holds.0 in
            absurd (omega arith)

  -- where s will not do, the next is 2 * h below
  pub below_next : (s : ℕ) → Below n lo hi (2 * h) w s → (w ∣ s / 2 → ⊥) → (z : ℕ) → Special n lo hi (2 * h) w z → z + 2 * h ≤ s
  below_next s b f z q = go (dec_le s z)
    where
      go : Dec (s ≤ z) → z + 2 * h ≤ s
      go (yes l) = let u = b.above z q in let e : z ≡ s = omega arith in absurd (f (subst (λ (i : ℕ). w ∣ i / 2) e q.fallback))
      go (no g) =
          let l = lt_of_not-le g in
          let t = b.to in
          let e : n - z - (n - s) ≡ s - z = omega arith in
          let d : 2 * h ∣ s - z = rw e at (dvd-sub (2 * h) q.main b.main) in
          let m = le_of_dvd (omega arith) d in
          omega arith

  pub below_more : (s : ℕ) → Below n lo hi (2 * h) w s → (w ∣ s / 2 → ⊥) → 2 * h ≤ s → Below n lo hi (2 * h) w (s - 2 * h)
  below_more s b f l =
      let t = b.to in
      let e : n - (s - 2 * h) ≡ n - s + 2 * h = omega arith in
      record { to = omega arith; main = rw e (dvd-add (2 * h) b.main (dvd_refl (2 * h))); above = λ z q. let m = below_next s b f z q in omega arith }

  pub below_found : (s : ℕ) → Below n lo hi (2 * h) w s → lo ≤ s → 2 ≤ lo → w ∣ s / 2 → IsLargest (Special n lo hi (2 * h) w) s
  below_found s b l t f = record { holds = record { from = l; to = b.to; main = b.main; fallback = f; some = omega arith }; above = b.above }

  pub below_low : (s : ℕ) → Below n lo hi (2 * h) w s → s < lo → (z : ℕ) → Special n lo hi (2 * h) w z → ⊥
  below_low s b l z q = let u = b.above z q in let v = q.from in omega arith

  pub below_short : (s : ℕ) → Below n lo hi (2 * h) w s → (w ∣ s / 2 → ⊥) → s < 2 * h → (z : ℕ) → Special n lo hi (2 * h) w z → ⊥
  below_short s b f l z q = let m = below_next s b f z q in omega arith

  -- after w tries there is none: one that is left would come again w buckets further up
  climb : (s fuel z : ℕ) → 0 < w → Below n lo hi (2 * h) w s → s + w * (2 * h) ≤ hi → s ≤ z + fuel → Special n lo hi (2 * h) w z → ⊥
  climb s zero z o b l f q =
      let u = b.above z q in
      let a = b.above (z + w * (2 * h)) (shift_up z w q (dvd-mul_right w h) (omega arith)) in
      let m : 1 * (2 * h) ≤ w * (2 * h) = mul-le-mul_right (2 * h) o in
      omega arith
  climb s (suc fuel) z o b l f q =
      let u = b.above z q in
      let m : 1 * (2 * h) ≤ w * (2 * h) = mul-le-mul_right (2 * h) o in
      climb s fuel (z + w * (2 * h)) o b l (omega arith) (shift_up z w q (dvd-mul_right w h) (omega arith))

  pub below_none : (s : ℕ) → 0 < w → Below n lo hi (2 * h) w s → s + w * (2 * h) ≤ hi → (z : ℕ) → Special n lo hi (2 * h) w z → ⊥
  below_none s o b l z q = climb s s z o b l (omega arith) q

  -- the top: the largest that leaves whole buckets
  pub top_at : (n - hi) % (2 * h) ≡ 0 → Below n lo hi (2 * h) w hi
  top_at e = record { to = omega arith; main = dvd_of_mod-eq-zero (2 * h) e; above = λ z q. q.to }

  module _ (r : ℕ) (is : r ≡ (n - hi) % (2 * h)) (some : 0 < r) where
    over : r < 2 * h
    over = omega (arith, mod-lt (n - hi) {m = 2 * h} (omega arith))

    rest : 2 * h ∣ n - hi - r
    rest =
        let e : n - hi - r ≡ 2 * h * ((n - hi) / (2 * h)) = omega (arith, div-add-mod (n - hi) (2 * h)) in
        rw e (dvd-mul_right (2 * h) ((n - hi) / (2 * h)))

    far : (z : ℕ) → Special n lo hi (2 * h) w z → z + (2 * h - r) ≤ hi
    far z q =
        let t = q.to in
        let o = over in
        let m = mod-le (n - hi) (2 * h) in
        let e : n - z - (n - hi - r) ≡ hi - z + r = omega arith in
        let d : 2 * h ∣ hi - z + r = rw e at (dvd-sub (2 * h) q.main rest) in
        let l = le_of_dvd (omega arith) d in
        omega arith

    pub top_under : 2 * h - r ≤ hi → Below n lo hi (2 * h) w (hi - (2 * h - r))
    top_under l =
        let o = over in
        let m = mod-le (n - hi) (2 * h) in
        let e : n - (hi - (2 * h - r)) ≡ n - hi - r + 2 * h = omega arith in
        record { to = omega arith; main = rw e (dvd-add (2 * h) rest (dvd_refl (2 * h))); above = λ z q. let f = far z q in omega arith }

    pub top_none : hi < 2 * h - r → Found n lo hi (2 * h) w None
    unfolding Found
    top_none l = λ z q. let f = far z q in omega arith

  -- the answers of the search
  pub found_here : (s : ℕ) → Below n lo hi (2 * h) w s → lo ≤ s → 2 ≤ lo → s / 2 % w ≡ 0 → Found n lo hi (2 * h) w (Some s)
  unfolding Found
  found_here s b l t e = below_found s b l t (dvd_of_mod-eq-zero w e)

  not_here : (s : ℕ) → (s / 2 % w ≡ 0 → ⊥) → w ∣ s / 2 → ⊥
  not_here s f d = f (mod-eq-zero_of_dvd w d)

  pub found_low : (s : ℕ) → Below n lo hi (2 * h) w s → s < lo → Found n lo hi (2 * h) w None
  unfolding Found
  found_low s b l = below_low s b l

  pub found_short : (s : ℕ) → Below n lo hi (2 * h) w s → (s / 2 % w ≡ 0 → ⊥) → s < 2 * h → Found n lo hi (2 * h) w None
  unfolding Found
  found_short s b f l = below_short s b (not_here s f) l

  pub found_none : (s tries : ℕ) → 0 < w → w ≤ tries → Below n lo hi (2 * h) w s → s + tries * (2 * h) ≤ hi → Found n lo hi (2 * h) w None
  unfolding Found
  found_none s tries o g b l = let m = mul-le-mul_right (2 * h) g in below_none s o b (omega arith)

  pub tried_more : (s tries : ℕ) → Below n lo hi (2 * h) w s → (s / 2 % w ≡ 0 → ⊥) → 2 * h ≤ s → s + tries * (2 * h) ≤ hi
      → Below n lo hi (2 * h) w (s - 2 * h) × (s - 2 * h + (tries + 1) * (2 * h) ≤ hi)
  tried_more s tries b f l g =
      let e : (tries + 1) * (2 * h) ≡ tries * (2 * h) + 1 * (2 * h) = add-mul tries 1 (2 * h) in
      (below_more s b (not_here s f) l, omega arith)

-- a special length within the range leaves as many buckets as levels, and so there are counts
pub buckets_enough : (n s alpha beta : ℕ) → 0 < beta → alpha * beta ≤ n → s ≤ n - alpha * beta → alpha ≤ (n - s) / beta
buckets_enough n s alpha beta pos h l = (le-div_iff_mul-le pos).1 (omega arith)
