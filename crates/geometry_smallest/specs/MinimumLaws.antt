-- Laws of the lower bound: what a length needs, the loop that raises the bound, and that layouts lie above. Assumes nothing.
use Rattle.std.specs.Prelude.{Option, Some, None, ◌≡◌}
use Rattle.std.proofs.Math.Path.{refl}
use Rattle.std.proofs.Common.{ap, le_trans, le-div_iff_mul-le, div-lt_iff_lt-mul, mul-add, mul_left_comm, mod-lt, pow_pos}
use Prim.Native.Nat.{ℕ, ◌+◌, ◌-◌, ◌*◌, ◌/◌, ◌%◌, ◌^◌, ◌≤◌, ◌<◌}
use Rattle.std.proofs.Math.Nat.{mul_comm, mul-le-mul}
use native.Mathlib.Omega.{arith}
use Rattle.std.proofs.Math.Pow.{pow_mono}
use Rattle.std.specs.Option.{SomeIff}
use Rattle.words.specs.Log.{ceil_log2}
use Rattle.geometry.specs.ExtremeLaws.{smallest_one}
use Rattle.geometry.specs.Special.{loglog}
use Rattle.geometry.specs.Funnel.{Layout}
use Rattle.geometry.specs.LoglogLaws.{log_is}
use Rattle.geometry.specs.LengthLaws.{length_facts}
use Rattle.geometry_smallest.specs.LayoutsLaws.{loglog_mono}
use Rattle.geometry_smallest.specs.Minimum.{Roomy, Minimum, Required, Raised, RustMinimum, shift, product, word, enough, again}

-- g of a word
pub loglog_least : (n : ℕ) → 1 ≤ loglog n
unfolding loglog
loglog_least n = omega arith

pub loglog_most : (n : ℕ) → n ≤ 2 ^ 64 → loglog n ≤ 6
unfolding loglog
loglog_most n h =
    let a : ceil_log2 n ≤ 64 = (log_is n h).least 64 h in
    let b : ceil_log2 (ceil_log2 n) ≤ 6 = (log_is (ceil_log2 n) (omega arith)).least 6 a in
    omega arith

pub rest_small : (l power : ℕ) → l ≤ 24 → l * (power % 3) ≤ 48
rest_small l power h = let a = mod-lt power {m = 3} (omega arith) in mul-le-mul {n₂ = 24} {m₂ = 2} h (omega arith)

-- a product by thirds: l times the power is three times l * third, and l times what is left
module _ (l power : ℕ) (some : 0 < l) where
  thirds : l * power ≡ 3 * (l * (power / 3)) + l * (power % 3)
  thirds =
      let a : power ≡ 3 * (power / 3) + power % 3 = omega arith in
      let b : l * power ≡ l * (3 * (power / 3) + power % 3) = rw (← a) in
      let c = mul-add l (3 * (power / 3)) (power % 3) in
      let d = mul_left_comm l 3 (power / 3) in
      omega arith

  module _ (rest : ℕ) (is : rest ≡ (l * (power % 3) + 2) / 3) (small : rest ≤ 18446744073709551615) where
    pub required_none : (18446744073709551615 - rest) / l < power / 3 → Required l power None
    unfolding Required
    required_none h =
        let a = (div-lt_iff_lt-mul some).0 h in
        let b = mul_comm l (power / 3) in
        let t = thirds in
        omega arith

    pub required_fits : power / 3 ≤ (18446744073709551615 - rest) / l → l * (power / 3) + rest ≤ 18446744073709551615
    required_fits h =
        let a = (le-div_iff_mul-le some).0 h in
        let b = mul_comm l (power / 3) in
        omega arith

    -- the same by the sum, which no word holds
    pub required_past : 18446744073709551615 < l * (power / 3) + rest → Required l power None
    unfolding Required
    required_past h = let t = thirds in omega arith

    pub required_some : 4 ≤ power → Required l power (Some (l * (power / 3) + rest))
    unfolding Required
    required_some h = let t = thirds in record { holds = omega arith; below = λ m k. omega arith }

    -- the sum that the code answers, where a word holds it
    pub required_sum : 4 ≤ power → (sum : Option ℕ) → SomeIff sum (l * (power / 3) + rest < 2 ^ 64) (l * (power / 3) + rest) → Required l power sum
    required_sum h None f = required_past (omega arith)
    required_sum h (Some x) f = rw f.1 (required_some h)

-- the loop
module _ (e from : ℕ) where
  -- a large exponent leaves no room
  pub minimum_exponent : 61 < e → Minimum e from None
  unfolding Minimum
  minimum_exponent h = λ n r.
      let a : 64 ≤ e + 2 = omega arith in
      let b : 2 ^ 64 ≤ 2 ^ (e + 2) = pow_mono a in
      let c = (le-div_iff_mul-le (pow_pos (e + 2))).0 r.room in
      let d = loglog_least n in
      let f : 4 * 2 ^ 64 ≤ 4 * loglog n * 2 ^ (e + 2) = mul-le-mul {n₁ = 4} {m₁ = 2 ^ 64} (omega arith) b in
      let g = r.fits in
      omega arith

  pub raised_start : Raised e from from
  raised_start = record { above = omega arith; below = λ m r. r.above }

  module _ (n : ℕ) (is : Raised e from n) (fits : n ≤ 18446744073709551615) where
    -- what a number that will do says of the length that n needs
    needs_at : (m : ℕ) → Roomy e from m → 4 * loglog n * 2 ^ (e + 2) ≤ 3 * m
    needs_at m r =
        let f = r.fits in
        let a = loglog_mono n m (is.below m r) (omega arith) in
        let b = r.room in
        (le-div_iff_mul-le (pow_pos (e + 2))).0 (omega arith)

    module _ (l power need : ℕ) (length : l ≡ 4 * loglog n) (is-power : power ≡ 2 ^ (e + 2)) where
      at : (m : ℕ) → Roomy e from m → l * power ≤ 3 * m
      at m r = rw (length, is-power) (needs_at m r)

      pub raised_none : Required l power None → Minimum e from None
      unfolding Required Minimum
      raised_none q = λ m r. let a = at m r in let f = r.fits in omega arith

      pub raised_found : Required l power (Some need) → need ≤ n → Minimum e from (Some n)
      unfolding Required Minimum
      raised_found q h =
          let t = q.holds in
          let a : l * power ≤ 3 * n = omega arith in
          let b : 4 * loglog n * 2 ^ (e + 2) ≤ 3 * n = rw (length, is-power) at a in
          record { holds = record { above = is.above; fits = fits; room = (le-div_iff_mul-le (pow_pos (e + 2))).1 b }; below = is.below }

      pub raised_more : Required l power (Some need) → n < need → Raised e from need
      unfolding Required
      raised_more q h = let a = is.above in record { above = omega arith; below = λ m r. q.below m (at m r) }

-- "only a lower bound on layouts": every layout lies at or above it, and where there is none there is no layout
module _ (e from n : ℕ) (above : from ≤ n) (layout : Layout n e) where
  pub layout_roomy : Roomy e from n
  layout_roomy =
      let s = layout.0.special_len in
      let p = layout.2.special.largest.holds in
      let f = length_facts n e layout.0.special_len p in
      let c = layout.2.configured in
      let a = f.least in
      let b = (le-div_iff_mul-le (pow_pos (e + 2))).1 f.part in
      record { above = above; fits = omega arith; room = omega arith }

  pub minimum_below : (m : ℕ) → Minimum e from (Some m) → m ≤ n
  unfolding Minimum
  minimum_below m i = i.below n layout_roomy

  pub minimum_none : Minimum e from None → ⊥
  unfolding Minimum
  minimum_none i = i n layout_roomy

-- what the Rust answers is the smallest, or that there is none
rust_from : {e n : ℕ} {a : Option ℕ} (from : ℕ) → Raised e from n → n ≤ 18446744073709551615 → RustMinimum e n a → Minimum e from a
unfolding Minimum
rust_from {e} {n} from i f (shift h) = minimum_exponent e from (omega arith)
rust_from {e} {n} from i f (product h) = λ m r.
    let a = needs_at e from n i f m r in
    let b : 66 ≤ 128 = omega arith in
    let c : 2 ^ 66 ≤ 2 ^ 128 = pow_mono b in
    let d : 2 ^ 66 ≤ 3 * m = le_trans c (le_trans h a) in
    let g = r.fits in
    omega arith
rust_from {e} {n} from i f (word r x h) = λ m y. let a = x.below m (needs_at e from n i f m y) in let g = y.fits in omega arith
rust_from {e} {n} from i f (enough r x h) =
    let a = x.holds in
    let b : 4 * loglog n * 2 ^ (e + 2) ≤ 3 * n = omega arith in
    record { holds = record { above = i.above; fits = f; room = (le-div_iff_mul-le (pow_pos (e + 2))).1 b }; below = i.below }
rust_from {e} {n} from i f (again r x h k rest) =
    let a = i.above in
    rust_from from (record { above = omega arith; below = λ m y. x.below m (needs_at e from n i f m y) }) k rest

pub rust_minimum : {e from : ℕ} {a : Option ℕ} → from ≤ 18446744073709551615 → RustMinimum e from a → Minimum e from a
rust_minimum {e} {from} f x = rust_from from (raised_start e from) f x

-- the answer is one
pub minimum_unique : (e from : ℕ) (a b : Option ℕ) → Minimum e from a → Minimum e from b → a ≡ b
unfolding Minimum
minimum_unique e from (Some n) (Some m) x y = ap Some (smallest_one x y)
minimum_unique e from (Some n) None x y = absurd (y n x.holds)
minimum_unique e from None (Some m) x y = absurd (x m y.holds)
minimum_unique e from None None x y = refl

-- so what the code answers is what the Rust answers, `Nothing` exactly where the Rust gives `None`
pub rust_same : {e from : ℕ} {a b : Option ℕ} → from ≤ 18446744073709551615 → RustMinimum e from a → Minimum e from b → a ≡ b
rust_same {e} {from} {a} {b} f x y = minimum_unique e from a b (rust_minimum f x) y
