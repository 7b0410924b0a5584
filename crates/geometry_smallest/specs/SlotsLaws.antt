-- Laws of the smallest n that a count asks for. Assumes nothing.
use Rattle.std.specs.Prelude.{max}
use Rattle.std.specs.Prelude.{◌≡◌, ℕ, ◌+◌, ◌-◌, ◌*◌, ◌/◌, ◌%◌, ◌^◌, ◌≤◌, ◌<◌}
use Rattle.std.proofs.Common.{lt_of_not-le, mod-lt, mul-le-mul_left, mul-add, add-mul, one-mul, mul-one, arith, pow_mono}
use Rattle.std.proofs.Math.Nat.{div-add-mod}
use Rattle.std.proofs.Math.Decide.{dec_le}
use Rattle.geometry_smallest.specs.Slots.{Needed, Start}

-- n less the part of it that a divisor p takes is at least c exactly from c + (c - 1) / (p - 1) on; d is p - 1
module _ (c p d : ℕ) (some : 0 < c) (is : p ≡ d + 1) (pos : 0 < d) where
  parted : (n : ℕ) → n ≡ d * (n / p) + n / p + n % p
  parted n =
      let a = div-add-mod n p in
      let b : p * (n / p) ≡ (d + 1) * (n / p) = rw is in
      let e = add-mul d 1 (n / p) in
      let f = one-mul (n / p) in
      omega arith

  counted : c ≡ d * ((c - 1) / d) + (c - 1) % d + 1
  counted = let a = div-add-mod (c - 1) d in omega arith

  more : (i j : ℕ) → i < j → d * i + d ≤ d * j
  more i j l = let k : i + 1 ≤ j = omega arith in let a = mul-le-mul_left d k in let b = mul-add d i 1 in let e = mul-one d in omega arith

  pub part_enough : (n : ℕ) → c + (c - 1) / d ≤ n → c ≤ n - n / p
  part_enough n l = go (dec_le (n / p) ((c - 1) / d))
    where
      go : Dec (n / p ≤ (c - 1) / d) → c ≤ n - n / p
      go (yes y) = omega arith
      go (no f) =
          let a = parted n in
          let b = counted in
          let e = more ((c - 1) / d) (n / p) (lt_of_not-le f) in
          let t = mod-lt (c - 1) {m = d} pos in
          omega arith

  pub part_least : (n : ℕ) → c ≤ n - n / p → c + (c - 1) / d ≤ n
  part_least n l = go (dec_le ((c - 1) / d) (n / p))
    where
      go : Dec ((c - 1) / d ≤ n / p) → c + (c - 1) / d ≤ n
      go (yes y) = omega arith
      go (no f) =
          let a = parted n in
          let b = counted in
          let e = more (n / p) ((c - 1) / d) (lt_of_not-le f) in
          let t = mod-lt n {m = p} (omega arith) in
          absurd (omega arith)

-- the answers of the code
module _ (count e power : ℕ) (some : 0 < count) (exponent : 0 < e) (is : power ≡ 2 ^ e) where
  pub power_two : 2 ≤ power
  power_two = let a : 2 ^ 1 ≤ 2 ^ e = pow_mono exponent in omega arith

  one_less : power ≡ power - 1 + 1
  one_less = let a = power_two in omega arith

  pub needed_some : Needed count e (count + (count - 1) / (power - 1))
  needed_some =
      let a = power_two in
      record {
        enough = λ n l. rw (← is) (part_enough count power (power - 1) some one_less (omega arith) n l);
        least = λ n l. part_least count power
            (power - 1) some one_less (omega arith) n (rw (← is) at l);
      }

-- where the search starts
module _ (count e first need : ℕ) (is : Needed count e need) where
  pub start_most : Start count e first (max (max need first) 17)
  start_most =
      record {
        from = omega arith;
        above = omega arith;
        enough = λ n l. is.enough n (omega arith);
        passed = λ n l k m. let z = is.least n k in omega arith;
      }

  pub start_few : first < 17 → need < 17 → Start count e first 17
  start_few a b = record { from = omega arith; above = omega arith; enough = λ n l. is.enough n (omega arith); passed = λ n l k m. omega arith }

  pub start_need : 17 ≤ need → first ≤ need → Start count e first need
  start_need a b = record { from = b; above = a; enough = is.enough; passed = λ n l k m. let z = is.least n k in omega arith }

  pub start_first : 17 ≤ first → need ≤ first → Start count e first first
  start_first a b = record { from = omega arith; above = a; enough = λ n l. is.enough n (omega arith); passed = λ n l k m. omega arith }
