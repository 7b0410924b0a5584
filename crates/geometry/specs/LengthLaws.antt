-- Laws of the bounds of the special length: what every such length says of n and e. Assumes nothing.
use Rattle.std.specs.Prelude.{Bool, Option, Some, None, ◌≡◌, ℕ, ◌+◌, ◌-◌, ◌*◌, ◌/◌, ◌^◌, ◌≤◌, ◌<◌, min, max}
use Rattle.std.proofs.Common.{lt_of_not-le, le-div_iff_mul-le, mul-le-mul, mul-le-mul_left, arith, pow_mono, pow_pos}
use Rattle.std.proofs.Math.Decide.{dec_le}
use Rattle.words.specs.Quotient.{ceil_div}
use Rattle.geometry.specs.Special.{loglog, special_least, special_most, SpecialLength, Found, FoundFor, Measured, SpecialMeasured}
use Rattle.geometry.specs.Says.{Says}
use Rattle.geometry.specs.LoglogLaws.{Loglog, loglog_facts}

pub least_two : (n e : ℕ) → 2 ≤ special_least n e
unfolding special_least loglog
least_two n e = omega arith

-- the bounds by their parts
pub least_is : (n e g part : ℕ) → g ≡ loglog n → part ≡ ceil_div n (2 ^ (e + 1)) → special_least n e ≡ max part (4 * g)
unfolding special_least
least_is n e g part p q = rw (p, q)

pub most_is : (n e part : ℕ) → part ≡ 3 * n / 2 ^ (e + 2) → special_most n e ≡ min part (n - (4 * e + 10) * (2 * e))
unfolding special_most
most_is n e part p = rw p

pub main_small : (e : ℕ) → e ≤ 27 → (4 * e + 10) * (2 * e) ≤ 6372
main_small e h = mul-le-mul {n₂ = 118} {m₂ = 54} (omega arith) (omega arith)

pub most_within : (n e : ℕ) → special_most n e ≤ n
unfolding special_most
most_within n e = omega arith

-- what a special length says
pub record Length (n e s : ℕ) : Type 0 where
  pub least : 4 * loglog n ≤ s
  pub main : s + (4 * e + 10) * (2 * e) ≤ n
  pub part : s * 2 ^ (e + 2) ≤ 3 * n

pub length_facts : (n e s : ℕ) → SpecialLength n e s → Length n e s
unfolding special_least special_most
length_facts n e s p =
    let a = p.from in
    let b = p.to in
    let d = p.some in
    let q : s ≤ 3 * n / 2 ^ (e + 2) = omega arith in
    record { least = omega arith; main = omega arith; part = (le-div_iff_mul-le (pow_pos (e + 2))).0 q }

-- "A funnel layout has at most 118 levels": an exponent above 27 leaves no room for two fallback buckets
pub exponent_most : (n e s : ℕ) → n ≤ 4294967296 → SpecialLength n e s → e ≤ 27
exponent_most n e s h p = go (dec_le e 27)
  where
    f : Length n e s
    f = length_facts n e s p

    g : Loglog n (loglog n)
    g = loglog_facts n h

    room : 28 ≤ e → s * 1073741824 ≤ 3 * n
    room l =
        let x : 30 ≤ e + 2 = omega arith in
        let w : 2 ^ 30 ≤ 2 ^ (e + 2) = pow_mono x in
        let m : s * 1073741824 ≤ s * 2 ^ (e + 2) = mul-le-mul_left s w in
        omega (arith, f.part)

    go : Dec (e ≤ 27) → e ≤ 27
    go (yes l) = l
    go (no k) =
        let l : 28 ≤ e = lt_of_not-le k in
        let few : n ≤ 65536 = g.few (omega (arith, room l, f.least)) in
        absurd (omega (arith, room l, f.least, g.least))

-- above 27 there is none
pub found_none : (n e : ℕ) → n ≤ 4294967296 → 27 < e → FoundFor n e None
unfolding FoundFor
found_none n e h l = λ z p. omega (arith, exponent_most n e z h p)

pub found_for : (n e lo hi w : ℕ) (r : Option ℕ) → lo ≡ special_least n e → hi ≡ special_most n e → w ≡ 2 * loglog n → Found n lo hi (2 * e) w r → FoundFor n e r
unfolding Found FoundFor
found_for n e lo hi w None a b c f = rw (a, b, c) at f
found_for n e lo hi w (Some s) a b c f = rw (a, b, c) at f

-- the test at the bounds of n and e
pub measured_at : (n e lo hi w s main half : ℕ) (b : Bool) → lo ≡ special_least n e → hi ≡ special_most n e → w ≡ 2 * loglog n → Says b (Measured n lo hi (2 * e) w s main half) → Says b (SpecialMeasured n e s main half)
measured_at n e lo hi w s main half b p q r h = rw (p, q, r) at h
