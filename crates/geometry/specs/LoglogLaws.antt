-- Laws of g, the logarithm of the logarithm: from 1 to 5, and below 5 only for few slots. Assumes nothing.
use Rattle.std.specs.Prelude.{◌≡◌, ℕ, zero, suc, ◌-◌, ◌^◌, ◌≤◌, max}
use Rattle.std.proofs.Common.{subst, arith, add-one, pow_mono}
use Rattle.std.specs.Int.Count.{count_leading_zeros}
use Rattle.words.specs.Log.{CeilLog2, ceil_log2}
use Rattle.words.specs.LogLaws.{log_leading, log_zero, log_computed}
use Rattle.geometry.specs.Special.{loglog}

-- the logarithm that computes is the least
pub log_is : (n : ℕ) → n ≤ 2 ^ 64 → CeilLog2 n (ceil_log2 n)
log_is zero h = subst (CeilLog2 0) (log_computed 0 0 h log_zero) log_zero
log_is (suc x) h =
    let c : CeilLog2 (suc x) (64 - count_leading_zeros 64 x) = rw (← add-one x) (log_leading x (omega arith)) in
    subst (CeilLog2 (suc x)) (log_computed (suc x) (64 - count_leading_zeros 64 x) h c) c

-- what is known of g
pub record Loglog (n g : ℕ) : Type 0 where
  pub least : 1 ≤ g
  pub most : g ≤ 5
  pub few : g ≤ 4 → n ≤ 65536

pub loglog_facts : (n : ℕ) → n ≤ 4294967296 → Loglog n (loglog n)
unfolding loglog
loglog_facts n h = record { least = omega arith; most = omega (arith, b_most); few = λ g. omega (arith, few g) }
  where
    a : CeilLog2 n (ceil_log2 n)
    a = log_is n (omega arith)

    a_most : ceil_log2 n ≤ 32
    a_most = a.least 32 h

    b : CeilLog2 (ceil_log2 n) (ceil_log2 (ceil_log2 n))
    b = log_is (ceil_log2 n) (omega (arith, a_most))

    b_most : ceil_log2 (ceil_log2 n) ≤ 5
    b_most = b.least 5 a_most

    few : max 1 (ceil_log2 (ceil_log2 n)) ≤ 4 → n ≤ 65536
    few g =
        let i : ceil_log2 (ceil_log2 n) ≤ 4 = omega arith in
        let j : 2 ^ ceil_log2 (ceil_log2 n) ≤ 16 = pow_mono i in
        let k : ceil_log2 n ≤ 16 = omega (arith, b.covers) in
        let l : 2 ^ ceil_log2 n ≤ 65536 = pow_mono k in
        omega (arith, a.covers)

-- g by two logarithms
pub loglog_by : (n a b : ℕ) → n ≤ 2 ^ 64 → a ≤ 2 ^ 64 → CeilLog2 n a → CeilLog2 a b → loglog n ≡ max 1 b
unfolding loglog
loglog_by n a b h l p q =
    let x : a ≡ ceil_log2 n = log_computed n a h p in
    let y : b ≡ ceil_log2 a = log_computed a b l q in
    rw (y, x)
