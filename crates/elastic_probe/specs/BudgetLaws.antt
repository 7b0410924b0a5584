-- Laws of the budget: its answers in turn, and its bound in an elastic table. Assumes nothing.
use Rattle.std.specs.Prelude.{◌≡◌, Ok, Err}
use Rattle.std.proofs.Math.Path.{sym}
use Rattle.std.proofs.Common.{ap, ◌∙◌, pow-suc, mul-le-mul, mul-le-mul_left, one-mul, div-le_self, arith}
use Prim.Native.Nat.{ℕ, ◌+◌, ◌-◌, ◌*◌, ◌/◌, ◌%◌, ◌^◌, ◌≤◌, ◌<◌, min}
use Rattle.std.proofs.Math.Nat.{pow-zero, le_trans}
use Rattle.std.specs.Int.Count.{count_leading_zeros}
use borrow.Author.Tests.{eq-eqb, ne_eqb, lt-ltb, le-ltb}
use Rattle.words.specs.Log.{CeilLog2, ceil_log2}
use Rattle.words.specs.LogLaws.{log_leading, log_computed}
use Rattle.words.specs.Quotient.{ceil_div}
use Rattle.words.specs.QuotientLaws.{ceil_floor}
use Rattle.elastic_probe.specs.Budget.{probes_of, budget_of}
use Rattle.elastic_probe.specs.declared.budget.BudgetRefusal.TheVariants.{Free, Factor, Product}

squared : (x : ℕ) → x * x ≡ x ^ 2
squared x = sym (pow-suc x 1 ∙ ap (λ (y : ℕ). y * x) (pow-suc x 0 ∙ ap (λ (y : ℕ). y * x) (pow-zero x) ∙ one-mul x))

-- the logarithm of a word is at most 64
pub log_squared : (n k : ℕ) → n ≤ 2 ^ 64 → CeilLog2 n k → k * k ≤ 64 * 64
log_squared n k h p = mul-le-mul {n₂ = 64} {m₂ = 64} (p.least 64 h) (p.least 64 h)

log_at_most : (m n : ℕ) → 0 < n → n ≤ 2 ^ 64 → n ≤ 2 ^ m → ceil_log2 n ≤ m
log_at_most m n some h l =
    let e : n - 1 + 1 ≡ n = omega arith in
    let p : CeilLog2 n (64 - count_leading_zeros 64 (n - 1)) = rw e at (log_leading (n - 1) (omega arith)) in
    omega (arith, log_computed n (64 - count_leading_zeros 64 (n - 1)) h p, p.least m l)

-- the ratio of two words, rounded up
pub ratio_fits : (free level : ℕ) → 0 < free → free ≤ level → (level - 1) / free + 1 ≤ level
ratio_fits free level hf hl = omega (arith, div-le_self (level - 1) free)

-- the steps of the code give the number of probes
pub probes_steps : (free level e c log capped : ℕ) → 0 < free → free ≤ level → level < 2 ^ 64
    → CeilLog2 ((level - 1) / free + 1) log → capped ≡ min (log * log) e → c * capped ≡ probes_of free level e c
unfolding probes_of
probes_steps free level e c log capped hf hl hw p m =
    let q : ceil_div level free ≡ (level - 1) / free + 1 = ceil_floor level free hf (omega arith) in
    let n : (level - 1) / free + 1 ≤ 2 ^ 64 = omega (arith, ratio_fits free level hf hl) in
    let k : log ≡ ceil_log2 (ceil_div level free) = rw q (log_computed ((level - 1) / free + 1) log n p) in
    ap (λ (x : ℕ). c * x) (m ∙ ap (λ (x : ℕ). min x e) (squared log ∙ ap (λ (x : ℕ). x ^ 2) k))

-- ---- the answers in turn

module _ (free level e c : ℕ) where
  pub budget_none : free ≡ 0 → Err Free ≡ budget_of free level e c
  unfolding budget_of
  budget_none h = sym (rw (eq-eqb free 0 h))

  module _ (nf : free ≡ 0 → ⊥) where
    pub budget_above : level < free → Err Free ≡ budget_of free level e c
    unfolding budget_of
    budget_above h = sym (rw (ne_eqb free 0 nf, lt-ltb level free h))

    module _ (hl : free ≤ level) where
      pub budget_zero : c ≡ 0 → Err Factor ≡ budget_of free level e c
      unfolding budget_of
      budget_zero h = sym (rw (ne_eqb free 0 nf, le-ltb level free hl, eq-eqb c 0 h))

      module _ (nc : c ≡ 0 → ⊥) where
        pub budget_over : 2 ^ 64 ≤ probes_of free level e c → Err Product ≡ budget_of free level e c
        unfolding budget_of
        budget_over h = sym (rw (ne_eqb free 0 nf, le-ltb level free hl, ne_eqb c 0 nc, le-ltb (probes_of free level e c) (2 ^ 64) h))

        pub budget_probes : probes_of free level e c < 2 ^ 64 → Ok (probes_of free level e c) ≡ budget_of free level e c
        unfolding budget_of
        budget_probes h = sym (rw (ne_eqb free 0 nf, le-ltb level free hl, ne_eqb c 0 nc, lt-ltb (probes_of free level e c) (2 ^ 64) h))

        -- the two ends of the code, by the halves of the product
        module _ (product : ℕ) (is : product ≡ probes_of free level e c) where
          pub budget_high : (high : ℕ) → high ≡ product / 2 ^ 64 → 0 < high → Err Product ≡ budget_of free level e c
          budget_high high d h = budget_over (omega arith)

          pub budget_low : (high low : ℕ) → high ≡ product / 2 ^ 64 → low ≡ product % 2 ^ 64 → high ≤ 0 → Ok low ≡ budget_of free level e c
          budget_low high low d m h =
              let z : low ≡ probes_of free level e c = omega arith in
              ap Ok z ∙ budget_probes (omega arith)

-- ---- in an elastic table: of at most 2 ^ 32 slots, with c * min(e, 1024) at most 8,192

module _ (free level e c : ℕ) (hf : 0 < free) (hl : free ≤ level) (few : level ≤ 2 ^ 32) (hc : 0 < c) (limit : c * min e 1024 ≤ 8192) where
  log_small : ceil_log2 (ceil_div level free) ^ 2 ≤ 1024
  log_small =
      let q : ceil_div level free ≡ (level - 1) / free + 1 = ceil_floor level free hf (omega arith) in
      let n : ceil_div level free ≤ 2 ^ 32 = omega (arith, q, ratio_fits free level hf hl) in
      let k = log_at_most 32 (ceil_div level free) (omega (arith, q)) (omega arith) n in
      rw (← squared (ceil_log2 (ceil_div level free))) (mul-le-mul {n₂ = 32} {m₂ = 32} k k)

  pub probes_most : probes_of free level e c ≤ 8192
  unfolding probes_of
  probes_most =
      let m : min (ceil_log2 (ceil_div level free) ^ 2) e ≤ min e 1024 = omega (arith, log_small) in
      le_trans (mul-le-mul_left c m) limit

  -- so there is no refusal
  pub budget_in_table : Ok (probes_of free level e c) ≡ budget_of free level e c
  budget_in_table = budget_probes free level e c (λ z. omega arith) hl (λ z. omega arith) (omega (arith, probes_most))
