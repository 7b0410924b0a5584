-- Laws of the configuration: when its gate refuses, and what it says once passed. Assumes nothing.
use Rattle.std.specs.Prelude.{Bool, Ok, Err, ℕ, ◌/◌, ◌^◌, ◌≤◌, ◌<◌, ltb, eqb}
use Rattle.std.proofs.Math.Bool.{true, false}
use Rattle.std.proofs.Math.Path.{◌≡◌, refl}
use Rattle.std.proofs.Common.{arith, div-le_self}
use borrow.Author.Tests.{lt-ltb, le-ltb, eq-eqb, ne_eqb, ltb-false, eqb-false}
use Rattle.refusal.specs.declared.Gate.{Gate}
use Rattle.refusal.specs.declared.Gate.TheVariants as gate
use Rattle.geometry.specs.Config.{Gated, Configured, refuse_if, config_then, config_gate}

module _ (n e : ℕ) (later : Gated) where
  pub config_n : n < 2 → config_then n e later ≡ Err gate.N
  unfolding config_then
  config_n a = rw (lt-ltb n 2 a)

  module _ (a : 2 ≤ n) where
    pub config_zero : e ≡ 0 → config_then n e later ≡ Err gate.ZeroExp
    unfolding config_then
    config_zero z = rw (le-ltb n 2 a, eq-eqb e 0 z)

    module _ (b : e ≡ 0 → ⊥) where
      pub config_size : 4294967296 < n → config_then n e later ≡ Err gate.Size
      unfolding config_then
      config_size l = rw (le-ltb n 2 a, ne_eqb e 0 b, lt-ltb 4294967296 n l)

      pub config_pass : n ≤ 4294967296 → config_then n e later ≡ later
      unfolding config_then
      config_pass l = rw (le-ltb n 2 a, ne_eqb e 0 b, le-ltb 4294967296 n l)

  -- a refusal does not depend on the later tests
  pub config_refused : (g : Gate) → config_gate n e ≡ Err g → config_then n e later ≡ Err g
  unfolding config_then
  config_refused g h = go (ltb n 2) (eqb e 0) (ltb 4294967296 n) h
    where
      go : (x y z : Bool) → refuse_if x gate.N (refuse_if y gate.ZeroExp (refuse_if z gate.Size (Ok tt))) ≡ Err g → refuse_if x gate.N (refuse_if y gate.ZeroExp (refuse_if z gate.Size later)) ≡ Err g
      go true y z h = h
      go false true z h = h
      go false false true h = h
      go false false false h = let c : ◌≡◌ {A = ℕ} 0 1 = cc in absurd (omega arith)

  -- and once passed the later tests decide
  pub config_passed : config_gate n e ≡ Ok tt → config_then n e later ≡ later
  unfolding config_then
  config_passed h = go (ltb n 2) (eqb e 0) (ltb 4294967296 n) h
    where
      go : (x y z : Bool) → refuse_if x gate.N (refuse_if y gate.ZeroExp (refuse_if z gate.Size (Ok tt))) ≡ Ok tt → refuse_if x gate.N (refuse_if y gate.ZeroExp (refuse_if z gate.Size later)) ≡ later
      go false false false h = refl
      go true y z h = let c : ◌≡◌ {A = ℕ} 0 1 = cc in absurd (omega arith)
      go false true z h = let c : ◌≡◌ {A = ℕ} 0 1 = cc in absurd (omega arith)
      go false false true h = let c : ◌≡◌ {A = ℕ} 0 1 = cc in absurd (omega arith)

-- what a passed gate says
pub config_facts : (n e : ℕ) (later : Gated) → config_then n e later ≡ Ok tt → Configured n e × (later ≡ Ok tt)
unfolding config_then
config_facts n e later h = go (ltb n 2) (eqb e 0) (ltb 4294967296 n) refl refl refl h
  where
    no_refusal : {g : Gate} → ◌≡◌ {A = Gated} (Err g) (Ok tt) → ⊥
    no_refusal k = let c : ◌≡◌ {A = ℕ} 0 1 = cc in omega arith

    go : (x y z : Bool) → ltb n 2 ≡ x → eqb e 0 ≡ y → ltb 4294967296 n ≡ z → refuse_if x gate.N (refuse_if y gate.ZeroExp (refuse_if z gate.Size later)) ≡ Ok tt → Configured n e × (later ≡ Ok tt)
    go true y z a b d k = absurd (no_refusal k)
    go false true z a b d k = absurd (no_refusal k)
    go false false true a b d k = absurd (no_refusal k)
    go false false false a b d k =
        let x = ltb-false n 2 a in
        let y = eqb-false e 0 b in
        let z = ltb-false 4294967296 n d in
        (record { least = omega arith; most = omega arith; some = omega arith }, k)

pub config_gate_facts : (n e : ℕ) → config_gate n e ≡ Ok tt → Configured n e
config_gate_facts n e h = (config_facts n e (Ok tt) h).0

-- the reserve is part of the table
pub reserve_le : (n e : ℕ) → n / 2 ^ e ≤ n
reserve_le n e = div-le_self n (2 ^ e)
