-- Entries that are 0 from one on, gathered bit by bit. Assumes nothing.
use Rattle.std.specs.Prelude.{◌≡◌, refl, List, ℕ, zero, suc, ◌+◌, ◌-◌, ◌≤◌, ◌<◌, length, drop, get_or, replicate}
use Rattle.std.proofs.Common.{sym, ap, ◌∙◌, lt_of_not-le, arith, length-drop, get_or-drop, ext_get_or}
use Rattle.std.proofs.Math.Decide.{dec_le}
use Rattle.std.specs.Int.Bits.{bit_or, or_add_and, or_zero_l}
use Rattle.std.proofs.lemmas.Nat.{and_le_l, and_le_r}
use Rattle.std.proofs.lemmas.List.{length-replicate, get_or-replicate}

pub drop_zeros : (n k : ℕ) → drop {A = ℕ} k (replicate n 0) ≡ replicate (n - k) 0
drop_zeros n zero = let e : n - 0 ≡ n = omega arith in rw e
drop_zeros zero (suc k) = let e : 0 - suc k ≡ 0 = omega arith in rw e
drop_zeros (suc n) (suc k) = let e : suc n - suc k ≡ n - k = omega arith in rw e (drop_zeros n k)

module _ (cs : List ℕ) (from : ℕ) where
  zero_at : drop from cs ≡ replicate (length cs - from) 0 → (k : ℕ) → from ≤ k → k < length cs → get_or cs k 0 ≡ 0
  zero_at h k a b =
      let e : from + (k - from) ≡ k = omega arith in
      let g : get_or (drop from cs) (k - from) 0 ≡ get_or cs k 0 = get_or-drop from cs (k - from) 0 ∙ ap (λ (x : ℕ). get_or cs x 0) e in
      sym g ∙ ap (λ (l : List ℕ). get_or l (k - from) 0) h ∙ get_or-replicate {A = ℕ} (length cs - from) (k - from) 0 0 (omega arith)

  zeros : (h : (k : ℕ) → from ≤ k → k < length cs → get_or cs k 0 ≡ 0) → drop from cs ≡ replicate (length cs - from) 0
  zeros h = ext_get_or 0 (drop from cs) (replicate (length cs - from) 0) (length-drop from cs ∙ sym (length-replicate {A = ℕ} (length cs - from) 0)) at
    where
      at : (k : ℕ) → k < length (drop from cs) → get_or (drop from cs) k 0 ≡ get_or (replicate (length cs - from) 0) k 0
      at k l =
          let m = length-drop from cs in
          get_or-drop from cs k 0 ∙ h (from + k) (omega arith) (omega arith) ∙ sym (get_or-replicate {A = ℕ} (length cs - from) k 0 0 (omega arith))

  -- the bits of the entries up to i together
  pub record Others (i others : ℕ) : Type 0 where
    pub least : from ≤ i
    pub most : i ≤ length cs
    pub none : others ≡ 0 → (k : ℕ) → from ≤ k → k < i → get_or cs k 0 ≡ 0
    pub some : (others ≡ 0 → ⊥) → drop from cs ≡ replicate (length cs - from) 0 → ⊥

  pub others_start : from ≤ length cs → Others from 0
  others_start h = record { least = omega arith; most = h; none = λ z k a b. absurd (omega arith); some = λ z. absurd (z refl) }

  pub others_more : {i others : ℕ} → Others i others → i < length cs → Others (i + 1) (bit_or others (get_or cs i 0))
  others_more {i} {others} o l =
      let a = o.least in
      record { least = omega arith; most = omega arith; none = none; some = some }
    where
      both : bit_or others (get_or cs i 0) ≡ 0 → (others ≡ 0) × (get_or cs i 0 ≡ 0)
      both z =
          let p = or_add_and others (get_or cs i 0) in
          let q = and_le_l others (get_or cs i 0) in
          let r = and_le_r others (get_or cs i 0) in
          (omega arith, omega arith)

      none : bit_or others (get_or cs i 0) ≡ 0 → (k : ℕ) → from ≤ k → k < i + 1 → get_or cs k 0 ≡ 0
      none z k a b = go (dec_le i k)
        where
          go : Dec (i ≤ k) → get_or cs k 0 ≡ 0
          go (yes p) = let e : i ≡ k = omega arith in rw (← e) (both z).1
          go (no q) = o.none (both z).0 k a (lt_of_not-le q)

      some : (bit_or others (get_or cs i 0) ≡ 0 → ⊥) → drop from cs ≡ replicate (length cs - from) 0 → ⊥
      some z h =
          let y = zero_at h i o.least l in
          o.some (λ x. z (rw (x, y) (or_zero_l 0))) h

  pub others_none : {i others : ℕ} → Others i others → length cs ≤ i → others ≡ 0 → drop from cs ≡ replicate (length cs - from) 0
  others_none o l z = zeros (λ k a b. o.none z k a (omega arith))
