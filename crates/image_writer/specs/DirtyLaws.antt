-- The search for a dirty slot, slot by slot. Assumes nothing.
use Rattle.std.specs.Prelude.{Ok, Err, ◌≡◌, Bool, true, false, List, ◌∷◌, get_or, eqb}
use Rattle.std.proofs.Math.Path.{sym}
use Rattle.std.proofs.Common.{◌∙◌}
use Prim.Native.Nat.{ℕ, zero, suc, ◌+◌, ◌-◌, ◌<◌, ◌≤◌}
use native.Mathlib.Omega.{arith}
use Rattle.std.proofs.Math.ListN.{length}
use borrow.Author.Tests.{lt-ltb, le-ltb, eq-eqb, ne_eqb}
use Rattle.words.specs.Pick.{pick}
use Rattle.image.specs.Format.{entry, entries_from, entries_of}
use Rattle.funnel.specs.Dirty.{dirty_at}
use Rattle.image_writer.specs.Dirty.{scan_from, scan_of}

pub record Scanning (words flags : List ℕ) (s count : ℕ) : Type 0 where
  pub left : scan_of words flags ≡ scan_from words flags s (length flags - s) count
  pub few : count ≤ s
  pub within : s ≤ length flags

pub scan_none : (words flags : List ℕ) → Scanning words flags 0 0
unfolding scan_of
scan_none words flags = let e : length flags - 0 ≡ length flags = omega arith in record { left = rw e; few = omega arith; within = omega arith }

module _ {words flags : List ℕ} {s count : ℕ} (l : Scanning words flags s count) where
  module _ (h : s < length flags) where
    step : scan_of words flags
        ≡ pick (dirty_at words flags s) (Err s) (scan_from words flags (s + 1) (length flags - (s + 1)) (pick (eqb (get_or flags s 0) 0) count (count + 1)))
    unfolding scan_from
    step =
        let k : length flags - s ≡ suc (length flags - (s + 1)) = omega arith in
        let a : suc s ≡ s + 1 = omega arith in
        l.left ∙ rw (k, a)

    pub scan_flag : 1 < get_or flags s 0 → Err s ≡ scan_of words flags
    unfolding dirty_at
    scan_flag f = sym (step ∙ rw (ne_eqb (get_or flags s 0) 0 (λ z. omega arith), lt-ltb _ _ f))

    module _ (f : get_or flags s 0 ≤ 1) where
      pub scan_word : get_or flags s 0 ≡ 0 → (get_or words s 0 ≡ 0 → ⊥) → Err s ≡ scan_of words flags
      unfolding dirty_at
      scan_word e n = sym (step ∙ rw (eq-eqb _ _ e, ne_eqb _ _ n))

      pub scan_vacant : get_or flags s 0 ≡ 0 → get_or words s 0 ≡ 0 → Scanning words flags (s + 1) count
      unfolding dirty_at
      scan_vacant e z = let d = l.few in record { left = step ∙ rw (eq-eqb _ _ e, eq-eqb _ _ z); few = omega arith; within = omega arith }

      pub scan_taken : (get_or flags s 0 ≡ 0 → ⊥) → Scanning words flags (s + 1) (count + 1)
      unfolding dirty_at
      scan_taken e = let d = l.few in record { left = step ∙ rw (ne_eqb _ _ e, le-ltb _ _ f); few = omega arith; within = omega arith }

  pub scan_end : length flags ≤ s → Ok count ≡ scan_of words flags
  unfolding scan_from
  scan_end h = let k : length flags - s ≡ 0 = omega arith in sym (l.left ∙ rw k)

-- ---- the count

pub scan_count : (words flags : List ℕ) (s k c m : ℕ) → scan_from words flags s k c ≡ Ok m → m ≡ c + length (entries_from words flags s k)
unfolding scan_from entries_from
scan_count words flags s zero c m h = let q : c ≡ m = cc in omega arith
scan_count words flags s (suc k) c m h =
    go (dirty_at words flags s) (eqb (get_or flags s 0) 0) h (scan_count words flags (suc s) k c m) (scan_count words flags (suc s) k (c + 1) m)
  where
    go : (d z : Bool) → pick d (Err s) (scan_from words flags (suc s) k (pick z c (c + 1))) ≡ Ok m
        → (scan_from words flags (suc s) k c ≡ Ok m → m ≡ c + length (entries_from words flags (suc s) k))
        → (scan_from words flags (suc s) k (c + 1) ≡ Ok m → m ≡ c + 1 + length (entries_from words flags (suc s) k))
        → m ≡ c + length (pick z (entries_from words flags (suc s) k) (entry s (get_or words s 0) ∷ entries_from words flags (suc s) k))
    go true z h a b = let z : ◌≡◌ {A = ℕ} 0 1 = cc in absurd (omega arith)
    go false true h a b = a h
    go false false h a b = let q = b h in omega arith

pub entries_most : (words flags : List ℕ) (s k : ℕ) → length (entries_from words flags s k) ≤ k
unfolding entries_from
entries_most words flags s zero = omega arith
entries_most words flags s (suc k) = go (eqb (get_or flags s 0) 0) (entries_most words flags (suc s) k)
  where
    go : (z : Bool) → length (entries_from words flags (suc s) k) ≤ k → length (pick z (entries_from words flags (suc s) k) (entry s (get_or words s 0) ∷ entries_from words flags (suc s) k)) ≤ suc k
    go true i = omega arith
    go false i = omega arith

-- the number of occupied slots is that of the entries
pub count_is : (words flags : List ℕ) (c : ℕ) → scan_of words flags ≡ Ok c → c ≡ length (entries_of words flags)
unfolding scan_of entries_of
count_is words flags c h = let q = scan_count words flags 0 (length flags) 0 c h in omega arith

pub count_most : (words flags : List ℕ) (c : ℕ) → scan_of words flags ≡ Ok c → c ≤ length flags
unfolding entries_of
count_most words flags c h = let q = count_is words flags c h in let m = entries_most words flags 0 (length flags) in omega arith
