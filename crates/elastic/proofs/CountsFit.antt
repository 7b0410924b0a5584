-- Lemmas of the proof of `state::counts_fit`.
use mathlib.Core.Bool.{false}
use mathlib.Core.Path.{◌≡◌, ap, sym, ◌∙◌}
use mathlib.Core.List.{List, [], ◌∷◌}
use Prim.Native.Nat.{ℕ, ◌+◌, ◌-◌, ◌≤◌, ◌<◌}
use native.Mathlib.Omega.{arith}
use native.Mathlib.Numerals.{add-one}
use lib.ListN.{length, get_or, drop, drop_of_length-le}
use lib.Dec.{eqb}
use lib.Seq.{drop-cons}
use Rattle.geometry.specs.Elastic.{split, next_length}
use Rattle.elastic.specs.State.{counts_fit}
use Rattle.elastic.specs.StateLaws.{counts_above, counts_over, counts_step, counts_none}

pub record Counting (n levels count : ℕ) (cs : List ℕ) (rest left i : ℕ) : Type 0 where
  pub same : counts_fit (split levels n) count cs ≡ counts_fit (split (levels - i) rest) left (drop i cs)
  pub size : length cs ≡ 32

pub counting_start : (n levels count : ℕ) (cs : List ℕ) → length cs ≡ 32 → Counting n levels count cs n count 0
counting_start n levels count cs h = record { same = let z : levels - 0 ≡ levels = omega arith in rw z; size = h }

module _ (n levels count : ℕ) (cs : List ℕ) (rest left i : ℕ) (k : Counting n levels count cs rest left i) (h : i < 32) where
  pub front : drop i cs ≡ get_or cs i 0 ∷ drop (i + 1) cs
  front = let s = k.size in rw (add-one i) (drop-cons cs i 0 (omega arith))

  pub counting_over : left < get_or cs i 0 → false ≡ counts_fit (split levels n) count cs
  counting_over g = rw (k.same, front) (counts_over (levels - i) rest left (get_or cs i 0) (drop (i + 1) cs) g)

  module _ (l : ℕ) (a : l ≡ next_length (levels - i) rest) where
    pub counting_above : l < get_or cs i 0 → false ≡ counts_fit (split levels n) count cs
    counting_above g = rw (k.same, front) (counts_above (levels - i) rest left (get_or cs i 0) (drop (i + 1) cs) (rw a at g))

    pub counting_step : get_or cs i 0 ≤ l → get_or cs i 0 ≤ left → Counting n levels count cs (rest - l) (left - get_or cs i 0) (i + 1)
    counting_step g f =
        let m : levels - i - 1 ≡ levels - (i + 1) = omega arith in
        record {
          same = k.same ∙ ap (counts_fit (split (levels - i) rest) left) front
              ∙ rw (a, ← m) (counts_step (levels - i) rest left (get_or cs i 0) (drop (i + 1) cs) (rw a at g) f);
          size = k.size;
        }

pub counting_end : (n levels count : ℕ) (cs : List ℕ) (rest left i : ℕ) → Counting n levels count cs rest left i → 32 ≤ i → eqb left 0 ≡ counts_fit (split levels n) count cs
counting_end n levels count cs rest left i k h =
    let l : length cs ≤ i = let s = k.size in omega arith in
    let d : drop i cs ≡ [] = drop_of_length-le _ l in
    sym (k.same ∙ ap (counts_fit (split (levels - i) rest) left) d ∙ sym (counts_none (split (levels - i) rest) left))
