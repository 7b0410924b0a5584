-- Lemmas of the proof of `elastic::fill`.
use mathlib.Core.Path.{◌≡◌}
use mathlib.Core.List.{List, ◌∷◌, ◌++◌, append-nil}
use Prim.Native.Nat.{ℕ, suc, ◌+◌, ◌-◌, ◌≤◌, ◌<◌}
use native.Mathlib.Omega.{arith}
use native.Mathlib.Numerals.{add-one}
use lib.ListN.{length, take, set, length-set}
use lib.Seq.{take-suc-set, take_all, append_snoc}
use Rattle.geometry.specs.Elastic.{split, cut, later_quotas, next_length, next_quota, padded}
use Rattle.geometry.specs.ElasticLaws.{padded_length_step, padded_quota_step, next_length_most}

pub record Filling (n e levels maximum : ℕ) (ls qs : List ℕ) (rest before spare i : ℕ) : Type 0 where
  pub lengths : take i ls ++ padded (32 - i) (split (levels - i) rest) ≡ padded 32 (split levels n)
  pub quotas : take i qs ++ padded (32 - i) (cut spare (later_quotas e before (split (levels - i) rest))) ≡ padded 32 (cut maximum (later_quotas e 0 (split levels n)))
  pub lengths_size : length ls ≡ 32
  pub quotas_size : length qs ≡ 32
  pub within : i ≤ 32
  pub rest_most : rest ≤ 4294967296
  pub before_most : before ≤ 4294967296

-- one entry in a list
pub one_more : (k i : ℕ) (xs : List ℕ) (x : ℕ) (ys zs whole : List ℕ) → length xs ≡ 32 → i < 32 → zs ≡ x ∷ ys → take i xs ++ zs ≡ whole → take (i + 1) (set xs i x) ++ ys ≡ whole
one_more k i xs x ys zs whole l h e w = rw (add-one i, take-suc-set xs i x (omega arith), append_snoc) (rw e at w)

module _ (n e levels maximum : ℕ) (ls qs : List ℕ) (rest before spare i : ℕ) (f : Filling n e levels maximum ls qs rest before spare i) (h : i < 32) where
  pub count : 32 - i ≡ suc (32 - (i + 1))
  count = omega arith

  pub fewer : levels - i - 1 ≡ levels - (i + 1)
  fewer = omega arith

  pub filling_step : (l q : ℕ) → l ≡ next_length (levels - i) rest → q ≡ next_quota (levels - i) e before l spare
      → Filling n e levels maximum (set ls i l) (set qs i q) (rest - l) l (spare - q) (i + 1)
  filling_step l q a b =
      let m = next_length_most (levels - i) rest in
      let u : padded (32 - i) (split (levels - i) rest) ≡ l ∷ padded (32 - (i + 1)) (split (levels - (i + 1)) (rest - l)) =
      rw (count, a, ← fewer) (padded_length_step (32 - (i + 1)) (levels - i) rest) in
      let g : q ≡ next_quota (levels - i) e before (next_length (levels - i) rest) spare = rw a at b in
      let v : padded (32 - i) (cut spare (later_quotas e before (split (levels - i) rest))) ≡ q ∷ padded (32 - (i + 1)) (cut (spare - q) (later_quotas e l (split (levels - (i + 1)) (rest - l)))) =
      rw (count, g, a, ← fewer) (padded_quota_step (32 - (i + 1)) (levels - i) e before rest spare) in
      record {
        lengths = one_more 0 i ls l _ _ _ f.lengths_size h u f.lengths;
        quotas = one_more 0 i qs q _ _ _ f.quotas_size h v f.quotas;
        lengths_size = simp length-set f.lengths_size;
        quotas_size = simp length-set f.quotas_size;
        within = omega arith;
        rest_most = omega (arith, f.rest_most);
        before_most = omega (arith, f.rest_most);
      }

pub filled : (xs : List ℕ) (i : ℕ) (ys whole : List ℕ) → length xs ≡ 32 → 32 ≤ i → i ≤ 32 → take i xs ++ padded (32 - i) ys ≡ whole → xs ≡ whole
unfolding padded
filled xs i ys whole l h m w =
    let z : 32 - i ≡ 0 = omega arith in
    let t : take i xs ≡ xs = take_all i xs (omega arith) in
    rw (z, t, append-nil) at w
