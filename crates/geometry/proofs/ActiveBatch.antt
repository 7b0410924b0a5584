-- Lemmas of the proof of `elastic::active_batch`.
use mathlib.Core.Path.{◌≡◌, sym, ap, ◌∙◌}
use mathlib.Core.List.{◌∷◌}
use Prim.Native.Nat.{ℕ, ◌+◌, ◌-◌, ◌≤◌, ◌<◌}
use native.Mathlib.Omega.{arith}
use Rattle.geometry.specs.Elastic.{split, cut, later_quotas, next_length, next_quota, batch_from}
use Rattle.geometry.specs.ElasticLaws.{quota_step, next_length_most, batch_here, batch_later}

pub record Looking (n e levels maximum count rest before spare left i : ℕ) : Type 0 where
  pub same : batch_from 0 count (cut maximum (later_quotas e 0 (split levels n))) ≡ batch_from i left (cut spare (later_quotas e before (split (levels - i) rest)))
  pub within : i ≤ levels
  pub rest_most : rest ≤ 4294967296
  pub before_most : before ≤ 4294967296

module _ (n e levels maximum count rest before spare left i : ℕ) (k : Looking n e levels maximum count rest before spare left i) (h : i < levels) (l q : ℕ)
    (a : l ≡ next_length (levels - i) rest) (b : q ≡ next_quota (levels - i) e before l spare) where
  pub front : cut spare (later_quotas e before (split (levels - i) rest)) ≡ q ∷ cut (spare - q) (later_quotas e l (split (levels - (i + 1)) (rest - l)))
  front =
      let g : q ≡ next_quota (levels - i) e before (next_length (levels - i) rest) spare = rw a at b in
      let f : levels - i - 1 ≡ levels - (i + 1) = omega arith in
      rw (g, a, ← f) (quota_step (levels - i) e before rest spare (omega arith))

  pub looking_found : left < q → i ≡ batch_from 0 count (cut maximum (later_quotas e 0 (split levels n)))
  looking_found g = sym (k.same ∙ ap (batch_from i left) front ∙ batch_here i left q _ g)

  pub looking_step : q ≤ left → Looking n e levels maximum count (rest - l) l (spare - q) (left - q) (i + 1)
  looking_step g =
      let m = next_length_most (levels - i) rest in
      record {
        same = k.same ∙ ap (batch_from i left) front ∙ batch_later i left q _ g;
        within = omega arith;
        rest_most = omega (arith, k.rest_most);
        before_most = omega (arith, k.rest_most);
      }

pub looking_end : (n e levels maximum count rest before spare left i : ℕ) → Looking n e levels maximum count rest before spare left i → levels ≤ i
    → i ≡ batch_from 0 count (cut maximum (later_quotas e 0 (split levels n)))
unfolding split later_quotas cut batch_from
looking_end n e levels maximum count rest before spare left i k h = let z : levels - i ≡ 0 = omega arith in sym (rw z at k.same)
