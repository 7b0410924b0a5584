-- Laws of the quotas: what they sum to, batch by batch. Assumes nothing.
use Rattle.std.specs.Prelude.{List, [], ◌∷◌, ◌≡◌, refl, ℕ, zero, suc, ◌+◌, ◌-◌, ◌≤◌, ◌<◌, min, length, get_or, take}
use Rattle.std.proofs.Common.{◌∙◌, arith}
use Rattle.geometry.specs.Config.{Configured, maximum}
use Rattle.geometry.specs.Elastic.{total, levels_of, lengths_of, length_at, ceil_three_quarters, later_quota, later_quotas, uncut_quotas, cut, quotas_of, batch_of, IsBatch}
use Rattle.geometry.specs.ElasticLaws.{total_take_step, reserve_quarter, uncut_later, lengths_length, batch_is}
use Rattle.elastic_laws.specs.Schedule.{next_limit, current_limit, filled_to, quotas_before}

-- a level's limit as next is not above that as current
pub limits_order : (n e level : ℕ) → Configured n e → next_limit n level ≤ current_limit n e level
limits_order n e level s = omega (arith, reserve_quarter e (length_at n level) s.some)

-- ---- the quotas before they are cut

later_at : (e before : ℕ) (ls : List ℕ) (k : ℕ) → suc k < length ls → get_or (later_quotas e before ls) (suc k) 0 ≡ later_quota e (get_or ls k 0) (get_or ls (suc k) 0)
unfolding later_quotas
later_at e before [] k h = absurd (omega arith)
later_at e before (l ∷ []) k h = absurd (omega arith)
later_at e before (l ∷ m ∷ ls) zero h = refl
later_at e before (l ∷ m ∷ ls) (suc k) h = later_at e l (m ∷ ls) k (omega arith)

uncut_at : (e : ℕ) (ls : List ℕ) (k : ℕ) → suc k < length ls → get_or (uncut_quotas e ls) (suc k) 0 ≡ later_quota e (get_or ls k 0) (get_or ls (suc k) 0)
uncut_at e ls k h = rw (uncut_later e ls) (later_at e 0 ls k h)

uncut_first : (e : ℕ) (ls : List ℕ) → total (take 1 (uncut_quotas e ls)) ≡ ceil_three_quarters (get_or ls 0 0)
unfolding uncut_quotas total
uncut_first e [] = refl
uncut_first e (l ∷ ls) = omega arith

-- After batch b, if no quota is cut, the levels before level b hold their limit as current and level b its limit as next.
pub quotas_fill : (n e : ℕ) → Configured n e → (b : ℕ) → b < levels_of n → quotas_before n e (suc b) ≡ filled_to n e b + next_limit n b
unfolding filled_to
quotas_fill n e s zero h = uncut_first e (lengths_of n) ∙ omega arith
quotas_fill n e s (suc b) h =
    let i = quotas_fill n e s b (omega arith) in
    let t = total_take_step (suc b) (uncut_quotas e (lengths_of n)) in
    let q = uncut_at e (lengths_of n) b (omega (arith, lengths_length n e s)) in
    let o = limits_order n e b s in
    omega arith

-- ---- the quotas as they are cut

cut_prefix : (left k : ℕ) (qs : List ℕ) → total (take k (cut left qs)) ≡ min (total (take k qs)) left
unfolding cut total
cut_prefix left zero qs = omega arith
cut_prefix left (suc k) [] = omega arith
cut_prefix left (suc k) (q ∷ qs) = let i = cut_prefix (left - min q left) k qs in omega arith

-- Below the maximum the cut makes no difference to the batch.
pub batch_uncut : (n e : ℕ) → Configured n e → (count : ℕ) → count < maximum n e → IsBatch (uncut_quotas e (lengths_of n)) count (batch_of n e count) × (batch_of n e count < levels_of n)
unfolding quotas_of
batch_uncut n e s count h =
    let f = batch_is n e s count h in (
      record {
        exceeds = omega (arith, f.0.exceeds, cut_prefix (maximum n e) (suc (batch_of n e count)) (uncut_quotas e (lengths_of n)));
        first = λ j g. omega (arith, f.0.first j g, cut_prefix (maximum n e) (suc j) (uncut_quotas e (lengths_of n)));
      },
      f.1,
    )
