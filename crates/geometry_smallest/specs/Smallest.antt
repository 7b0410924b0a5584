-- The smallest funnel table for a number of cells. Assumes nothing.
use Rattle.std.specs.Prelude.{Result, Ok, Err, ◌≡◌, List, [], ◌∷◌, ℕ, ◌≤◌, ltb, eqb}
use Rattle.refusal.specs.Table.{name_of, Report, answered, refused}
use Rattle.refusal.specs.declared.Name.TheVariants as name
use Rattle.refusal.specs.declared.Gate.TheVariants as gate
use Rattle.geometry.specs.Config.{Gated, refuse_if, maximum}
use Rattle.geometry.specs.Extreme.{IsSmallest}
use Rattle.geometry.specs.Funnel.{IsPlan, Layout}
use Rattle.geometry_smallest.specs.declared.smallest.Smallest.{Smallest}
use Rattle.geometry_smallest.specs.declared.smallest.SmallestRefusal.{SmallestRefusal}
use Rattle.geometry_smallest.specs.declared.smallest.SmallestRefusal.TheVariants.{Refused, Nothing}

-- "in that range", "has a layout", and "its maximum is at least the count"
pub record Takes (count e first last n : ℕ) : Type 0 where
  pub from : first ≤ n
  pub to : n ≤ last
  pub layout : Layout n e
  pub enough : count ≤ maximum n e

-- "first below 2 is N, last above 2^32 is SIZE, e as in document 01", by number
unfoldable pub smallest_gate : (e first last : ℕ) → Gated
smallest_gate e first last =
    refuse_if (ltb first 2) gate.N (refuse_if (eqb e 0) gate.ZeroExp (refuse_if (ltb 4294967296 last) gate.Size (refuse_if (ltb e 3) gate.Exponent (Ok tt))))

-- the answer and the counts at exit: "the smallest n .. with its plan"; a refusal of the gate; or NONE, "exactly if the range holds
-- no such n". Both refusals leave the counts as on entry
unfoldable pub Answer : (count e first last : ℕ) (before : List ℕ) → Result Smallest SmallestRefusal → (after : List ℕ) → Type 0
Answer count e first last before (Ok s) after = (smallest_gate e first last ≡ Ok tt) × IsSmallest (Takes count e first last) s.n × IsPlan s.n e s.plan after
Answer count e first last before (Err (Refused g)) after = (smallest_gate e first last ≡ Err g) × (after ≡ before)
Answer count e first last before (Err Nothing) after = (smallest_gate e first last ≡ Ok tt) × ((n : ℕ) → Takes count e first last n → ⊥) × (after ≡ before)

-- what it reports: n, and then what a request for its plan reports; or the refusal
abbrev pub smallest_report : Result Smallest SmallestRefusal → Report
smallest_report (Ok s) =
    answered (s.n ∷ s.plan.maximum ∷ s.plan.alpha ∷ s.plan.beta ∷ s.plan.loglog_ceiling ∷ s.plan.fallback_bucket_width ∷ s.plan.special_len ∷ s.plan.first_bucket_count ∷ [])
smallest_report (Err (Refused g)) = refused (name_of g) []
smallest_report (Err Nothing) = refused name.None []
