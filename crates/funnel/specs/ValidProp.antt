-- That a table is valid has one proof at most, so that a struct can carry it (view.rt). Assumes nothing.
use Rattle.std.specs.Prelude.{◌≡◌, List, [], ◌∷◌, ℕ, ◌-◌, ◌≤◌, min, max}
use Rattle.std.proofs.Math.Nat.{∣_prop}
use mathlib.Core.HLevel.{×_prop, is_prop→PathP}
use native.Mathlib.Nat.{ℕ_set}
use native.Mathlib.Bridge.{le_prop}
use denote.Struct.Props.{props}
use Rattle.geometry.specs.Extreme.{IsLargest, IsSmallest}
use Rattle.geometry.specs.ExtremeLaws.{largest_one, smallest_one}
use Rattle.geometry.specs.Counts.{low_sum, high_sum, quarter, Follows, Rest, First, Counts}
use Rattle.geometry.specs.Special.{Special, Measured}
use Rattle.geometry.specs.Funnel.{IsPlan}
use Rattle.geometry.specs.declared.funnel.FunnelPlan.{FunnelPlan}
use Rattle.funnel.specs.Valid.{Valid}
use Rattle.funnel.specs.declared.table.FunnelTable.{FunnelTable}

special_prop : (n lo hi beta w s : ℕ) → IsProp (Special n lo hi beta w s)
special_prop n lo hi beta w s = hlevel (∣_prop, props)

measured_prop : (n lo hi beta w s main half : ℕ) → IsProp (Measured n lo hi beta w s main half)
measured_prop n lo hi beta w s main half = hlevel (special_prop, ∣_prop, props)

follows_prop : (x levels sum y : ℕ) → IsProp (Follows x levels sum y)
follows_prop x levels sum y = hlevel props

rest_prop : (x sum : ℕ) (ys : List ℕ) → IsProp (Rest x sum ys)
unfolding Rest
rest_prop x sum [] = hlevel props
rest_prop x sum (y ∷ ys) = ×_prop (hlevel props) (rest_prop y (sum - y) ys)

first_prop : (t levels x : ℕ) → IsProp (First t levels x)
first_prop t levels x p q =
    let l : p.lo ≡ q.lo = smallest_one p.lo_smallest q.lo_smallest in
    let h : p.hi ≡ q.hi = largest_one p.hi_largest q.hi_largest in
    let lo_prop : (y : ℕ) → IsProp (IsSmallest (λ z. t ≤ high_sum z levels) y) = hlevel props in
    let hi_prop : (y : ℕ) → IsProp (IsLargest (λ z. low_sum z levels ≤ t) y) = hlevel props in
    λ i. record {
      lo = l i;
      hi = h i;
      lo_smallest = is_prop→PathP _ (λ j. lo_prop (l j)) p.lo_smallest q.lo_smallest i;
      hi_largest = is_prop→PathP _ (λ j. hi_prop (h j)) p.hi_largest q.hi_largest i;
      ordered = is_prop→PathP _ (λ j. le_prop {n = l j} {m = h j}) p.ordered q.ordered i;
      clamped = is_prop→PathP _ (λ j. ℕ_set x (max (l j) (min (h j) (quarter t)))) p.clamped q.clamped i;
    }

counts_prop : (t levels : ℕ) (cs : List ℕ) → IsProp (Counts t levels cs)
unfolding Counts
counts_prop t levels [] = hlevel props
counts_prop t levels (x ∷ xs) = hlevel (first_prop, rest_prop, props)

plan_prop : (n e : ℕ) (p : FunnelPlan) (cs : List ℕ) → IsProp (IsPlan n e p cs)
plan_prop n e p cs = hlevel (counts_prop, measured_prop, props)

pub Valid-prop : (table : FunnelTable) (counts words flags : List ℕ) → IsProp (Valid table counts words flags)
Valid-prop table counts words flags = hlevel (plan_prop, props)
