-- The definitions at a few numbers: the examples of the request, and a lower bound that is no layout. Assumes nothing.
use Rattle.std.specs.Prelude.{Some, ℕ, ◌-◌, ◌/◌, ◌≤◌}
use Rattle.std.proofs.Math.Nat.{dvd-mul_right}
use Rattle.std.proofs.Common.{arith}
use Rattle.words.specs.Log.{ceil_log2, first_from}
use Rattle.geometry.specs.Extreme.{IsLargest, IsSmallest}
use Rattle.geometry.specs.Special.{loglog, special_least, special_most, SpecialLength}
use Rattle.geometry.specs.Funnel.{Layout}
use Rattle.geometry.specs.FunnelExist.{special_layout}
use Rattle.geometry.specs.LengthLaws.{length_facts}
use Rattle.geometry_smallest.specs.LayoutsLaws.{loglog_mono, loglog_17}
use Rattle.geometry_smallest.specs.Minimum.{Roomy, Minimum}
use Rattle.geometry_smallest.specs.MinimumLaws.{loglog_least}
use Rattle.geometry_smallest.specs.Smallest.{Takes}

-- ---- the two special lengths

length_144 : IsLargest (SpecialLength 144 3) 12
unfolding special_least special_most loglog ceil_log2 first_from
length_144 =
    record {
      holds = record { from = omega arith; to = omega arith; main = dvd-mul_right 6 22; fallback = dvd-mul_right 6 1; some = omega arith };
      above = λ z p. p.to;
    }

length_145 : IsLargest (SpecialLength 145 3) 13
unfolding special_least special_most loglog ceil_log2 first_from
length_145 =
    record {
      holds = record { from = omega arith; to = omega arith; main = dvd-mul_right 6 22; fallback = dvd-mul_right 6 1; some = omega arith };
      above = λ z p. p.to;
    }

-- no table with e 3 is smaller than 144: 132 slots of ordinary levels, and two fallback buckets
pub least_144 : (n : ℕ) → Layout n 3 → 144 ≤ n
least_144 n l =
    let p = l.2.special.largest.holds in
    let f = length_facts n 3 l.0.special_len p in
    let a = f.main in
    let b = f.least in
    let top = l.2.configured.most in
    let g = loglog_mono 17 n (omega arith) (omega arith) in
    let three = loglog_17 in
    omega arith

-- ---- "With e 3, from 2 to 200, 126 cells need 144 slots and 127 need 145."

layout_144 : Layout 144 3
layout_144 = special_layout 144 3 12 (record { least = omega arith; most = omega arith; some = omega arith }) (omega arith) length_144

pub cells_126 : IsSmallest (Takes 126 3 2 200) 144
cells_126 =
    record { holds = record { from = omega arith; to = omega arith; layout = layout_144; enough = omega arith }; below = λ n t. least_144 n t.layout }

pub cells_127 : IsSmallest (Takes 127 3 2 200) 145
cells_127 =
    record {
      holds = record {
        from = omega arith;
        to = omega arith;
        layout = special_layout 145 3 13 (record { least = omega arith; most = omega arith; some = omega arith }) (omega arith) length_145;
        enough = omega arith;
      };
      below = λ n t. let a : 127 ≤ n - n / 8 = t.enough in omega arith;
    }

-- ---- "its answer is only a lower bound on layouts": from 2 on it is 128, which has no layout; the smallest that has one is 144

pub bound_128 : Minimum 3 2 (Some 128)
unfolding Minimum loglog ceil_log2 first_from
bound_128 = record { holds = record { above = omega arith; fits = omega arith; room = omega arith }; below = at_least }
  where
    at_least : (n : ℕ) → Roomy 3 2 n → 128 ≤ n
    at_least n r =
        let room = r.room in
        let one = loglog_least n in
        let some : 43 ≤ n = omega arith in
        let g = loglog_mono 17 n (omega arith) (omega (arith, r.fits)) in
        let three = loglog_17 in
        omega arith

pub none_128 : Layout 128 3 → ⊥
none_128 l = let a = least_144 128 l in omega arith

pub smallest_144 : IsSmallest (Takes 0 3 2 4294967296) 144
smallest_144 =
    record { holds = record { from = omega arith; to = omega arith; layout = layout_144; enough = omega arith }; below = λ n t. least_144 n t.layout }
