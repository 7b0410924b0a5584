-- `geometry_funnel::plan::write_plan` meets its contract. Assumes nothing.
use mathlib.Core.Path.{refl, ap}
use Prim.Native.Nat.{ℕ, ◌*◌, ◌/◌}
use native.Mathlib.Omega.{arith}
use Rattle.geometry.specs.LoglogLaws.{loglog_facts}
use Rattle.geometry.specs.LengthLaws.{length_facts, exponent_most}
use Rattle.geometry.specs.FunnelExist.{special_buckets}
use Rattle.geometry.specs.FunnelTestLaws.{filled_counts}
use Rattle.geometry_funnel.proofs.plan.write_plan.Goals as goal

pub overflow_sub-t : goal.overflow_sub-t
overflow_sub-t c = omega (arith, (length_facts _ _ _ c.requires.2.holds).main)

pub fill_counts-requires : goal.fill_counts-requires
fill_counts-requires c =
    let s = c in
    let m = exponent_most _ _ _ s.requires.0.most s.requires.2.holds in
    (omega arith, omega arith, special_buckets _ _ _ s.requires.1 s.requires.2.holds)

pub overflow_mul-result : goal.overflow_mul-result
overflow_mul-result c = omega (arith, c.base_two_loglog_ceiling-g.ensures, (loglog_facts _ c.requires.0.most).most)

pub overflow_mul-result-2 : goal.overflow_mul-result-2
overflow_mul-result-2 c = omega (arith, c.base_two_loglog_ceiling-g.ensures, (loglog_facts _ c.requires.0.most).most)

pub nonzero_div-result-4 : goal.nonzero_div-result-4
nonzero_div-result-4 c = omega (arith, c.base_two_loglog_ceiling-g.ensures, (loglog_facts _ c.requires.0.most).least)

pub returns : goal.returns
returns c =
    let s = c in
    let g = c.base_two_loglog_ceiling-g.ensures in
    record {
      configured = s.requires.0;
      exponent = s.requires.1;
      numbers = record { is_maximum = c.max_insertions.ensures; is_alpha = refl; is_beta = refl; is_loglog = g; is_width = ap (λ (x : ℕ). 2 * x) g; is_primary = refl; is_fallback = refl };
      special = record { largest = s.requires.2; is_main = refl; is_half = ap (λ (x : ℕ). s.args.s / 2 / (2 * x)) g };
      levels = filled_counts _ _ s.args.counts.now _ _ (omega arith) c.clear_words.ensures c.fill_counts.ensures;
    }
