-- `audit_special::special::find_special` meets its contract: two stages, the second resumed where the first met no vacancy. Assumes nothing.
use mathlib.Core.Path.{◌∙◌}
use native.Mathlib.Omega.{arith}
use Rattle.geometry.specs.FunnelLaws.{plan_facts}
use Rattle.funnel.specs.PlanLaws.{primary_start_lem}
use Rattle.funnel.proofs.Stays.{stays}
use Rattle.audit.specs.SpecialLaws.{special_primary, special_resume, special_fallback, special_found}
use Rattle.audit_special.proofs.special.find_special.Goals as goal

pub search_primary-primary-requires : goal.search_primary-primary-requires
search_primary-primary-requires g c = (special_primary c.args.part.now.valid _ c.args.identity c.requires, record { is_inner = c.funnel_key-key.ensures.0; is_outer = c.funnel_key-key.ensures.1 })

pub returns-in_default : goal.returns-in_default
returns-in_default g c = stays _ _ _ _ _ c.in_default.not-Full ∙ special_resume c.args.part.now.valid _ _ c.requires _ c.search_primary-primary.ensures

pub overflow_add-fallback_start : goal.overflow_add-fallback_start
overflow_add-fallback_start g c = let f = plan_facts c.args.part.now.valid.planned in let s = primary_start_lem c.args.part.now.valid.planned in let t = c.requires in omega arith

pub search_fallback-requires : goal.search_fallback-requires
search_fallback-requires g c = (special_fallback c.args.part.now.valid _ _ c.requires _ c.search_primary-primary.ensures _ c.in-Full.is, record { is_inner = c.funnel_key-key.ensures.0; is_outer = c.funnel_key-key.ensures.1 })

pub returns : goal.returns
returns g c = special_found c.args.part.now.valid _ _ c.requires _ c.search_primary-primary.ensures _ c.in-Full.is _ c.search_fallback.ensures
