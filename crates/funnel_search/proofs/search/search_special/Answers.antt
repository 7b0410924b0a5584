-- `funnel_search::search::search_special` meets its contract. The later stages, each resumed where the one before met no vacancy. Assumes nothing.
use mathlib.Core.Path.{refl, sym, ◌∙◌}
use native.Mathlib.Omega.{arith}
use Rattle.geometry.specs.FunnelLaws.{plan_facts}
use Rattle.funnel.specs.FindLaws.{primary_ready, find_primary, fallback_ready, find_fallback}
use Rattle.funnel.proofs.Stays.{stays}
use Rattle.funnel_search.proofs.search.search_special.Goals as goal

pub overflow_sub-primary_start : goal.overflow_sub-primary_start
overflow_sub-primary_start g c = let f = plan_facts c.args.sought.now.view.now.valid.planned in omega arith

pub search_primary-primary-requires : goal.search_primary-primary-requires
search_primary-primary-requires g c = (primary_ready _ _ _ _ _ _ refl c.args.sought.now.view.now.valid _ c.requires, c.args.sought.now.keyed)

pub returns-in_default : goal.returns-in_default
returns-in_default g c = stays _ _ _ _ _ c.in_default.not-Full ∙ sym (find_primary _ _ _ _ _ _ refl c.args.sought.now.view.now.valid _ c.requires _ c.search_primary-primary.ensures)

pub overflow_add-fallback_start : goal.overflow_add-fallback_start
overflow_add-fallback_start g c = let f = plan_facts c.args.sought.now.view.now.valid.planned in omega arith

pub search_fallback-requires : goal.search_fallback-requires
search_fallback-requires g c = (fallback_ready _ _ _ _ _ _ refl c.args.sought.now.view.now.valid _ c.requires _ c.search_primary-primary.ensures _ c.in-Full.is, c.args.sought.now.keyed)

pub returns : goal.returns
returns g c = find_fallback _ _ _ _ _ _ refl c.args.sought.now.view.now.valid _ c.requires _ c.search_primary-primary.ensures _ c.in-Full.is _ c.search_fallback.ensures
