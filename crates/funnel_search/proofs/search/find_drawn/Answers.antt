-- `funnel_search::search::find_drawn` meets its contract. Assumes nothing.
use mathlib.Core.Path.{sym, ◌∙◌}
use Rattle.funnel.specs.FindLaws.{find_levels}
use Rattle.funnel.proofs.Stays.{stays}
use Rattle.funnel_search.proofs.search.find_drawn.Goals as goal

pub returns-in_default : goal.returns-in_default
returns-in_default g c = stays _ _ _ _ _ c.in_default.not-Full ∙ sym (find_levels _ _ _ _ _ _ c.search_levels-ordinary.ensures)

pub search_special-requires : goal.search_special-requires
search_special-requires g c = sym c.search_levels-ordinary.ensures ∙ c.in-Full.is

pub returns : goal.returns
returns g c = c.search_special.ensures
