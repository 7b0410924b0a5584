use Rattle.probe.specs.RangeLaws.{domain_told}
use Rattle.probe.proofs.range.funnel_draw.Goals as goal

pub returns : goal.returns
returns c = domain_told _ _ c.args.domain _ _ _ _ _ _ _ c.funnel_base.ensures c.draw_scaled.ensures c.from.ensures c.told.ensures
