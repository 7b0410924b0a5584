-- `funnel::scan::scan` meets its contract. By where the bucket halts. Assumes nothing.
use mathlib.Core.Path.{sym, ◌∙◌}
use Rattle.funnel.proofs.scan.scan.Goals as goal

pub returns : goal.returns
returns g c = c.halted.ensures ∙ sym (c.halt-stop.ensures.says _ _ _)
