-- `elastic::state::factor_fits` meets its contract: no product is formed. Assumes nothing.
use native.Mathlib.Omega.{arith}
use mathlib.Core.Path.{◌∙◌}
use borrow.Author.Tests.{eq-eqb, le-ltb}
use Rattle.elastic.specs.StateLaws.{factor_zero, factor_any, factor_some}
use Rattle.elastic.proofs.state.factor_fits.Goals as goal

pub returns-then-e-eq0 : goal.returns-then-e-eq0
returns-then-e-eq0 c = eq-eqb _ _ c.if-e-eq0.true ∙ factor_any _ _ (omega arith) c.if-e-eq0.true

pub returns-else-e-eq0 : goal.returns-else-e-eq0
returns-else-e-eq0 c = factor_some _ _ (omega arith) c.if-e-eq0.false _ c.min.ensures

pub returns-else-c-gt0 : goal.returns-else-c-gt0
returns-else-c-gt0 c = le-ltb _ _ c.if-c-gt0.false ∙ factor_zero _ _ (omega arith)
