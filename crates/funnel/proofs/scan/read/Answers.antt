-- `funnel::scan::read` meets its contract. By the laws of one reading. Assumes nothing.
use mathlib.Core.Path.{sym, ◌∙◌}
use Rattle.funnel.specs.StageLaws.{read_vacant, read_hit, read_other}
use Rattle.funnel.proofs.scan.read.Goals as goal

pub returns-then-flags-s-eq0 : goal.returns-then-flags-s-eq0
returns-then-flags-s-eq0 g c = read_vacant _ _ _ _ _ _ c.requires.0 c.if-flags-s-eq0.true

pub returns-then-word-identity : goal.returns-then-word-identity
returns-then-word-identity g c = read_hit _ _ _ _ _ _ c.requires.0 c.if-flags-s-eq0.false (sym c.word.ensures ∙ c.if-word-identity.true)

pub returns : goal.returns
returns g c = read_other _ _ _ _ _ _ c.requires.0 c.if-flags-s-eq0.false (λ e. c.if-word-identity.false (c.word.ensures ∙ e))
