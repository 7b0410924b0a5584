-- `elastic::route::holds` meets its contract. Assumes nothing.
use Rattle.elastic.specs.ReadingLaws.{holds_vacant, holds_word}
use Rattle.elastic.proofs.route.holds.Goals as goal

pub returns-then-flags-slot-eq0 : goal.returns-then-flags-slot-eq0
returns-then-flags-slot-eq0 g c = holds_vacant _ _ _ _ c.if-flags-slot-eq0.true

pub returns : goal.returns
returns g c = rw c.word.ensures (holds_word _ _ _ _ c.if-flags-slot-eq0.false)
