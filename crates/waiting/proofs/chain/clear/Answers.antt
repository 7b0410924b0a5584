-- `waiting::chain::clear` meets its contract. Assumes nothing.
use Rattle.waiting.specs.LinksLaws.{cleared_made}
use Rattle.waiting.proofs.chain.clear.Goals as goal

pub returns : goal.returns
returns c = cleared_made _ _ _ _ c.wipe.ensures c.empty.ensures c.requires.1
