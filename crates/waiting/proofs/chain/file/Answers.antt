-- `waiting::chain::file` meets its contract. Assumes nothing.
use Rattle.waiting.specs.LinksLaws.{link_read, filed_made}
use Rattle.waiting.proofs.chain.file.Goals as goal

pub returns : goal.returns
returns c = let r = c.read32-next.ensures in rw (c.write32-2.ensures, c.write32.ensures) (filed_made _ _ _ _ _ _ c.requires.0 c.remove.ensures c.requires.1 c.requires.2 (link_read _ _ _ _ r) r.below)
