-- `waiting::chain::pop` meets its contract. Assumes nothing.
use native.Mathlib.Omega.{arith}
use Rattle.waiting.specs.LinksLaws.{link_read, cut_queue, popped_made}
use Rattle.waiting.proofs.chain.pop.Goals as goal

pub add-requires : goal.add-requires
add-requires c = let r = c.read32-next.ensures in (rw c.write32.ensures (cut_queue _ _ _ _ _ c.requires.0 c.requires.1 c.requires.2 (link_read _ _ _ _ r) r.below), omega arith)

pub returns : goal.returns
returns c = let r = c.read32-next.ensures in popped_made _ _ _ _ _ c.requires.0 c.requires.1 c.requires.2 (link_read _ _ _ _ r) r.below _ (rw c.write32.ensures at c.add.ensures)
