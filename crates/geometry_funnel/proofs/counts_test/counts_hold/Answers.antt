-- `geometry_funnel::counts_test::counts_hold` meets its contract. Assumes nothing.
use Rattle.geometry.specs.WalkLaws.{both_say, no_chain}
use Rattle.geometry_funnel.proofs.counts_test.counts_hold.Goals as goal

pub returns-then-chain_holds : goal.returns-then-chain_holds
returns-then-chain_holds c =
    both_say _ _ _ _ c.first_holds.result c.requires.0 c.requires.1 c.chain_holds.ensures c.first_holds.ensures c.if-chain_holds.true

pub returns-else-chain_holds : goal.returns-else-chain_holds
returns-else-chain_holds c = rw c.if-chain_holds.false (no_chain _ _ _ _ c.requires.0 c.requires.1 c.chain_holds.ensures c.if-chain_holds.false)
