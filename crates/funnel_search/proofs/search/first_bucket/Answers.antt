-- `funnel_search::search::first_bucket` meets its contract. Past the last level there is nothing to say. Assumes nothing.
use native.Mathlib.Omega.{arith}
use Rattle.funnel_search.proofs.search.first_bucket.Goals as goal

pub returns-then-alpha-level : goal.returns-then-alpha-level
returns-then-alpha-level c = record { ahead = λ l. absurd (omega (arith, c.if-alpha-level.true, l)) }

pub first_index-requires : goal.first_index-requires
first_index-requires c = c.requires.1 _ c.if-alpha-level.false

pub returns : goal.returns
returns c = record { ahead = λ l. rw (← c.funnel_base.ensures) c.first_index.ensures }
