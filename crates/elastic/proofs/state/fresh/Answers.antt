-- `elastic::state::fresh` meets its contract. Assumes nothing.
use native.Mathlib.Omega.{arith}
use Rattle.words.specs.LogLaws.{log_computed}
use Rattle.elastic.specs.StateLaws.{fresh_is}
use Rattle.elastic.proofs.state.fresh.Goals as goal

pub returns : goal.returns
returns c = fresh_is _ _ _ _ _ _ (log_computed _ _ (omega arith) c.ceil_log2-levels.ensures) c.max_insertions-maximum.ensures
