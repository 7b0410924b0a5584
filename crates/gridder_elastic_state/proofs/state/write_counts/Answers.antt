-- `gridder_elastic_state::state::write_counts` meets its contract. The count, then the counts of the levels. Assumes nothing.
use Rattle.gridder_elastic_state.specs.StateLaws.{counts_written}
use Rattle.gridder_elastic_state.proofs.state.write_counts.Goals as goal

pub returns : goal.returns
returns c = counts_written _ _ _ _ _ c.write_count.ensures c.write_words.ensures
