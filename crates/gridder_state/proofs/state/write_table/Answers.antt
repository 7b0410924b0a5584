-- `gridder_state::state::write_table` meets its contract. Zeros, then the numbers, then the counts. Assumes nothing.
use Rattle.gridder_state.specs.StateLaws.{block_written}
use Rattle.gridder_state.proofs.state.write_table.Goals as goal

pub returns : goal.returns
returns c = block_written _ _ _ _ _ _ _ c.requires c.from.ensures c.clear_bytes.ensures c.write_words.ensures c.write_words-2.ensures
