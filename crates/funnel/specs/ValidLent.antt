-- What it is that a table whose words are lent as bytes is valid, and that there is room for slots. Assumes nothing.
use Rattle.std.specs.Prelude.{◌≡◌, List, ℕ, ◌*◌, ◌%◌, ◌≤◌, length}
use Rattle.std.proofs.Common.{arith}
use Rattle.funnel.specs.Valid.{Valid}
use Rattle.funnel.specs.declared.table.FunnelTable.{FunnelTable}
use Rattle.lent.specs.Lent.{words_of}

-- a state and buffers that pass the tests 1 to 7
pub record ValidLent (table : FunnelTable) (counts words flags : List ℕ) : Type 0 where
  pub valid : Valid table counts (words_of words) flags
  -- the words are whole
  pub whole : length words ≡ table.n * 8

-- identities and slots that are whole words, with a slot for each identity
pub record LentRoom (identities slots : List ℕ) : Type 0 where
  pub whole : length identities % 8 ≡ 0
  pub whole_slots : length slots % 8 ≡ 0
  pub room : length identities ≤ length slots

-- eight bytes lie beside each flag
pub whole_flags : {table : FunnelTable} {counts words flags : List ℕ} → ValidLent table counts words flags → length words ≡ length flags * 8
whole_flags v = let f = v.valid.flags_length in let w = v.whole in omega arith
