-- What it is that a table, the counts beside it and its two buffers are valid, and that numbers are the key of an identity.
-- Assumes nothing.
use Rattle.std.specs.Prelude.{◌≡◌, List, ℕ, ◌+◌, ◌≤◌, ◌<◌, length}
use Rattle.geometry.specs.Funnel.{IsPlan}
use Rattle.probe.specs.Word.{funnel_in_of, funnel_out_of}
use Rattle.probe.specs.declared.word.FunnelKey.{FunnelKey}
use Rattle.funnel.specs.declared.table.FunnelTable.{FunnelTable}

-- a state and buffers that pass the tests 1 to 7
pub record Valid (table : FunnelTable) (counts words flags : List ℕ) : Type 0 where
  -- "plan not that of n and e"
  pub planned : IsPlan table.n table.e table.plan counts
  -- "Funnel word cap 1 to 256"
  pub cap_least : 1 ≤ table.word_cap
  pub cap_most : table.word_cap ≤ 256
  -- "a lent buffer isn't n long"
  pub words_length : length words ≡ table.n
  pub flags_length : length flags ≡ table.n
  -- "count above n"
  pub counted : table.count ≤ table.n

-- the numbers that key an identity's words under a seed
pub record Keyed (seed identity : ℕ) (key : FunnelKey) : Type 0 where
  pub is_inner : key.inner ≡ funnel_in_of seed identity
  pub is_outer : key.outer ≡ funnel_out_of seed identity

-- room for a part of the special slots, len of them from `start` on, with as many probes before as the earlier parts can make
pub record SpecialRoom (table : FunnelTable) (start len words flags probes : ℕ) : Type 0 where
  pub within : start + len ≤ words
  pub same : words ≡ flags
  pub small : words ≤ 4294967296
  pub cap : table.word_cap ≤ 256
  pub primary : 0 < table.plan.special_primary_len
  pub fallback : 0 < table.plan.fallback_bucket_count
  pub loglog : table.plan.loglog_ceiling ≤ 5
  pub width : table.plan.fallback_bucket_width ≤ 10
  pub before : probes ≤ 4294967296
