-- The funnel table of 144 slots and reserve 1/8, in which every level is one bucket: its plan and its counts, for worked examples. Assumes nothing.
use Rattle.std.specs.Prelude.{List, ◌++◌, ℕ, replicate}
use Rattle.geometry.specs.declared.funnel.FunnelPlan.{FunnelPlan}
use Rattle.funnel.specs.declared.table.FunnelTable.{FunnelTable}

abbrev pub plan : FunnelPlan
plan =
    record {
      maximum = 126;
      alpha = 22;
      beta = 6;
      loglog_ceiling = 3;
      fallback_bucket_width = 6;
      special_len = 12;
      special_primary_len = 6;
      special_fallback_len = 6;
      fallback_bucket_count = 1;
      total_buckets = 22;
      first_bucket_count = 1;
    }

-- "every level one bucket"
unfoldable pub counts : List ℕ
counts = replicate 22 1 ++ replicate 96 0

abbrev pub table : (seed cap count : ℕ) → FunnelTable
table seed cap count = record { n = 144; e = 3; seed = seed; word_cap = cap; count = count; plan = plan }
