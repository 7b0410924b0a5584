-- The state block: 2,048 bytes that hold a table's numbers, each a little-endian word of eight bytes. Assumes nothing.
use Rattle.std.specs.Prelude.{Bool, true, false, ◌≡◌, Option, Some, None, List, [], ◌∷◌, ℕ, eqb, ltb, length, replicate}
use Rattle.std.proofs.lemmas.List.Edits.{sets}
use Rattle.words.specs.Bytes.{bytes_of, num_at}
use Rattle.words.specs.Pick.{pick}
use Rattle.geometry.specs.declared.funnel.FunnelPlan.{FunnelPlan}
use Rattle.funnel.specs.declared.table.FunnelTable.{FunnelTable}
use Rattle.lent.specs.Lent.{words_from, lent}

-- "a second lent block of 2,048 bytes"
abbrev pub state_length : ℕ
state_length = 2048

-- what the first word says of a block that holds a funnel table
abbrev pub funnel_kind : ℕ
funnel_kind = 1

-- the offsets of a funnel's count and of the counts of its levels
abbrev pub count_at : ℕ
count_at = 40

abbrev pub counts_at : ℕ
counts_at = 136

-- "one that holds no state": a block of another length or another kind, or whose e is no u32
unfoldable pub holds_kind : (kind : ℕ) → List ℕ → Bool
holds_kind kind b = pick (eqb (length b) state_length) (pick (eqb (num_at b 0 8) kind) (ltb (num_at b 16 8) 4294967296) false) false

abbrev pub holds_funnel : List ℕ → Bool
holds_funnel b = holds_kind funnel_kind b

-- the plan in a block
unfoldable pub plan_in : List ℕ → FunnelPlan
plan_in b =
    record {
      maximum = num_at b 48 8;
      alpha = num_at b 56 8;
      beta = num_at b 64 8;
      loglog_ceiling = num_at b 72 8;
      fallback_bucket_width = num_at b 80 8;
      special_len = num_at b 88 8;
      special_primary_len = num_at b 96 8;
      special_fallback_len = num_at b 104 8;
      fallback_bucket_count = num_at b 112 8;
      total_buckets = num_at b 120 8;
      first_bucket_count = num_at b 128 8;
    }

-- the table in a block
unfoldable pub table_in : List ℕ → FunnelTable
table_in b =
    record
    { n = num_at b 8 8; e = num_at b 16 8; seed = num_at b 24 8; word_cap = num_at b 32 8; count = num_at b count_at 8; plan = plan_in b }

-- the counts of its levels
unfoldable pub counts_in : List ℕ → List ℕ
counts_in b = words_from b counts_at 118

-- what is read of a block: the table that it holds with the counts of its levels, or none, which leaves the counts that are lent
unfoldable pub Reads : (state before : List ℕ) → Option FunnelTable → (counts : List ℕ) → Type 0
Reads state before None counts = (holds_funnel state ≡ false) × (counts ≡ before)
Reads state before (Some table) counts = (holds_funnel state ≡ true) × (table ≡ table_in state) × (counts ≡ counts_in state)

-- the words of a table, in the order of a block
abbrev pub plan_words : FunnelPlan → List ℕ
plan_words p =
    p.maximum ∷ p.alpha ∷ p.beta ∷ p.loglog_ceiling ∷ p.fallback_bucket_width ∷ p.special_len ∷ p.special_primary_len
    ∷ p.special_fallback_len ∷ p.fallback_bucket_count ∷ p.total_buckets ∷ p.first_bucket_count ∷ []

abbrev pub table_words : FunnelTable → List ℕ
table_words t = funnel_kind ∷ t.n ∷ t.e ∷ t.seed ∷ t.word_cap ∷ t.count ∷ plan_words t.plan

-- the block of a table and the counts of its levels: zeros behind them
unfoldable pub funnel_block : FunnelTable → List ℕ → List ℕ
funnel_block t counts = sets (sets (replicate state_length 0) 0 (lent (table_words t))) counts_at (lent counts)

-- a block with another count
unfoldable pub with_count_in : List ℕ → ℕ → List ℕ
with_count_in b count = sets b count_at (bytes_of 8 count)
