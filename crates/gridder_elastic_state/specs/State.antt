-- The state block of an elastic table: 2,048 bytes, each number a little-endian word of eight bytes. Assumes nothing.
use Rattle.std.specs.Prelude.{Bool, true, false, ◌≡◌, Option, Some, None, List, [], ◌∷◌, ℕ, replicate}
use Rattle.std.proofs.lemmas.List.Edits.{sets}
use Rattle.words.specs.Bytes.{num_at}
use Rattle.elastic.specs.declared.state.Limits.{Limits}
use Rattle.elastic.specs.declared.state.State.{State}
use Rattle.lent.specs.Lent.{words_from, lent}
use Rattle.gridder_state.specs.State.{state_length, count_at, holds_kind, with_count_in}

-- what the first word says of a block that holds an elastic table
abbrev pub elastic_kind : ℕ
elastic_kind = 2

-- the offset of the counts of the levels
abbrev pub levels_at : ℕ
levels_at = 88

-- "one that holds no state", as for a funnel
abbrev pub holds_elastic : List ℕ → Bool
holds_elastic b = holds_kind elastic_kind b

-- the limits in a block
unfoldable pub limits_in : List ℕ → Limits
limits_in b =
    record {
      probe_budget_c = num_at b 64 8;
      range_word_cap = num_at b 32 8;
      uniform_search_probe_cap = num_at b 72 8;
      hit_query_position_cap = num_at b 80 8;
    }

-- the state in a block
unfoldable pub state_in : List ℕ → State
state_in b =
    record {
      n = num_at b 8 8;
      e = num_at b 16 8;
      seed = num_at b 24 8;
      limits = limits_in b;
      plan = record { levels = num_at b 56 8; maximum = num_at b 48 8 };
      count = num_at b count_at 8;
    }

-- the counts of its levels
unfoldable pub counts_in : List ℕ → List ℕ
counts_in b = words_from b levels_at 32

-- what is read of a block: the state that it holds with the counts of its levels, or none, which leaves the counts that are lent
unfoldable pub Reads : (state before : List ℕ) → Option State → (counts : List ℕ) → Type 0
Reads state before None counts = (holds_elastic state ≡ false) × (counts ≡ before)
Reads state before (Some st) counts = (holds_elastic state ≡ true) × (st ≡ state_in state) × (counts ≡ counts_in state)

-- the words of a state, in the order of a block
abbrev pub state_words : State → List ℕ
state_words st =
    elastic_kind ∷ st.n ∷ st.e ∷ st.seed ∷ st.limits.range_word_cap ∷ st.count ∷ st.plan.maximum ∷ st.plan.levels
    ∷ st.limits.probe_budget_c ∷ st.limits.uniform_search_probe_cap ∷ st.limits.hit_query_position_cap ∷ []

-- the block of a state and the counts of its levels: zeros behind them
unfoldable pub elastic_block : State → List ℕ → List ℕ
elastic_block st counts = sets (sets (replicate state_length 0) 0 (lent (state_words st))) levels_at (lent counts)

-- a block with another count and other counts of the levels
unfoldable pub with_counts_in : List ℕ → ℕ → List ℕ → List ℕ
with_counts_in b count counts = sets (with_count_in b count) levels_at (lent counts)
