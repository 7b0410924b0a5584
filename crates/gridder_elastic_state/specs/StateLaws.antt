-- Laws of the state block of an elastic table. Assumes nothing.
use Rattle.std.specs.Prelude.{List, [], ◌∷◌, ◌≡◌, ℕ, replicate}
use Rattle.std.proofs.Common.{◌∙◌}
use Rattle.std.proofs.lemmas.List.Edits.{sets}
use Rattle.elastic.specs.declared.state.State.{State}
use Rattle.lent.specs.Lent.{lent}
use Rattle.gridder_state.specs.State.{state_length, with_count_in}
use Rattle.gridder_elastic_state.specs.State.{elastic_kind, levels_at, elastic_block, with_counts_in}

-- a block that was zeroed, and then written in two parts
pub block_written : (st : State) (counts zeros header whole : List ℕ) (n e : ℕ) → n ≡ state_length → e ≡ st.e → zeros ≡ replicate n 0
    → header
    ≡ sets zeros 0
    (lent
    (elastic_kind ∷ st.n ∷ e ∷ st.seed ∷ st.limits.range_word_cap ∷ st.count ∷ st.plan.maximum ∷ st.plan.levels
    ∷ st.limits.probe_budget_c ∷ st.limits.uniform_search_probe_cap ∷ st.limits.hit_query_position_cap ∷ []))
    → whole ≡ sets header levels_at (lent counts) → whole ≡ elastic_block st counts
unfolding elastic_block
block_written st counts zeros header whole n e l i z h w = w ∙ rw (h, z, l, i)

-- the counts of a block, written one after the other
pub counts_written : (b counted whole counts : List ℕ) (count : ℕ) → counted ≡ with_count_in b count → whole ≡ sets counted levels_at (lent counts) → whole ≡ with_counts_in b count counts
unfolding with_counts_in
counts_written b counted whole counts count e w = w ∙ rw e
