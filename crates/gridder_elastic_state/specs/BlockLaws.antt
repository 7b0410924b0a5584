-- What is written to the state block of an elastic table is read back. Assumes nothing.
use Rattle.std.specs.Prelude.{true, List, ◌≡◌, ℕ, ◌*◌, ◌^◌, ◌<◌, length, get_or, replicate}
use Rattle.std.proofs.Math.Path.{refl}
use Rattle.std.proofs.Common.{sym, ◌∙◌, arith, lt-ltb}
use Rattle.std.proofs.lemmas.List.{length-replicate}
use Rattle.words.specs.Bytes.{num_at}
use Rattle.elastic.specs.declared.state.State.{State}
use Rattle.gridder_state.specs.BlockLaws.{written, written_long, written_word, written_counts}
use Rattle.gridder_state.specs.State.{state_length}
use Rattle.gridder_elastic_state.specs.State.{elastic_kind, levels_at, holds_elastic, limits_in, state_in, counts_in, state_words, elastic_block}
use Rattle.gridder_state.specs.StateLaws.{holds_kind_lem}

-- numbers that fit their words
pub record Words (st : State) (counts : List ℕ) : Type 0 where
  pub n : st.n < 2 ^ 64
  pub e : st.e < 4294967296
  pub seed : st.seed < 2 ^ 64
  pub word_cap : st.limits.range_word_cap < 2 ^ 64
  pub count : st.count < 2 ^ 64
  pub maximum : st.plan.maximum < 2 ^ 64
  pub levels : st.plan.levels < 2 ^ 64
  pub factor : st.limits.probe_budget_c < 2 ^ 64
  pub search_cap : st.limits.uniform_search_probe_cap < 2 ^ 64
  pub position_cap : st.limits.hit_query_position_cap < 2 ^ 64
  pub all : length counts ≡ 32
  pub each : (i : ℕ) → i < 32 → get_or counts i 0 < 2 ^ 64

module _ (st : State) (counts : List ℕ) (fits : Words st counts) (zeros : List ℕ) (long : length zeros ≡ state_length) where
  abbrev block : List ℕ
  block = written zeros (state_words st) levels_at counts

  field_at : (i x : ℕ) → i < 11 → get_or (state_words st) i 0 ≡ x → x < 2 ^ 64 → num_at block (i * 8) 8 ≡ x
  field_at = written_word zeros (state_words st) levels_at counts 32 long (omega arith) (omega arith) fits.all

  read_counts : counts_in block ≡ counts
  unfolding counts_in
  read_counts = written_counts zeros (state_words st) levels_at counts 32 long (omega arith) (omega arith) fits.all fits.each

  read_state : state_in block ≡ st
  unfolding state_in limits_in
  read_state =
      let a : st.e < 2 ^ 64 = omega (arith, fits.e) in
      rw (
        field_at 1 st.n (omega arith) refl fits.n,
        field_at 2 st.e (omega arith) refl a,
        field_at 3 st.seed (omega arith) refl fits.seed,
        field_at 4 st.limits.range_word_cap (omega arith) refl fits.word_cap,
        field_at 5 st.count (omega arith) refl fits.count,
        field_at 6 st.plan.maximum (omega arith) refl fits.maximum,
        field_at 7 st.plan.levels (omega arith) refl fits.levels,
        field_at 8 st.limits.probe_budget_c (omega arith) refl fits.factor,
        field_at 9 st.limits.uniform_search_probe_cap (omega arith) refl fits.search_cap,
        field_at 10 st.limits.hit_query_position_cap (omega arith) refl fits.position_cap,
      )

  read_holds : holds_elastic block ≡ true
  read_holds =
      let k : num_at block 0 8 ≡ elastic_kind = field_at 0 elastic_kind (omega arith) refl (omega arith) in
      let a : st.e < 2 ^ 64 = omega (arith, fits.e) in
      let e : num_at block 16 8 ≡ st.e = field_at 2 st.e (omega arith) refl a in
      sym (holds_kind_lem _ block (written_long zeros (state_words st) levels_at counts 32 long (omega arith) (omega arith) fits.all) k) ∙ rw e (lt-ltb _ _ fits.e)

-- the block of a state holds that state
pub record Holding (st : State) (counts : List ℕ) : Type 0 where
  pub holds : holds_elastic (elastic_block st counts) ≡ true
  pub state : state_in (elastic_block st counts) ≡ st
  pub levels : counts_in (elastic_block st counts) ≡ counts

pub block_holds : (st : State) (counts : List ℕ) → Words st counts → Holding st counts
unfolding elastic_block
block_holds st counts fits =
    let z : length (replicate {A = ℕ} state_length 0) ≡ state_length = length-replicate {A = ℕ} state_length 0 in
    record {
      holds = read_holds st counts fits (replicate state_length 0) z;
      state = read_state st counts fits (replicate state_length 0) z;
      levels = read_counts st counts fits (replicate state_length 0) z;
    }
