-- What is written to a state block is read back. Assumes nothing.
use Rattle.std.specs.Prelude.{true, List, [], ◌∷◌, ◌⊎◌, ◌≡◌, ℕ, zero, suc, ◌+◌, ◌*◌, ◌%◌, ◌^◌, ◌≤◌, ◌<◌, length, get_or, replicate}
use Rattle.std.proofs.Common.{inr, sym, ◌∙◌, arith, ext_get_or, lt-ltb}
use Rattle.std.proofs.Math.Path.{refl}
use Rattle.std.proofs.lemmas.List.{length-replicate}
use Rattle.std.proofs.lemmas.List.Edits.{sets}
use Rattle.std.proofs.Math.Seq.{length-sets}
use Rattle.words.specs.Bytes.{bytes_of, num_at}
use Rattle.words.specs.BytesLaws.{sets_append, length_bytes, num_sets, num_stored}
use Rattle.funnel.specs.declared.table.FunnelTable.{FunnelTable}
use Rattle.lent.specs.Lent.{words_from, lent}
use Rattle.lent.specs.LentLaws.{length_from, from_at}
use Rattle.gridder_state.specs.State.{state_length, funnel_kind, counts_at, holds_funnel, plan_in, table_in, counts_in, table_words, funnel_block}
use Rattle.gridder_state.specs.StateLaws.{holds_kind_lem}

-- a word of a list that was stored as bytes
pub num_lent : (words out : List ℕ) (at i : ℕ) → at + length words * 8 ≤ length out → i < length words → num_at (sets out at (lent words)) (at + i * 8) 8 ≡ get_or words i 0 % 256 ^ 8
unfolding lent
num_lent [] out at i f h = absurd (omega arith)
num_lent (x ∷ words) out at zero f h =
    let z : at + 0 * 8 ≡ at = omega arith in
    let l : length (bytes_of 8 x) ≡ 8 = length_bytes 8 x in
    let o : (at + 8 + length (lent words) ≤ at) ⊎ (at + 8 ≤ at + 8) = inr (omega arith) in
    rw (z, sets_append out at (bytes_of 8 x) (lent words), l) (num_sets (lent words) (sets out at (bytes_of 8 x)) (at + 8) at 8 o ∙ num_stored out at 8 x (omega arith))
num_lent (x ∷ words) out at (suc i) f h =
    let z : at + suc i * 8 ≡ at + 8 + i * 8 = omega arith in
    let l : length (bytes_of 8 x) ≡ 8 = length_bytes 8 x in
    let s : length (sets out at (bytes_of 8 x)) ≡ length out = length-sets out at (bytes_of 8 x) in
    rw (z, sets_append out at (bytes_of 8 x) (lent words), l) (num_lent words (sets out at (bytes_of 8 x)) (at + 8) i (omega arith) (omega arith))

-- a block of zeros into which words were written, and counts from a later byte on
abbrev pub written : (zeros words : List ℕ) (at : ℕ) (counts : List ℕ) → List ℕ
written zeros words at counts = sets (sets zeros 0 (lent words)) at (lent counts)

module _ (zeros words : List ℕ) (at : ℕ) (counts : List ℕ) (k : ℕ) (long : length zeros ≡ state_length) (behind : length words * 8 ≤ at) (room : at + k * 8 ≤ state_length)
    (all : length counts ≡ k) where
  written_header : length (sets zeros 0 (lent words)) ≡ state_length
  written_header = length-sets zeros 0 (lent words) ∙ long

  pub written_long : length (written zeros words at counts) ≡ state_length
  written_long = length-sets (sets zeros 0 (lent words)) at (lent counts) ∙ written_header

  pub written_word : (i x : ℕ) → i < length words → get_or words i 0 ≡ x → x < 2 ^ 64 → num_at (written zeros words at counts) (i * 8) 8 ≡ x
  written_word i x h e b =
      let o : (at + length (lent counts) ≤ i * 8) ⊎ (i * 8 + 8 ≤ at) = inr (omega arith) in
      let z : 0 + i * 8 ≡ i * 8 = omega arith in
      let m : num_at (sets zeros 0 (lent words)) (i * 8) 8 ≡ get_or words i 0 % 256 ^ 8 = rw z at (num_lent words zeros 0 i (omega arith) h) in
      let r : x % 256 ^ 8 ≡ x = omega arith in
      num_sets (lent counts) (sets zeros 0 (lent words)) at (i * 8) 8 o ∙ m ∙ rw (e, r)

  pub written_counts : ((i : ℕ) → i < k → get_or counts i 0 < 2 ^ 64) → words_from (written zeros words at counts) at k ≡ counts
  written_counts each =
      ext_get_or 0 _ _ (length_from (written zeros words at counts) at k ∙ sym all)
      (λ i h. let u : i < k = omega (arith, length_from (written zeros words at counts) at k, h) in from_at (written zeros words at counts) at k i u ∙ at_count i u)
    where
      at_count : (i : ℕ) → i < k → num_at (written zeros words at counts) (at + i * 8) 8 ≡ get_or counts i 0
      at_count i h =
          let b = each i h in
          let r : get_or counts i 0 % 256 ^ 8 ≡ get_or counts i 0 = omega arith in
          num_lent counts (sets zeros 0 (lent words)) at i (omega (arith, written_header)) (omega arith) ∙ r

-- numbers that fit their words
pub record Words (t : FunnelTable) (counts : List ℕ) : Type 0 where
  pub n : t.n < 2 ^ 64
  pub e : t.e < 4294967296
  pub seed : t.seed < 2 ^ 64
  pub word_cap : t.word_cap < 2 ^ 64
  pub count : t.count < 2 ^ 64
  pub maximum : t.plan.maximum < 2 ^ 64
  pub alpha : t.plan.alpha < 2 ^ 64
  pub beta : t.plan.beta < 2 ^ 64
  pub loglog : t.plan.loglog_ceiling < 2 ^ 64
  pub width : t.plan.fallback_bucket_width < 2 ^ 64
  pub special : t.plan.special_len < 2 ^ 64
  pub primary : t.plan.special_primary_len < 2 ^ 64
  pub fallback : t.plan.special_fallback_len < 2 ^ 64
  pub buckets : t.plan.fallback_bucket_count < 2 ^ 64
  pub total : t.plan.total_buckets < 2 ^ 64
  pub first : t.plan.first_bucket_count < 2 ^ 64
  pub levels : length counts ≡ 118
  pub each : (i : ℕ) → i < 118 → get_or counts i 0 < 2 ^ 64

module _ (t : FunnelTable) (counts : List ℕ) (fits : Words t counts) (zeros : List ℕ) (long : length zeros ≡ state_length) where
  abbrev block : List ℕ
  block = written zeros (table_words t) counts_at counts

  field_at : (i x : ℕ) → i < 17 → get_or (table_words t) i 0 ≡ x → x < 2 ^ 64 → num_at block (i * 8) 8 ≡ x
  field_at = written_word zeros (table_words t) counts_at counts 118 long (omega arith) (omega arith) fits.levels

  read_counts : counts_in block ≡ counts
  unfolding counts_in
  read_counts = written_counts zeros (table_words t) counts_at counts 118 long (omega arith) (omega arith) fits.levels fits.each

  read_table : table_in block ≡ t
  unfolding table_in plan_in
  read_table =
      let a : t.e < 2 ^ 64 = omega (arith, fits.e) in
      rw (
        field_at 1 t.n (omega arith) refl fits.n,
        field_at 2 t.e (omega arith) refl a,
        field_at 3 t.seed (omega arith) refl fits.seed,
        field_at 4 t.word_cap (omega arith) refl fits.word_cap,
        field_at 5 t.count (omega arith) refl fits.count,
        field_at 6 t.plan.maximum (omega arith) refl fits.maximum,
        field_at 7 t.plan.alpha (omega arith) refl fits.alpha,
        field_at 8 t.plan.beta (omega arith) refl fits.beta,
        field_at 9 t.plan.loglog_ceiling (omega arith) refl fits.loglog,
        field_at 10 t.plan.fallback_bucket_width (omega arith) refl fits.width,
        field_at 11 t.plan.special_len (omega arith) refl fits.special,
        field_at 12 t.plan.special_primary_len (omega arith) refl fits.primary,
        field_at 13 t.plan.special_fallback_len (omega arith) refl fits.fallback,
        field_at 14 t.plan.fallback_bucket_count (omega arith) refl fits.buckets,
        field_at 15 t.plan.total_buckets (omega arith) refl fits.total,
        field_at 16 t.plan.first_bucket_count (omega arith) refl fits.first,
      )

  read_holds : holds_funnel block ≡ true
  read_holds =
      let k : num_at block 0 8 ≡ funnel_kind = field_at 0 funnel_kind (omega arith) refl (omega arith) in
      let a : t.e < 2 ^ 64 = omega (arith, fits.e) in
      let e : num_at block 16 8 ≡ t.e = field_at 2 t.e (omega arith) refl a in
      sym (holds_kind_lem _ block (written_long zeros (table_words t) counts_at counts 118 long (omega arith) (omega arith) fits.levels) k) ∙ rw e (lt-ltb _ _ fits.e)

-- the block of a table holds that table
pub record Holding (t : FunnelTable) (counts : List ℕ) : Type 0 where
  pub holds : holds_funnel (funnel_block t counts) ≡ true
  pub table : table_in (funnel_block t counts) ≡ t
  pub levels : counts_in (funnel_block t counts) ≡ counts

pub block_holds : (t : FunnelTable) (counts : List ℕ) → Words t counts → Holding t counts
unfolding funnel_block
block_holds t counts fits =
    let z : length (replicate {A = ℕ} state_length 0) ≡ state_length = length-replicate {A = ℕ} state_length 0 in
    record {
      holds = read_holds t counts fits (replicate state_length 0) z;
      table = read_table t counts fits (replicate state_length 0) z;
      levels = read_counts t counts fits (replicate state_length 0) z;
    }
