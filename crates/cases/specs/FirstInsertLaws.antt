-- The first insertion into a fresh elastic table, at every exponent and with all limits: in two slots it is placed and found (case I), in five
-- an identity whose first word is rejected is refused (case H). Assumes nothing.
use Rattle.std.specs.Prelude.{true, ◌≡◌, set, replicate, Ok, Err, Some}
use mathlib.Core.List.{List, [], ◌∷◌}
use Rattle.std.proofs.Math.Path.{refl}
use Rattle.std.proofs.Common.{sym, zero-add, length-set, pow_mono}
use Prim.Native.Nat.{ℕ, zero, suc, ◌-◌, ◌*◌, ◌/◌, ◌%◌, ◌^◌, ◌≤◌, ◌<◌, min}
use Rattle.std.proofs.Math.Nat.{div-lt_self}
use native.Mathlib.Omega.{arith}
use Rattle.std.proofs.Math.ListN.{get_or-replicate}
use Rattle.std.proofs.Math.Seq.{get_or-set_same}
use borrow.Author.Tests.{eq-eqb, lt-ltb, le-ltb, le-leb, lt-leb}
use Rattle.refusal.specs.declared.RangeRefusal.{RangeRefusal}
use Rattle.words.specs.Log.{ceil_log2, first_from}
use Rattle.geometry.specs.Config.{maximum}
use Rattle.geometry.specs.ConfigLaws.{config_pass}
use Rattle.geometry.specs.Elastic.{level_length, split, levels_of, lengths_of, plan_of, later_quotas, uncut_quotas, cut, quotas_of, total, batch_from, batch_of, is_plan_of}
use Rattle.probe.specs.Word.{elastic_key_of, word_of}
use Rattle.probe.specs.WordLaws.{word_below}
use Rattle.probe.specs.Range.{words_at, reduce_of, draw_of, keyed_draw_of}
use Rattle.elastic_probe.specs.Length.{length_in, bits_of}
use Rattle.elastic_probe.specs.Phi.{pairs, phi}
use Rattle.elastic.specs.declared.state.Limits.{Limits}
use Rattle.elastic_steps.specs.declared.answer.Case.TheVariants.{Batch0}
use Rattle.elastic_steps.specs.declared.answer.InsertRefusal.TheVariants as refusal
use Rattle.elastic.specs.State.{limits_fit, counts_within, counts_fit, state_fits, setting_gate, gate_of, fresh_of}
use Rattle.elastic.specs.StateLaws.{limits_facts}
use Rattle.elastic.specs.Reading.{read_slot, vacant, reading_of, holds_at, seek_from, seek_of, first_from as first_slot, first_of}
use Rattle.elastic_steps.specs.Insert.{choice, uniform_of, steps_of, choose_of, done, counted, insertion_of, place_by, insert_of}
use Rattle.elastic_query.specs.Query.{query_of}
use Rattle.elastic_query.specs.QueryLaws.{first_hit}

-- ---- a fresh table of n slots

module _ (n e seed : ℕ) (limits : Limits) (least : 2 ≤ n) (most : n ≤ 4294967296) (some : 0 < e) (fit : limits_fit e limits ≡ true) where
  room : 0 < maximum n e
  room = let l : 2 ^ 1 ≤ 2 ^ e = pow_mono some in let q : n / 2 ^ e < n = div-lt_self (omega arith) (omega arith) in omega arith

  -- it passes the tests 1 to 7, and so it does with other counts that fit
  gate_passes : (count : ℕ) (cs : List ℕ) (words flags : ℕ) → count ≤ n → words ≡ n → flags ≡ n → counts_fit (lengths_of n) count cs ≡ true
      → gate_of (record { n = n; e = e; seed = seed; limits = limits; plan = plan_of n e; count = count }) cs words flags ≡ Ok tt
  unfolding gate_of setting_gate state_fits is_plan_of lengths_of
  gate_passes count cs words flags h w f c =
      let not-zero : e ≡ 0 → ⊥ = λ z. omega arith in
      rw (w, f, config_pass n e (Ok tt) least not-zero most, fit, eq-eqb n n refl, le-leb count n h, eq-eqb (levels_of n) (levels_of n) refl, eq-eqb (maximum n e) (maximum n e) refl, c)

  -- its first batch is 0, where the quota of that batch is not 0
  first_batch : (first : ℕ) (quotas : List ℕ) → uncut_quotas e (lengths_of n) ≡ first ∷ quotas → 0 < first → batch_of n e 0 ≡ 0
  unfolding batch_of quotas_of cut batch_from
  first_batch first quotas q h = let r = room in rw (q, lt-ltb 0 (min first (maximum n e)) (omega arith))

-- ---- two slots

-- of two values no word is rejected
pub two_reading : (key words : ℕ) → 0 < words → (slot : ℕ) × (slot < 2) × (reading_of 2 key words 0 0 ≡ Ok (read_slot slot 1))
unfolding reading_of lengths_of split level_length ceil_log2 first_from total keyed_draw_of draw_of words_at reduce_of
two_reading key zero h = absurd (omega arith)
two_reading key (suc k) h = (
  word_of key key 0 * 2 / 2 ^ 64,
  omega (arith, word_below key key 0),
  rw (le-leb 0 (word_of key key 0 * 2 % 2 ^ 64) (omega arith), zero-add (word_of key key 0 * 2 / 2 ^ 64)),
)

first_position : phi 1 1 ≡ 13
unfolding phi pairs bits_of length_in
first_position = refl

-- two words, or two flags, of a fresh table
abbrev zeros : List ℕ
zeros = replicate 2 0

module _ (e seed : ℕ) (limits : Limits) (some : 0 < e) (fit : limits_fit e limits ≡ true) (id slot : ℕ) (below : slot < 2)
    (reads : reading_of 2 (elastic_key_of seed id) limits.range_word_cap 0 0 ≡ Ok (read_slot slot 1)) where
  two_gate : gate_of (fresh_of 2 e seed limits) (replicate 32 0) 2 2 ≡ Ok tt
  unfolding counts_fit counts_within lengths_of split level_length ceil_log2 first_from total
  two_gate = gate_passes 2 e seed limits (omega arith) (omega arith) some fit 0 (replicate 32 0) 2 2 (omega arith) refl refl refl

  two_batch : batch_of 2 e 0 ≡ 0
  unfolding lengths_of split level_length ceil_log2 first_from uncut_quotas later_quotas
  two_batch = first_batch 2 e seed limits (omega arith) (omega arith) some fit 2 [] refl (omega arith)

  two_sought : seek_of 2 (elastic_key_of seed id) limits.range_word_cap zeros 0 limits.uniform_search_probe_cap ≡ Ok (Some (vacant slot (record { 0 = 0 })))
  unfolding seek_from
  two_sought =
      let f = limits_facts e limits fit in
      let t : limits.uniform_search_probe_cap ≡ suc (limits.uniform_search_probe_cap - 1) = omega (arith, f.search_some) in
      rw (t, reads, get_or-replicate {A = ℕ} 2 slot 0 0 below)

  two_chosen : choose_of (fresh_of 2 e seed limits) (replicate 32 0) zeros zeros id ≡ Ok (choice (Batch0 0) 0 slot (record { 0 = 0 }))
  unfolding choose_of first_of first_slot holds_at steps_of uniform_of
  two_chosen = rw (lt-leb (maximum 2 e) 0 (room 2 e seed limits (omega arith) (omega arith) some fit), two_batch, two_sought)

  -- "Elastic first insert in n=2, position cap at least 13: phi 13"
  pub first_insert : 13 ≤ limits.hit_query_position_cap → insert_of (fresh_of 2 e seed limits) (replicate 32 0) zeros zeros id
      ≡ done (Ok (insertion_of 2 (Batch0 0) 0 slot (record { 0 = 0 }))) (counted (fresh_of 2 e seed limits)) (set (replicate 32 0) 0 1) (set zeros slot id) (set zeros slot 1)
  unfolding insert_of place_by
  first_insert far = rw (two_gate, two_chosen, first_position, le-ltb limits.hit_query_position_cap 13 far)

  -- the state that it leaves passes the gate, and holds the identity
  next_gate : (words flags : ℕ) → words ≡ 2 → flags ≡ 2 → gate_of (counted (fresh_of 2 e seed limits)) (set (replicate 32 0) 0 1) words flags ≡ Ok tt
  unfolding counts_fit counts_within lengths_of split level_length ceil_log2 first_from total
  next_gate words flags w f = gate_passes 2 e seed limits (omega arith) (omega arith) some fit 1 (set (replicate 32 0) 0 1) words flags (omega arith) w f refl

  next_holds : holds_at (set zeros slot id) (set zeros slot 1) id slot ≡ true
  unfolding holds_at
  next_holds = rw (get_or-set_same zeros slot 1 0 below, get_or-set_same zeros slot id 0 below, eq-eqb id id refl)

  -- "its query answers position 1, mapped 0, gap 1, 1 word"
  pub first_query : query_of (counted (fresh_of 2 e seed limits)) (set (replicate 32 0) 0 1) (set zeros slot id) (set zeros slot 1) id
      ≡ Ok (record { position = 1; global_slot = record { 0 = slot }; mapped = 0; gap = 1; words = 1 })
  unfolding query_of
  first_query =
      rw (next_gate _ _ (length-set zeros slot id) (length-set zeros slot 1))
      (sym (first_hit _ _ _ _ (limits_facts e limits fit).position_some slot 1 reads next_holds))

-- ---- five slots

module _ (e seed : ℕ) (limits : Limits) (some : 0 < e) (fit : limits_fit e limits ≡ true) (id : ℕ) (range : RangeRefusal)
    (rejected : reading_of 5 (elastic_key_of seed id) limits.range_word_cap 0 0 ≡ Err range) where
  five_gate : gate_of (fresh_of 5 e seed limits) (replicate 32 0) 5 5 ≡ Ok tt
  unfolding counts_fit counts_within lengths_of split level_length ceil_log2 first_from total
  five_gate = gate_passes 5 e seed limits (omega arith) (omega arith) some fit 0 (replicate 32 0) 5 5 (omega arith) refl refl refl

  five_batch : batch_of 5 e 0 ≡ 0
  unfolding lengths_of split level_length ceil_log2 first_from uncut_quotas later_quotas
  five_batch = first_batch 5 e seed limits (omega arith) (omega arith) some fit 3 _ refl (omega arith)

  five_sought : seek_of 5 (elastic_key_of seed id) limits.range_word_cap (replicate 5 0) 0 limits.uniform_search_probe_cap ≡ Err range
  unfolding seek_from
  five_sought =
      let f = limits_facts e limits fit in
      let t : limits.uniform_search_probe_cap ≡ suc (limits.uniform_search_probe_cap - 1) = omega (arith, f.search_some) in
      rw (t, rejected)

  pub first_refused : insert_of (fresh_of 5 e seed limits) (replicate 32 0) (replicate 5 0) (replicate 5 0) id
      ≡ done (Err (refusal.Range range)) (fresh_of 5 e seed limits) (replicate 32 0) (replicate 5 0) (replicate 5 0)
  unfolding insert_of choose_of first_of first_slot holds_at steps_of uniform_of place_by
  first_refused = rw (five_gate, lt-leb (maximum 5 e) 0 (room 5 e seed limits (omega arith) (omega arith) some fit), five_batch, five_sought)
