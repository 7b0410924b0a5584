-- The placement of many identities as a loop makes it: what is left gives what the whole gives. Assumes nothing.
use Rattle.std.specs.Prelude.{List, ◌≡◌, refl, ℕ, ◌+◌, ◌≤◌, ◌<◌, drop, get_or, set, Ok, Err}
use Rattle.std.proofs.Common.{⊎_elim, ap, ◌∙◌, length-set, drop-cons}
use Rattle.std.proofs.Math.Path.{sym}
use Rattle.std.proofs.Math.Numerals.{add-one}
use native.Mathlib.Omega.{arith}
use Rattle.std.proofs.Math.ListN.{length}
use Rattle.std.proofs.Math.Seq.{drop-length}
use Rattle.geometry.specs.FunnelLaws.{plan_facts}
use Rattle.funnel.specs.declared.table.FunnelTable.{FunnelTable}
use Rattle.funnel.specs.declared.table.PlaceRefusal.{PlaceRefusal}
use Rattle.funnel.specs.declared.table.Settled.TheVariants as settled
use Rattle.funnel.specs.Insert.{Insertion, Placement, Settling, Done, done, with_count, insert_of, Settles, Placed, placed, place_on, place_from, place_all_of}
use Rattle.funnel.proofs.InsertLaws.{inserted_facts, insert_changes}
use Rattle.funnel.proofs.SettleLaws.{put_inserted, put_on, there_on, refused_on, there_table, refused_table}
use Rattle.funnel.specs.Valid.{Valid}

-- the buffers keep their lengths
pub insert_lengths : (table : FunnelTable) (counts words flags : List ℕ) (identity : ℕ)
    → (length (insert_of table counts words flags identity).words ≡ length words) × (length (insert_of table counts words flags identity).flags ≡ length flags)
insert_lengths table counts words flags identity =
    ⊎_elim (λ s. rw s.2.result (length-set words _ identity, length-set flags _ 1)) (λ s. rw s (refl, refl)) (insert_changes table counts words flags identity)

-- after an insertion the table is valid still
pub valid_after : {table : FunnelTable} {counts words flags : List ℕ} → Valid table counts words flags → (count identity : ℕ) (r : Insertion) (t : FunnelTable) (w f : List ℕ)
    → done r t w f ≡ insert_of (with_count table count) counts words flags identity → Valid table counts w f
valid_after {table} {counts} {words} {flags} v count identity r t w f e =
    let l = insert_lengths (with_count table count) counts words flags identity in
    let a : w ≡ (insert_of (with_count table count) counts words flags identity).words = ap (λ (d : Done). d.words) e in
    let b : f ≡ (insert_of (with_count table count) counts words flags identity).flags = ap (λ (d : Done). d.flags) e in
    record {
      planned = v.planned;
      cap_least = v.cap_least;
      cap_most = v.cap_most;
      words_length = ap length a ∙ l.0 ∙ v.words_length;
      flags_length = ap length b ∙ l.1 ∙ v.flags_length;
      counted = v.counted;
    }

module _ (table : FunnelTable) (counts words₀ flags₀ identities slots₀ : List ℕ) where
  pub record Placing (words flags slots : List ℕ) (count i : ℕ) : Type 0 where
    pub left : place_all_of table counts words₀ flags₀ identities slots₀ ≡ place_from (with_count table count) counts words flags (drop i identities) slots i
    pub valid : Valid table counts words flags
    pub most : count ≤ table.n
    pub within : i ≤ length identities
    pub room : length identities ≤ length slots
    pub same_words : length words ≡ length words₀
    pub same_flags : length flags ≡ length flags₀
    pub same_slots : length slots ≡ length slots₀

  pub placing_none : Valid table counts words₀ flags₀ → length identities ≤ length slots₀ → Placing words₀ flags₀ slots₀ table.count 0
  placing_none v l =
      record {
        left = refl;
        valid = v;
        most = v.counted;
        within = omega arith;
        room = l;
        same_words = refl;
        same_flags = refl;
        same_slots = refl;
      }

  module _ {words flags slots : List ℕ} {count i : ℕ} (p : Placing words flags slots count i) where
    module _ (h : i < length identities) (s : Settling) (w f : List ℕ) (e : Settles (with_count table count) counts words flags (get_or identities i 0) i s w f) where
      -- what the insertion leaves
      abbrev left_by : Done
      left_by = insert_of (with_count table count) counts words flags (get_or identities i 0)

      place_step : place_all_of table counts words₀ flags₀ identities slots₀
          ≡ place_on left_by.answer left_by slots i (λ s. place_from left_by.table counts left_by.words left_by.flags (drop (i + 1) identities) s (i + 1))
      unfolding place_from
      place_step = p.left ∙ rw (drop-cons identities i 0 h, add-one i)

      still : Valid table counts w f
      still = valid_after p.valid count (get_or identities i 0) left_by.answer left_by.table w f (rw (e.words_are_lem, e.flags_are_lem))

      pub placing_lengths : (length w ≡ length words₀) × (length f ≡ length flags₀)
      placing_lengths =
          (still.words_length ∙ sym p.valid.words_length ∙ p.same_words, still.flags_length ∙ sym p.valid.flags_length ∙ p.same_flags)

      placing_next : (slot more : ℕ) → more ≤ table.n
          → place_all_of table counts words₀ flags₀ identities slots₀ ≡ place_from (with_count table more) counts w f (drop (i + 1) identities) (set slots i slot) (i + 1)
          → Placing w f (set slots i slot) more (i + 1)
      placing_next slot more m q =
          record {
            left = q;
            valid = still;
            most = m;
            within = omega arith;
            room = simp length-set p.room;
            same_words = placing_lengths.0;
            same_flags = placing_lengths.1;
            same_slots = length-set slots i slot ∙ p.same_slots;
          }

      pub placing_put : (slot : ℕ) → s ≡ Ok (settled.Put slot) → (count < table.n) × Placing w f (set slots i slot) (count + 1) (i + 1)
      placing_put slot g =
          let a = put_inserted left_by.answer i slot (sym g ∙ e.told) in
          let t = inserted_facts (with_count table count) counts words flags (get_or identities i 0) a.0 a.1 a.2 in
          let l = t.left in
          let m = plan_facts p.valid.planned in
          let b : count < table.n = omega arith in
          let c : left_by.table ≡ with_count table (count + 1) = ap (λ (d : Done). d.table) t.result in
          (b, placing_next slot (count + 1) (omega arith) (place_step ∙ put_on left_by slots i _ left_by.answer slot (sym g ∙ e.told) ∙ rw (c, e.words_are_lem, e.flags_are_lem)))

      pub placing_there : (slot : ℕ) → s ≡ Ok (settled.There slot) → Placing w f (set slots i slot) count (i + 1)
      placing_there slot g =
          let c = there_table (with_count table count) counts words flags (get_or identities i 0) i slot (sym g ∙ e.told) in
          placing_next slot count p.most (place_step ∙ there_on left_by slots i _ left_by.answer slot (sym g ∙ e.told) ∙ rw (c, e.words_are_lem, e.flags_are_lem))

      pub placing_refused : (q : PlaceRefusal) → s ≡ Err q → placed (Err q) (with_count table count) w f slots ≡ place_all_of table counts words₀ flags₀ identities slots₀
      placing_refused q g =
          let c = refused_table (with_count table count) counts words flags (get_or identities i 0) i q (sym g ∙ e.told) in
          sym (place_step ∙ refused_on left_by slots i _ left_by.answer q (sym g ∙ e.told) ∙ rw (c, e.words_are_lem, e.flags_are_lem))

    pub placing_all : length identities ≤ i → placed (Ok tt) (with_count table count) words flags slots ≡ place_all_of table counts words₀ flags₀ identities slots₀
    unfolding place_from
    placing_all h =
        let a = p.within in
        let z : i ≡ length identities = omega arith in
        sym (p.left ∙ rw (z, drop-length identities))

-- what a placement leaves, with the table after it known
pub placed_table : (a : Placement) (t u : FunnelTable) (words flags slots : List ℕ) (x : Placed) → u ≡ t → placed a t words flags slots ≡ x → placed a u words flags slots ≡ x
placed_table a t u words flags slots x e h = rw e h
