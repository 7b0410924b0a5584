-- What holds of a table over time: every state reached from a fresh one is sound, and what was inserted is found ever after.
-- Assumes nothing.
use Rattle.std.specs.Prelude.{Bool, true, false, List, [], ◌∷◌, ◌≡◌, refl, ℕ, zero, suc, ◌+◌, ◌≤◌, ◌<◌, eqb, length, set, replicate, Ok, Err}
use Rattle.std.proofs.Common.{⊎_elim, ap, sym, ◌∙◌, arith, length-set, get_or-set_other, eq-eqb, eqb-true}
use Rattle.std.proofs.Math.ListN.{get_or}
use Rattle.std.proofs.lemmas.List.{length-replicate}
use Rattle.std.proofs.Math.Seq.{get_or-set_same}
use Rattle.std.proofs.lemmas.Bool.{lt-leb, eqb-false}
use Rattle.words.specs.BytesLaws.{get_d_zeros}
use Rattle.words.specs.declared.place.Place.{Place}
use Rattle.geometry.specs.Funnel.{IsPlan}
use Rattle.geometry.specs.FunnelLaws.{plan_facts}
use Rattle.geometry.specs.declared.funnel.FunnelPlan.{FunnelPlan}
use Rattle.funnel.specs.declared.table.FunnelTable.{FunnelTable}
use Rattle.funnel.specs.declared.table.Search.{Search}
use Rattle.funnel.specs.declared.table.Search.TheVariants as search
use Rattle.funnel.specs.declared.table.InsertRefusal.TheVariants as insertion
use Rattle.funnel.specs.Path.{Path, slot_of}
use Rattle.funnel.specs.EveryLaws.{every_map}
use Rattle.funnel.specs.Search.{search_of, table_path, find_of}
use Rattle.funnel.specs.SearchLaws.{Passes, Reached, walk_vacant, walk_hit, reached_hit}
use Rattle.funnel.specs.Insert.{Insertion, reached, Done, done, with_count, insert_by, insert_of}
use Rattle.funnel.proofs.InsertLaws.{find_count, vacant_within, Inserts, inserted_facts, unchanged, insert_changes, insert_duplicate}
use Rattle.funnel.specs.Valid.{Valid}
use Rattle.funnel.specs.Fresh.{State, fresh, answer_of, next, after, counted, inserted_of, occupied, Sound}

-- ---- a store at a vacant slot leaves what is occupied as it is

module _ (words flags : List ℕ) (s v : ℕ) (vacant : get_or flags s 0 ≡ 0) where
  pub kept : (q : Place) → (get_or flags (slot_of q) 0 ≡ 0 → ⊥)
      → (get_or (set words s v) (slot_of q) 0 ≡ get_or words (slot_of q) 0) × (get_or (set flags s 1) (slot_of q) 0 ≡ get_or flags (slot_of q) 0)
  kept q n =
      let d : slot_of q ≡ s → ⊥ = λ e. n (rw e vacant) in
      (get_or-set_other words s (slot_of q) v 0 d, get_or-set_other flags s (slot_of q) 1 0 d)

  pub passes_kept : (identity : ℕ) (q : Place) → Passes words flags identity q → Passes (set words s v) (set flags s 1) identity q
  passes_kept identity q p =
      let k = kept q p.occupied in
      record { occupied = λ e. p.occupied (sym k.1 ∙ e); other = λ e. p.other (sym k.0 ∙ e) }

  pub reached_kept : {identity k j : ℕ} {places : List Place} {p : Place} → Reached words flags identity places k j p → Reached (set words s v) (set flags s 1) identity places k j p
  reached_kept {identity} r =
      record {
        passed = r.passed;
        rest = r.rest;
        whole = r.whole;
        others = every_map (Passes words flags identity) (Passes (set words s v) (set flags s 1) identity) (passes_kept identity) r.passed r.others;
        probes = r.probes;
      }

  -- so what is found stays found, at the same place after as many probes
  pub hit_kept : (table : FunnelTable) (counts : List ℕ) (identity k : ℕ) (p : Place) → find_of table counts words flags identity ≡ search.Hit k p
      → find_of table counts (set words s v) (set flags s 1) identity ≡ search.Hit k p
  unfolding find_of search_of
  hit_kept table counts identity k p h =
      let path : Path = table_path table counts identity in
      let w = walk_hit words flags identity path.places path.ending 0 k p h in
      let q = kept p w.1 in
      reached_hit (set words s v) (set flags s 1) identity path.places path.ending 0 k p (reached_kept w.0) (λ e. w.1 (sym q.1 ∙ e)) (q.0 ∙ w.2)

-- the slot of a vacancy that a search found has flag 0
pub vacant_flag : (table : FunnelTable) (counts words flags : List ℕ) (identity k : ℕ) (p : Place) → find_of table counts words flags identity ≡ search.Vacant k p
    → get_or flags (slot_of p) 0 ≡ 0
unfolding find_of search_of
vacant_flag table counts words flags identity k p h =
    (walk_vacant words flags identity (table_path table counts identity).places (table_path table counts identity).ending 0 k p h).1

-- ---- found ever after

module _ (counts : List ℕ) (state : State) where
  -- any insertion leaves what is found where it is
  pub found_next : (identity k : ℕ) (p : Place) (other : ℕ) → find_of state.table counts state.words state.flags identity ≡ search.Hit k p
      → find_of (next counts state other).table counts (next counts state other).words (next counts state other).flags identity ≡ search.Hit k p
  found_next identity k p other h =
      ⊎_elim
      (λ i.
      let v = vacant_flag state.table counts state.words state.flags other i.0 i.1 i.2.found in
      rw i.2.result
      (find_count state.table (state.table.count + 1) counts _ _ identity ∙ hit_kept state.words state.flags (slot_of i.1) other v state.table counts identity k p h))
      (λ s. rw s h)
      (insert_changes state.table counts state.words state.flags other)

  -- what was answered as inserted is found, at that place after as many probes
  pub found_inserted : Valid state.table counts state.words state.flags → (identity k : ℕ) (p : Place) → answer_of counts state identity ≡ Ok (reached k p)
      → find_of (next counts state identity).table counts (next counts state identity).words (next counts state identity).flags identity ≡ search.Hit k p
  unfolding find_of search_of
  found_inserted valid identity k p h =
      let i = inserted_facts state.table counts state.words state.flags identity k p h in
      let path : Path = table_path state.table counts identity in
      let w = walk_vacant state.words state.flags identity path.places path.ending 0 k p i.found in
      let l = vacant_within valid identity k p i.found in
      let f : get_or (set state.flags (slot_of p) 1) (slot_of p) 0 ≡ 1 = get_or-set_same state.flags (slot_of p) 1 0 l.1 in
      let g : get_or (set state.words (slot_of p) identity) (slot_of p) 0 ≡ identity = get_or-set_same state.words (slot_of p) identity 0 l.0 in
      rw i.result
      (reached_hit (set state.words (slot_of p) identity) (set state.flags (slot_of p) 1) identity path.places path.ending 0 k p
      (reached_kept state.words state.flags (slot_of p) identity w.1 w.0) (λ e. omega (arith, f, e)) g)

-- and so after any later insertions
pub found_after : (counts : List ℕ) (state : State) (identities : List ℕ) (identity k : ℕ) (p : Place)
    → find_of state.table counts state.words state.flags identity ≡ search.Hit k p
    → find_of (after counts state identities).table counts (after counts state identities).words (after counts state identities).flags identity ≡ search.Hit k p
unfolding after
found_after counts state [] identity k p h = h
found_after counts state (other ∷ identities) identity k p h = found_after counts (next counts state other) identities identity k p (found_next counts state identity k p other h)

-- a second insertion of what is found is DUPLICATE at that place, and leaves all as it was
pub found_duplicate : (counts : List ℕ) (state : State) (identity k : ℕ) (p : Place) → find_of state.table counts state.words state.flags identity ≡ search.Hit k p
    → insert_of state.table counts state.words state.flags identity ≡ done (Err (insertion.Duplicate k p)) state.table state.words state.flags
found_duplicate counts state identity k p h = sym (insert_duplicate state.table state.table.count counts state.words state.flags identity k p h)

-- with fewer than the maximum inserted, EXHAUSTED is not answered
pub not_exhausted : (counts : List ℕ) (state : State) (identity k : ℕ) → state.table.count < state.table.plan.maximum → answer_of counts state identity ≡ Err (insertion.Exhausted k) → ⊥
unfolding insert_of insert_by
not_exhausted counts state identity k l h = go (find_of state.table counts state.words state.flags identity) h
  where
    go : (x : Search) → (insert_by state.table state.words state.flags identity x).answer ≡ Err (insertion.Exhausted k) → ⊥
    go (search.Range refusal) h = let z : ◌≡◌ {A = ℕ} 0 1 = cc in omega arith
    go (search.Hit j q) h = let z : ◌≡◌ {A = ℕ} 0 1 = cc in omega arith
    go (search.Full j) h = let m = rw (lt-leb _ _ l) at h in let z : ◌≡◌ {A = ℕ} 0 1 = cc in omega arith
    go (search.Vacant j q) h = let m = rw (lt-leb _ _ l) at h in let z : ◌≡◌ {A = ℕ} 0 1 = cc in omega arith

-- ---- sound states

pub occupied_none : (n : ℕ) → occupied (replicate n 0) ≡ 0
unfolding occupied
occupied_none zero = refl
occupied_none (suc n) = let h = occupied_none n in omega arith

pub occupied_set : (flags : List ℕ) (s : ℕ) → s < length flags → get_or flags s 0 ≡ 0 → occupied (set flags s 1) ≡ occupied flags + 1
unfolding occupied
occupied_set [] s l v = absurd (omega arith)
occupied_set (flag ∷ flags) zero l v = let e : eqb flag 0 ≡ true = eq-eqb flag 0 v in rw e (omega arith)
occupied_set (flag ∷ flags) (suc s) l v = let h = occupied_set flags s (omega arith) v in omega arith

-- a fresh table is sound
pub fresh_sound : {n e : ℕ} {plan : FunnelPlan} {counts : List ℕ} → IsPlan n e plan counts → (seed cap : ℕ) → 1 ≤ cap → cap ≤ 256 → Sound counts (fresh n e seed cap plan)
fresh_sound {n} {e} {plan} {counts} is seed cap a b =
    record {
      valid = record {
        planned = is;
        cap_least = a;
        cap_most = b;
        words_length = length-replicate {A = ℕ} n 0;
        flags_length = length-replicate {A = ℕ} n 0;
        counted = omega arith;
      };
      counts_occupied = sym (occupied_none n);
      flags_small = λ i. omega (arith, get_d_zeros n i);
      vacant_zero = λ i h. get_d_zeros n i;
    }

-- an insertion keeps a table sound
pub next_sound : (counts : List ℕ) (state : State) → Sound counts state → (identity : ℕ) → Sound counts (next counts state identity)
next_sound counts state sound identity =
    ⊎_elim (λ i. rw i.2.result (inserted i.0 i.1 i.2)) (λ s. rw s sound) (insert_changes state.table counts state.words state.flags identity)
  where
    table : FunnelTable
    table = state.table

    inserted : (k : ℕ) (p : Place) → Inserts table counts state.words state.flags identity k p
        → Sound counts (record { table = with_count table (table.count + 1); words = set state.words (slot_of p) identity; flags = set state.flags (slot_of p) 1 })
    inserted k p i =
        let v = sound.valid in
        let l = vacant_within v identity k p i.found in
        let z = vacant_flag table counts state.words state.flags identity k p i.found in
        let f = plan_facts v.planned in
        let m = i.left in
        record {
          valid = record {
            planned = v.planned;
            cap_least = v.cap_least;
            cap_most = v.cap_most;
            words_length = length-set state.words (slot_of p) identity ∙ v.words_length;
            flags_length = length-set state.flags (slot_of p) 1 ∙ v.flags_length;
            counted = omega arith;
          };
          counts_occupied = ap (λ (x : ℕ). x + 1) sound.counts_occupied ∙ sym (occupied_set state.flags (slot_of p) l.1 z);
          flags_small = λ j. small j (eqb j (slot_of p)) refl l.1;
          vacant_zero = λ j h. zero_word j (eqb j (slot_of p)) refl l.1 h;
        }
      where
        small : (j : ℕ) (b : Bool) → eqb j (slot_of p) ≡ b → slot_of p < length state.flags → get_or (set state.flags (slot_of p) 1) j 0 ≤ 1
        small j true t l = let g = get_or-set_same state.flags (slot_of p) 1 0 l in let e : j ≡ slot_of p = eqb-true _ _ t in rw e (omega arith)
        small j false t l = let g = get_or-set_other state.flags (slot_of p) j 1 0 (eqb-false _ _ t) in omega (arith, sound.flags_small j)

        zero_word : (j : ℕ) (b : Bool) → eqb j (slot_of p) ≡ b → slot_of p < length state.flags → get_or (set state.flags (slot_of p) 1) j 0 ≡ 0 → get_or (set state.words (slot_of p) identity) j 0 ≡ 0
        zero_word j true t l h =
            let e : j ≡ slot_of p = eqb-true _ _ t in
            let g : get_or (set state.flags (slot_of p) 1) (slot_of p) 0 ≡ 1 = get_or-set_same state.flags (slot_of p) 1 0 l in
            let i : get_or (set state.flags (slot_of p) 1) (slot_of p) 0 ≡ 0 = ap (λ (x : ℕ). get_or (set state.flags (slot_of p) 1) x 0) (sym e) ∙ h in
            absurd (omega arith)
        zero_word j false t l h =
            let n : j ≡ slot_of p → ⊥ = eqb-false _ _ t in
            get_or-set_other state.words (slot_of p) j identity 0 n ∙ sound.vacant_zero j (sym (get_or-set_other state.flags (slot_of p) j 1 0 n) ∙ h)

-- so every state that insertions reach from a sound one is sound, a fresh one among them
pub after_sound : (counts : List ℕ) (state : State) (identities : List ℕ) → Sound counts state → Sound counts (after counts state identities)
unfolding after
after_sound counts state [] h = h
after_sound counts state (identity ∷ identities) h = after_sound counts (next counts state identity) identities (next_sound counts state h identity)

-- ---- the theorems, from a fresh table on

-- after any insertions into a fresh table: the count is the number of occupied flags, all flags are 0 or 1, and vacant words are 0
pub fresh_after : {n e : ℕ} {plan : FunnelPlan} {counts : List ℕ} → IsPlan n e plan counts → (seed cap : ℕ) → 1 ≤ cap → cap ≤ 256 → (identities : List ℕ)
    → Sound counts (after counts (fresh n e seed cap plan) identities)
fresh_after {n} {e} {plan} {counts} is seed cap a b identities = after_sound counts (fresh n e seed cap plan) identities (fresh_sound is seed cap a b)

-- the count grows by those that are answered as inserted
pub count_after : (counts : List ℕ) (state : State) (identities : List ℕ) → (after counts state identities).table.count ≡ state.table.count + inserted_of counts state identities
unfolding after inserted_of
count_after counts state [] = omega arith
count_after counts state (identity ∷ identities) = go (answer_of counts state identity) refl (count_after counts (next counts state identity) identities)
  where
    later : ℕ
    later = inserted_of counts (next counts state identity) identities

    same : ((k : ℕ) (p : Place) → answer_of counts state identity ≡ Ok (reached k p) → ⊥) → (next counts state identity).table.count ≡ state.table.count
    same n = ap (λ (d : Done). d.table.count) (unchanged state.table counts state.words state.flags identity n)

    go : (x : Insertion) → answer_of counts state identity ≡ x
        → (after counts (next counts state identity) identities).table.count ≡ (next counts state identity).table.count + later
        → (after counts (next counts state identity) identities).table.count ≡ state.table.count + counted x later
    go (Ok put) h ih =
        let r = (inserted_facts state.table counts state.words state.flags identity put.probes put.place h).result in
        let c : (next counts state identity).table.count ≡ state.table.count + 1 = ap (λ (d : Done). d.table.count) r in
        omega arith
    go (Err refusal) h ih = let c = same (λ k p i. let z : ◌≡◌ {A = ℕ} 0 1 = cc in omega arith) in omega arith

-- an identity is a member: it is found, and a second insertion is DUPLICATE at that place and changes nothing
pub record Member (counts : List ℕ) (state : State) (identity k : ℕ) (p : Place) : Type 0 where
  pub found : find_of state.table counts state.words state.flags identity ≡ search.Hit k p
  pub duplicate : insert_of state.table counts state.words state.flags identity ≡ done (Err (insertion.Duplicate k p)) state.table state.words state.flags

-- what was answered as inserted is a member ever after, at the same place with the same probe count
pub member_after : (counts : List ℕ) (state : State) → Sound counts state → (identity k : ℕ) (p : Place) → answer_of counts state identity ≡ Ok (reached k p)
    → (later : List ℕ) → Member counts (after counts (next counts state identity) later) identity k p
member_after counts state sound identity k p h later =
    let f = found_after counts (next counts state identity) later identity k p (found_inserted counts state sound.valid identity k p h) in
    record { found = f; duplicate = found_duplicate counts (after counts (next counts state identity) later) identity k p f }
