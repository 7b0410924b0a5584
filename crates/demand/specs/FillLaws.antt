-- Laws of insertions one after the other: what they keep, and the main lemma of demand 3. They use of a path only that its slots are
-- below n and that it does not change. Assumes nothing.
use Rattle.std.specs.Prelude.{false, List, ◌≡◌, refl, ℕ, ◌+◌, ◌≤◌, ◌<◌, length, get_or, set, eqb}
use Rattle.std.proofs.Common.{ap, sym, ◌∙◌, arith, length-set, get_or-set_same, get_or-set_other}
use Rattle.std.proofs.Math.Decide.{ℕ_discrete}
use Rattle.std.proofs.lemmas.Bool.{eqb-false}
use Rattle.words.specs.declared.place.Place.{Place}
use Rattle.funnel.specs.declared.table.FunnelTable.{FunnelTable}
use Rattle.funnel.specs.declared.table.Search.TheVariants.{Vacant}
use Rattle.funnel.specs.Path.{slot_of}
use Rattle.funnel.specs.Search.{table_path, find_of}
use Rattle.funnel.specs.Insert.{Done, with_count}
use Rattle.funnel.proofs.InsertLaws.{find_count, inserted_facts}
use Rattle.audit.specs.Greedy.{ready}
use Rattle.audit.specs.ReadyLaws.{ready_by}
use Rattle.funnel.proofs.FreshLaws.{occupied_set}
use Rattle.demand.specs.Made.{Occupied, Clean, members, Inserts, none, one, PartOf}
use Rattle.demand.specs.MadeLaws.{get_d_set_cases}
use Rattle.demand.specs.WalkLaws.{Inside, find_over, find_vacancy, Below, find_below}

-- insertions as searches and stores: the table stays but for its count
pub data Fills (table : FunnelTable) (counts : List ℕ) : ℕ → (words flags : List ℕ) → ℕ → (words' flags' : List ℕ) → Type 0 where
  still : {k : ℕ} {words flags : List ℕ} → Fills table counts k words flags k words flags
  store : {k k' : ℕ} {words flags words' flags' : List ℕ} (identity s probes : ℕ) (place : Place) → slot_of place ≡ s
      → find_of table counts words flags identity ≡ Vacant probes place → k < table.plan.maximum
      → Fills table counts (k + 1) (set words s identity) (set flags s 1) k' words' flags' → Fills table counts k words flags k' words' flags'

pub record Filled (table : FunnelTable) (counts : List ℕ) (k : ℕ) (words flags words' flags' : List ℕ) : Type 0 where
  pub k' : ℕ
  pub fills : Fills table counts k words flags k' words' flags'

pub fills_of : {table : FunnelTable} {counts : List ℕ} {t t' : FunnelTable} {words flags identities slots words' flags' : List ℕ} (k : ℕ) → t ≡ with_count table k
    → Inserts counts t words flags identities slots t' words' flags' → Filled table counts k words flags words' flags'
fills_of k e none = record { k' = k; fills = still }
fills_of {table} {counts} {t} {t'} {words} {flags} k e (one {table' = u} {words' = v} {flags' = g} {identity = identity} {slot = slot} probes place h at r) =
    let w = inserted_facts t counts words flags identity probes place (ap (λ (d : Done). d.answer) h) in
    let d = sym h ∙ w.result in
    let c : t.count ≡ k = ap (λ (x : FunnelTable). x.count) e in
    let m : t.plan.maximum ≡ table.plan.maximum = ap (λ (x : FunnelTable). x.plan.maximum) e in
    let s : u ≡ with_count table (k + 1) = ap (λ (x : Done). x.table) d ∙ rw e in
    let f : find_of table counts words flags identity ≡ Vacant probes place = sym (find_count table k counts words flags identity) ∙ ap (λ (x : FunnelTable). find_of x counts words flags identity) (sym e) ∙ w.found in
    let n = fills_of {table = table} {counts = counts} (k + 1) s r in
    let room : k < table.plan.maximum = omega (arith, w.left) in
    record { k' = n.k'; fills = store identity slot probes place at f room (go v g slot identity (ap (λ (x : Done). x.words) d ∙ rw at) (ap (λ (x : Done). x.flags) d ∙ rw at) n.fills) }
  where
    go : {k' : ℕ} {words' flags' : List ℕ} (v g : List ℕ) (s identity : ℕ) → v ≡ set words s identity → g ≡ set flags s 1 → Fills table counts (k + 1) v g k' words' flags'
        → Fills table counts (k + 1) (set words s identity) (set flags s 1) k' words' flags'
    go v g s identity p q r = rw (← p, ← q) r

-- what is occupied stays so, with its word
pub record Kept (words flags words' flags' : List ℕ) (t : ℕ) : Type 0 where
  pub stays : Occupied flags' t
  pub word : get_or words' t 0 ≡ get_or words t 0

-- two buffers of n
pub record Sized (n : ℕ) (words flags : List ℕ) : Type 0 where
  pub words_n : length words ≡ n
  pub flags_n : length flags ≡ n

sized_set : {n : ℕ} {words flags : List ℕ} (s v : ℕ) → Sized n words flags → Sized n (set words s v) (set flags s 1)
sized_set s v z = record { words_n = simp length-set z.words_n; flags_n = simp length-set z.flags_n }

module _ (table : FunnelTable) (counts : List ℕ) (below : (identity : ℕ) → Below table.n (table_path table counts identity).places) where
  -- the slot of a store is in both buffers, and vacant
  record Slot (words flags : List ℕ) (s : ℕ) : Type 0 where
    in_words : s < length words
    in_flags_lem : s < length flags
    vacant : get_or flags s 0 ≡ 0

  slot_of_lem : {words flags : List ℕ} (identity s probes : ℕ) (place : Place) → Sized table.n words flags → slot_of place ≡ s → find_of table counts words flags identity ≡ Vacant probes place → Slot words flags s
  slot_of_lem {words} {flags} identity s probes place z at f =
      let b = find_below table counts words flags identity probes place f table.n (below identity) in
      let v = find_vacancy table counts words flags identity probes place f in
      record { in_words = omega (arith, z.words_n); in_flags_lem = omega (arith, z.flags_n); vacant = rw at at v }

  kept : {k k' : ℕ} {words flags words' flags' : List ℕ} → Fills table counts k words flags k' words' flags' → Sized table.n words flags → (t : ℕ) → Occupied flags t → Kept words flags words' flags' t
  kept still z t o = record { stays = o; word = refl }
  kept {words = words} {flags = flags} (store identity s probes place at f room r) z t o =
      let l = slot_of_lem identity s probes place z at f in
      let d : t ≡ s → ⊥ = λ e. o (rw e l.vacant) in
      let n = kept r (sized_set s identity z) t (rw (get_or-set_other flags s t 1 0 d) o) in
      record { stays = n.stays; word = n.word ∙ get_or-set_other words s t identity 0 d }

  -- the count is the number of members, and never above the maximum
  pub fills_members : {k k' : ℕ} {words flags words' flags' : List ℕ} → Fills table counts k words flags k' words' flags' → Sized table.n words flags → members flags ≡ k → k ≤ table.plan.maximum
      → members flags' ≤ table.plan.maximum
  fills_members still z m h = omega arith
  fills_members {k} {flags = flags} (store identity s probes place at f room r) z m h =
      let l = slot_of_lem identity s probes place z at f in
      fills_members r (sized_set s identity z) (occupied_set flags s l.in_flags_lem l.vacant ∙ ap (λ (x : ℕ). x + 1) m) (omega arith)

  pub fills_clean : {k k' : ℕ} {words flags words' flags' : List ℕ} → Fills table counts k words flags k' words' flags' → Sized table.n words flags → Clean words flags → Clean words' flags'
  fills_clean still z c = c
  fills_clean {words = words} {flags = flags} (store identity s probes place at f room r) z c =
      let l = slot_of_lem identity s probes place z at f in
      fills_clean r (sized_set s identity z)
      (record {
        bits = λ t. get_d_set_cases flags s 1 t (λ (x : ℕ). x ≤ 1) l.in_flags_lem (λ e. omega arith) (λ d. c.bits t);
        vacant_words = λ t v.
            get_d_set_cases words s identity t (λ (x : ℕ). x ≡ 0) l.in_words
            (λ e. let q : get_or (set flags s 1) s 0 ≡ 1 = get_or-set_same flags s 1 0 l.in_flags_lem in let y = rw e at v in absurd (omega arith))
            (λ d. c.vacant_words t (rw (get_or-set_other flags s t 1 0 d) at v));
      })

  -- THE MAIN LEMMA. Insertions end in a part of the image; below the maximum nothing is ready for the placed part. Then whatever they put in is placed: the
  -- first that is not would be ready, since every slot that its insertion passed is placed with the same word, and its own is not.
  module _ (words flags marks : List ℕ) (placed : ℕ) (below-maximum : placed < table.plan.maximum)
      (stuck : (s : ℕ) → s < table.n → ready table counts words flags marks placed s ≡ false) where
    step : {v g : List ℕ} (identity s probes : ℕ) (place : Place) → Sized table.n v g → slot_of place ≡ s → find_of table counts v g identity ≡ Vacant probes place
        → Occupied flags s → get_or words s 0 ≡ identity → Inside v g words marks → Inside (set v s identity) (set g s 1) words marks
    step {v} {g} identity s probes place z at f o same i = go (ℕ_discrete (get_or marks s 0) 0)
      where
        l : Slot v g s
        l = slot_of_lem identity s probes place z at f

        go : Dec (get_or marks s 0 ≡ 0) → Inside (set v s identity) (set g s 1) words marks
        go (yes e) =
            let w = find_over v g words marks identity probes place i (rw at e) table counts f in
            let y : find_of table counts words marks (get_or words s 0) ≡ Vacant probes place = rw same w in
            let b = ready_by table counts words flags marks placed s below-maximum o e (Vacant probes place) y in
            let x : eqb (slot_of place) s ≡ false = sym b ∙ stuck s (omega (arith, l.in_words, z.words_n)) in
            absurd (eqb-false _ _ x at)
        go (no n) =
            record {
              marked = λ t. get_d_set_cases g s 1 t (λ (x : ℕ). (x ≡ 0 → ⊥) → get_or marks t 0 ≡ 0 → ⊥) l.in_flags_lem (λ q u. rw q n) (λ q. i.marked t);
              same = λ t u.
                  get_d_set_cases v s identity t (λ (x : ℕ). x ≡ get_or words t 0) l.in_words (λ q. rw q (sym same))
                  (λ q. i.same t (rw (get_or-set_other g s t 1 0 q) at u));
            }

    pub inside : {k k' : ℕ} {v g v' g' : List ℕ} → Fills table counts k v g k' v' g' → Sized table.n v g → PartOf v' g' words flags → Inside v g words marks → Inside v' g' words marks
    inside still z p i = i
    inside {v = v} {g = g} (store identity s probes place at f room r) z p i =
        let l = slot_of_lem identity s probes place z at f in
        let one_set : get_or (set g s 1) s 0 ≡ 1 = get_or-set_same g s 1 0 l.in_flags_lem in
        let k = kept r (sized_set s identity z) s (λ e. omega arith) in
        let o = p.occupied s k.stays in
        let same : get_or words s 0 ≡ identity = sym (p.same s k.stays) ∙ k.word ∙ get_or-set_same v s identity 0 l.in_words in
        inside r (sized_set s identity z) p (step identity s probes place z at f o same i)
