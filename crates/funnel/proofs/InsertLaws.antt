-- Laws of insertion: what it does by what the search found, and what it changes. Assumes nothing.
use Rattle.std.specs.Prelude.{Bool, List, ◌⊎◌, ℕ, ◌+◌, ◌≤◌, ◌<◌, length, set, Ok, Err}
use Rattle.std.proofs.Math.Bool.{true, false}
use Rattle.std.proofs.Common.{inl, inr, arith}
use Rattle.std.proofs.Math.Path.{◌≡◌, refl, ap, sym}
use Rattle.std.proofs.Math.Dec.{leb}
use borrow.Author.Tests.{le-leb, lt-leb, leb-false}
use Rattle.words.specs.declared.place.Place.{Place}
use Rattle.refusal.specs.declared.RangeRefusal.{RangeRefusal}
use Rattle.funnel.specs.declared.table.FunnelTable.{FunnelTable}
use Rattle.funnel.specs.declared.table.Search.{Search}
use Rattle.funnel.specs.declared.table.Search.TheVariants as search
use Rattle.funnel.specs.declared.table.Reached.{Reached}
use Rattle.funnel.specs.declared.table.InsertRefusal.TheVariants as insertion
use Rattle.funnel.specs.Path.{slot_of}
use Rattle.funnel.specs.PathLaws.{path_below}
use Rattle.funnel.specs.Search.{find_of, search_of}
use Rattle.funnel.specs.SearchLaws.{walk_vacant, every_reached}
use Rattle.funnel.specs.Insert.{Insertion, reached, Done, done, with_count, stepped, insert_by, insert_of}
use Rattle.funnel.specs.Valid.{Valid}

-- the count plays no part in a search
pub find_count : (table : FunnelTable) (count : ℕ) (counts words flags : List ℕ) (identity : ℕ)
    → find_of (with_count table count) counts words flags identity ≡ find_of table counts words flags identity
unfolding find_of
find_count table count counts words flags identity = refl

-- a place that a search in a valid table finds vacant lies in both buffers
pub vacant_within : {table : FunnelTable} {counts words flags : List ℕ} → Valid table counts words flags → (identity k : ℕ) (p : Place)
    → find_of table counts words flags identity ≡ search.Vacant k p → (slot_of p < length words) × (slot_of p < length flags)
unfolding find_of search_of
vacant_within {table} {counts} {words} {flags} valid identity k p h =
    let l : slot_of p < table.n =
    every_reached (λ q. slot_of q < table.n) (walk_vacant words flags identity _ _ 0 k p h).0 (path_below valid.planned table.seed table.word_cap identity) in
    let v = valid.words_length in
    let w = valid.flags_length in
    (omega arith, omega arith)

-- an insertion by what the search found, with another count than the table's
module _ (table : FunnelTable) (count : ℕ) (counts words flags : List ℕ) (identity : ℕ) where
  abbrev pub at : FunnelTable
  at = with_count table count

  pub insert_range : (refusal : RangeRefusal) → find_of table counts words flags identity ≡ search.Range refusal
      → done (Err (insertion.Range refusal)) at words flags ≡ insert_of at counts words flags identity
  unfolding insert_of insert_by
  insert_range refusal e = sym (rw (find_count table count counts words flags identity, e))

  pub insert_duplicate : (k : ℕ) (p : Place) → find_of table counts words flags identity ≡ search.Hit k p
      → done (Err (insertion.Duplicate k p)) at words flags ≡ insert_of at counts words flags identity
  unfolding insert_of insert_by
  insert_duplicate k p e = sym (rw (find_count table count counts words flags identity, e))

  module _ (spent : table.plan.maximum ≤ count) where
    pub insert_spent_vacant : (k : ℕ) (p : Place) → find_of table counts words flags identity ≡ search.Vacant k p
        → done (Err (insertion.Exhausted k)) at words flags ≡ insert_of at counts words flags identity
    unfolding insert_of insert_by
    insert_spent_vacant k p e = sym (rw (find_count table count counts words flags identity, e, le-leb _ _ spent))

    pub insert_spent_full : (k : ℕ) → find_of table counts words flags identity ≡ search.Full k
        → done (Err (insertion.Exhausted k)) at words flags ≡ insert_of at counts words flags identity
    unfolding insert_of insert_by
    insert_spent_full k e = sym (rw (find_count table count counts words flags identity, e, le-leb _ _ spent))

  module _ (left : count < table.plan.maximum) where
    pub insert_full : (k : ℕ) → find_of table counts words flags identity ≡ search.Full k
        → done (Err (insertion.Full k)) at words flags ≡ insert_of at counts words flags identity
    unfolding insert_of insert_by
    insert_full k e = sym (rw (find_count table count counts words flags identity, e, lt-leb _ _ left))

    pub insert_inserted : (k : ℕ) (p : Place) (slot : ℕ) → find_of table counts words flags identity ≡ search.Vacant k p → slot ≡ slot_of p
        → done (Ok (reached k p)) (stepped (Ok (reached k p)) at) (set words slot identity) (set flags slot 1) ≡ insert_of at counts words flags identity
    unfolding insert_of insert_by
    insert_inserted k p slot e s = sym (rw (find_count table count counts words flags identity, e, lt-leb _ _ left, s))

-- what an insertion leaves, with the table after it known
pub done_table : (r : Insertion) (t u : FunnelTable) (words flags : List ℕ) (x : Done) → t ≡ u → done r t words flags ≡ x → done r u words flags ≡ x
done_table r t u words flags x e h = rw (← e) h

pub stepped_inserted : (r : Insertion) (t : FunnelTable) (k : ℕ) (p : Place) → r ≡ Ok (reached k p) → stepped r t ≡ with_count t (t.count + 1)
stepped_inserted r t k p e = rw e

-- ---- what an insertion changes

-- what "inserted" says: the search found the place vacant, members were left to insert, and one slot and the count changed
pub record Inserts (table : FunnelTable) (counts words flags : List ℕ) (identity k : ℕ) (p : Place) : Type 0 where
  pub found : find_of table counts words flags identity ≡ search.Vacant k p
  pub left : table.count < table.plan.maximum
  pub result : insert_of table counts words flags identity
      ≡ done (Ok (reached k p)) (with_count table (table.count + 1)) (set words (slot_of p) identity) (set flags (slot_of p) 1)

module _ (table : FunnelTable) (counts words flags : List ℕ) (identity : ℕ) where
  pub inserted_facts : (k : ℕ) (p : Place) → (insert_of table counts words flags identity).answer ≡ Ok (reached k p) → Inserts table counts words flags identity k p
  unfolding insert_of insert_by
  inserted_facts k p h = go (find_of table counts words flags identity) refl (leb table.plan.maximum table.count) refl h
    where
      go : (x : Search) → find_of table counts words flags identity ≡ x → (b : Bool) → leb table.plan.maximum table.count ≡ b
          → (insert_by table words flags identity x).answer ≡ Ok (reached k p) → Inserts table counts words flags identity k p
      go (search.Range refusal) e b l h = let z : ◌≡◌ {A = ℕ} 0 1 = cc in absurd (omega arith)
      go (search.Hit j q) e b l h = let z : ◌≡◌ {A = ℕ} 0 1 = cc in absurd (omega arith)
      go (search.Full j) e true l h = let m = rw l at h in let z : ◌≡◌ {A = ℕ} 0 1 = cc in absurd (omega arith)
      go (search.Full j) e false l h = let m = rw l at h in let z : ◌≡◌ {A = ℕ} 0 1 = cc in absurd (omega arith)
      go (search.Vacant j q) e true l h = let m = rw l at h in let z : ◌≡◌ {A = ℕ} 0 1 = cc in absurd (omega arith)
      go (search.Vacant j q) e false l h =
          let m = rw l at h in
          let same : reached j q ≡ reached k p = cc in
          let a : j ≡ k = ap (λ (r : Reached). r.probes) same in
          let b : q ≡ p = ap (λ (r : Reached). r.place) same in
          record { found = rw (← a, ← b) e; left = leb-false _ _ l; result = rw (e, l, ← a, ← b) }

  -- any other answer leaves all as it was
  pub unchanged : ((k : ℕ) (p : Place) → (insert_of table counts words flags identity).answer ≡ Ok (reached k p) → ⊥)
      → insert_of table counts words flags identity ≡ done (insert_of table counts words flags identity).answer table words flags
  unfolding insert_of insert_by
  unchanged n = go (find_of table counts words flags identity) (leb table.plan.maximum table.count) refl n
    where
      go : (x : Search) (b : Bool) → leb table.plan.maximum table.count ≡ b
          → ((k : ℕ) (p : Place) → (insert_by table words flags identity x).answer ≡ Ok (reached k p) → ⊥)
          → insert_by table words flags identity x ≡ done (insert_by table words flags identity x).answer table words flags
      go (search.Range refusal) b l n = refl
      go (search.Hit j q) b l n = refl
      go (search.Full j) true l n = rw l
      go (search.Full j) false l n = rw l
      go (search.Vacant j q) true l n = rw l
      go (search.Vacant j q) false l n = absurd (n j q (rw l))

  -- an insertion changes one slot and the count, or nothing
  pub insert_changes : ((k : ℕ) × (p : Place) × Inserts table counts words flags identity k p)
      ⊎ (insert_of table counts words flags identity ≡ done (insert_of table counts words flags identity).answer table words flags)
  insert_changes = go (insert_of table counts words flags identity).answer refl
    where
      same : Type 0
      same = insert_of table counts words flags identity ≡ done (insert_of table counts words flags identity).answer table words flags

      go : (x : Insertion) → (insert_of table counts words flags identity).answer ≡ x → ((k : ℕ) × (p : Place) × Inserts table counts words flags identity k p) ⊎ same
      go (Ok put) h = inl (put.probes, put.place, inserted_facts put.probes put.place h)
      go (Err refusal) h = inr (unchanged (λ k p i. let z : ◌≡◌ {A = ℕ} 0 1 = cc in absurd (omega arith)))
