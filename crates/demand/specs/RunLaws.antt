-- Laws of any list of insertions into a fresh table, refused ones among them: what they leave is made, by those that were answered as
-- inserted. Assumes nothing.
use mathlib.Core.List.{List, [], ◌∷◌, ◌++◌}
use Rattle.std.proofs.Common.{⊎_elim, ap, sym, ◌∙◌}
use Rattle.std.specs.Prelude.{Ok, ◌≡◌, refl, ℕ, zero, suc, ◌+◌, ◌<◌, get_or, set, replicate}
use Rattle.words.specs.declared.place.Place.{Place}
use Rattle.geometry.specs.declared.funnel.FunnelPlan.{FunnelPlan}
use Rattle.funnel.specs.declared.table.FunnelTable.{FunnelTable}
use Rattle.funnel.specs.Path.{slot_of}
use Rattle.funnel.specs.Insert.{Insertion, reached, Done, done, with_count, insert_of}
use Rattle.funnel.proofs.InsertLaws.{Inserts as Changes, insert_changes, inserted_facts}
use Rattle.funnel.specs.Fresh.{State, fresh, next, after}
use Rattle.demand.specs.Made.{Inserts, none, one, Made}
use Rattle.demand.specs.TakeLaws.{inserts_snoc}

-- some insertions, each answered as inserted, from one state to another
record Ran (counts : List ℕ) (from to : State) : Type 0 where
  identities : List ℕ
  slots : List ℕ
  inserts : Inserts counts from.table from.words from.flags identities slots to.table to.words to.flags

-- one insertion more: as inserted, or it leaves all as it was
ran_next : (counts : List ℕ) (from to : State) (identity : ℕ) → Ran counts from to → Ran counts from (next counts to identity)
ran_next counts from to identity r = ⊎_elim more still (insert_changes to.table counts to.words to.flags identity)
  where
    more : (k : ℕ) × (p : Place) × Changes to.table counts to.words to.flags identity k p → Ran counts from (next counts to identity)
    more c =
        let a : (insert_of to.table counts to.words to.flags identity).answer ≡ Ok (reached c.0 c.1) = ap (λ (x : Done). x.answer) c.2.result in
        record {
          identities = r.identities ++ (identity ∷ []);
          slots = r.slots ++ (slot_of c.1 ∷ []);
          inserts = inserts_snoc identity (slot_of c.1) c.0 c.1 r.inserts
              (ap (λ (x : Insertion).
              done x (insert_of to.table counts to.words to.flags identity).table (insert_of to.table counts to.words to.flags identity).words
              (insert_of to.table counts to.words to.flags identity).flags)
              a)
              refl;
        }

    still : insert_of to.table counts to.words to.flags identity ≡ done (insert_of to.table counts to.words to.flags identity).answer to.table to.words to.flags
        → Ran counts from (next counts to identity)
    still e =
        let t : (insert_of to.table counts to.words to.flags identity).table ≡ to.table = ap (λ (x : Done). x.table) e in
        let w : (insert_of to.table counts to.words to.flags identity).words ≡ to.words = ap (λ (x : Done). x.words) e in
        let f : (insert_of to.table counts to.words to.flags identity).flags ≡ to.flags = ap (λ (x : Done). x.flags) e in
        record { identities = r.identities; slots = r.slots; inserts = rw (t, w, f) r.inserts }

ran_after : (counts : List ℕ) (from to : State) (identities : List ℕ) → Ran counts from to → Ran counts from (after counts to identities)
unfolding after
ran_after counts from to [] r = r
ran_after counts from to (identity ∷ identities) r = ran_after counts from (next counts to identity) identities (ran_next counts from to identity r)

-- insertions change nothing of a table but its count
inserts_table : {counts : List ℕ} {t t' : FunnelTable} {words flags identities slots words' flags' : List ℕ} (table : FunnelTable) (k : ℕ) → t ≡ with_count table k
    → Inserts counts t words flags identities slots t' words' flags' → (j : ℕ) × (t' ≡ with_count table j)
inserts_table table k e none = (k, e)
inserts_table {counts} {t} {t'} {words} {flags} table k e (one {table' = u} {words' = v} {flags' = g} {identity = identity} probes place h at r) =
    let w = inserted_facts t counts words flags identity probes place (ap (λ (d : Done). d.answer) h) in
    let s : u ≡ with_count table (k + 1) = ap (λ (x : Done). x.table) (sym h ∙ w.result) ∙ rw e in
    inserts_table table (k + 1) s r

-- what any insertions make of a fresh table differs in its count alone
pub after_table : (counts : List ℕ) (n e seed cap : ℕ) (plan : FunnelPlan) (identities : List ℕ)
    → (j : ℕ) × ((after counts (fresh n e seed cap plan) identities).table ≡ with_count (fresh n e seed cap plan).table j)
after_table counts n e seed cap plan identities =
    let s = fresh n e seed cap plan in
    let r = ran_after counts s s identities (record { identities = []; slots = []; inserts = none }) in
    inserts_table s.table 0 refl r.inserts

-- ---- no word is larger than what was inserted

set_bounded : (most : ℕ) (words : List ℕ) (s v : ℕ) → ((i : ℕ) → get_or words i 0 < most) → v < most → (i : ℕ) → get_or (set words s v) i 0 < most
set_bounded most [] s v h b i = h i
set_bounded most (w ∷ words) zero v h b zero = b
set_bounded most (w ∷ words) zero v h b (suc i) = h (suc i)
set_bounded most (w ∷ words) (suc s) v h b zero = h zero
set_bounded most (w ∷ words) (suc s) v h b (suc i) = set_bounded most words s v (λ j. h (suc j)) b i

module _ (counts : List ℕ) (most : ℕ) where
  next_bounded : (state : State) (identity : ℕ) → ((i : ℕ) → get_or state.words i 0 < most) → identity < most → (i : ℕ) → get_or (next counts state identity).words i 0 < most
  next_bounded state identity h b i =
      ⊎_elim (λ c. rw c.2.result (set_bounded most state.words (slot_of c.1) identity h b i)) (λ s. rw s (h i)) (insert_changes state.table counts state.words state.flags identity)

  pub after_bounded : (state : State) (identities : List ℕ) → ((i : ℕ) → get_or state.words i 0 < most) → ((k : ℕ) → get_or identities k 0 < most)
      → (i : ℕ) → get_or (after counts state identities).words i 0 < most
  unfolding after
  after_bounded state [] h b = h
  after_bounded state (identity ∷ identities) h b = after_bounded (next counts state identity) identities (next_bounded state identity h (b 0)) (λ k. b (suc k))

-- what any insertions leave of a fresh table is made
pub after_made : (counts : List ℕ) (n e seed cap : ℕ) (plan : FunnelPlan) (identities : List ℕ)
    → Made (after counts (fresh n e seed cap plan) identities).table counts (after counts (fresh n e seed cap plan) identities).words (after counts (fresh n e seed cap plan) identities).flags
after_made counts n e seed cap plan identities =
    let s = fresh n e seed cap plan in
    let r = ran_after counts s s identities (record { identities = []; slots = []; inserts = none }) in
    let q = inserts_table s.table 0 refl r.inserts in
    (r.identities, (r.slots, record { after = (after counts s identities).table; inserts = go (after counts s identities).table q.0 q.1 r.inserts }))
  where
    go : (t : FunnelTable) (j : ℕ) {identities slots words' flags' : List ℕ} {t' : FunnelTable} → t ≡ with_count (fresh n e seed cap plan).table j
        → Inserts counts (fresh n e seed cap plan).table (replicate n 0) (replicate n 0) identities slots t' words' flags'
        → Inserts counts (with_count t 0) (replicate t.n 0) (replicate t.n 0) identities slots t' words' flags'
    go t j e r = rw e r
