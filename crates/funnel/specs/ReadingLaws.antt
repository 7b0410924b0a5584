-- Laws of the readings of a search: how many they are, and that it depends on nothing else. Assumes nothing.
use Rattle.std.specs.Prelude.{Bool, true, false, List, [], ◌∷◌, ◌≡◌, refl, ℕ, suc, ◌+◌, ◌*◌, ◌≤◌, length, get_or, eqb}
use Rattle.std.proofs.Common.{ap, subst, arith, eq-eqb, ne_eqb, eqb-true}
use Rattle.std.proofs.lemmas.Bool.{eqb-false}
use Rattle.words.specs.declared.place.Place.{Place}
use Rattle.geometry.specs.FunnelLaws.{plan_facts}
use Rattle.funnel.specs.declared.table.FunnelTable.{FunnelTable}
use Rattle.funnel.specs.declared.table.Search.{Search}
use Rattle.funnel.specs.declared.table.Search.TheVariants.{Hit, Vacant, Full, Range}
use Rattle.funnel.specs.Path.{Ending, full, refused, Path, slot_of}
use Rattle.funnel.specs.PathLaws.{path_length}
use Rattle.funnel.specs.Every.{Every}
use Rattle.funnel.specs.Search.{look, walk_of, search_of, table_path, find_of, read_on, readings_of}
use Rattle.funnel.specs.Valid.{Valid}

-- the probe count of an answer is a number; RANGE has none
abbrev pub Counts : Search → ℕ → Type 0
Counts (Hit probes place) n = probes ≡ n
Counts (Vacant probes place) n = probes ≡ n
Counts (Full probes) n = probes ≡ n
Counts (Range refusal) n = Unit {0}

-- "Its probe count equals the number of slot readings the steps make"
pub walk_counts : (words flags : List ℕ) (identity : ℕ) (places : List Place) (e : Ending) (k : ℕ)
    → Counts (walk_of words flags identity places e k) (k + length (readings_of words flags identity places))
unfolding walk_of readings_of
walk_counts words flags identity [] full k = omega arith
walk_counts words flags identity [] (refused refusal) k = tt
walk_counts words flags identity (p ∷ places) e k =
    go (eqb (get_or flags (slot_of p) 0) 0) (eqb (get_or words (slot_of p) 0) identity) (walk_of words flags identity places e (k + 1)) (walk_counts words flags identity places e (k + 1))
  where
    more : (r : Search) → Counts r (k + 1 + length (readings_of words flags identity places)) → Counts r (k + suc (length (readings_of words flags identity places)))
    more (Hit probes place) h = omega arith
    more (Vacant probes place) h = omega arith
    more (Full probes) h = omega arith
    more (Range refusal) h = tt

    go : (v s : Bool) (r : Search) → Counts r (k + 1 + length (readings_of words flags identity places))
        → Counts (look v s (k + 1) p r) (k + length (slot_of p ∷ read_on v s (readings_of words flags identity places)))
    go true s r h = omega arith
    go false true r h = omega arith
    go false false r h = more r h

pub find_counts : (table : FunnelTable) (counts words flags : List ℕ) (identity : ℕ)
    → Counts (find_of table counts words flags identity) (length (readings_of words flags identity (table_path table counts identity).places))
unfolding find_of search_of
find_counts table counts words flags identity =
    let path : Path = table_path table counts identity in
    let e : 0 + length (readings_of words flags identity path.places) ≡ length (readings_of words flags identity path.places) = omega arith in
    subst (Counts (walk_of words flags identity path.places path.ending 0)) e (walk_counts words flags identity path.places path.ending 0)

-- no place is read more often than it stands on the path
pub readings_length : (words flags : List ℕ) (identity : ℕ) (places : List Place) → length (readings_of words flags identity places) ≤ length places
unfolding readings_of
readings_length words flags identity [] = omega arith
readings_length words flags identity (p ∷ places) =
    go (eqb (get_or flags (slot_of p) 0) 0) (eqb (get_or words (slot_of p) 0) identity) (readings_length words flags identity places)
  where
    go : (v s : Bool) → length (readings_of words flags identity places) ≤ length places
        → length (slot_of p ∷ read_on v s (readings_of words flags identity places)) ≤ suc (length places)
    go true s h = omega arith
    go false true h = omega arith
    go false false h = omega arith

-- "and is at most alpha*beta + g + 4g"
pub find_most : {table : FunnelTable} {counts words flags : List ℕ} → Valid table counts words flags → (identity : ℕ)
    → length (readings_of words flags identity (table_path table counts identity).places) ≤ table.plan.alpha * table.plan.beta + table.plan.loglog_ceiling + 4 * table.plan.loglog_ceiling
find_most {table} {counts} {words} {flags} v identity =
    let f = plan_facts v.planned in
    omega (arith, readings_length words flags identity (table_path table counts identity).places, path_length table.plan counts table.seed table.word_cap identity)

-- two tables agree at a place: it is vacant in both or occupied in both, and where it is occupied the words are the same
pub record Agrees (words flags others marks : List ℕ) (p : Place) : Type 0 where
  pub to : get_or flags (slot_of p) 0 ≡ 0 → get_or marks (slot_of p) 0 ≡ 0
  pub from : get_or marks (slot_of p) 0 ≡ 0 → get_or flags (slot_of p) 0 ≡ 0
  pub same : (get_or flags (slot_of p) 0 ≡ 0 → ⊥) → get_or words (slot_of p) 0 ≡ get_or others (slot_of p) 0

-- a search depends on nothing but the flags on its path and the words under set flags
pub walk_agrees : (words flags others marks : List ℕ) (identity : ℕ) (places : List Place) (e : Ending) (k : ℕ) → Every (Agrees words flags others marks) places
    → walk_of words flags identity places e k ≡ walk_of others marks identity places e k
unfolding walk_of Every
walk_agrees words flags others marks identity [] e k h = refl
walk_agrees words flags others marks identity (p ∷ places) e k h =
    go (eqb (get_or flags (slot_of p) 0) 0) (eqb (get_or words (slot_of p) 0) identity) refl refl (walk_agrees words flags others marks identity places e (k + 1) h.1)
  where
    go : (v s : Bool) → eqb (get_or flags (slot_of p) 0) 0 ≡ v → eqb (get_or words (slot_of p) 0) identity ≡ s
        → walk_of words flags identity places e (k + 1) ≡ walk_of others marks identity places e (k + 1)
        → look v s (k + 1) p (walk_of words flags identity places e (k + 1))
        ≡ look (eqb (get_or marks (slot_of p) 0) 0) (eqb (get_or others (slot_of p) 0) identity) (k + 1) p (walk_of others marks identity places e (k + 1))
    go true s ev es ih = rw (eq-eqb _ _ (h.0.to (eqb-true _ _ ev)))
    go false s ev es ih =
        let n : get_or flags (slot_of p) 0 ≡ 0 → ⊥ = eqb-false _ _ ev in
        let m : get_or marks (slot_of p) 0 ≡ 0 → ⊥ = λ z. n (h.0.from z) in
        let w : get_or words (slot_of p) 0 ≡ get_or others (slot_of p) 0 = h.0.same n in
        let t : eqb (get_or others (slot_of p) 0) identity ≡ s = rw (← w) es in
        rw (ne_eqb _ _ m, t) (ap (λ (r : Search). look false s (k + 1) p r) ih)

pub find_agrees : (table : FunnelTable) (counts words flags others marks : List ℕ) (identity : ℕ)
    → Every (Agrees words flags others marks) (table_path table counts identity).places → find_of table counts words flags identity ≡ find_of table counts others marks identity
unfolding find_of search_of
find_agrees table counts words flags others marks identity h =
    walk_agrees words flags others marks identity (table_path table counts identity).places (table_path table counts identity).ending 0 h
