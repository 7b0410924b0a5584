-- Laws of walks and searches: how they go along joined paths, what they count, and what they depend on. Assumes nothing.
use Rattle.std.specs.Prelude.{Bool, get_or}
use Rattle.std.proofs.Math.Bool.{true, false}
use mathlib.Core.List.{List, [], ◌∷◌, ◌++◌}
use Rattle.std.proofs.Math.Path.{◌≡◌, refl, ap}
use Rattle.std.proofs.Common.{sym, subst, ◌∙◌}
use Prim.Native.Nat.{ℕ, suc, ◌+◌}
use native.Mathlib.Omega.{arith}
use Rattle.std.proofs.Math.ListN.{length}
use Rattle.std.proofs.Math.Dec.{eqb}
use borrow.Author.Tests.{eq-eqb, ne_eqb, eqb-true, eqb-false}
use Rattle.words.specs.declared.place.Place.{Place}
use Rattle.refusal.specs.declared.RangeRefusal.{RangeRefusal}
use Rattle.funnel.specs.declared.table.Search.{Search}
use Rattle.funnel.specs.declared.table.Search.TheVariants.{Hit, Vacant, Full, Range}
use Rattle.funnel.specs.Path.{Ending, full, refused, Path, slot_of, run, stopped, join_at, join}
use Rattle.funnel.specs.Every.{Every}
use Rattle.funnel.specs.EveryLaws.{every_middle}
use Rattle.funnel.specs.Search.{look, walk_of, search_of}

-- a search goes on along a second path where the first had no vacancy
unfoldable pub resume : (words flags : List ℕ) (identity : ℕ) → Path → Search → Search
resume words flags identity q (Hit probes place) = Hit probes place
resume words flags identity q (Vacant probes place) = Vacant probes place
resume words flags identity q (Full probes) = search_of words flags identity q probes
resume words flags identity q (Range refusal) = Range refusal

module _ (words flags : List ℕ) (identity : ℕ) where
  look_resume : (q : Path) (v s : Bool) (k : ℕ) (p : Place) (a b : Search) → a ≡ resume words flags identity q b
      → look v s k p a ≡ resume words flags identity q (look v s k p b)
  unfolding resume
  look_resume q true s k p a b h = refl
  look_resume q false true k p a b h = refl
  look_resume q false false k p a b h = h

  walk_append : (q : Path) (places : List Place) (k : ℕ)
      → walk_of words flags identity (places ++ q.places) q.ending k ≡ resume words flags identity q (walk_of words flags identity places full k)
  unfolding walk_of resume search_of
  walk_append q [] k = refl
  walk_append q (p ∷ places) k =
      look_resume q (eqb (get_or flags (slot_of p) 0) 0) (eqb (get_or words (slot_of p) 0) identity) (k + 1) p _ (walk_of words flags identity places full (k + 1))
      (walk_append q places (k + 1))

  walk_refused : (q : Path) (refusal : RangeRefusal) (places : List Place) (k : ℕ)
      → walk_of words flags identity places (refused refusal) k ≡ resume words flags identity q (walk_of words flags identity places (refused refusal) k)
  unfolding walk_of resume
  walk_refused q refusal [] k = refl
  walk_refused q refusal (p ∷ places) k =
      look_resume q (eqb (get_or flags (slot_of p) 0) 0) (eqb (get_or words (slot_of p) 0) identity) (k + 1) p _ (walk_of words flags identity places (refused refusal) (k + 1))
      (walk_refused q refusal places (k + 1))

  -- along two paths: the first, and from its end on the second
  pub search_join : (p q : Path) (k : ℕ) → search_of words flags identity (join p q) k ≡ resume words flags identity q (search_of words flags identity p k)
  unfolding search_of join
  search_join p q k = go p.ending p.places
    where
      go : (e : Ending) (places : List Place)
          → walk_of words flags identity (join_at e places q).places (join_at e places q).ending k ≡ resume words flags identity q (walk_of words flags identity places e k)
      go full places = walk_append q places k
      go (refused refusal) places = walk_refused q refusal places k

  pub search_stopped : (refusal : RangeRefusal) (k : ℕ) → search_of words flags identity (stopped refusal) k ≡ Range refusal
  unfolding search_of walk_of
  search_stopped refusal k = refl

  pub search_none : (k : ℕ) → search_of words flags identity (run []) k ≡ Full k
  unfolding search_of walk_of
  search_none k = refl

  -- one reading
  module _ (p : Place) (places : List Place) (k : ℕ) where
    pub search_vacant : get_or flags (slot_of p) 0 ≡ 0 → search_of words flags identity (run (p ∷ places)) k ≡ Vacant (k + 1) p
    unfolding search_of walk_of
    search_vacant e = rw (eq-eqb _ _ e)

    pub search_hit : (get_or flags (slot_of p) 0 ≡ 0 → ⊥) → get_or words (slot_of p) 0 ≡ identity → search_of words flags identity (run (p ∷ places)) k ≡ Hit (k + 1) p
    unfolding search_of walk_of
    search_hit n e = rw (ne_eqb _ _ n, eq-eqb _ _ e)

    pub search_other : (get_or flags (slot_of p) 0 ≡ 0 → ⊥) → (get_or words (slot_of p) 0 ≡ identity → ⊥)
        → search_of words flags identity (run (p ∷ places)) k ≡ search_of words flags identity (run places) (k + 1)
    unfolding search_of walk_of
    search_other n e = rw (ne_eqb _ _ n, ne_eqb _ _ e)

  -- a search that meets neither the identity nor a vacancy reads every place
  pub walk_full : (places : List Place) (e : Ending) (k j : ℕ) → walk_of words flags identity places e k ≡ Full j → j ≡ k + length places
  unfolding walk_of
  walk_full [] full k j h = let m : k ≡ j = cc in omega arith
  walk_full [] (refused refusal) k j h = let z : ◌≡◌ {A = ℕ} 0 1 = cc in absurd (omega arith)
  walk_full (p ∷ places) e k j h = go (eqb (get_or flags (slot_of p) 0) 0) (eqb (get_or words (slot_of p) 0) identity) h (walk_full places e (k + 1) j)
    where
      go : (v s : Bool) → look v s (k + 1) p (walk_of words flags identity places e (k + 1)) ≡ Full j
          → (walk_of words flags identity places e (k + 1) ≡ Full j → j ≡ k + 1 + length places) → j ≡ k + suc (length places)
      go true s h ih = let z : ◌≡◌ {A = ℕ} 0 1 = cc in absurd (omega arith)
      go false true h ih = let z : ◌≡◌ {A = ℕ} 0 1 = cc in absurd (omega arith)
      go false false h ih = let m = ih h in omega arith

  pub search_full : (p : Path) (k j : ℕ) → search_of words flags identity p k ≡ Full j → j ≡ k + length p.places
  unfolding search_of
  search_full p k j h = walk_full p.places p.ending k j h

-- ---- where a search stops

-- a place that a search passes: occupied, by another identity
pub record Passes (words flags : List ℕ) (identity : ℕ) (p : Place) : Type 0 where
  pub occupied : get_or flags (slot_of p) 0 ≡ 0 → ⊥
  pub other : get_or words (slot_of p) 0 ≡ identity → ⊥

-- a search reaches the place p of a list after k readings, and has made j with it
pub record Reached (words flags : List ℕ) (identity : ℕ) (places : List Place) (k j : ℕ) (p : Place) : Type 0 where
  pub passed : List Place
  pub rest : List Place
  pub whole : places ≡ passed ++ (p ∷ rest)
  pub others : Every (Passes words flags identity) passed
  pub probes : j ≡ k + length passed + 1

pub every_reached : (P : Place → Type 0) {words flags : List ℕ} {identity k j : ℕ} {places : List Place} {p : Place}
    → Reached words flags identity places k j p → Every P places → P p
every_reached P {p = p} r h = go r.passed (subst (Every P) r.whole h)
  where
    go : (passed : List Place) → Every P (passed ++ (p ∷ r.rest)) → P p
    go passed h = every_middle P passed r.rest p h

module _ (words flags : List ℕ) (identity : ℕ) where
  reached_first : (p : Place) (places : List Place) (k : ℕ) → Reached words flags identity (p ∷ places) k (k + 1) p
  unfolding Every
  reached_first p places k = record { passed = []; rest = places; whole = refl; others = tt; probes = omega arith }

  reached_later : (q : Place) (places : List Place) (k j : ℕ) (p : Place) → Passes words flags identity q → Reached words flags identity places (k + 1) j p
      → Reached words flags identity (q ∷ places) k j p
  unfolding Every
  reached_later q places k j p o r =
      let l = r.probes in
      record { passed = q ∷ r.passed; rest = r.rest; whole = ap (λ (x : List Place). q ∷ x) r.whole; others = (o, r.others); probes = omega arith }

  passes_of : (p : Place) → eqb (get_or flags (slot_of p) 0) 0 ≡ false → eqb (get_or words (slot_of p) 0) identity ≡ false → Passes words flags identity p
  passes_of p v s = record { occupied = eqb-false _ _ v; other = eqb-false _ _ s }

  -- a vacancy that a walk answers was reached, and is vacant
  pub walk_vacant : (places : List Place) (e : Ending) (k j : ℕ) (p : Place) → walk_of words flags identity places e k ≡ Vacant j p
      → Reached words flags identity places k j p × (get_or flags (slot_of p) 0 ≡ 0)
  unfolding walk_of
  walk_vacant [] full k j p h = let z : ◌≡◌ {A = ℕ} 0 1 = cc in absurd (omega arith)
  walk_vacant [] (refused refusal) k j p h = let z : ◌≡◌ {A = ℕ} 0 1 = cc in absurd (omega arith)
  walk_vacant (q ∷ places) e k j p h =
      go (eqb (get_or flags (slot_of q) 0) 0) (eqb (get_or words (slot_of q) 0) identity) refl refl h (walk_vacant places e (k + 1) j p)
    where
      go : (v s : Bool) → eqb (get_or flags (slot_of q) 0) 0 ≡ v → eqb (get_or words (slot_of q) 0) identity ≡ s
          → look v s (k + 1) q (walk_of words flags identity places e (k + 1)) ≡ Vacant j p
          → (walk_of words flags identity places e (k + 1) ≡ Vacant j p → Reached words flags identity places (k + 1) j p × (get_or flags (slot_of p) 0 ≡ 0))
          → Reached words flags identity (q ∷ places) k j p × (get_or flags (slot_of p) 0 ≡ 0)
      go true s ev es h ih =
          let a : q ≡ p = cc in
          let b : k + 1 ≡ j = cc in
          rw (← a, ← b) (reached_first q places k, eqb-true _ _ ev)
      go false true ev es h ih = let z : ◌≡◌ {A = ℕ} 0 1 = cc in absurd (omega arith)
      go false false ev es h ih = let r = ih h in (reached_later q places k j p (passes_of q ev es) r.0, r.1)

  -- a hit that a walk answers was reached, is occupied, and holds the identity
  pub walk_hit : (places : List Place) (e : Ending) (k j : ℕ) (p : Place) → walk_of words flags identity places e k ≡ Hit j p
      → Reached words flags identity places k j p × (get_or flags (slot_of p) 0 ≡ 0 → ⊥) × (get_or words (slot_of p) 0 ≡ identity)
  unfolding walk_of
  walk_hit [] full k j p h = let z : ◌≡◌ {A = ℕ} 0 1 = cc in absurd (omega arith)
  walk_hit [] (refused refusal) k j p h = let z : ◌≡◌ {A = ℕ} 0 1 = cc in absurd (omega arith)
  walk_hit (q ∷ places) e k j p h =
      go (eqb (get_or flags (slot_of q) 0) 0) (eqb (get_or words (slot_of q) 0) identity) refl refl h (walk_hit places e (k + 1) j p)
    where
      go : (v s : Bool) → eqb (get_or flags (slot_of q) 0) 0 ≡ v → eqb (get_or words (slot_of q) 0) identity ≡ s
          → look v s (k + 1) q (walk_of words flags identity places e (k + 1)) ≡ Hit j p
          → (walk_of words flags identity places e (k + 1) ≡ Hit j p → Reached words flags identity places (k + 1) j p × (get_or flags (slot_of p) 0 ≡ 0 → ⊥) × (get_or words (slot_of p) 0 ≡ identity))
          → Reached words flags identity (q ∷ places) k j p × (get_or flags (slot_of p) 0 ≡ 0 → ⊥) × (get_or words (slot_of p) 0 ≡ identity)
      go true s ev es h ih = let z : ◌≡◌ {A = ℕ} 0 1 = cc in absurd (omega arith)
      go false true ev es h ih =
          let a : q ≡ p = cc in
          let b : k + 1 ≡ j = cc in
          rw (← a, ← b) (reached_first q places k, eqb-false _ _ ev, eqb-true _ _ es)
      go false false ev es h ih = let r = ih h in (reached_later q places k j p (passes_of q ev es) r.0, r.1, r.2)

  -- and the other way round: what passes the places before stops where it is vacant or holds the identity
  walk_passed : (passed rest : List Place) (e : Ending) (k : ℕ) → Every (Passes words flags identity) passed
      → walk_of words flags identity (passed ++ rest) e k ≡ walk_of words flags identity rest e (k + length passed)
  unfolding walk_of Every
  walk_passed [] rest e k h = let z : k + 0 ≡ k = omega arith in rw z
  walk_passed (q ∷ passed) rest e k h =
      let f : k + 1 + length passed ≡ k + suc (length passed) = omega arith in
      rw (ne_eqb _ _ h.0.occupied, ne_eqb _ _ h.0.other) (walk_passed passed rest e (k + 1) h.1 ∙ rw f)

  module _ (places : List Place) (e : Ending) (k j : ℕ) (p : Place) (r : Reached words flags identity places k j p) where
    pub reached_vacant : get_or flags (slot_of p) 0 ≡ 0 → walk_of words flags identity places e k ≡ Vacant j p
    unfolding walk_of
    reached_vacant v =
        rw (r.whole, walk_passed r.passed (p ∷ r.rest) e k r.others, eq-eqb _ _ v) (ap (λ (x : ℕ). Vacant x p) (sym r.probes))

    pub reached_hit : (get_or flags (slot_of p) 0 ≡ 0 → ⊥) → get_or words (slot_of p) 0 ≡ identity → walk_of words flags identity places e k ≡ Hit j p
    unfolding walk_of
    reached_hit v s =
        rw (r.whole, walk_passed r.passed (p ∷ r.rest) e k r.others, ne_eqb _ _ v, eq-eqb _ _ s) (ap (λ (x : ℕ). Hit x p) (sym r.probes))
