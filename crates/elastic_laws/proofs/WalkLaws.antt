-- The walk of a query ends by the position at which the identity is read. Assumes nothing.
use Rattle.std.specs.Prelude.{Bool, Ok, Err}
use Rattle.std.proofs.Math.Bool.{true, false}
use Rattle.std.proofs.Math.Path.{◌≡◌, refl, ap}
use Rattle.std.proofs.Common.{◌∙◌}
use Prim.Native.Nat.{ℕ, zero, suc, ◌+◌, ◌-◌, ◌≤◌, ◌<◌}
use native.Mathlib.Omega.{arith}
use Rattle.std.proofs.Math.Dec.{eqb}
use borrow.Author.Tests.{eqb-true, eqb-false, le-leb}
use Rattle.elastic_probe.specs.Phi.{phi, Coords, at, coords_of}
use Rattle.elastic_probe.specs.PhiLaws.{coords_phi, phi_pos}
use Rattle.words.specs.Pick.{pick}
use Rattle.elastic_query.specs.declared.query.Finding.{Finding}
use Rattle.elastic_query.specs.Query.{QueryAnswer, within, found_at, Tally, nothing, counted, walk_by, walk_of, positions_of}
use Rattle.elastic_insert.specs.TableLaws.{never}
use Rattle.elastic_laws.specs.Lookup.{read_at, Answers, found, refused, Unanswered, absent, stopped}
use Rattle.elastic.specs.Reading.{read_slot, Routed}
use Rattle.elastic.specs.declared.route.Reading.{Reading}

module _ (route : ℕ → ℕ → Routed) (holds : ℕ → Bool) (levels slot last words : ℕ) (only : (s : ℕ) → holds s ≡ true → s ≡ slot) (here : holds slot ≡ true) where
  -- from a position that is no later, over enough positions
  walk_answers : read_at route levels last ≡ Ok (read_slot slot words) → (tries p : ℕ) (t : Tally) → 0 < p → p ≤ last → last < p + tries
      → Answers (read_at route levels) slot last (walk_of route holds levels tries p t)
  unfolding walk_of
  walk_answers reads zero p t some l m = absurd (omega arith)
  walk_answers reads (suc tries) p t some l m = step (read_at route levels p) refl (λ u d. walk_answers reads tries (p + 1) u (omega arith) d (omega arith))
    where
      go : (c : Coords) (s w : ℕ) (later : Tally → QueryAnswer) (x : Bool) → holds s ≡ x → (p ≡ last → s ≡ slot)
          → ((u : Tally) → p + 1 ≤ last → Answers (read_at route levels) slot last (later u))
          → Answers (read_at route levels) slot last (pick x (found_at p s (counted c w t)) (later (counted c w t)))
      go c s w later true e q r = found _ (only s e) l
      go c s w later false e q r = r (counted c w t) (further (eqb p last) refl)
        where
          further : (y : Bool) → eqb p last ≡ y → p + 1 ≤ last
          further true d =
              let z = q (eqb-true p last d) in
              let u : holds slot ≡ false = rw (← z) e in
              let v : ◌≡◌ {A = ℕ} 0 1 = cc in
              absurd (omega arith)
          further false d = let z = eqb-false p last d in omega arith

      step : (r : Routed) → read_at route levels p ≡ r → ((u : Tally) → p + 1 ≤ last → Answers (read_at route levels) slot last (walk_of route holds levels tries (p + 1) u))
          → Answers (read_at route levels) slot last (walk_by holds p (within levels (coords_of p)) t r (walk_of route holds levels tries (p + 1)))
      step (Err r) e later = refused p r some (sooner (eqb p last) refl) e
        where
          sooner : (y : Bool) → eqb p last ≡ y → p < last
          sooner true d =
              let z = eqb-true p last d in
              let f : read_at route levels last ≡ Err r = rw (← z) e in
              let v : ◌≡◌ {A = ℕ} 0 1 = cc in
              absurd (omega arith)
          sooner false d = let z = eqb-false p last d in omega arith
      step (Ok x) e later = go (within levels (coords_of p)) x.slot x.words (walk_of route holds levels tries (p + 1)) (holds x.slot) refl same later
        where
          same : p ≡ last → x.slot ≡ slot
          same z =
              let f : read_at route levels last ≡ Ok x = rw (← z) e in
              let both : ◌≡◌ {A = Reading} x (read_slot slot words) = cc in
              ap (λ (y : Reading). y.slot) both

  -- where a probe of a level reads the slot, the query answers by phi of the two
  pub positions_answer : (level probe cap : ℕ) → level < levels → last ≡ phi (level + 1) (probe + 1) → last ≤ cap → route level probe ≡ Ok (read_slot slot words)
      → Answers (read_at route levels) slot last (positions_of route holds levels cap)
  unfolding positions_of
  positions_answer level probe cap has is near e =
      let c : coords_of last ≡ at (level + 1) (probe + 1) = ap coords_of is ∙ coords_phi (level + 1) (probe + 1) (omega arith) (omega arith) in
      let a : level + 1 - 1 ≡ level = omega arith in
      let b : probe + 1 - 1 ≡ probe = omega arith in
      let reads : read_at route levels last ≡ Ok (read_slot slot words) = rw (c, le-leb (level + 1) levels (omega arith), a, b) e in
      walk_answers reads cap 1 nothing (omega arith) (omega (arith, phi_pos (level + 1) (probe + 1) (omega arith))) (omega arith)

module _ (route : ℕ → ℕ → Routed) (holds : ℕ → Bool) (levels : ℕ) where
  -- a walk that answers a slot answers one that holds the identity, at one of its positions
  walk_found : (tries p : ℕ) (t : Tally) (f : Finding) → walk_of route holds levels tries p t ≡ Ok f → (holds f.global_slot.0 ≡ true) × (p ≤ f.position) × (f.position < p + tries)
  unfolding walk_of
  walk_found zero p t f h = never (cc)
  walk_found (suc tries) p t f h = step (read_at route levels p) h (λ u g. walk_found tries (p + 1) u f g)
    where
      by : (c : Coords) (s w : ℕ) (later : Tally → QueryAnswer) (x : Bool) → holds s ≡ x → pick x (found_at p s (counted c w t)) (later (counted c w t)) ≡ Ok f
          → ((u : Tally) → later u ≡ Ok f → (holds f.global_slot.0 ≡ true) × (p + 1 ≤ f.position) × (f.position < p + 1 + tries))
          → (holds f.global_slot.0 ≡ true) × (p ≤ f.position) × (f.position < p + suc tries)
      by c s w later true e g on =
          let q : ◌≡◌ {A = Finding} (record { position = p; global_slot = record { 0 = s }; mapped = (counted c w t).mapped; gap = (counted c w t).gaps; words = (counted c w t).words }) f = cc in
          let at : p ≡ f.position = ap (λ (x : Finding). x.position) q in
          let slot : s ≡ f.global_slot.0 = ap (λ (x : Finding). x.global_slot.0) q in
          (rw (← slot) e, omega arith, omega arith)
      by c s w later false e g on = let r = on (counted c w t) g in (r.0, omega (arith, r.1), omega (arith, r.2))

      step : (r : Routed) → walk_by holds p (within levels (coords_of p)) t r (walk_of route holds levels tries (p + 1)) ≡ Ok f
          → ((u : Tally) → walk_of route holds levels tries (p + 1) u ≡ Ok f → (holds f.global_slot.0 ≡ true) × (p + 1 ≤ f.position) × (f.position < p + 1 + tries))
          → (holds f.global_slot.0 ≡ true) × (p ≤ f.position) × (f.position < p + suc tries)
      step (Err r) g on = never (cc)
      step (Ok x) g on = by (within levels (coords_of p)) x.slot x.words (walk_of route holds levels tries (p + 1)) (holds x.slot) refl g on

  -- a query that answers a slot answers one that holds the identity, at a position within the cap
  pub positions_found : (cap : ℕ) (f : Finding) → positions_of route holds levels cap ≡ Ok f → (holds f.global_slot.0 ≡ true) × (0 < f.position) × (f.position ≤ cap)
  unfolding positions_of
  positions_found cap f h = let r = walk_found cap 1 nothing f h in (r.0, omega (arith, r.1), omega (arith, r.2))

  module _ (none : (s : ℕ) → holds s ≡ false) where
    walk_unanswered : (tries p cap : ℕ) (t : Tally) → 0 < p → p + tries ≤ cap + 1 → Unanswered (read_at route levels) cap (walk_of route holds levels tries p t)
    unfolding walk_of
    walk_unanswered zero p cap t some l = absent
    walk_unanswered (suc tries) p cap t some l = step (read_at route levels p) refl (λ u. walk_unanswered tries (p + 1) cap u (omega arith) (omega arith))
      where
        step : (r : Routed) → read_at route levels p ≡ r → ((u : Tally) → Unanswered (read_at route levels) cap (walk_of route holds levels tries (p + 1) u))
            → Unanswered (read_at route levels) cap (walk_by holds p (within levels (coords_of p)) t r (walk_of route holds levels tries (p + 1)))
        step (Err r) e on = stopped p r some (omega arith) e
        step (Ok x) e on = rw (none x.slot) (on _)

    -- a query of an identity that no slot holds answers none
    pub positions_unanswered : (cap : ℕ) → Unanswered (read_at route levels) cap (positions_of route holds levels cap)
    unfolding positions_of
    positions_unanswered cap = walk_unanswered cap 1 cap nothing (omega arith) (omega arith)
