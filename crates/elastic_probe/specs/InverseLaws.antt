-- Laws that join phi, its bounded form and its inverse, as they answer. Assumes nothing.
use Rattle.std.specs.Prelude.{Bool, true, false, ◌≡◌, refl, ℕ, ◌^◌, ◌<◌, eqb, ltb, Some, Ok, Err}
use Rattle.std.proofs.Common.{ap, sym, ◌∙◌, div-add-mod', arith, ltb-true, lt-ltb, ne_eqb}
use Rattle.std.proofs.lemmas.Bool.{eqb-false}
use Rattle.words.specs.Pick.{pick}
use Rattle.elastic_probe.specs.Phi.{phi, Coords, gap, at, coords_of}
use Rattle.elastic_probe.specs.PhiLaws.{coords_phi, coords_sound}
use Rattle.elastic_probe.specs.Wide.{wide_of, to_wide}
use Rattle.elastic_probe.specs.Position.{position_of, bounded_of, coordinates, told, coordinates_of}
use Rattle.words.specs.declared.product.Wide.{Wide}
use Rattle.elastic_probe.specs.declared.phi.Coordinate.TheVariants.{I, J}
use Rattle.elastic_probe.specs.declared.phi.PhiRefusal.TheVariants.{Coord, Overflow}

never : {A : Type 0} → ◌≡◌ {A = ℕ} 0 1 → A
never z = absurd (omega arith)

pub wide_to : (n : ℕ) → wide_of (to_wide n) ≡ n
wide_to n = div-add-mod' n (2 ^ 64)

-- what an answer of phi tells
pub record Answered (i j p m : ℕ) : Type 0 where
  pub i_pos : 0 < i
  pub j_pos : 0 < j
  pub is : p ≡ phi i j
  pub fits : p < m

pub position_answered : (i j : ℕ) (w : Wide) → position_of i j ≡ Ok w → Answered i j (wide_of w) (2 ^ 128)
unfolding position_of
position_answered i j w e = go (eqb i 0) refl (eqb j 0) refl (ltb (phi i j) (2 ^ 128)) refl e
  where
    go : (a : Bool) → eqb i 0 ≡ a → (b : Bool) → eqb j 0 ≡ b → (c : Bool) → ltb (phi i j) (2 ^ 128) ≡ c
        → pick a (Err (Coord I)) (pick b (Err (Coord J)) (pick c (Ok (to_wide (phi i j))) (Err Overflow))) ≡ Ok w
        → Answered i j (wide_of w) (2 ^ 128)
    go true ha b hb c hc e = never (cc)
    go false ha true hb c hc e = never (cc)
    go false ha false hb false hc e = never (cc)
    go false ha false hb true hc e =
        let v : to_wide (phi i j) ≡ w = cc in
        let n : wide_of w ≡ phi i j = ap wide_of (sym v) ∙ wide_to (phi i j) in
        let ni = eqb-false i 0 ha in
        let nj = eqb-false j 0 hb in
        answered (wide_of w) n (nonzero i ni) (nonzero j nj) (ltb-true (phi i j) (2 ^ 128) hc)
      where
        nonzero : (n : ℕ) → (n ≡ 0 → ⊥) → 0 < n
        nonzero n f = omega arith

        answered : (p : ℕ) → p ≡ phi i j → 0 < i → 0 < j → phi i j < 2 ^ 128 → Answered i j p (2 ^ 128)
        answered p s hi hj l = record { i_pos = hi; j_pos = hj; is = s; fits = rw s l }

pub bounded_answered : (i j p : ℕ) → bounded_of i j ≡ Ok p → Answered i j p (2 ^ 64)
unfolding bounded_of
bounded_answered i j p e = go (eqb i 0) refl (eqb j 0) refl (ltb 65535 j) refl (ltb (phi i j) (2 ^ 64)) refl e
  where
    go : (a : Bool) → eqb i 0 ≡ a → (b : Bool) → eqb j 0 ≡ b → (d : Bool) → ltb 65535 j ≡ d → (c : Bool) → ltb (phi i j) (2 ^ 64) ≡ c
        → pick a (Err (Coord I)) (pick b (Err (Coord J)) (pick d (Err Overflow) (pick c (Ok (phi i j)) (Err Overflow)))) ≡ Ok p
        → Answered i j p (2 ^ 64)
    go true ha b hb d hd c hc e = never (cc)
    go false ha true hb d hd c hc e = never (cc)
    go false ha false hb true hd c hc e = never (cc)
    go false ha false hb false hd false hc e = never (cc)
    go false ha false hb false hd true hc e =
        let v : phi i j ≡ p = cc in
        let ni = eqb-false i 0 ha in
        let nj = eqb-false j 0 hb in
        let l = ltb-true (phi i j) (2 ^ 64) hc in
        record { i_pos = omega arith; j_pos = omega arith; is = sym v; fits = omega arith }

-- bounded equals phi where both answer
pub bounded_phi : (i j p : ℕ) (w : Wide) → bounded_of i j ≡ Ok p → position_of i j ≡ Ok w → wide_of w ≡ p
bounded_phi i j p w b e = (position_answered i j w e).is ∙ sym (bounded_answered i j p b).is

-- inverse after phi is the identity
pub inverse_phi : (i j : ℕ) (w : Wide) → position_of i j ≡ Ok w → coordinates_of (wide_of w) ≡ Some (coordinates (to_wide i) j)
unfolding coordinates_of
inverse_phi i j w e =
    let a = position_answered i j w e in
    ap told (ap coords_of a.is ∙ coords_phi i j a.i_pos a.j_pos)

-- phi after inverse is the identity on what has coordinates
pub phi_inverse : (p j : ℕ) (w : Wide) → p < 2 ^ 128 → coordinates_of p ≡ Some (coordinates w j) → position_of (wide_of w) j ≡ Ok (to_wide p)
unfolding coordinates_of position_of
phi_inverse p j w few e = go (coords_of p) refl e
  where
    again : (i k : ℕ) → coords_of p ≡ at i k → position_of i k ≡ Ok (to_wide p)
    again i k f =
        let s = coords_sound p i k f in
        let l : phi i k < 2 ^ 128 = rw s.is few in
        rw (ne_eqb i 0 (some i s.i_pos), ne_eqb k 0 (some k s.j_pos), lt-ltb (phi i k) (2 ^ 128) l, s.is)
      where
        some : (n : ℕ) → 0 < n → n ≡ 0 → ⊥
        some n h z = omega arith

    go : (x : Coords) → coords_of p ≡ x → told x ≡ Some (coordinates w j) → position_of (wide_of w) j ≡ Ok (to_wide p)
    go gap f t = never (cc)
    go (at i k) f t =
        let both : coordinates (to_wide i) k ≡ coordinates w j = cc in
        let v : to_wide i ≡ w = ap (λ x. x.i) both in
        let u : k ≡ j = ap (λ x. x.j) both in
        let n : i ≡ wide_of w = sym (wide_to i) ∙ ap wide_of v in
        rw (← n, ← u) (again i k f)
