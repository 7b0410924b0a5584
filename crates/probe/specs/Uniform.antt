-- No bias: for each index below u, the words that are accepted and give it are 2 ^ 64 / u consecutive ones, as many for one index as for another.
-- Assumes nothing.
use Rattle.std.specs.Prelude.{◌≡◌, ℕ, suc, ◌+◌, ◌-◌, ◌*◌, ◌/◌, ◌%◌, ◌^◌, ◌<◌, ◌≤◌, Bool, true, false, [], ◌∷◌, nat_le, refl, Ok}
use Rattle.std.proofs.Common.{sym, ◌∙◌, div-lt_iff_lt-mul, mod-lt, suc-mul, le_trans, le_of_eq, arith, le-leb, leb-true}
use Rattle.std.proofs.Math.Path.{ap}
use Rattle.std.proofs.Math.Nat.{add-mul-div_left, div-add-mod, lt_of_not-le, not-le_of_lt}
use Rattle.words.specs.Pick.{pick}
use Rattle.probe.specs.Range.{indexed, Trial, reduce_of, all_rejected}

-- a word that is accepted and gives the index i
pub record Gives (u i w : ℕ) : Type 0 where
  pub accepted : 2 ^ 64 % u ≤ w * u % 2 ^ 64
  pub index : w * u / 2 ^ 64 ≡ i

-- the first word that gives i
unfoldable pub first : (u i : ℕ) → ℕ
first u i = (i * 2 ^ 64 + 2 ^ 64 % u + (u - 1)) / u

-- a number is at most a multiple of u where its quotient, rounded up, is at most the factor
up : (u x w : ℕ) → 0 < u → (x + (u - 1)) / u ≤ w → x ≤ w * u
up u x w pos h =
    let less : x + (u - 1) < suc w * u = (div-lt_iff_lt-mul {k = u} {x = x + (u - 1)} {y = suc w} pos).0 (omega arith) in
    let e : suc w * u ≡ w * u + u = suc-mul w u in
    omega arith

down : (u x w : ℕ) → 0 < u → x ≤ w * u → (x + (u - 1)) / u ≤ w
down u x w pos h =
    let e : suc w * u ≡ w * u + u = suc-mul w u in
    let less : (x + (u - 1)) / u < suc w = (div-lt_iff_lt-mul {k = u} {x = x + (u - 1)} {y = suc w} pos).1 (omega arith) in
    omega arith

-- the quotient rounded up of a number that is u times q further
further : (u x q : ℕ) → 0 < u → (x + u * q + (u - 1)) / u ≡ (x + (u - 1)) / u + q
further u x q pos =
    let e : x + u * q + (u - 1) ≡ x + (u - 1) + u * q = omega arith in
    ap (λ (n : ℕ). n / u) e ∙ add-mul-div_left (x + (u - 1)) q {y = u} pos

-- the products with u that are accepted and give i, as an interval
inside : (t p i : ℕ) → t < 2 ^ 64 → i * 2 ^ 64 + t ≤ p → p < i * 2 ^ 64 + 2 ^ 64 → (t ≤ p % 2 ^ 64) × (p / 2 ^ 64 ≡ i)
inside t p i ht lo hi = (omega arith, omega arith)

outside : (t p i : ℕ) → t ≤ p % 2 ^ 64 → p / 2 ^ 64 ≡ i → (i * 2 ^ 64 + t ≤ p) × (p < i * 2 ^ 64 + 2 ^ 64)
outside t p i a e = (omega arith, omega arith)

module _ (u i w : ℕ) (pos : 0 < u) (small : u ≤ 2 ^ 64) where
  low : 2 ^ 64 % u < 2 ^ 64
  low = omega (arith, mod-lt (2 ^ 64) {m = u} pos)

  whole : i * 2 ^ 64 + 2 ^ 64 % u + u * (2 ^ 64 / u) ≡ i * 2 ^ 64 + 2 ^ 64
  whole = omega (arith, div-add-mod (2 ^ 64) u)

  end : (i * 2 ^ 64 + 2 ^ 64 + (u - 1)) / u ≡ first u i + 2 ^ 64 / u
  unfolding first
  end = ap (λ (n : ℕ). (n + (u - 1)) / u) (sym whole) ∙ further u (i * 2 ^ 64 + 2 ^ 64 % u) (2 ^ 64 / u) pos

  -- a word that gives i is one of 2 ^ 64 / u from the first
  pub in_run : Gives u i w → (first u i ≤ w) × (w < first u i + 2 ^ 64 / u)
  unfolding first
  in_run g =
      let o = outside (2 ^ 64 % u) (w * u) i g.accepted g.index in
      (down u (i * 2 ^ 64 + 2 ^ 64 % u) w pos o.0, lt_of_not-le (λ h. not-le_of_lt o.1 (up u (i * 2 ^ 64 + 2 ^ 64) w pos (le_trans (le_of_eq end) h))))

  -- and each of those gives i
  pub of_run : first u i ≤ w → w < first u i + 2 ^ 64 / u → Gives u i w
  unfolding first
  of_run lo hi =
      let p = inside (2 ^ 64 % u) (w * u) i low (up u (i * 2 ^ 64 + 2 ^ 64 % u) w pos lo)
      (lt_of_not-le (λ h. not-le_of_lt hi (le_trans (le_of_eq (sym end)) (down u (i * 2 ^ 64 + 2 ^ 64) w pos h)))) in
      record { accepted = p.0; index = p.1 }

  -- all of them are words
  pub run_fits : i < u → first u i + 2 ^ 64 / u ≤ 2 ^ 64
  run_fits h = le_trans (le_of_eq (sym end)) (down u (i * 2 ^ 64 + 2 ^ 64) (2 ^ 64) pos (omega arith))

-- ---- what a word gives is what the reduction makes of it

pub gives_index : (u i w : ℕ) → Gives u i w → reduce_of (w ∷ []) u 0 ≡ Ok (indexed i 1)
unfolding reduce_of
gives_index u i w g = rw (le-leb (2 ^ 64 % u) (w * u % 2 ^ 64) g.accepted, g.index)

pub index_gives : (u i w : ℕ) → reduce_of (w ∷ []) u 0 ≡ Ok (indexed i 1) → Gives u i w
unfolding reduce_of
index_gives u i w e = go (nat_le (2 ^ 64 % u) (w * u % 2 ^ 64)) refl e
  where
    go : (t : Bool) → nat_le (2 ^ 64 % u) (w * u % 2 ^ 64) ≡ t → pick {A = Trial} t (Ok (indexed (w * u / 2 ^ 64) 1)) (all_rejected 1) ≡ Ok (indexed i 1) → Gives u i w
    go true h f = record { accepted = leb-true (2 ^ 64 % u) (w * u % 2 ^ 64) h; index = let both : indexed (w * u / 2 ^ 64) 1 ≡ indexed i 1 = cc in ap (λ x. x.index) both }
    go false h f = let z : ◌≡◌ {A = ℕ} 0 1 = cc in absurd (omega arith)
