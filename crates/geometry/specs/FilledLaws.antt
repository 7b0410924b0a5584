-- The searches of the first and the next count, and the counts filled in from the front. Assumes nothing.
use Rattle.std.specs.Prelude.{◌≡◌, refl, Bool, true, false, List, [], ◌∷◌, ◌++◌, ℕ, zero, suc, ◌+◌, ◌-◌, ◌≤◌, ◌<◌, min, max, leb, length, take, drop, set}
use Rattle.std.proofs.Common.{sym, subst, ◌∙◌, append_assoc, append-nil, lt_of_not-le, add-one, arith, length-set, take-suc-set, drop-set-lt, leb-true, leb-false}
use Rattle.std.proofs.Math.Decide.{dec_le}
use Rattle.geometry.specs.Extreme.{IsLargest, IsSmallest}
use Rattle.geometry.specs.Counts.{low, high, low_sum, high_sum, Brackets, Follows, Rest, quarter, First, Counts}
use Rattle.geometry.specs.Filled.{Fits, Filled}
use Rattle.geometry.specs.CountsLaws.{low_sum_mono, high_sum_mono, no_gap}
use Rattle.geometry.specs.ChainLaws.{first_tests, down, up}
use Rattle.geometry.specs.CountsExist.{fits_first, fits_next, choose_top, choose_middle, choose_bottom, reach_pos, low_sum_one}
use Rattle.geometry.specs.PathLaws.{low_sum_step, high_sum_step}

-- what follows x, by the tests of smallest paths
module _ (x : ℕ) (levels sum : ℕ) (pos : 0 < levels) (f : Fits x levels sum) where
  pub next_top : leb (low_sum (high x) levels) sum ≡ true → IsLargest (Follows x levels sum) (high x)
  next_top e = go levels pos f (leb-true _ _ e)
    where
      go : (n : ℕ) → 0 < n → Fits x n sum → low_sum (high x) n ≤ sum → IsLargest (Follows x n sum) (high x)
      go zero p g h = absurd (omega arith)
      go (suc n) p g h = choose_top x n sum g h

  pub next_middle : leb (low_sum (high x) levels) sum ≡ false → leb (low_sum (high x - 1) levels) sum ≡ true → IsLargest (Follows x levels sum) (high x - 1)
  next_middle d e = go levels pos f (leb-false _ _ d) (leb-true _ _ e)
    where
      go : (n : ℕ) → 0 < n → Fits x n sum → sum < low_sum (high x) n → low_sum (high x - 1) n ≤ sum → IsLargest (Follows x n sum) (high x - 1)
      go zero p g l h = absurd (omega arith)
      go (suc n) p g l h = choose_middle x n sum g l h

  pub next_bottom : leb (low_sum (high x) levels) sum ≡ false → leb (low_sum (high x - 1) levels) sum ≡ false → IsLargest (Follows x levels sum) (low x)
  next_bottom d e = go levels pos f (leb-false _ _ d) (leb-false _ _ e)
    where
      go : (n : ℕ) → 0 < n → Fits x n sum → sum < low_sum (high x) n → sum < low_sum (high x - 1) n → IsLargest (Follows x n sum) (low x)
      go zero p g l h = absurd (omega arith)
      go (suc n) p g l h = choose_bottom x n sum g l h

  pub taken_top : (top : ℕ) (b : Bool) → top ≡ high x → b ≡ leb (low_sum top levels) sum → b ≡ true → IsLargest (Follows x levels sum) top
  taken_top top b e t h = rw e (next_top (rw e at (sym t ∙ h)))

  module _ (top : ℕ) (b : Bool) (e : top ≡ high x) (t : b ≡ leb (low_sum top levels) sum) (h : b ≡ false) (d : Bool) (u : d ≡ leb (low_sum (top - 1) levels) sum) where
    pub taken_middle : d ≡ true → IsLargest (Follows x levels sum) (top - 1)
    taken_middle k = rw e (next_middle (rw e at (sym t ∙ h)) (rw e at (sym u ∙ k)))

    pub taken_bottom : d ≡ false → IsLargest (Follows x levels sum) (low x)
    taken_bottom k = next_bottom (rw e at (sym t ∙ h)) (rw e at (sym u ∙ k))

-- halving: the smallest whose largest path reaches t lies between lo and hi
pub record Reach (t levels lo hi : ℕ) : Type 0 where
  pub pos : 0 < lo
  pub order : lo ≤ hi
  pub most : hi ≤ t
  pub holds : t ≤ high_sum hi levels
  pub below : (z : ℕ) → t ≤ high_sum z levels → lo ≤ z

pub reach_start : (t levels q : ℕ) → 0 < levels → high_sum q levels < t → Reach t levels (q + 1) t
reach_start t levels q p h =
    let s = high_sum_step q levels p in
    record { pos = omega arith; order = omega arith; most = omega arith; holds = omega (arith, high_sum_step t levels p); below = λ z r. past z r (dec_le (q + 1) z) }
  where
    past : (z : ℕ) → t ≤ high_sum z levels → Dec (q + 1 ≤ z) → q + 1 ≤ z
    past z r (yes l) = l
    past z r (no f) = let l = lt_of_not-le f in absurd (omega (arith, high_sum_mono z q levels (omega arith)))

module _ {t levels lo hi : ℕ} (r : Reach t levels lo hi) where
  pub reach_left : (mid : ℕ) → lo ≤ mid → mid ≤ hi → leb t (high_sum mid levels) ≡ true → Reach t levels lo mid
  reach_left mid a b e = record { pos = r.pos; order = a; most = omega arith; holds = leb-true _ _ e; below = r.below }

  pub reach_right : (mid : ℕ) → mid < hi → leb t (high_sum mid levels) ≡ false → Reach t levels (mid + 1) hi
  reach_right mid b e = record { pos = omega arith; order = omega arith; most = omega arith; holds = r.holds; below = λ z k. above z k (dec_le (mid + 1) z) }
    where
      above : (z : ℕ) → t ≤ high_sum z levels → Dec (mid + 1 ≤ z) → mid + 1 ≤ z
      above z k (yes p) = p
      above z k (no q) = let l = lt_of_not-le q in absurd (omega (arith, high_sum_mono z mid levels (omega arith), leb-false t (high_sum mid levels) e))

  pub reach_end : hi ≤ lo → IsSmallest (λ y. t ≤ high_sum y levels) lo
  reach_end h = let o = r.order in let e : lo ≡ hi = omega arith in record { holds = rw e r.holds; below = r.below }

-- and the largest whose smallest path stays within t
pub record Within (t levels lo hi : ℕ) : Type 0 where
  pub pos : 0 < lo
  pub order : lo ≤ hi
  pub most : hi ≤ t
  pub holds : low_sum lo levels ≤ t
  pub above : (z : ℕ) → low_sum z levels ≤ t → z ≤ hi

pub within_two : (t levels q : ℕ) → levels ≤ t → t < low_sum q levels → 2 ≤ q
within_two t levels q h l = go (dec_le 2 q)
  where
    go : Dec (2 ≤ q) → 2 ≤ q
    go (yes p) = p
    go (no f) = let k = lt_of_not-le f in absurd (omega (arith, low_sum_mono q 1 levels (omega arith), low_sum_one levels))

pub within_start : (t levels q : ℕ) → levels ≤ t → t < low_sum q levels → q ≤ t → Within t levels 1 (q - 1)
within_start t levels q h l m =
    let two = within_two t levels q h l in
    record { pos = omega arith; order = omega arith; most = omega arith; holds = omega (arith, low_sum_one levels); above = λ z r. under z r (dec_le q z) }
  where
    under : (z : ℕ) → low_sum z levels ≤ t → Dec (q ≤ z) → z ≤ q - 1
    under z r (yes p) = absurd (omega (arith, low_sum_mono q z levels p))
    under z r (no f) = let k = lt_of_not-le f in omega arith

module _ {t levels lo hi : ℕ} (r : Within t levels lo hi) where
  pub within_right : (mid : ℕ) → lo ≤ mid → mid ≤ hi → leb (low_sum mid levels) t ≡ true → Within t levels mid hi
  within_right mid a b e = let p = r.pos in record { pos = omega arith; order = b; most = r.most; holds = leb-true _ _ e; above = r.above }

  pub within_left : (mid : ℕ) → lo < mid → mid ≤ hi → leb (low_sum mid levels) t ≡ false → Within t levels lo (mid - 1)
  within_left mid b c e = record { pos = r.pos; order = omega arith; most = omega arith; holds = r.holds; above = λ z k. under z k (dec_le z (mid - 1)) }
    where
      under : (z : ℕ) → low_sum z levels ≤ t → Dec (z ≤ mid - 1) → z ≤ mid - 1
      under z k (yes p) = p
      under z k (no q) = let l = lt_of_not-le q in absurd (omega (arith, low_sum_mono mid z levels (omega arith), leb-false (low_sum mid levels) t e))

  pub within_end : hi ≤ lo → IsLargest (λ y. low_sum y levels ≤ t) lo
  within_end h = record { holds = r.holds; above = λ z k. omega (arith, r.above z k) }

-- the two are in order, where there are as many buckets as levels
pub ends_ordered : (t levels lo hi : ℕ) → levels ≤ t → IsSmallest (λ y. t ≤ high_sum y levels) lo → IsLargest (λ y. low_sum y levels ≤ t) hi → lo ≤ hi
ends_ordered t levels lo hi h a b = a.below hi reach
  where
    pos : 1 ≤ hi
    pos = b.above 1 (omega (arith, low_sum_one levels))

    past : Dec (low_sum (hi + 1) levels ≤ t) → t < low_sum (hi + 1) levels
    past (yes p) = let a = b.above (hi + 1) p in absurd (omega arith)
    past (no q) = lt_of_not-le q

    reach : t ≤ high_sum hi levels
    reach = omega (arith, no_gap hi levels pos, past (dec_le (low_sum (hi + 1) levels) t))

-- the first count from the quarter's own paths
module _ (t levels : ℕ) (pos : 0 < levels) (enough : levels ≤ t) where
  lows : (y : ℕ) × IsLargest (λ z. low_sum z levels ≤ t) y
  lows = go levels pos enough
    where
      go : (n : ℕ) → 0 < n → n ≤ t → (y : ℕ) × IsLargest (λ z. low_sum z n ≤ t) y
      go zero p h = absurd (omega arith)
      go (suc n) p h = up t n 1 t (omega arith) (omega (arith, low_sum_one (suc n)))

  highs : (y : ℕ) × IsSmallest (λ z. t ≤ high_sum z levels) y
  highs = down t levels t (omega (arith, high_sum_step t levels pos))

  first_is : (lo hi x : ℕ) → IsSmallest (λ y. t ≤ high_sum y levels) lo → IsLargest (λ y. low_sum y levels ≤ t) hi → (lo ≤ hi → x ≡ max lo (min hi (quarter t))) → First t levels x
  first_is lo hi x a b e = let o = ends_ordered t levels lo hi enough a b in record { lo = lo; hi = hi; lo_smallest = a; hi_largest = b; ordered = o; clamped = e o }

  module _ (q : ℕ) (is : q ≡ quarter t) where
    pub first_quarter : t ≤ high_sum q levels → low_sum q levels ≤ t → First t levels q
    first_quarter a b =
        let x = highs.1.below q a in
        let y = lows.1.above q b in
        first_is highs.0 lows.0 q highs.1 lows.1 (λ o. omega arith)

    pub first_below : high_sum q levels < t → (lo : ℕ) → IsSmallest (λ y. t ≤ high_sum y levels) lo → First t levels lo
    first_below a lo s =
        let r = (reach_start t levels q pos a).below lo s.holds in
        first_is lo lows.0 lo s lows.1 (λ o. omega arith)

    pub first_above : t < low_sum q levels → (hi : ℕ) → IsLargest (λ y. low_sum y levels ≤ t) hi → First t levels hi
    first_above a hi l =
        let r = (within_start t levels q enough a (omega arith)).above hi l.holds in
        first_is highs.0 hi hi highs.1 l (λ o. omega arith)

-- filled up to i: whatever completes what is left completes the whole
pub record Partial (t levels : ℕ) (old new : List ℕ) (i cur rem : ℕ) : Type 0 where
  pub size : levels ≤ length new
  pub kept : length new ≡ length old
  pub some : 0 < i
  pub within : i ≤ levels
  pub fits : Fits cur (levels - i) rem
  pub glue : (zs : List ℕ) → length zs ≡ levels - i → Rest cur rem zs → Counts t levels (take i new ++ zs)
  pub others : drop levels new ≡ drop levels old

pub first_most : (t levels x : ℕ) → 0 < levels → First t levels x → x ≤ t
first_most t levels x p f = let b = (first_tests t levels x f).brackets.least in omega (arith, low_sum_step x levels p)

pub partial_first : (t levels x : ℕ) (old : List ℕ) → 0 < levels → levels ≤ t → levels ≤ length old → First t levels x → Partial t levels (set old 0 x) (set old 0 x) 1 x (t - x)
unfolding Counts
partial_first t levels x [] p h s f = absurd (omega arith)
partial_first t levels x (o ∷ os) p h s f =
    let b = (first_tests t levels x f).brackets in
    let e : suc (levels - 1) ≡ levels = omega arith in
    let d : Brackets x (suc (levels - 1)) t = rw e b in
    record {
      size = s;
      kept = refl;
      some = omega arith;
      within = p;
      fits = fits_first t (levels - 1) x (reach_pos t levels x (omega arith) b.most) d;
      glue = λ zs l r. (omega arith, f, r);
      others = refl;
    }

pub next_most : (x n sum y : ℕ) → 0 < n → IsLargest (Follows x n sum) y → y ≤ sum
next_most x n sum y p l = let b = l.holds.brackets.least in omega (arith, low_sum_step y n p)

pub partial_more : (t levels : ℕ) (old new : List ℕ) (i cur rem y : ℕ) → i < levels → Partial t levels old new i cur rem → IsLargest (Follows cur (levels - i) rem) y → Partial t levels old (set new i y) (i + 1) y (rem - y)
unfolding Rest
partial_more t levels old new i cur rem y h p l =
    let e : levels - i ≡ suc (levels - (i + 1)) = omega arith in
    let s = p.size in
    let d : IsLargest (Follows cur (suc (levels - (i + 1))) rem) y = rw e at l in
    record {
      size = simp length-set s;
      kept = simp length-set p.kept;
      some = omega arith;
      within = omega arith;
      fits = fits_next cur (levels - (i + 1)) rem y d;
      glue = λ zs g r. let k : suc (length zs) ≡ levels - i = omega arith in rw (add-one i, take-suc-set new i y (omega arith), append_assoc) (p.glue (y ∷ zs) k (rw k l, r));
      others = drop-set-lt levels new i y h ∙ p.others;
    }

pub partial_end : (t levels x : ℕ) (old new : List ℕ) (i cur rem : ℕ) → 0 < levels → levels ≤ i → Partial t levels (set old 0 x) new i cur rem → Filled t levels old new
unfolding Rest high_sum
partial_end t levels x old new i cur rem q h p =
    let w = p.within in
    let e : i ≡ levels = omega arith in
    let z : levels - i ≡ 0 = omega arith in
    let m : rem ≤ high_sum (high cur) 0 = rw z at p.fits.most in
    let g : Counts t levels (take i new ++ []) = p.glue [] (sym z) (omega arith) in
    let k : Counts t levels (take i new) = rw append-nil at g in
    record { counts = subst (λ (n : ℕ). Counts t levels (take n new)) e k; others = p.others ∙ drop-set-lt levels old 0 x q }
