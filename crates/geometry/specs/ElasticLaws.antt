-- Laws of the elastic layout. Assumes nothing.
use Rattle.std.specs.Prelude.{Ok, Err, ◌≡◌, refl, List, [], ◌∷◌, ◌++◌, length, take, Bool, true, false, eqb, ltb}
use Rattle.std.proofs.Math.Path.{ap, sym}
use Rattle.std.proofs.Common.{◌∙◌, pow-suc, div-le_self, le-div_iff_mul-le, lt_of_not-le, mul-le-mul_left, mul_comm, add-mul, div-lt_iff_lt-mul, pow_mono, eq-eqb, ne_eqb, eqb-true, lt-ltb, le-ltb, ltb-true, ltb-false}
use Prim.Native.Nat.{ℕ, zero, suc, ◌+◌, ◌-◌, ◌*◌, ◌/◌, ◌^◌, ◌≤◌, ◌<◌, min}
use native.Mathlib.Omega.{arith}
use Rattle.std.proofs.Math.Nat.{pow-zero, div-div-eq-div-mul, mul-div-le, zero-div}
use Rattle.std.proofs.Math.ListN.{get_or}
use Rattle.std.proofs.Math.Pow.{pow_pos}
use Rattle.std.specs.Int.Count.{count_leading_zeros}
use Rattle.words.specs.Log.{ceil_log2, first_from, CeilLog2}
use Rattle.words.specs.Pick.{pick}
use Rattle.words.specs.LogLaws.{log_leading, log_computed}
use Rattle.geometry.specs.Config.{Configured, config_gate, maximum}
use Rattle.refusal.specs.declared.Gate.{Gate}
use Rattle.geometry.specs.declared.elastic.ElasticPlan.{ElasticPlan}
use Rattle.geometry.specs.Elastic.{is_plan_of, both, batch_from, batch_of, IsBatch, laid, lay_by, elastic_plan_of, level_length, split, levels_of, lengths_of, ceil_three_quarters, next_length, next_quota, later_quotas, uncut_quotas, cut, quotas_of, padded, total, length_at, offset_at}

-- ---- examples: the table of 8 slots at e 1, and the smallest

ex_lengths : lengths_of 8 ≡ 4 ∷ 2 ∷ 2 ∷ []
unfolding lengths_of split level_length ceil_log2 first_from
ex_lengths = refl

ex_quotas : quotas_of 8 1 ≡ 3 ∷ 1 ∷ 0 ∷ []
unfolding quotas_of lengths_of split level_length ceil_log2 first_from uncut_quotas later_quotas cut
ex_quotas = refl

ex_two : lengths_of 2 ≡ 2 ∷ []
unfolding lengths_of split level_length ceil_log2 first_from
ex_two = refl

-- ---- lengths

pub split_length : (k r : ℕ) → length (split k r) ≡ k
unfolding split
split_length zero r = refl
split_length (suc k) r = ap suc (split_length k (r - level_length k r))

-- a level takes no more than remains
pub level_most : (k r : ℕ) → level_length k r ≤ r
unfolding level_length
level_most zero r = omega arith
level_most (suc k) r = omega arith

pub split_total : (k r : ℕ) → total (split (suc k) r) ≡ r
unfolding split total level_length
split_total zero r = omega arith
split_total (suc k) r = let i = split_total k (r - (r - r / 2)) in omega arith

halved : (r : ℕ) → r - (r - r / 2) ≡ r / 2
halved r = omega arith

halved_again : (r k : ℕ) → r / 2 / 2 ^ k ≡ r / 2 ^ suc k
halved_again r k = div-div-eq-div-mul r 2 (2 ^ k) ∙ ap (λ (d : ℕ). r / d) (omega (arith, pow-suc 2 k))

-- what the levels before level k take: all but n / 2 ^ k
pub split_offset : (m r k : ℕ) → k ≤ m → total (take k (split (suc m) r)) ≡ r - r / 2 ^ k
unfolding split total level_length
split_offset m r zero h = omega (arith, pow-zero 2)
split_offset zero r (suc k) h = absurd (omega arith)
split_offset (suc m) r (suc k) h =
    let i : total (take k (split (suc m) (r / 2))) ≡ r / 2 - r / 2 / 2 ^ k = split_offset m (r / 2) k (omega arith) in
    let l : r / 2 / 2 ^ k ≤ r / 2 = div-le_self (r / 2) (2 ^ k) in
    rw (halved r, i, ← halved_again r k) (omega arith)

-- level k has its share of the n / 2 ^ k that remain
pub split_at_level : (m r k : ℕ) → k ≤ m → get_or (split (suc m) r) k 0 ≡ level_length (m - k) (r / 2 ^ k)
unfolding split level_length
split_at_level m r zero h = let z : r / 2 ^ 0 ≡ r = omega (arith, pow-zero 2) in let s : m - 0 ≡ m = omega arith in rw (z, s)
split_at_level zero r (suc k) h = absurd (omega arith)
split_at_level (suc m) r (suc k) h =
    let s : m - k ≡ suc m - suc k = omega arith in
    ap (λ (x : ℕ). get_or (split (suc m) x) k 0) (halved r)
    ∙ split_at_level m (r / 2) k (omega arith)
    ∙ ap (level_length (m - k)) (halved_again r k)
    ∙ ap (λ (x : ℕ). level_length x (r / 2 ^ suc k)) s

-- ---- a table's levels

-- the number of levels: the least whose power of two covers n
pub levels_log : (n e : ℕ) → Configured n e → CeilLog2 n (levels_of n)
levels_log n e s =
    let back : n - 1 + 1 ≡ n = omega arith in
    let c : CeilLog2 n (64 - count_leading_zeros 64 (n - 1)) = rw back at (log_leading (n - 1) (omega arith)) in
    rw (← log_computed n _ (omega arith) c) c

-- what callers use of the number of levels
pub record Levels (n : ℕ) : Type 0 where
  pub some : 0 < levels_of n
  pub few : levels_of n ≤ 32
  pub last_from : 2 ^ (levels_of n - 1) < n
  pub last_to : n ≤ 2 * 2 ^ (levels_of n - 1)

pub levels_facts : (n e : ℕ) → Configured n e → Levels n
levels_facts n e s = let g = go (levels_of n) (levels_log n e s) in record { some = g.0; few = g.1; last_from = g.2; last_to = g.3 }
  where
    go : (k : ℕ) → CeilLog2 n k → (0 < k) × (k ≤ 32) × (2 ^ (k - 1) < n) × (n ≤ 2 * 2 ^ (k - 1))
    go zero c = absurd (omega (arith, c.covers, pow-zero 2))
    go (suc k) c =
        let e : suc k - 1 ≡ k = omega arith in
        rw e (omega arith, c.least 32 s.most, lt_of_not-le (λ h. absurd (omega (arith, c.least k h))), omega (arith, c.covers, pow-suc 2 k))

module _ (n e : ℕ) (s : Configured n e) where
  one_more : suc (levels_of n - 1) ≡ levels_of n
  one_more = let l = (levels_facts n e s).some in omega arith

  pub lengths_length : length (lengths_of n) ≡ levels_of n
  unfolding lengths_of
  lengths_length = split_length (levels_of n) n

  pub lengths_total : total (lengths_of n) ≡ n
  unfolding lengths_of
  lengths_total = rw (← one_more) (split_total (levels_of n - 1) n)

  module _ (k : ℕ) (h : k < levels_of n) where
    -- the first slot of a level
    pub offset_at_lem : offset_at n k ≡ n - n / 2 ^ k
    unfolding lengths_of
    offset_at_lem = ap (λ (m : ℕ). total (take k (split m n))) (sym one_more) ∙ split_offset (levels_of n - 1) n k (omega arith)

    -- the length of a level
    pub length_at_lem : length_at n k ≡ level_length (levels_of n - 1 - k) (n / 2 ^ k)
    unfolding lengths_of
    length_at_lem = ap (λ (m : ℕ). get_or (split m n) k 0) (sym one_more) ∙ split_at_level (levels_of n - 1) n k (omega arith)

    -- something remains at each level
    rest_pos : 0 < n / 2 ^ k
    rest_pos = (le-div_iff_mul-le (pow_pos k)).1 (let q : k ≤ levels_of n - 1 = omega arith in let p = pow_mono q in omega (arith, (levels_facts n e s).last_from))

    rest_most : n / 2 ^ k ≤ n
    rest_most = div-le_self n (2 ^ k)

    -- what callers use of a level: it is not empty, and lies within the table
    pub length_pos : 0 < length_at n k
    unfolding level_length
    length_pos = rw length_at_lem (go (levels_of n - 1 - k) (n / 2 ^ k) rest_pos)
      where
        go : (m r : ℕ) → 0 < r → 0 < level_length m r
        go zero r p = p
        go (suc m) r p = omega arith

    pub length_small : length_at n k < 4294967296
    unfolding level_length
    length_small = rw length_at_lem (go (levels_of n - 1 - k) refl)
      where
        go : (m : ℕ) → levels_of n - 1 - k ≡ m → level_length m (n / 2 ^ k) < 4294967296
        go zero q =
            let f = levels_facts n e s in
            let d : k ≡ levels_of n - 1 = omega arith in
            let l : n / 2 ^ (levels_of n - 1) < 4294967296 = (div-lt_iff_lt-mul (pow_pos (levels_of n - 1))).1 (omega (arith, f.last_to, pow_pos (levels_of n - 1))) in
            rw d l
        go (suc m) q = omega (arith, rest_most, rest_pos)

    pub level_within : offset_at n k + length_at n k ≤ n
    level_within = rw (offset_at_lem, length_at_lem) (omega (arith, rest_most, level_most (levels_of n - 1 - k) (n / 2 ^ k)))

-- ---- quotas

-- a cut gives all that it can
pub cut_total : (left : ℕ) (qs : List ℕ) → total (cut left qs) ≡ min (total qs) left
unfolding cut total
cut_total left [] = omega arith
cut_total left (q ∷ qs) = let i = cut_total (left - min q left) qs in omega arith

div_smaller : (x c d : ℕ) → 0 < c → c ≤ d → x / d ≤ x / c
div_smaller x c d p h =
    let m : x / d * c ≤ x / d * d = mul-le-mul_left (x / d) h in
    (le-div_iff_mul-le p).1 (omega (arith, mul-div-le x d, mul_comm d (x / d)))

div_sum : (a b d : ℕ) → 0 < d → a / d + b / d ≤ (a + b) / d
div_sum a b d p =
    let m = add-mul (a / d) (b / d) d in
    (le-div_iff_mul-le p).1 (omega (arith, mul-div-le a d, mul-div-le b d, mul_comm d (a / d), mul_comm d (b / d)))

pub reserve_quarter : (e x : ℕ) → 0 < e → x / 2 ^ (e + 1) ≤ x / 4
reserve_quarter e x h = div_smaller x 4 (2 ^ (e + 1)) (omega arith) (let l : 2 ≤ e + 1 = omega arith in let p = pow_mono l in omega arith)

chain_step : (r l h u v w c d t : ℕ) → l + h ≡ r → u + v ≤ w → c + u ≤ l → h - v ≤ d + t → r - w ≤ c + (l - u - c + d + t)
chain_step r l h u v w c d t a b f g = omega arith

-- the quotas of the levels come to all of the slots but a reserve, where the last level is short
quotas_chain : (e k r : ℕ) → 0 < e → r < 4 * 2 ^ k
    → r - r / 2 ^ (e + 1) ≤ ceil_three_quarters (level_length k r) + total (later_quotas e (level_length k r) (split k (r - level_length k r)))
unfolding level_length split later_quotas total
quotas_chain e zero r p h = omega (arith, pow-zero 2)
quotas_chain e (suc k) r p h =
    let i = quotas_chain e k (r / 2) p (omega (arith, pow-suc 2 k)) in
    let d = div_sum (r - r / 2) (r / 2) (2 ^ (e + 1)) (pow_pos (e + 1)) in
    let q = reserve_quarter e (r - r / 2) p in
    let s : r - r / 2 + r / 2 ≡ r = omega arith in
    let t : (r - r / 2) / 2 ^ (e + 1) + r / 2 / 2 ^ (e + 1) ≤ r / 2 ^ (e + 1) = rw s at d in
    rw (halved r) (chain_step r (r - r / 2) (r / 2) _ _ _ (ceil_three_quarters (r - r / 2)) _ _ s t (omega (arith, q)) i)

pub quotas_total : (n e : ℕ) → Configured n e → total (quotas_of n e) ≡ maximum n e
unfolding quotas_of lengths_of uncut_quotas split total
quotas_total n e s = cut_total (maximum n e) (uncut_quotas e (lengths_of n)) ∙ omega (arith, enough (levels_of n) refl)
  where
    fine : n / 2 ^ (e + 1) ≤ n / 2 ^ e
    fine = div_smaller n (2 ^ e) (2 ^ (e + 1)) (pow_pos e) (let l : e ≤ e + 1 = omega arith in pow_mono l)

    enough : (k : ℕ) → levels_of n ≡ k → maximum n e ≤ total (uncut_quotas e (split k n))
    enough zero h = let l = (levels_facts n e s).some in absurd (omega arith)
    enough (suc k) h =
        let p : levels_of n - 1 ≡ k = omega arith in
        let m : n ≤ 2 * 2 ^ k = rw p at (levels_facts n e s).last_to in
        let c = quotas_chain e k n s.some (omega (arith, pow_pos k)) in
        omega (arith, fine)

cut_length : (left : ℕ) (qs : List ℕ) → length (cut left qs) ≡ length qs
unfolding cut
cut_length left [] = refl
cut_length left (q ∷ qs) = ap suc (cut_length (left - min q left) qs)

later_length : (e before : ℕ) (ls : List ℕ) → length (later_quotas e before ls) ≡ length ls
unfolding later_quotas
later_length e before [] = refl
later_length e before (l ∷ ls) = ap suc (later_length e l ls)

-- the first quota is a later one after a level of no slots
pub uncut_later : (e : ℕ) (ls : List ℕ) → uncut_quotas e ls ≡ later_quotas e 0 ls
unfolding uncut_quotas later_quotas
uncut_later e [] = refl
uncut_later e (l ∷ ls) = let z : 0 / 2 ^ (e + 1) ≡ 0 = zero-div (2 ^ (e + 1)) in rw z (ap (λ (q : ℕ). q ∷ later_quotas e l ls) (omega arith))

-- a quota for each level
pub quotas_length : (n e : ℕ) → length (quotas_of n e) ≡ levels_of n
unfolding quotas_of lengths_of
quotas_length n e = cut_length _ (uncut_quotas e (split (levels_of n) n)) ∙ ap length (uncut_later e (split (levels_of n) n)) ∙ later_length e 0 (split (levels_of n) n) ∙ split_length (levels_of n) n

-- ---- prefix sums

pub total_append : (xs ys : List ℕ) → total (xs ++ ys) ≡ total xs + total ys
unfolding total
total_append [] ys = omega arith
total_append (x ∷ xs) ys = let i = total_append xs ys in omega arith

pub total_take : (k : ℕ) (xs : List ℕ) → total (take k xs) ≤ total xs
unfolding total
total_take zero xs = omega arith
total_take (suc k) [] = omega arith
total_take (suc k) (x ∷ xs) = let i = total_take k xs in omega arith

pub total_take_step : (k : ℕ) (xs : List ℕ) → total (take (suc k) xs) ≡ total (take k xs) + get_or xs k 0
unfolding total
total_take_step zero [] = refl
total_take_step zero (x ∷ xs) = omega arith
total_take_step (suc k) [] = refl
total_take_step (suc k) (x ∷ xs) = let i = total_take_step k xs in omega arith

pub prefix_mono : (k l : ℕ) (xs : List ℕ) → k ≤ l → total (take k xs) ≤ total (take l xs)
unfolding total
prefix_mono zero l xs h = omega arith
prefix_mono (suc k) zero xs h = absurd (omega arith)
prefix_mono (suc k) (suc l) [] h = omega arith
prefix_mono (suc k) (suc l) (x ∷ xs) h = let i = prefix_mono k l xs (omega arith) in omega arith

-- ---- lists in arrays

pub padded_length : (k : ℕ) (xs : List ℕ) → length (padded k xs) ≡ k
unfolding padded
padded_length zero xs = refl
padded_length (suc k) [] = ap suc (padded_length k [])
padded_length (suc k) (x ∷ xs) = ap suc (padded_length k xs)

pub padded_at : (k : ℕ) (xs : List ℕ) (i : ℕ) → i < k → get_or (padded k xs) i 0 ≡ get_or xs i 0
unfolding padded
padded_at zero xs i h = absurd (omega arith)
padded_at (suc k) [] zero h = refl
padded_at (suc k) (x ∷ xs) zero h = refl
padded_at (suc k) [] (suc i) h = padded_at k [] i (omega arith)
padded_at (suc k) (x ∷ xs) (suc i) h = padded_at k xs i (omega arith)

-- one entry more, as a loop makes it
pub padded_length_step : (k left rest : ℕ) → padded (suc k) (split left rest) ≡ next_length left rest ∷ padded k (split (left - 1) (rest - next_length left rest))
unfolding padded split next_length
padded_length_step k zero rest = refl
padded_length_step k (suc left) rest = let s : suc left - 1 ≡ left = omega arith in rw s

pub padded_quota_step : (k left e before rest spare : ℕ)
    → padded (suc k) (cut spare (later_quotas e before (split left rest)))
    ≡ next_quota left e before (next_length left rest) spare
    ∷ padded k (cut (spare - next_quota left e before (next_length left rest) spare) (later_quotas e (next_length left rest) (split (left - 1) (rest - next_length left rest))))
unfolding padded split next_length next_quota later_quotas cut
padded_quota_step k zero e before rest spare = refl
padded_quota_step k (suc left) e before rest spare = let s : suc left - 1 ≡ left = omega arith in rw s

-- one batch more, as a loop makes it
pub quota_step : (left e before rest spare : ℕ) → 0 < left
    → cut spare (later_quotas e before (split left rest))
    ≡ next_quota left e before (next_length left rest) spare
    ∷ cut (spare - next_quota left e before (next_length left rest) spare) (later_quotas e (next_length left rest) (split (left - 1) (rest - next_length left rest)))
unfolding split next_length next_quota later_quotas cut
quota_step zero e before rest spare h = absurd (omega arith)
quota_step (suc left) e before rest spare h = let s : suc left - 1 ≡ left = omega arith in rw s

-- ---- the numbers of the next level

pub next_length_most : (left rest : ℕ) → next_length left rest ≤ rest
unfolding next_length
next_length_most zero rest = omega arith
next_length_most (suc left) rest = level_most left rest

pub next_quota_most : (left e before new spare : ℕ) → next_quota left e before new spare ≤ spare
unfolding next_quota
next_quota_most zero e before new spare = omega arith
next_quota_most (suc left) e before new spare = omega arith

-- the same of a number that equals it
pub length_fits : (left rest l : ℕ) → l ≡ next_length left rest → l ≤ rest
length_fits left rest l e = rw e (next_length_most left rest)

pub quota_fits : (left e before new spare q : ℕ) → q ≡ next_quota left e before new spare → q ≤ spare
quota_fits left e before new spare q h = rw h (next_quota_most left e before new spare)

pub next_length_none : (left rest : ℕ) → left ≤ 0 → 0 ≡ next_length left rest
unfolding next_length
next_length_none zero rest h = refl
next_length_none (suc left) rest h = absurd (omega arith)

pub next_length_last : (left rest : ℕ) → left ≡ 1 → rest ≡ next_length left rest
unfolding next_length level_length
next_length_last left rest h = rw h

pub next_length_half : (left rest : ℕ) → 1 < left → rest - rest / 2 ≡ next_length left rest
unfolding next_length level_length
next_length_half zero rest h = absurd (omega arith)
next_length_half (suc zero) rest h = absurd (omega arith)
next_length_half (suc (suc left)) rest h = refl

pub next_quota_none : (left e before new spare : ℕ) → left ≤ 0 → 0 ≡ next_quota left e before new spare
unfolding next_quota
next_quota_none zero e before new spare h = refl
next_quota_none (suc left) e before new spare h = absurd (omega arith)

pub next_quota_some : (left e before new spare : ℕ) {u c d r : ℕ} → 0 < left → u ≡ before / 2 ^ (e + 1) → c ≡ ceil_three_quarters before → d ≡ ceil_three_quarters new
    → r ≡ min (before - u - c + d) spare → r ≡ next_quota left e before new spare
unfolding next_quota
next_quota_some zero e before new spare h a b g q = absurd (omega arith)
next_quota_some (suc left) e before new spare h a b g q = rw (← a, ← b, ← g) q

-- the length of a level, by what remains
pub level_half : (after rest r : ℕ) → r ≡ rest → 0 < after → r - r / 2 ≡ level_length after rest
unfolding level_length
level_half zero rest r e h = absurd (omega arith)
level_half (suc after) rest r e h = rw e

pub level_rest : (after rest r : ℕ) → r ≡ rest → after ≤ 0 → r ≡ level_length after rest
unfolding level_length
level_rest zero rest r e h = e
level_rest (suc after) rest r e h = absurd (omega arith)

-- ---- the plan test

module _ (n e : ℕ) (p : ElasticPlan) {k : ℕ} (is : k ≡ levels_of n) where
  pub plan_other_levels : (p.levels ≡ k → ⊥) → false ≡ is_plan_of n e p
  unfolding is_plan_of
  plan_other_levels h = rw (ne_eqb p.levels (levels_of n) (λ q. h (q ∙ sym is)))

  pub plan_same_levels : p.levels ≡ k → {m : ℕ} → m ≡ maximum n e → eqb p.maximum m ≡ is_plan_of n e p
  unfolding is_plan_of
  plan_same_levels h q = rw (eq-eqb p.levels (levels_of n) (h ∙ is), q)

-- ---- the plan

module _ (n e : ℕ) (ls qs : List ℕ) where
  pub lay_refused : (g : Gate) → config_gate n e ≡ Err g → laid (Err g) ls qs ≡ elastic_plan_of n e ls qs
  unfolding elastic_plan_of lay_by
  lay_refused g h = rw h

  pub lay_plan : (levels most : ℕ) (ls' qs' : List ℕ) → config_gate n e ≡ Ok tt → levels ≡ levels_of n → most ≡ maximum n e
      → ls' ≡ padded 32 (split levels n) → qs' ≡ padded 32 (cut most (later_quotas e 0 (split levels n)))
      → laid (Ok (record { levels = levels; maximum = most })) ls' qs' ≡ elastic_plan_of n e ls qs
  unfolding elastic_plan_of lay_by lengths_of quotas_of
  lay_plan levels most ls' qs' h a b f g = rw (h, f, g, a, b, uncut_later e (split (levels_of n) n))

-- what the test says of a plan
pub plan_facts : (n e : ℕ) (p : ElasticPlan) → is_plan_of n e p ≡ true → (p.levels ≡ levels_of n) × (p.maximum ≡ maximum n e)
unfolding is_plan_of
plan_facts n e p h = go (eqb p.levels (levels_of n)) refl (eqb p.maximum (maximum n e)) refl h
  where
    go : (x : Bool) → eqb p.levels (levels_of n) ≡ x → (y : Bool) → eqb p.maximum (maximum n e) ≡ y → both x y ≡ true → (p.levels ≡ levels_of n) × (p.maximum ≡ maximum n e)
    go true a true b k = (eqb-true _ _ a, eqb-true _ _ b)
    go true a false b k = let z : ◌≡◌ {A = ℕ} 0 1 = cc in absurd (omega arith)
    go false a y b k = let z : ◌≡◌ {A = ℕ} 0 1 = cc in absurd (omega arith)

-- ---- batches

module _ (b count q : ℕ) (qs : List ℕ) where
  pub batch_here : count < q → batch_from b count (q ∷ qs) ≡ b
  unfolding batch_from
  batch_here h = rw (lt-ltb count q h)

  pub batch_later : q ≤ count → batch_from b count (q ∷ qs) ≡ batch_from (b + 1) (count - q) qs
  unfolding batch_from
  batch_later h = rw (le-ltb count q h)

-- with a count below the sum of the quotas there is such a batch
batch_found : (b count : ℕ) (qs : List ℕ) → count < total qs → (k : ℕ) × (batch_from b count qs ≡ b + k) × (k < length qs) × IsBatch qs count k
unfolding batch_from total
batch_found b count [] h = absurd (omega arith)
batch_found b count (q ∷ qs) h = go (ltb count q) refl (λ l. batch_found (b + 1) (count - q) qs (omega (arith, l)))
  where
    go : (x : Bool) → ltb count q ≡ x → (q ≤ count → (k : ℕ) × (batch_from (b + 1) (count - q) qs ≡ b + 1 + k) × (k < length qs) × IsBatch qs (count - q) k)
        → (k : ℕ) × (pick x b (batch_from (b + 1) (count - q) qs) ≡ b + k) × (k < suc (length qs)) × IsBatch (q ∷ qs) count k
    go true e r = let l = ltb-true count q e in (0, omega arith, omega arith, record { exceeds = omega arith; first = λ j g. absurd (omega arith) })
    go false e r =
        let l = ltb-false count q e in
        let i = r l in
        (suc i.0, omega (arith, i.1), omega (arith, i.2), record { exceeds = let x = i.3.exceeds in omega arith; first = λ j g. before j g })
      where
        before : (j : ℕ) → j < suc (r (ltb-false count q e)).0 → total (take (suc j) (q ∷ qs)) ≤ count
        before zero g = let l = ltb-false count q e in omega arith
        before (suc j) g = let l = ltb-false count q e in let f = (r l).3.first j (omega arith) in omega arith

pub batch_is : (n e : ℕ) → Configured n e → (count : ℕ) → count < maximum n e → IsBatch (quotas_of n e) count (batch_of n e count) × (batch_of n e count < levels_of n)
unfolding batch_of
batch_is n e s count h =
    let f = batch_found 0 count (quotas_of n e) (omega (arith, quotas_total n e s)) in
    let same : batch_from 0 count (quotas_of n e) ≡ f.0 = omega (arith, f.1) in
    (rw same f.3, omega (arith, same, f.2, quotas_length n e))
