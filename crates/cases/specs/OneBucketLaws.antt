-- Laws of the funnel table in which every level is one bucket: its plan, and its paths, which start with the ordinary slots in order,
-- whatever the seed, the word cap and the identity. Assumes nothing.
use Rattle.std.specs.Prelude.{List, ◌∷◌, ◌++◌, ◌≡◌, length, take, get_or, replicate, Ok}
use Rattle.std.proofs.Common.{append_assoc, sym, ◌∙◌, lit≤}
use Rattle.std.proofs.Math.Path.{refl, ap}
use Prim.Native.Nat.{ℕ, zero, suc, ◌+◌, ◌-◌, ◌*◌, ◌/◌, ◌%◌, ◌≤◌, ◌<◌}
use Rattle.std.proofs.Math.Nat.{dvd_of_mod-eq-zero}
use native.Mathlib.Omega.{arith}
use Rattle.std.proofs.lemmas.List.{length-replicate, get_or-replicate, take-append-le}
use Rattle.std.proofs.Math.ListN.{get_or-append}
use Rattle.words.specs.Log.{first_from, ceil_log2}
use Rattle.words.specs.declared.place.Place.{Place}
use Rattle.words.specs.declared.place.Place.TheVariants as place
use Rattle.geometry.specs.Extreme.{IsLargest}
use Rattle.geometry.specs.Counts.{low_sum, Counts, total}
use Rattle.geometry.specs.Chain.{Steps, Tight}
use Rattle.geometry.specs.ChainLaws.{counts_of_test}
use Rattle.geometry.specs.CountsExist.{low_sum_levels, high_sum_zero}
use Rattle.geometry.specs.Special.{loglog, special_least, special_most, SpecialLength}
use Rattle.geometry.specs.Funnel.{IsPlan}
use Rattle.geometry.specs.FunnelExist.{plan_with, plan_is}
use Rattle.probe.specs.declared.counter.Domain.{Domain}
use Rattle.probe.specs.declared.counter.Domain.TheVariants as domain
use Rattle.probe.specs.Range.{indexed, funnel_draw_of}
use Rattle.probe.specs.RangeLaws.{domain_drawn}
use Rattle.probe.specs.ShiftLaws.{draw_one}
use Rattle.funnel.specs.declared.table.Search.TheVariants as search
use Rattle.funnel.specs.Path.{Path, run, join, level_start, bucket_from, levels_from, primary_from, fallback_of, primary_start, fallback_start, path_of}
use Rattle.funnel.specs.Every.{Every}
use Rattle.funnel.specs.Search.{search_of, table_path, find_of}
use Rattle.funnel.specs.SearchLaws.{Passes, Reached, reached_vacant, reached_hit}
use Rattle.funnel.specs.OneBucket.{plan, counts, table}
use Rattle.cases.specs.OneBucket.{ordinary, ordinaries}

-- ---- the plan

-- as many buckets as levels: one to each
steps : (n : ℕ) → Steps 1 (replicate n 1)
unfolding Steps
steps zero = tt
steps (suc n) = (omega arith, omega arith, steps n)

tight : (n : ℕ) → Tight 1 (replicate n 1)
unfolding Tight
tight zero = tt
tight (suc n) = ((λ h. absurd (omega arith)), tight n)

ones : (n : ℕ) → total (replicate n 1) ≡ n
unfolding total
ones zero = refl
ones (suc n) = let i = ones n in omega arith

one_each : (n : ℕ) → Counts (suc n) (suc n) (replicate (suc n) 1)
unfolding low_sum
one_each n =
    let e = ones n in
    let s = length-replicate {A = ℕ} n 1 in
    counts_of_test (suc n) (suc n) 1 (replicate n 1)
    (record { size = omega arith; steps = steps n; tight = tight n; sums = omega arith; larger = λ h. omega (arith, high_sum_zero (suc n)); smaller = λ h. omega (arith, low_sum_levels 1 n (omega arith)) })

loglog_144 : loglog 144 ≡ 3
unfolding loglog ceil_log2 first_from
loglog_144 = refl

least_144 : special_least 144 3 ≡ 12
unfolding special_least loglog ceil_log2 first_from
least_144 = refl

most_144 : special_most 144 3 ≡ 12
unfolding special_most
most_144 = refl

special_144 : IsLargest (SpecialLength 144 3) 12
special_144 =
    record {
      holds =
          record {
            from = rw least_144 (lit≤ tt);
            to = rw most_144 (lit≤ tt);
            main = dvd_of_mod-eq-zero 6 {n = 132} refl;
            fallback = rw loglog_144 (dvd_of_mod-eq-zero 6 {n = 6} refl);
            some = lit≤ tt;
          };
      above = λ z p. rw most_144 at p.to;
    }

-- "Funnel (144,3): every level one bucket"
pub is_plan_lem : IsPlan 144 3 plan counts
unfolding counts plan_with loglog ceil_log2 first_from
is_plan_lem = plan_is 144 3 12 (record { least = lit≤ tt; most = lit≤ tt; some = lit≤ tt }) (lit≤ tt) special_144 (replicate 22 1 ++ replicate 96 0) (record { is_first = refl; counts = one_each 21; after = refl })

-- every level has one bucket, and so many lie before it
one_bucket : (level : ℕ) → level < 22 → get_or counts level 0 ≡ 1
unfolding counts
one_bucket level h = get_or-append {A = ℕ} (replicate 22 1) (replicate 96 0) 0 level h ∙ get_or-replicate {A = ℕ} 22 level 1 0 h

take_ones : (k n : ℕ) → k ≤ n → take {A = ℕ} k (replicate n 1) ≡ replicate k 1
take_ones zero n h = refl
take_ones (suc k) zero h = absurd (omega arith)
take_ones (suc k) (suc n) h = ap (λ (l : List ℕ). 1 ∷ l) (take_ones k n (omega arith))

level_start_lem : (level : ℕ) → level ≤ 22 → level_start plan counts level ≡ level * 6
unfolding counts
level_start_lem level h = rw (take-append-le {A = ℕ} level (replicate 22 1) (replicate 96 0) h, take_ones level 22 h, ones level)

-- ---- draws

-- of one value no word is rejected, and the index is 0
funnel_one : (seed identity : ℕ) (d : Domain) (probe cap : ℕ) → 0 < cap → funnel_draw_of seed identity d probe 1 cap ≡ Ok (indexed 0 1)
unfolding funnel_draw_of
funnel_one seed identity d probe cap h = domain_drawn _ _ d probe 1 cap 0 1 (draw_one _ _ _ cap h)

-- ---- the ordinary places

ordinaries_length : (from k : ℕ) → length (ordinaries from k) ≡ k
unfolding ordinaries
ordinaries_length from zero = refl
ordinaries_length from (suc k) = ap suc (ordinaries_length (suc from) k)

ordinaries_append : (from j k : ℕ) → ordinaries from j ++ ordinaries (from + j) k ≡ ordinaries from (j + k)
unfolding ordinaries
ordinaries_append from zero k = let z : from + 0 ≡ from = omega arith in let y : 0 + k ≡ k = omega arith in rw (z, y)
ordinaries_append from (suc j) k =
    let z : from + suc j ≡ suc from + j = omega arith in
    let y : suc j + k ≡ suc (j + k) = omega arith in
    rw (z, y) (ap (λ (l : List Place). ordinary from ∷ l) (ordinaries_append (suc from) j k))

-- one of them, with those before and after it
ordinaries_at : (k n : ℕ) → k < n → ordinaries 0 n ≡ ordinaries 0 k ++ (ordinary k ∷ ordinaries (suc k) (n - suc k))
unfolding ordinaries
ordinaries_at k n h =
    let e : n ≡ k + suc (n - suc k) = omega arith in
    let z : 0 + k ≡ k = omega arith in
    ap (ordinaries 0) e ∙ sym (ordinaries_append 0 k (suc (n - suc k))) ∙ rw z

ordinaries_every : (P : Place → Type 0) (from k : ℕ) → ((j : ℕ) → j < from + k → P (ordinary j)) → Every P (ordinaries from k)
unfolding ordinaries Every
ordinaries_every P from zero h = tt
ordinaries_every P from (suc k) h = (h from (omega arith), ordinaries_every P (suc from) k (λ j l. h j (omega arith)))

bucket_ordinary : (level i w : ℕ) → i + w ≤ 6 → bucket_from level 0 (level * 6) i w ≡ ordinaries (level * 6 + i) w
unfolding bucket_from ordinaries
bucket_ordinary level i zero h = refl
bucket_ordinary level i (suc w) h =
    let q : (level * 6 + i) / 6 ≡ level = omega arith in
    let r : (level * 6 + i) % 6 ≡ i = omega arith in
    let s : level * 6 + suc i ≡ suc (level * 6 + i) = omega arith in
    rw (q, r) (ap (λ (l : List Place). place.Ordinary level 0 i (record { 0 = level * 6 + i }) ∷ l) (bucket_ordinary level (suc i) w (omega arith) ∙ ap (λ (k : ℕ). ordinaries k w) s))

-- ---- the path

module _ (seed cap identity : ℕ) (some : 0 < cap) where
  -- no draw of a level is refused: its places are all its slots, in order
  levels_ordinary : (level levels : ℕ) → level + levels ≡ 22 → levels_from plan counts seed cap identity level levels ≡ run (ordinaries (level * 6) (levels * 6))
  unfolding levels_from join ordinaries
  levels_ordinary level zero h = refl
  levels_ordinary level (suc levels) h =
      let z : level * 6 + 0 ≡ level * 6 = omega arith in
      let n : suc level * 6 ≡ level * 6 + 6 = omega arith in
      let m : suc levels * 6 ≡ 6 + levels * 6 = omega arith in
      let b : bucket_from level 0 (level * 6) 0 6 ≡ ordinaries (level * 6) 6 = bucket_ordinary level 0 6 (omega arith) ∙ ap (λ (k : ℕ). ordinaries k 6) z in
      rw (one_bucket level (omega arith), funnel_one seed identity (domain.Ordinary level) 0 cap some, level_start_lem level (omega arith), levels_ordinary (suc level) levels (omega arith), n, m, z, b)
      (ap run (ordinaries_append (level * 6) 6 (levels * 6)))

  -- what follows the ordinary places
  abbrev specials : Path
  specials = join (primary_from plan (primary_start plan counts) seed cap identity 0 3) (fallback_of plan (fallback_start plan counts) seed cap identity)

  path_ordinary : (path_of plan counts seed cap identity).places ≡ ordinaries 0 132 ++ specials.places
  unfolding path_of join
  path_ordinary = rw (levels_ordinary 0 22 refl)

  -- a search that passes the slots before an ordinary slot reaches this
  module _ (count : ℕ) (words flags : List ℕ) (k : ℕ) (within : k < 132) (before : (j : ℕ) → j < k → Passes words flags identity (ordinary j)) where
    reaches : Reached words flags identity (table_path (table seed cap count) counts identity).places 0 (k + 1) (ordinary k)
    reaches =
        record {
          passed = ordinaries 0 k;
          rest = ordinaries (suc k) (132 - suc k) ++ specials.places;
          whole = path_ordinary ∙ rw (ordinaries_at k 132 within) (append_assoc (ordinaries 0 k) (ordinary k ∷ ordinaries (suc k) (132 - suc k)) specials.places);
          others = ordinaries_every (Passes words flags identity) 0 k (λ j l. before j (omega arith));
          probes = omega (arith, ordinaries_length 0 k);
        }

    pub find_vacant : get_or flags k 0 ≡ 0 → find_of (table seed cap count) counts words flags identity ≡ search.Vacant (k + 1) (ordinary k)
    unfolding find_of search_of
    find_vacant v = reached_vacant words flags identity _ _ 0 (k + 1) (ordinary k) reaches v

    pub find_hit : (get_or flags k 0 ≡ 0 → ⊥) → get_or words k 0 ≡ identity → find_of (table seed cap count) counts words flags identity ≡ search.Hit (k + 1) (ordinary k)
    unfolding find_of search_of
    find_hit v w = reached_hit words flags identity _ _ 0 (k + 1) (ordinary k) reaches v w
