-- Laws of the query: the walk over all positions is that over the mapped ones, node by node. Assumes nothing.
use Rattle.std.specs.Prelude.{Bool, true, false, List, ◌≡◌, refl, eqb, length, Ok, Err}
use Rattle.std.proofs.Common.{ap, ◌∙◌, pow-suc, mul-le-mul_left, pow_mono, le-leb}
use Rattle.std.proofs.Math.Path.{sym}
use Prim.Native.Nat.{ℕ, zero, suc, ◌+◌, ◌*◌, ◌-◌, ◌/◌, ◌^◌, ◌≤◌, ◌<◌}
use Rattle.std.proofs.Math.Nat.{pow-zero, zero-add, lt_of_not-le}
use native.Mathlib.Omega.{arith}
use Rattle.std.proofs.Math.Decide.{dec_le}
use Rattle.std.proofs.lemmas.Bool.{lt-leb}
use Rattle.refusal.specs.declared.RangeRefusal.{RangeRefusal}
use Rattle.refusal.specs.declared.Gate.{Gate}
use Rattle.words.specs.Pick.{pick}
use Rattle.geometry.specs.ElasticLaws.{levels_facts}
use Rattle.elastic_probe.specs.Length.{bits_of, length_in}
use Rattle.elastic_probe.specs.LengthLaws.{Top}
use Rattle.elastic_probe.specs.Phi.{pairs, gap, at, start, coords_of}
use Rattle.elastic_probe.specs.OrderLaws.{pairs_mono}
use Rattle.elastic_probe.specs.PhiLaws.{top_half, top_zero}
use Rattle.elastic_probe.specs.TreeLaws.{Node, node_mapped, node_empty, node_root, node_pos, Next}
use Rattle.probe.specs.Word.{elastic_key_of}
use Rattle.elastic.specs.declared.state.State.{State}
use Rattle.elastic.specs.State.{gate_of, Valid}
use Rattle.elastic.specs.Reading.{read_slot, Routed, reading_of, holds_at, Probed}
use Rattle.std.proofs.Common.{Continue, Break}
use Rattle.elastic_query.specs.declared.query.QueryRefusal.TheVariants as refusal
use Rattle.elastic_query.specs.Query.{QueryAnswer, within, walk_of, positions_of, look_of, query_of}
use Rattle.elastic_query.specs.QuerySteps.{from, cost, Scan, charged, Missed, Fine, Scanned, Queried, Scanning, Visiting, end_of}

-- ---- the walk, position by position

one_gap : coords_of 1 ≡ gap
unfolding coords_of start bits_of length_in
one_gap = refl

two_gap : coords_of 2 ≡ gap
unfolding coords_of start bits_of length_in
two_gap = refl

pub charged_most : (i j words c : ℕ) → c ≡ charged i j words → c ≤ words
unfolding charged
charged_most i j words c e = rw e (go (eqb (i - 1 + (j - 1)) 0))
  where
    go : (x : Bool) → pick x 0 words ≤ words
    go true = omega arith
    go false = omega arith

same : (x : Bool) → pick x true true ≡ true
same true = refl
same false = refl

module _ (route : ℕ → ℕ → Routed) (holds : ℕ → Bool) (levels cap : ℕ) where
  pub from_end : (p m w : ℕ) → cap < p → from route holds levels cap p m w ≡ Err refusal.Absent
  unfolding from walk_of
  from_end p m w h = let e : cap + 1 - p ≡ 0 = omega arith in rw e

  one_more : (p : ℕ) → p ≤ cap → cap + 1 - p ≡ suc (cap + 1 - (p + 1))
  one_more p h = omega arith

  -- level 0 probe 0 is not where the identity is
  module _ (miss : Missed route holds 0 0) where
    from_gap : (p m w : ℕ) → m < p → within levels (coords_of p) ≡ gap → from route holds levels cap p m w ≡ from route holds levels cap (p + 1) m w
    unfolding from walk_of
    from_gap p m w h e = go (dec_le p cap)
      where
        go : Dec (p ≤ cap) → from route holds levels cap p m w ≡ from route holds levels cap (p + 1) m w
        go (no f) = let l = lt_of_not-le f in from_end p m w l ∙ sym (from_end (p + 1) m w (omega arith))
        go (yes l) =
            let g : p - 1 - m + 1 ≡ p + 1 - 1 - m = omega arith in
            let z : w + 0 ≡ w = omega arith in
            rw (one_more p l, e, miss.is, miss.other, g, z)

    -- c gaps
    from_gaps : (c p m w : ℕ) → m < p → ((y : ℕ) → y < c → within levels (coords_of (p + y)) ≡ gap) → from route holds levels cap p m w ≡ from route holds levels cap (p + c) m w
    from_gaps zero p m w h e = let z : p + 0 ≡ p = omega arith in rw z
    from_gaps (suc c) p m w h e =
        let z : p + 0 ≡ p = omega arith in
        let first : within levels (coords_of p) ≡ gap = rw z at (e 0 (omega arith)) in
        let s : p + 1 + c ≡ p + suc c = omega arith in
        let more : (y : ℕ) → y < c → within levels (coords_of (p + 1 + y)) ≡ gap =
        λ y l. let q : p + 1 + y ≡ p + suc y = omega arith in rw q (e (suc y) (omega arith)) in
        from_gap p m w h first ∙ from_gaps c (p + 1) m w (omega arith) more ∙ ap (λ (n : ℕ). from route holds levels cap n m w) s

  -- a mapped position
  module _ (p m w i j : ℕ) (l : p ≤ cap) (h : m < p) (e : within levels (coords_of p) ≡ at i j) where
    from_refused : (r : RangeRefusal) → route (i - 1) (j - 1) ≡ Err r → from route holds levels cap p m w ≡ Err (refusal.Range r)
    unfolding from walk_of
    from_refused r n = rw (one_more p l, e, n)

    module _ (slot words : ℕ) (is : route (i - 1) (j - 1) ≡ Ok (read_slot slot words)) where
      from_miss : holds slot ≡ false → from route holds levels cap p m w ≡ from route holds levels cap (p + 1) (m + 1) (w + charged i j words)
      unfolding from walk_of charged
      from_miss n =
          let g : p - 1 - m ≡ p + 1 - 1 - (m + 1) = omega arith in
          rw (one_more p l, e, is, n, same (eqb (i - 1 + (j - 1)) 0), g)

      from_hit : holds slot ≡ true
          → from route holds levels cap p m w ≡ Ok (record { position = p; global_slot = record { 0 = slot }; mapped = m + 1; gap = p - (m + 1); words = w + charged i j words })
      unfolding from walk_of charged
      from_hit n =
          let g : p - 1 - m ≡ p - (m + 1) = omega arith in
          rw (one_more p l, e, is, n, g)

  -- a visit of a mapped position
  module _ (p i j m w : ℕ) (v : Visiting levels cap p i j m w) where
    pub visit_refused : (r : RangeRefusal) → route (i - 1) (j - 1) ≡ Err r
        → Scanned (from route holds levels cap p m w) (Break (Err (refusal.Range r))) (λ m w. from route holds levels cap (p + 1) m w) (p + 1)
    visit_refused r n = record { same = from_refused p m w i j v.near v.fine.few v.is r n; fine = tt }

    module _ (slot words extra : ℕ) (is : route (i - 1) (j - 1) ≡ Ok (read_slot slot words)) (x : extra ≡ charged i j words) where
      pub visit_hit : holds slot ≡ true
          → Scanned (from route holds levels cap p m w)
          (Break (Ok (record { position = p; global_slot = record { 0 = slot }; mapped = m + 1; gap = p - (m + 1); words = w + extra })))
          (λ m w. from route holds levels cap (p + 1) m w)
          (p + 1)
      visit_hit n = record { same = rw x (from_hit p m w i j v.near v.fine.few v.is slot words is n); fine = tt }

      pub visit_miss : extra ≤ 8 → holds slot ≡ false
          → Scanned (from route holds levels cap p m w) (Continue (cost (m + 1) (w + extra))) (λ m w. from route holds levels cap (p + 1) m w) (p + 1)
      visit_miss few n =
          let f = v.fine in
          record {
            same = rw x (from_miss p m w i j v.near v.fine.few v.is slot words is n);
            fine = record { few = omega (arith, f.few); low = let o = f.low in omega arith };
          }

  -- the first position is a gap
  module _ (l : 0 < cap) where
    positive : cap ≡ suc (cap - 1)
    positive = omega arith

    pub first_refused : (r : RangeRefusal) → route 0 0 ≡ Err r → Err (refusal.Range r) ≡ positions_of route holds levels cap
    unfolding positions_of walk_of
    first_refused r n = sym (rw (positive, one_gap, n))

    module _ (slot words : ℕ) (is : route 0 0 ≡ Ok (read_slot slot words)) where
      pub first_hit : holds slot ≡ true
          → Ok (record { position = 1; global_slot = record { 0 = slot }; mapped = 0; gap = 1; words = words }) ≡ positions_of route holds levels cap
      unfolding positions_of walk_of
      first_hit n = sym (rw (positive, one_gap, is, n, zero-add words))

      first_on : holds slot ≡ false → positions_of route holds levels cap ≡ from route holds levels cap 2 0 words
      unfolding positions_of walk_of from
      first_on n =
          let d : suc (cap - 1) + 1 - 2 ≡ cap - 1 = omega arith in
          rw (positive, one_gap, is, n, zero-add words, d)

      -- and so is the second
      pub first_miss : (x : QueryAnswer) → holds slot ≡ false → x ≡ from route holds levels cap 3 0 words → x ≡ positions_of route holds levels cap
      first_miss x n e =
          let m : Missed route holds 0 0 = record { slot = slot; words = words; is = is; other = n } in
          e ∙ sym (first_on n ∙ from_gap m 2 0 words (omega arith) (ap (within levels) two_gap))

  -- ---- along a node

  module _ (b j q : ℕ) (n : Node b j q) where
    has_i : (i : ℕ) → q / 4 ≤ i → i < 2 * (q / 4) → i ≤ levels → within levels (coords_of (b + i)) ≡ at i j
    has_i i lo hi l = rw (node_mapped b j q n i (omega arith) lo hi, le-leb i levels l)

    module _ (miss : Missed route holds 0 0) where
      along_front : (m w : ℕ) → m < b → from route holds levels cap b m w ≡ from route holds levels cap (b + q / 4) m w
      along_front m w h = from_gaps miss (q / 4) b m w h (λ y l. ap (within levels) (node_empty b j q n y l))

      along_rest : (i m w : ℕ) → q / 4 ≤ i → i ≤ 2 * (q / 4) → levels < i → m < b + i → from route holds levels cap (b + i) m w ≡ from route holds levels cap (b + 2 * (q / 4)) m w
      along_rest i m w lo hi l h =
          let d : b + i + (2 * (q / 4) - i) ≡ b + 2 * (q / 4) = omega arith in
          from_gaps miss (2 * (q / 4) - i) (b + i) m w h
          (λ y u.
          let s : b + i + y ≡ b + (i + y) = omega arith in
          let v : coords_of (b + i + y) ≡ at (i + y) j = rw s (node_mapped b j q n (i + y) (omega arith) (omega arith) (omega arith)) in
          ap (within levels) v ∙ rw (lt-leb (i + y) levels (omega arith)))
          ∙ ap (λ (x : ℕ). from route holds levels cap x m w) d

  along_next : (e b j q m w : ℕ) → Missed route holds 0 0 → Next e b j q → m < e → from route holds levels cap e m w ≡ from route holds levels cap b m w
  along_next e b j q m w miss n h =
      let d : e + (b - e) ≡ b = omega (arith, n.on) in
      from_gaps miss (b - e) e m w h (λ y u. ap (within levels) (n.gaps (e + y) (omega arith) (omega (arith, n.on))))
      ∙ ap (λ (x : ℕ). from route holds levels cap x m w) d

-- ---- the probes of positions up to the largest cap

pairs_from_lem : (t j : ℕ) → Top j t → 3 * 4 ^ t ≤ pairs (suc t) j
unfolding pairs
pairs_from_lem zero j p = let e = top_zero j p in rw e (omega (arith, pow-zero 4))
pairs_from_lem (suc t) j p = omega (arith, pairs_from_lem t (j / 2) (top_half j t p), pow-suc 4 t)

four_mono : (a b : ℕ) → a ≤ b → 4 ^ a ≤ 4 ^ b
four_mono a b h = go a b h
  where
    go : (a b : ℕ) → a ≤ b → 4 ^ a ≤ 4 ^ b
    go zero zero h = omega arith
    go zero (suc b) h = omega (arith, go zero b (omega arith), pow-suc 4 b)
    go (suc a) zero h = absurd (omega arith)
    go (suc a) (suc b) h = omega (arith, go a b (omega arith), pow-suc 4 a, pow-suc 4 b)

-- "984,263,340 is phi(1, 8193) - 1": a later probe's pairs come to more
late_pairs : (t j : ℕ) → Top j t → 8192 < j → 246065835 ≤ pairs (suc t) j
unfolding pairs
late_pairs t j p h = go (dec_le 14 t) (dec_le t 12)
  where
    at_13 : t ≡ 13 → 246065835 ≤ pairs (suc t) j
    at_13 e =
        let b : j < 2 * 2 ^ 13 = rw e at p.below in
        rw e (by (dec_le j 8193) b)
      where
        by : Dec (j ≤ 8193) → j < 2 * 2 ^ 13 → 246065835 ≤ pairs 14 j
        by (yes l) b = let s : j ≡ 8193 = omega arith in rw s (omega arith)
        by (no l) b = let g : 8193 < j = lt_of_not-le l in let m : pairs 14 8193 < pairs 14 j = pairs_mono 14 8193 j g (omega arith) in omega (arith, m)

    go : Dec (14 ≤ t) → Dec (t ≤ 12) → 246065835 ≤ pairs (suc t) j
    go (yes l) d = omega (arith, pairs_from_lem t j p, four_mono 14 t l)
    go (no l) (yes m) = absurd (omega (arith, p.below, pow_mono m))
    go (no l) (no m) = let u = lt_of_not-le l in let v = lt_of_not-le m in at_13 (omega arith)

pub node_probe : (b j q : ℕ) → Node b j q → 4 ≤ q → b < 984263340 → j ≤ 8192
node_probe b j q n four h = go (dec_le j 8192)
  where
    go : Dec (j ≤ 8192) → j ≤ 8192
    go (yes l) = l
    go (no l) =
        let p = late_pairs n.t j n.top (lt_of_not-le l) in
        let m : pairs (suc n.t) j * 4 ≤ pairs (suc n.t) j * 2 ^ n.r = mul-le-mul_left (pairs (suc n.t) j) (omega (arith, n.size)) in
        absurd (omega (arith, n.is))

-- ---- a scan of a node, as a loop makes it

-- the walk from the node's start is that from where i is tried
pub record Going (route : ℕ → ℕ → Routed) (holds : ℕ → Bool) (levels cap b q m₀ w₀ i m w : ℕ) : Type 0 where
  pub same : from route holds levels cap b m₀ w₀ ≡ from route holds levels cap (b + i) m w
  pub lo : q / 4 ≤ i
  pub hi : i ≤ 2 * (q / 4)
  pub fine : Fine (b + i) m w

module _ (route : ℕ → ℕ → Routed) (holds : ℕ → Bool) (levels cap b j q m₀ w₀ : ℕ) (n : Node b j q) where
  pub going_start : Missed route holds 0 0 → Fine b m₀ w₀ → Going route holds levels cap b q m₀ w₀ (q / 4) m₀ w₀
  going_start miss f =
      record {
        same = along_front route holds levels cap b j q n miss m₀ w₀ f.few;
        lo = omega arith;
        hi = omega arith;
        fine = record { few = omega (arith, f.few); low = omega (arith, f.low) };
      }

  module _ (i m w : ℕ) (g : Going route holds levels cap b q m₀ w₀ i m w) where
    pub going_end : Missed route holds 0 0 → end_of levels cap b q ≤ i → b ≤ cap
        → Scanned (from route holds levels cap b m₀ w₀) (Continue (cost m w)) (λ m w. from route holds levels cap (b + 2 * (q / 4)) m w) (b + 2 * (q / 4))
    going_end miss l near =
        let u = g.hi in
        let f = g.fine in
        record {
          same = g.same ∙ go (dec_le (2 * (q / 4)) i) (dec_le i levels);
          fine = record { few = omega (arith, f.few); low = omega (arith, f.low) };
        }
      where
        go : Dec (2 * (q / 4) ≤ i) → Dec (i ≤ levels) → from route holds levels cap (b + i) m w ≡ from route holds levels cap (b + 2 * (q / 4)) m w
        go (yes a) d = ap (λ (x : ℕ). from route holds levels cap x m w) (omega (arith, g.hi))
        go (no a) (no d) =
            let v = lt_of_not-le d in
            along_rest route holds levels cap b j q n miss i m w g.lo g.hi v g.fine.few
        go (no a) (yes d) =
            let v = lt_of_not-le a in
            from_end route holds levels cap (b + i) m w (omega arith)
            ∙ sym (from_end route holds levels cap (b + 2 * (q / 4)) m w (omega arith))

-- a visit of the position where i is tried
module _ {route : ℕ → ℕ → Routed} {holds : ℕ → Bool} {levels cap b q m₀ w₀ i m w : ℕ} (g : Going route holds levels cap b q m₀ w₀ i m w) (r : Scan)
    (z : Scanned (from route holds levels cap (b + i) m w) r (λ m w. from route holds levels cap (b + i + 1) m w) (b + i + 1))
  where
    pub going_ends : (a : QueryAnswer) → r ≡ Break a
        → Scanned (from route holds levels cap b m₀ w₀) (Break a) (λ m w. from route holds levels cap (b + 2 * (q / 4)) m w) (b + 2 * (q / 4))
    going_ends a e = record { same = g.same ∙ z.same ∙ rw e; fine = tt }

    pub going_on : (x y : ℕ) → r ≡ Continue (cost x y) → i < 2 * (q / 4) → Going route holds levels cap b q m₀ w₀ (i + 1) x y
    going_on x y e hi =
        let s : b + i + 1 ≡ b + (i + 1) = omega arith in
        let f : Fine (b + i + 1) x y = rw e at z.fine in
        let d : from route holds levels cap (b + i) m w ≡ from route holds levels cap (b + i + 1) x y = z.same ∙ rw e in
        record {
          same = g.same ∙ d ∙ ap (λ (p : ℕ). from route holds levels cap p x y) s;
          lo = omega (arith, g.lo);
          hi = omega arith;
          fine = record { few = omega (arith, f.few); low = omega (arith, f.low) };
        }

-- a level and a probe that a mapped position has, in a table that can be queried
pub queried_probed : {n last word_cap cap words flags : ℕ} → Queried n last word_cap cap words flags → (level : ℕ) → level ≤ last → Probed n last word_cap level
queried_probed k level h = record { least = k.least; most = k.most; last_is = k.last_is; has = h; few = k.few }

-- the loop's invariant
pub record Turn (route : ℕ → ℕ → Routed) (holds : ℕ → Bool) (levels cap b q m₀ w₀ end i m w : ℕ) : Type 0 where
  pub going : Going route holds levels cap b q m₀ w₀ i m w
  pub stop : end ≡ end_of levels cap b q

module _ {route : ℕ → ℕ → Routed} {holds : ℕ → Bool} {levels cap b q m₀ w₀ end i m w : ℕ} (t : Turn route holds levels cap b q m₀ w₀ end i m w) (l : i < end) where
  pub turn_below : i < 2 * (q / 4)
  turn_below = let s = t.stop in omega arith

  pub turn_visiting : {j : ℕ} → Scanning route holds cap b j q m₀ w₀ → cap ≤ 984263340 → Visiting levels cap (b + i) i j m w
  turn_visiting {j} k far =
      let s = t.stop in
      let lo = t.going.lo in
      let near = k.near in
      let four : 4 ≤ q = omega arith in
      record {
        is = has_i route holds levels cap b j q k.node i lo (omega arith) (omega arith);
        level_pos = omega arith;
        level = omega arith;
        probe_pos = node_pos b j q k.node;
        probe = node_probe b j q k.node four (omega arith);
        near = omega arith;
        fine = t.going.fine;
      }

-- ---- the walk from node to node, as a loop makes it

pub record Walked (route : ℕ → ℕ → Routed) (holds : ℕ → Bool) (levels cap spent b j q m w : ℕ) : Type 0 where
  pub rest : from route holds levels cap 3 0 spent ≡ from route holds levels cap b m w
  pub node : Node b j q
  pub fine : Fine b m w

module _ (route : ℕ → ℕ → Routed) (holds : ℕ → Bool) (levels cap spent : ℕ) where
  pub walked_start : spent ≤ 8 → Walked route holds levels cap spent 3 1 1 0 spent
  walked_start h = record { rest = refl; node = node_root 0; fine = record { few = omega arith; low = omega arith } }

  module _ (b j q m w : ℕ) (k : Walked route holds levels cap spent b j q m w) where
    pub walked_end : cap < b → Err refusal.Absent ≡ from route holds levels cap 3 0 spent
    walked_end l = sym (k.rest ∙ from_end route holds levels cap b m w l)

    pub walked_scanning : Missed route holds 0 0 → b ≤ cap → Scanning route holds cap b j q m w
    walked_scanning miss l = record { node = k.node; miss = miss; near = l; fine = k.fine }

    module _ (r : Scan) (z : Scanned (from route holds levels cap b m w) r (λ m w. from route holds levels cap (b + 2 * (q / 4)) m w) (b + 2 * (q / 4))) where
      pub walked_ends : (a : QueryAnswer) → r ≡ Break a → a ≡ from route holds levels cap 3 0 spent
      walked_ends a e = sym (k.rest ∙ z.same ∙ rw e)

      pub walked_on : (x y b' j' q' : ℕ) → Missed route holds 0 0 → r ≡ Continue (cost x y) → Next (b + 2 * (q / 4)) b' j' q' → Walked route holds levels cap spent b' j' q' x y
      walked_on x y b' j' q' miss e n =
          let f : Fine (b + 2 * (q / 4)) x y = rw e at z.fine in
          let d : from route holds levels cap b m w ≡ from route holds levels cap (b + 2 * (q / 4)) x y = z.same ∙ rw e in
          record {
            rest = k.rest ∙ d ∙ along_next route holds levels cap (b + 2 * (q / 4)) b' j' q' x y miss n f.few;
            node = n.node;
            fine = record { few = omega (arith, f.few, n.on); low = omega (arith, f.low, n.on) };
          }

-- ---- the query

-- a table whose tests pass can be queried
module _ {st : State} {cs : List ℕ} {words flags : ℕ} (v : Valid st cs words flags) where
  pub valid_levels : 1 ≤ st.plan.levels
  valid_levels = omega (arith, v.levels_is, (levels_facts st.n st.e v.config).some)

  pub valid_queried : Queried st.n (st.plan.levels - 1) st.limits.range_word_cap st.limits.hit_query_position_cap words flags × (0 < st.limits.hit_query_position_cap)
  valid_queried =
      let f = levels_facts st.n st.e v.config in (
        record {
          least = v.config.least;
          most = v.config.most;
          last_is = omega (arith, v.levels_is, f.some);
          short = omega (arith, v.levels_is, f.some, f.few);
          few = v.limits.words_most;
          near = v.limits.position_most;
          words_size = v.words_size;
          flags_size = v.flags_size;
        },
        v.limits.position_some,
      )

module _ (st : State) (cs ws fs : List ℕ) (id : ℕ) where
  pub query_gate : (g : Gate) → gate_of st cs (length ws) (length fs) ≡ Err g → Err (refusal.Gate g) ≡ query_of st cs ws fs id
  unfolding query_of
  query_gate g h = sym (rw h)

  pub query_look : (x : QueryAnswer) → gate_of st cs (length ws) (length fs) ≡ Ok tt → x ≡ look_of st ws fs id → x ≡ query_of st cs ws fs id
  unfolding query_of
  query_look x h w = w ∙ sym (rw h)

-- the walk by the key and the number of levels that the code has
pub look_is : (st : State) (ws fs : List ℕ) (id key levels : ℕ) (x : QueryAnswer) → key ≡ elastic_key_of st.seed id → levels ≡ st.plan.levels
    → x ≡ positions_of (reading_of st.n key st.limits.range_word_cap) (holds_at ws fs id) levels st.limits.hit_query_position_cap → x ≡ look_of st ws fs id
look_is st ws fs id key levels x a b w = w ∙ rw (a, b)
