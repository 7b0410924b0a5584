-- Laws of where a search stops, as loops use them. Assumes nothing.
use Rattle.std.specs.Prelude.{List, ◌≡◌, ℕ, ◌+◌, ◌-◌, ◌*◌, ◌≤◌, ◌<◌, ◌^◌, get_or, Ok}
use Rattle.std.proofs.Math.Path.{refl, ap, sym, subst}
use Rattle.std.proofs.Common.{◌∙◌, zero-mul, mul-le-mul_left}
use native.Mathlib.Omega.{arith}
use Rattle.geometry.specs.FunnelLaws.{plan_facts}
use Rattle.probe.specs.RangeLaws.{domain_drawn}
use Rattle.probe.specs.declared.counter.Domain.TheVariants as domain
use Rattle.probe.specs.declared.word.FunnelKey.{FunnelKey}
use Rattle.probe.specs.Range.{indexed}
use Rattle.funnel.specs.declared.table.FunnelTable.{FunnelTable}
use Rattle.funnel.specs.declared.table.Halt.{Halt}
use Rattle.funnel.specs.declared.table.Halt.TheVariants as halt
use Rattle.funnel.specs.declared.table.Search.{Search}
use Rattle.funnel.specs.declared.table.Search.TheVariants as search
use Rattle.funnel.specs.declared.table.Stop.{Stop}
use Rattle.funnel.specs.declared.table.Stop.TheVariants as stop
use Rattle.funnel.specs.declared.table.Walk.{Walk}
use Rattle.funnel.specs.declared.table.Walk.TheVariants as walk
use Rattle.funnel.specs.Path.{Path, run, bucket_from, level_start}
use Rattle.funnel.specs.Search.{search_of, find_of}
use Rattle.funnel.specs.SearchLaws.{resume}
use Rattle.funnel.specs.StageLaws.{BucketLeft, bucket_none, bucket_vacant, bucket_hit, bucket_more, bucket_end, drew, LevelsLeft, levels_on, levels_none, levels_found, levels_end}
use Rattle.funnel.specs.FindLaws.{levels_part, find_levels}
use Rattle.funnel.specs.PlanLaws.{level_none, level_room, bucket_room}
use Rattle.funnel.specs.Valid.{Valid, Keyed}
use Rattle.funnel.specs.Stop.{HitAt, VacantAt, StopsAt, BucketStops, halt_of, Inside, Halts, HaltedIn, WalksTo, FirstAhead}

-- a search that stopped has stopped for good
pub stops_resume : (words flags : List ℕ) (identity : ℕ) (q : Path) (r : Stop) (found : Search) (P Q : Type 0) → (r ≡ stop.Nowhere → Q)
    → StopsAt r found P → StopsAt r (resume words flags identity q found) Q
unfolding StopsAt resume
stops_resume words flags identity q (stop.Hit slot) found P Q n h = record { probes = h.probes; place = h.place; is = rw h.is; there = h.there }
stops_resume words flags identity q (stop.Vacant slot) found P Q n h = record { probes = h.probes; place = h.place; is = rw h.is; there = h.there }
stops_resume words flags identity q stop.Nowhere found P Q n h = n refl

-- what a stop at a slot says of the search
module _ (r : Stop) (found : Search) (P : Type 0) (h : StopsAt r found P) (slot : ℕ) where
  pub stopped_hit : r ≡ stop.Hit slot → HitAt slot found
  unfolding StopsAt
  stopped_hit e = subst (λ (x : Stop). StopsAt x found P) e h

  pub stopped_vacant : r ≡ stop.Vacant slot → VacantAt slot found
  unfolding StopsAt
  stopped_vacant e = subst (λ (x : Stop). StopsAt x found P) e h

-- ---- a bucket, of which no slot before the i-th stops the search

module _ (words flags : List ℕ) (identity from w : ℕ) where
  pub record Passing (i : ℕ) : Type 0 where
    pub left : (level bucket k : ℕ) → BucketLeft words flags identity level bucket from w k i

  pub passing_none : Passing 0
  passing_none = record { left = λ level bucket k. bucket_none words flags identity level bucket from w k }

  module _ {i : ℕ} (p : Passing i) where
    module _ (h : i < w) (slot : ℕ) (s : slot ≡ from + i) where
      pub passing_vacant : get_or flags slot 0 ≡ 0 → Halts words flags identity from w (halt.Vacant i)
      unfolding halt_of Inside
      passing_vacant v = record { inside = h; says = λ level bucket k. sym (bucket_vacant (p.left level bucket k) h (rw (← s) v)) }

      module _ (n : get_or flags slot 0 ≡ 0 → ⊥) where
        pub passing_hit : get_or words slot 0 ≡ identity → Halts words flags identity from w (halt.Hit i)
        unfolding halt_of Inside
        passing_hit e = record { inside = h; says = λ level bucket k. sym (bucket_hit (p.left level bucket k) h (rw (← s) n) (rw (← s) e)) }

        pub passing_more : (get_or words slot 0 ≡ identity → ⊥) → Passing (i + 1)
        passing_more e = record { left = λ level bucket k. bucket_more (p.left level bucket k) h (rw (← s) n) (rw (← s) e) }

    pub passing_end : i ≡ w → Halts words flags identity from w halt.Nowhere
    unfolding halt_of Inside
    passing_end e = record { inside = tt; says = λ level bucket k. sym (bucket_end (p.left level bucket k) e) }

  -- two slots more, as a loop that takes two a turn counts them
  pub passing_two : (i : ℕ) → Passing (i + 1 + 1) → Passing (i + 2)
  passing_two i p = let e : i + 2 ≡ i + 1 + 1 = omega arith in rw e p

  -- the same by the slot
  module _ (r : Halt) (h : Halts words flags identity from w r) where
    pub halts_hit : (i : ℕ) → r ≡ halt.Hit i → BucketStops words flags identity from w (stop.Hit (from + i))
    unfolding StopsAt halt_of
    halts_hit i e level bucket k = record { probes = _; place = _; is = h.says level bucket k ∙ ap (halt_of level bucket from w k) e; there = refl }

    pub halts_vacant : (i : ℕ) → r ≡ halt.Vacant i → BucketStops words flags identity from w (stop.Vacant (from + i))
    unfolding StopsAt halt_of
    halts_vacant i e level bucket k = record { probes = _; place = _; is = h.says level bucket k ∙ ap (halt_of level bucket from w k) e; there = refl }

    pub halts_nowhere : r ≡ halt.Nowhere → BucketStops words flags identity from w stop.Nowhere
    unfolding StopsAt halt_of
    halts_nowhere e level bucket k = h.says level bucket k ∙ ap (halt_of level bucket from w k) e

-- the index where a bucket of w slots halts a search
module _ (w : ℕ) (r : Halt) (h : Inside w r) (i : ℕ) where
  pub inside_hit : r ≡ halt.Hit i → i < w
  unfolding Inside
  inside_hit e = subst (Inside w) e h

  pub inside_vacant : r ≡ halt.Vacant i → i < w
  unfolding Inside
  inside_vacant e = subst (Inside w) e h

-- ---- the levels, of which none before the given one stops the search

pub levels_few : {table : FunnelTable} {counts words flags : List ℕ} → Valid table counts words flags → table.plan.alpha * table.plan.beta ≤ 6372
levels_few {table} valid =
    let f = plan_facts valid.planned in
    let m : table.plan.alpha * table.plan.beta ≤ table.plan.alpha * 54 = mul-le-mul_left table.plan.alpha (omega arith) in
    omega arith

module _ (table : FunnelTable) (counts words flags : List ℕ) (identity : ℕ) (key : FunnelKey) where
  pub record LevelsPassed (level start bucket : ℕ) : Type 0 where
    pub within : level ≤ table.plan.alpha
    pub starts : start ≡ level_start table.plan counts level
    pub left : LevelsLeft table.plan counts words flags table.seed table.word_cap identity level (level * table.plan.beta)
    pub ahead : FirstAhead key counts table.plan.alpha level bucket

  pub passed_none : (bucket : ℕ) → FirstAhead key counts table.plan.alpha 0 bucket → LevelsPassed 0 0 bucket
  passed_none bucket a =
      record {
        within = omega arith;
        starts = level_none table.plan counts;
        left = rw (zero-mul table.plan.beta) (levels_none table.plan counts words flags table.seed table.word_cap identity);
        ahead = a;
      }

  module _ (valid : Valid table counts words flags) (keyed : Keyed table.seed identity key) {level start bucket : ℕ} (p : LevelsPassed level start bucket)
      (h : level < table.plan.alpha) (b : bucket < get_or counts level 0) where
    -- the bucket's slots, within the ordinary part
    pub passed_room : start + bucket * table.plan.beta + table.plan.beta ≤ table.n - table.plan.special_len
    passed_room = rw p.starts (bucket_room valid.planned level bucket h b)

    abbrev found : Search
    found = search_of words flags identity (run (bucket_from level bucket (start + bucket * table.plan.beta) 0 table.plan.beta)) (level * table.plan.beta)

    passed_found : search_of words flags identity (levels_part table counts words flags identity) 0
        ≡ resume words flags identity (levels_on table.plan counts words flags table.seed table.word_cap identity (level + 1)) found
    passed_found =
        levels_found table.plan counts words flags table.seed table.word_cap identity p.left (indexed bucket 1) start found h p.starts
        (drew keyed (domain.Ordinary level) 0 (get_or counts level 0) table.word_cap _ (Ok (indexed bucket 1)) refl
        (domain_drawn _ _ (domain.Ordinary level) 0 (get_or counts level 0) table.word_cap bucket 1 ((p.ahead.ahead h).first b table.word_cap valid.cap_least)))
        refl

    -- where a bucket stops the search, it stops for good
    pub passed_stops : (r : Stop) → BucketStops words flags identity (start + bucket * table.plan.beta) table.plan.beta r
        → StopsAt r (find_of table counts words flags identity) (Unit {0})
    passed_stops r s =
        let whole = search_of words flags identity (levels_part table counts words flags identity) 0 in
        let a = stops_resume words flags identity (levels_on table.plan counts words flags table.seed table.word_cap identity (level + 1)) r found _ (Unit {0}) (λ z. tt) (s level bucket (level * table.plan.beta)) in
        let b : StopsAt r whole (Unit {0}) = subst (λ (x : Search). StopsAt r x (Unit {0})) (sym passed_found) a in
        subst (λ (x : Search). StopsAt r x (Unit {0})) (sym (find_levels table counts words flags identity whole refl))
        (stops_resume words flags identity _ r whole _ (Unit {0}) (λ z. tt) b)

    -- where it does not, the next level is looked at
    pub passed_more : (next : ℕ) → BucketStops words flags identity (start + bucket * table.plan.beta) table.plan.beta stop.Nowhere
        → FirstAhead key counts table.plan.alpha (level + 1) next → LevelsPassed (level + 1) (start + get_or counts level 0 * table.plan.beta) next
    unfolding StopsAt resume
    passed_more next s a =
        let r = level_room valid.planned level h in
        let f : found ≡ search.Full (level * table.plan.beta + table.plan.beta) = s level bucket (level * table.plan.beta) in
        let e : (level + 1) * table.plan.beta ≡ level * table.plan.beta + table.plan.beta = omega arith in
        record {
          within = omega arith;
          starts = rw p.starts (sym r.next);
          left = record { left = rw e (passed_found ∙ ap (resume words flags identity _) f) };
          ahead = a;
        }

    -- what a walk over the levels says where a bucket halts it
    module _ (r : Halt) (s : Halts words flags identity (start + bucket * table.plan.beta) table.plan.beta r) (i : ℕ) where
      walks_found : search_of words flags identity (levels_part table counts words flags identity) 0
          ≡ resume words flags identity (levels_on table.plan counts words flags table.seed table.word_cap identity (level + 1))
          (halt_of level bucket (start + bucket * table.plan.beta) table.plan.beta (level * table.plan.beta) r)
      walks_found = passed_found ∙ ap (resume words flags identity _) (s.says level bucket (level * table.plan.beta))

      walks_slots : start + bucket * table.plan.beta + table.plan.beta < 2 ^ 64
      walks_slots = let f = plan_facts valid.planned in let l = passed_room in omega arith

      walks_probes : level * table.plan.beta + table.plan.beta < 2 ^ 64
      walks_probes =
          let f = plan_facts valid.planned in
          let m : level * table.plan.beta ≤ level * 54 = mul-le-mul_left level (omega arith) in
          omega arith

      pub walks_hit : r ≡ halt.Hit i
          → WalksTo table.plan.alpha table.plan.beta (walk.Hit level bucket (start + bucket * table.plan.beta) i)
          (search_of words flags identity (levels_part table counts words flags identity) 0)
      unfolding resume halt_of WalksTo
      walks_hit e = record { inside = subst (Inside table.plan.beta) e s.inside; slots = walks_slots; probes = walks_probes; is = walks_found ∙ rw e }

      pub walks_vacant : r ≡ halt.Vacant i
          → WalksTo table.plan.alpha table.plan.beta (walk.Vacant level bucket (start + bucket * table.plan.beta) i)
          (search_of words flags identity (levels_part table counts words flags identity) 0)
      unfolding resume halt_of WalksTo
      walks_vacant e = record { inside = subst (Inside table.plan.beta) e s.inside; slots = walks_slots; probes = walks_probes; is = walks_found ∙ rw e }

  -- past the levels, each of their slots has been read
  pub walks_past : {level start bucket : ℕ} → LevelsPassed level start bucket → table.plan.alpha ≤ level
      → WalksTo table.plan.alpha table.plan.beta walk.Past (search_of words flags identity (levels_part table counts words flags identity) 0)
  unfolding WalksTo
  walks_past {level} p h =
      let e : level ≡ table.plan.alpha = omega (arith, p.within) in
      sym (levels_end table.plan counts words flags table.seed table.word_cap identity p.left h)
      ∙ ap (λ (x : ℕ). search.Full (x * table.plan.beta)) e

-- what a walk over the levels says of the whole search
module _ (table : FunnelTable) (counts words flags : List ℕ) (identity : ℕ) (r : Walk)
    (w : WalksTo table.plan.alpha table.plan.beta r (search_of words flags identity (levels_part table counts words flags identity) 0)) where
  abbrev levels : Search
  levels = search_of words flags identity (levels_part table counts words flags identity) 0

  module _ (level bucket from i : ℕ) where
    pub walked_hit : r ≡ walk.Hit level bucket from i → HaltedIn table.plan.beta level bucket from (halt.Hit i) levels
    unfolding WalksTo
    walked_hit e = subst (λ (x : Walk). WalksTo table.plan.alpha table.plan.beta x levels) e w

    pub walked_vacant : r ≡ walk.Vacant level bucket from i → HaltedIn table.plan.beta level bucket from (halt.Vacant i) levels
    unfolding WalksTo
    walked_vacant e = subst (λ (x : Walk). WalksTo table.plan.alpha table.plan.beta x levels) e w

    -- a bucket that halts the search along the levels halts the whole search
    pub found_hit : (found : Search) → found ≡ halt_of level bucket from table.plan.beta (level * table.plan.beta) (halt.Hit i) → r ≡ walk.Hit level bucket from i
        → found ≡ find_of table counts words flags identity
    unfolding resume halt_of
    found_hit found f e = f ∙ sym (find_levels table counts words flags identity _ (sym (walked_hit e).is))

    pub found_vacant : (found : Search) → found ≡ halt_of level bucket from table.plan.beta (level * table.plan.beta) (halt.Vacant i) → r ≡ walk.Vacant level bucket from i
        → found ≡ find_of table counts words flags identity
    unfolding resume halt_of
    found_vacant found f e = f ∙ sym (find_levels table counts words flags identity _ (sym (walked_vacant e).is))

  pub walked_past : r ≡ walk.Past → levels ≡ search.Full (table.plan.alpha * table.plan.beta)
  unfolding WalksTo
  walked_past e = subst (λ (x : Walk). WalksTo table.plan.alpha table.plan.beta x levels) e w
