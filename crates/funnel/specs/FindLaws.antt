-- The three stages of a search put together. Assumes nothing.
use Rattle.std.specs.Prelude.{List, ◌≡◌, ℕ, ◌+◌, ◌*◌, ◌-◌, ◌≤◌, length}
use Rattle.std.proofs.Common.{◌∙◌, mul-le-mul_left, arith}
use Rattle.std.proofs.Math.Path.{sym}
use Rattle.geometry.specs.FunnelLaws.{plan_facts}
use Rattle.funnel.specs.declared.table.FunnelTable.{FunnelTable}
use Rattle.funnel.specs.declared.table.Search.{Search}
use Rattle.funnel.specs.declared.table.Search.TheVariants.{Full}
use Rattle.funnel.specs.Path.{Path, join, levels_from, primary_from, fallback_of, path_of, primary_start, fallback_start}
use Rattle.funnel.specs.PathLaws.{levels_length, primary_length}
use Rattle.funnel.specs.PlanLaws.{primary_start_lem}
use Rattle.funnel.specs.Search.{search_of, find_of}
use Rattle.funnel.specs.SearchLaws.{resume, search_join, search_full}
use Rattle.funnel.specs.Valid.{Valid, SpecialRoom}

-- room for the special slots, with some probes made before
module _ {table : FunnelTable} {counts words flags : List ℕ} (valid : Valid table counts words flags) (j : ℕ) (few : j ≤ 4294967296) where
  pub primary_room_of : SpecialRoom table (table.n - table.plan.special_len) table.plan.special_primary_len (length words) (length flags) j
  primary_room_of =
      let f = plan_facts valid.planned in
      record {
        within = omega arith;
        same = omega arith;
        small = omega arith;
        cap = omega arith;
        primary = omega arith;
        fallback = omega arith;
        loglog = omega arith;
        width = omega arith;
        before = omega arith;
      }

  pub fallback_room_of : SpecialRoom table (table.n - table.plan.special_len + table.plan.special_primary_len)
      (table.plan.fallback_bucket_count * table.plan.fallback_bucket_width) (length words) (length flags) j
  fallback_room_of =
      let f = plan_facts valid.planned in
      record {
        within = omega arith;
        same = omega arith;
        small = omega arith;
        cap = omega arith;
        primary = omega arith;
        fallback = omega arith;
        loglog = omega arith;
        width = omega arith;
        before = omega arith;
      }

module _ (table : FunnelTable) (counts words flags : List ℕ) (identity : ℕ) where
  abbrev pub levels_part : Path
  levels_part = levels_from table.plan counts table.seed table.word_cap identity 0 table.plan.alpha

  abbrev pub primary_part : ℕ → Path
  primary_part start = primary_from table.plan start table.seed table.word_cap identity 0 table.plan.loglog_ceiling

  abbrev pub fallback_part : ℕ → Path
  fallback_part start = fallback_of table.plan start table.seed table.word_cap identity

  module _ (r : Search) (is-r : r ≡ search_of words flags identity levels_part 0) where
    pub find_levels : find_of table counts words flags identity
        ≡ resume words flags identity (join (primary_part (primary_start table.plan counts)) (fallback_part (fallback_start table.plan counts))) r
    unfolding find_of path_of
    find_levels = rw is-r (search_join words flags identity levels_part _ 0)

    module _ (valid : Valid table counts words flags) (j : ℕ) (past : r ≡ Full j) where
      levels_most : j ≤ 6372
      levels_most =
          let f = plan_facts valid.planned in
          let l = levels_length table.plan counts table.seed table.word_cap identity 0 table.plan.alpha in
          let m : table.plan.alpha * table.plan.beta ≤ table.plan.alpha * 54 = mul-le-mul_left table.plan.alpha (omega arith) in
          omega (arith, search_full words flags identity levels_part 0 j (sym is-r ∙ past))

      pub primary_ready : SpecialRoom table (table.n - table.plan.special_len) table.plan.special_primary_len (length words) (length flags) j
      primary_ready = let m = levels_most in primary_room_of valid j (omega arith)

      module _ (q : Search) (is-q : q ≡ search_of words flags identity (primary_part (table.n - table.plan.special_len)) j) where
        pub find_primary : find_of table counts words flags identity ≡ resume words flags identity (fallback_part (fallback_start table.plan counts)) q
        unfolding resume
        find_primary =
            find_levels
            ∙ rw (past, is-q, ← primary_start_lem valid.planned) (search_join words flags identity (primary_part (primary_start table.plan counts)) (fallback_part (fallback_start table.plan counts)) j)

        module _ (m : ℕ) (past-q : q ≡ Full m) where
          pub fallback_ready : SpecialRoom table (table.n - table.plan.special_len + table.plan.special_primary_len)
              (table.plan.fallback_bucket_count * table.plan.fallback_bucket_width) (length words) (length flags) m
          fallback_ready =
              let f = plan_facts valid.planned in
              let l = levels_most in
              let p = primary_length table.plan counts table.seed table.word_cap identity (table.n - table.plan.special_len) 0 table.plan.loglog_ceiling in
              let s = search_full words flags identity (primary_part (table.n - table.plan.special_len)) j m (sym is-q ∙ past-q) in
              fallback_room_of valid m (omega arith)

          pub find_fallback : (x : Search) → x ≡ search_of words flags identity (fallback_part (table.n - table.plan.special_len + table.plan.special_primary_len)) m
              → x ≡ find_of table counts words flags identity
          unfolding resume
          find_fallback x e = e ∙ sym (find_primary ∙ rw (past-q, primary_start_lem valid.planned))
