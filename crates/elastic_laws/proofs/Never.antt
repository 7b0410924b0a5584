-- The answer to request 10, "Never both low". Each theorem is a sentence of the request, in its words above it. They speak of `open_of`, `insert_of` and `query_of`, to which the calls `open`, `insert`
-- and `query` are proved equal, for every n, e, seed, identity and limits. Assumes nothing.
use Rattle.std.specs.Prelude.{true, ◌≡◌, refl, ℕ, ◌≤◌, length, Ok, Err, Some, None}
use mathlib.Core.List.{List, Memᴰ}
use Rattle.std.proofs.Common.{sym, ◌∙◌}
use Rattle.geometry.specs.Config.{Configured, maximum}
use Rattle.geometry.specs.Elastic.{total, quotas_of}
use Rattle.geometry.specs.ElasticLaws.{quotas_total}
use Rattle.elastic.specs.declared.state.Limits.{Limits}
use Rattle.elastic.specs.declared.state.State.{State}
use Rattle.elastic.specs.State.{opened, open_of}
use Rattle.elastic.specs.Reading.{Located, holds_at, first_of}
use Rattle.elastic.specs.ReadingLaws.{first_is}
use Rattle.elastic_steps.specs.declared.answer.Insertion.{Insertion}
use Rattle.elastic_steps.specs.declared.answer.InsertRefusal.TheVariants as refusal
use Rattle.elastic_query.specs.declared.query.Finding.{Finding}
use Rattle.elastic_query.specs.Query.{query_of}
use Rattle.elastic_insert.specs.Table.{Reached, fresh}
use Rattle.elastic_laws.specs.Schedule.{answers_of}
use Rattle.elastic_laws.proofs.ScheduleLaws.{answers_never}
use Rattle.elastic_laws.specs.Lookup.{WentIn, read_at, route_of, Answers, Inserted, Unanswered, Exactly, member, stranger}
use Rattle.elastic_laws.proofs.WalkLaws.{positions_found, positions_unanswered}
use Rattle.elastic_laws.proofs.LookupLaws.{stored_went_in, found_by_phi, answers_found, query_walks, stranger_nowhere, nowhere_stranger}

-- ---- SCHEDULE

-- "no sequence of insertions from a fresh elastic table meets it": whatever identities are inserted one after the other, however each is answered, SCHEDULE is not among the answers.
-- (Why: `BatchLaws.antt`. A level that is low receives nothing more, so in a batch neither level passes its limit, and both at their limit is the batch's end.)
-- "SCHEDULE stays, for states made up by a caller": `Examples.antt` has one that is answered so.
pub no_sequence_meets_schedule : (n e seed : ℕ) (limits : Limits) (cs₀ ws₀ fs₀ : List ℕ) → length cs₀ ≡ 32
    → (st : State) (cs ws fs : List ℕ) → open_of n e seed limits cs₀ ws₀ fs₀ ≡ opened (Ok st) cs ws fs
    → (ids : List ℕ) → Memᴰ (Err refusal.Schedule) (answers_of st cs ws fs ids) → ⊥
no_sequence_meets_schedule n e seed limits cs₀ ws₀ fs₀ l st cs ws fs h ids m = answers_never (fresh cs₀ ws₀ fs₀ st cs ws fs l h) ids m

-- "the batch quotas sum to exactly the maximum", n - floor(n/2^e)
pub quotas_sum_to_maximum : (n e : ℕ) → Configured n e → total (quotas_of n e) ≡ maximum n e
quotas_sum_to_maximum n e s = quotas_total n e s

-- ---- lookups

module _ {n e seed : ℕ} {limits : Limits} {st : State} {cs ws fs : List ℕ} (r : Reached n e seed limits st cs ws fs) (id : ℕ) where
  -- "a query of a stored identity answers its slot at a position no later than the phi recorded when it went in, unless a range reduction is refused on the way": the refusal is then the
  -- answer, and it was met at a position before that phi. (`found_by_phi` says it of the identity's insertion and every later table.)
  pub stored_found : (s : ℕ) → holds_at ws fs id s ≡ true
      → (i : Insertion) × WentIn n e seed limits id i st cs ws fs × Answers (read_at (route_of st id) st.plan.levels) s i.phi (query_of st cs ws fs id)
  stored_found s h = go (stored_went_in r id s h)
    where
      go : (i : Insertion) × WentIn n e seed limits id i st cs ws fs × (i.location.global_slot.0 ≡ s)
          → (i : Insertion) × WentIn n e seed limits id i st cs ws fs × Answers (read_at (route_of st id) st.plan.levels) s i.phi (query_of st cs ws fs id)
      go w = (w.0, w.1, rw (← w.2) (found_by_phi w.1))

  -- An identity whose query answers a slot was inserted: its insertion answered that slot, with a phi no earlier than the query's position, and the position is within the cap.
  pub answered_inserted : (f : Finding) → query_of st cs ws fs id ≡ Ok f
      → (i : Insertion) × WentIn n e seed limits id i st cs ws fs × (f.global_slot.0 ≡ i.location.global_slot.0)
      × (f.position ≤ i.phi) × (f.position ≤ st.limits.hit_query_position_cap)
  answered_inserted f h =
      let p = positions_found (route_of st id) (holds_at ws fs id) st.plan.levels st.limits.hit_query_position_cap f (sym (query_walks r id) ∙ h) in
      let w = stored_went_in r id f.global_slot.0 p.0 in
      let a = answers_found (query_of st cs ws fs id) f (found_by_phi w.1) h in
      (w.0, w.1, a.0, a.1, p.2)

  -- A query of an identity that was not inserted answers no slot: ABSENT, or the refusal of a range reduction at a position within the cap.
  pub stranger_unanswered : (Inserted n e seed limits id st cs ws fs → ⊥)
      → Unanswered (read_at (route_of st id) st.plan.levels) st.limits.hit_query_position_cap (query_of st cs ws fs id)
  stranger_unanswered not =
      rw (query_walks r id)
      (positions_unanswered (route_of st id) (holds_at ws fs id) st.plan.levels (stranger_nowhere r id not) st.limits.hit_query_position_cap)

  -- Both directions in one: in a table from fresh a query answers a slot exactly of an identity that was inserted, and by the phi of its insertion, which is within the position cap; RANGE is
  -- the way out of both.
  pub query_exactly : Exactly n e seed limits id st cs ws fs (query_of st cs ws fs id)
  query_exactly = go (first_of ws fs id) refl
    where
      go : (x : Located) → first_of ws fs id ≡ x → Exactly n e seed limits id st cs ws fs (query_of st cs ws fs id)
      go (Some s) q =
          let w = stored_went_in r id s (first_is ws fs id s q).holds in
          member (query_of st cs ws fs id) w.0 w.1 (found_by_phi w.1)
      go None q = stranger (query_of st cs ws fs id) (nowhere_stranger r id q) (stranger_unanswered (nowhere_stranger r id q))
