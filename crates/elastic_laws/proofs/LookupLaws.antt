-- A stored identity is found by the phi of its insertion. Assumes nothing.
use Rattle.std.specs.Prelude.{Bool, true, false, List, ◌≡◌, refl, ℕ, zero, suc, ◌+◌, ◌≤◌, eqb, length, get_or, set, Ok, Err, Some, None}
use Rattle.std.proofs.Common.{sym, ap, ◌∙◌, arith, eqb-true}
use Rattle.std.proofs.lemmas.Bool.{eqb-false}
use Rattle.words.specs.BytesLaws.{get_d_zeros}
use Rattle.words.specs.declared.place.LogicalProbe.{LogicalProbe}
use Rattle.words.specs.Pick.{pick}
use Rattle.geometry.specs.declared.elastic.ElasticPlan.{ElasticPlan}
use Rattle.probe.specs.Word.{elastic_key_of}
use Rattle.elastic.specs.declared.state.Limits.{Limits}
use Rattle.elastic.specs.declared.state.State.{State}
use Rattle.elastic.specs.StateLaws.{open_facts}
use Rattle.elastic.specs.Reading.{read_slot, Routed, vacant, Sought, reading_of, vacant_at, holds_at, seek_by, seek_from, first_of}
use Rattle.elastic_query.specs.declared.query.Finding.{Finding}
use Rattle.elastic_query.specs.Query.{QueryAnswer, positions_of, query_of}
use Rattle.elastic_steps.specs.declared.answer.Insertion.{Insertion}
use Rattle.elastic_steps.specs.Insert.{Done, counted, added_to, insertion_of, insert_of}
use Rattle.elastic_steps.specs.InsertLaws.{Taken, choose_taken}
use Rattle.elastic_insert.specs.Table.{Outcome, kept, stored, Reached, fresh, more}
use Rattle.elastic_insert.specs.TableLaws.{never, insert_outcome, leaves, reached_kept}
use Rattle.elastic_laws.specs.Schedule.{batch_now}
use Rattle.elastic_laws.proofs.ChoiceLaws.{steps_chose, slot_stepped}
use Rattle.elastic_laws.specs.GateLaws.{reached_lasting, reached_gate}
use Rattle.elastic_laws.specs.Lookup.{WentIn, now, later, read_at, route_of, Answers, found, refused, Placed, Inserted}
use Rattle.elastic_laws.specs.HoldsLaws.{holds_flag, holds_apart, holds_written, holds_only_written, nowhere}
use Rattle.elastic_laws.proofs.WalkLaws.{positions_answer}
use Rattle.elastic.specs.declared.route.Vacant.{Vacant}

-- ---- what a search read

-- the vacancy that a search found is the reading of its probe
seek_reads : (n key cap : ℕ) (fs : List ℕ) (level tries q slot : ℕ) (probe : LogicalProbe) → seek_from n key cap fs level tries q ≡ Ok (Some (vacant slot probe))
    → (words : ℕ) × (reading_of n key cap level probe.0 ≡ Ok (read_slot slot words))
unfolding seek_from
seek_reads n key cap fs level zero q slot probe h = never (cc)
seek_reads n key cap fs level (suc tries) q slot probe h = step (reading_of n key cap level q) refl h (λ g. seek_reads n key cap fs level tries (q + 1) slot probe g)
  where
    by : (u w : ℕ) → reading_of n key cap level q ≡ Ok (read_slot u w) → (x : Bool) → pick {A = Sought} x (Ok (Some (vacant u (record { 0 = q })))) (seek_from n key cap fs level tries (q + 1)) ≡ Ok (Some (vacant slot probe))
        → (seek_from n key cap fs level tries (q + 1) ≡ Ok (Some (vacant slot probe)) → (words : ℕ) × (reading_of n key cap level probe.0 ≡ Ok (read_slot slot words)))
        → (words : ℕ) × (reading_of n key cap level probe.0 ≡ Ok (read_slot slot words))
    by u w e false g on = on g
    by u w e true g on =
        let same : vacant u (record { 0 = q }) ≡ vacant slot probe = cc in
        let a : u ≡ slot = ap (λ (x : Vacant). x.slot) same in
        let p : ◌≡◌ {A = LogicalProbe} (record { 0 = q }) probe = ap (λ (x : Vacant). x.probe) same in
        let b : q ≡ probe.0 = ap (λ (x : LogicalProbe). x.0) p in
        (w, rw (← b, ← a) e)

    step : (r : Routed) → reading_of n key cap level q ≡ r → seek_by fs q r (seek_from n key cap fs level tries (q + 1)) ≡ Ok (Some (vacant slot probe))
        → (seek_from n key cap fs level tries (q + 1) ≡ Ok (Some (vacant slot probe)) → (words : ℕ) × (reading_of n key cap level probe.0 ≡ Ok (read_slot slot words)))
        → (words : ℕ) × (reading_of n key cap level probe.0 ≡ Ok (read_slot slot words))
    step (Err r) e g on = never (cc)
    step (Ok x) e g on = by x.slot x.words e (vacant_at fs x.slot) g on

-- ---- one insertion

-- the identity that is stored
placed_now : (st : State) (cs ws fs : List ℕ) (id : ℕ) (i : Insertion) (d : Done) → Outcome st cs ws fs id d → d.answer ≡ Ok i → Placed d.st d.words d.flags id i
placed_now st cs ws fs id i d (kept r h) e = never (cc)
placed_now st cs ws fs id i d (stored case level slot probe v h near) e =
    let q : insertion_of st.n case level slot probe ≡ i = cc in
    let w = slot_stepped st cs ws fs id case level slot probe h in
    let c = (steps_chose st (elastic_key_of st.seed id) cs fs (batch_now st) case level slot probe w.steps).searched in
    let r = seek_reads st.n (elastic_key_of st.seed id) st.limits.range_word_cap fs level c.tries 0 slot probe c.is in
    let t = choose_taken st cs ws fs v id case level slot probe h in
    rw (← q) (record {
      probe = probe.0;
      words = r.0;
      reads = r.1;
      has = t.has;
      phi_is = refl;
      near = near;
      holds = holds_written ws fs id slot (omega (arith, v.words_size, t.below)) (omega (arith, v.flags_size, t.below));
      only = λ u g. only w.absent (v.flags_size ∙ sym v.words_size) u g (eqb u slot) refl;
    })
  where
    only : first_of ws fs id ≡ None → length fs ≡ length ws → (u : ℕ) → holds_at (set ws slot id) (set fs slot 1) id u ≡ true → (x : Bool) → eqb u slot ≡ x → u ≡ slot
    only a l u g true k = eqb-true u slot k
    only a l u g false k =
        let m = holds_apart ws fs id id slot u (eqb-false u slot k) in
        let z = nowhere ws fs id l a u in
        never (cc)

-- an identity that is stored stays where it is, and no other slot takes it
placed_later : (st : State) (cs ws fs : List ℕ) (id : ℕ) (i : Insertion) → Placed st ws fs id i → (x : ℕ) (d : Done) → Outcome st cs ws fs x d → Placed d.st d.words d.flags id i
placed_later st cs ws fs id i p x d (kept r h) = p
placed_later st cs ws fs id i p x d (stored case level slot probe v h near) =
    record {
      probe = p.probe;
      words = p.words;
      reads = p.reads;
      has = p.has;
      phi_is = p.phi_is;
      near = p.near;
      holds = holds_apart ws fs x id slot i.location.global_slot.0 apart ∙ p.holds;
      only = λ u g. only u g (eqb u slot) refl;
    }
  where
    t : Taken st fs level slot probe
    t = choose_taken st cs ws fs v x case level slot probe h

    -- the slot that is taken was vacant
    apart : i.location.global_slot.0 ≡ slot → ⊥
    apart q = holds_flag ws fs id slot (ap (holds_at ws fs id) (sym q) ∙ p.holds) t.vacant

    -- DUPLICATE keeps the identity from going in again
    other : x ≡ id → ⊥
    other q =
        let w = (slot_stepped st cs ws fs x case level slot probe h).absent in
        let z : holds_at ws fs x i.location.global_slot.0 ≡ false = nowhere ws fs x (v.flags_size ∙ sym v.words_size) w i.location.global_slot.0 in
        let y : holds_at ws fs id i.location.global_slot.0 ≡ false = rw (← q) z in
        let k = p.holds in
        never (cc)

    only : (u : ℕ) → holds_at (set ws slot x) (set fs slot 1) id u ≡ true → (y : Bool) → eqb u slot ≡ y → u ≡ i.location.global_slot.0
    only u g false k = p.only u (sym (holds_apart ws fs x id slot u (eqb-false u slot k)) ∙ g)
    only u g true k =
        let q = eqb-true u slot k in
        let m : holds_at (set ws slot x) (set fs slot 1) id slot ≡ true = ap (holds_at (set ws slot x) (set fs slot 1) id) (sym q) ∙ g in
        absurd (other (holds_only_written ws fs x slot (omega (arith, v.words_size, t.below)) (omega (arith, v.flags_size, t.below)) id m))

-- ---- tables over time

-- insertions reach from fresh every table in which an identity went in
pub went_reached : {n e seed : ℕ} {limits : Limits} {id : ℕ} {i : Insertion} {st : State} {cs ws fs : List ℕ} → WentIn n e seed limits id i st cs ws fs → Reached n e seed limits st cs ws fs
went_reached {id = id} {i} (now st cs ws fs st' cs' ws' fs' r h) = more st cs ws fs id (Ok i) st' cs' ws' fs' r h
went_reached (later st cs ws fs x a st' cs' ws' fs' w h) = more st cs ws fs x a st' cs' ws' fs' (went_reached w) h

-- An identity that went in stands in the slot that its insertion answered, and in no other.
pub went_placed : {n e seed : ℕ} {limits : Limits} {id : ℕ} {i : Insertion} {st : State} {cs ws fs : List ℕ} → WentIn n e seed limits id i st cs ws fs → Placed st ws fs id i
went_placed {id = id} {i} (now st cs ws fs st' cs' ws' fs' r h) =
    leaves (λ st cs ws fs. Placed st ws fs id i) h (placed_now st cs ws fs id i (insert_of st cs ws fs id) (insert_outcome st cs ws fs id) (ap (λ (d : Done). d.answer) h))
went_placed {id = id} {i} (later st cs ws fs x a st' cs' ws' fs' k h) =
    leaves (λ st cs ws fs. Placed st ws fs id i) h (placed_later st cs ws fs id i (went_placed k) x (insert_of st cs ws fs x) (insert_outcome st cs ws fs x))

-- an identity that a slot of the table after an insertion holds: it went in by this insertion, or before
went_outcome : {n e seed : ℕ} {limits : Limits} {st : State} {cs ws fs : List ℕ} → Reached n e seed limits st cs ws fs → (x id s : ℕ) (d : Done) → insert_of st cs ws fs x ≡ d → Outcome st cs ws fs x d
    → holds_at d.words d.flags id s ≡ true → (holds_at ws fs id s ≡ true → (i : Insertion) × WentIn n e seed limits id i st cs ws fs × (i.location.global_slot.0 ≡ s))
    → (i : Insertion) × WentIn n e seed limits id i d.st d.counts d.words d.flags × (i.location.global_slot.0 ≡ s)
went_outcome {st = st} {cs} {ws} {fs} r x id s d is (kept c h) g past = let p = past g in (p.0, later st cs ws fs x (Err c) st cs ws fs p.1 is, p.2)
went_outcome {n} {e} {seed} {limits} {st} {cs} {ws} {fs} r x id s d is (stored case level slot probe v h near) g past = go (eqb s slot) refl
  where
    go : (y : Bool) → eqb s slot ≡ y
        → (i : Insertion) × WentIn n e seed limits id i (counted st) (added_to cs level) (set ws slot x) (set fs slot 1) × (i.location.global_slot.0 ≡ s)
    go true k =
        let q = eqb-true s slot k in
        let t = choose_taken st cs ws fs v x case level slot probe h in
        let m : holds_at (set ws slot x) (set fs slot 1) id slot ≡ true = ap (holds_at (set ws slot x) (set fs slot 1) id) (sym q) ∙ g in
        let same = holds_only_written ws fs x slot (omega (arith, v.words_size, t.below)) (omega (arith, v.flags_size, t.below)) id m in (
          insertion_of st.n case level slot probe,
          rw (← same) (now st cs ws fs (counted st) (added_to cs level) (set ws slot x) (set fs slot 1) r is),
          sym q,
        )
    go false k =
        let p = past (sym (holds_apart ws fs x id slot s (eqb-false s slot k)) ∙ g) in
        (p.0, later st cs ws fs x (Ok (insertion_of st.n case level slot probe)) (counted st) (added_to cs level) (set ws slot x) (set fs slot 1) p.1 is, p.2)

-- Every identity that a table from fresh holds went in by an insertion, which answered the slot that holds it.
pub stored_went_in : {n e seed : ℕ} {limits : Limits} {st : State} {cs ws fs : List ℕ} → Reached n e seed limits st cs ws fs → (id s : ℕ) → holds_at ws fs id s ≡ true
    → (i : Insertion) × WentIn n e seed limits id i st cs ws fs × (i.location.global_slot.0 ≡ s)
stored_went_in {n} {e} {seed} {limits} (fresh cs₀ ws₀ fs₀ st cs ws fs l h) id s g =
    let f = open_facts n e seed limits cs₀ ws₀ fs₀ st cs ws fs h in
    let z : get_or fs s 0 ≡ 0 = rw (← f.4) (get_d_zeros n s) in
    absurd (holds_flag ws fs id s g z)
stored_went_in {n} {e} {seed} {limits} (more st cs ws fs x a st' cs' ws' fs' r h) id s g =
    let k : holds_at (insert_of st cs ws fs x).words (insert_of st cs ws fs x).flags id s ≡ true = rw h g in
    leaves (λ st cs ws fs. (i : Insertion) × WentIn n e seed limits id i st cs ws fs × (i.location.global_slot.0 ≡ s)) h
    (went_outcome r x id s (insert_of st cs ws fs x) refl (insert_outcome st cs ws fs x) k (λ b. stored_went_in r id s b))

-- A query of an identity that went in answers its slot at a position no later than the phi that its insertion recorded, unless a range reduction is refused at a position before that.
pub found_by_phi : {n e seed : ℕ} {limits : Limits} {id : ℕ} {i : Insertion} {st : State} {cs ws fs : List ℕ} → WentIn n e seed limits id i st cs ws fs
    → Answers (read_at (route_of st id) st.plan.levels) i.location.global_slot.0 i.phi (query_of st cs ws fs id)
unfolding query_of
found_by_phi {id = id} {i} {st} {cs} {ws} {fs} w =
    let r = went_reached w in
    let p = went_placed w in
    let levels = ap (λ (x : ElasticPlan). x.levels) (reached_lasting r).plan_is in
    rw (reached_gate r)
    (positions_answer (route_of st id) (holds_at ws fs id) st.plan.levels i.location.global_slot.0 i.phi p.words p.only p.holds i.location.level p.probe
    st.limits.hit_query_position_cap (omega (arith, levels, p.has)) p.phi_is p.near p.reads)

-- ---- who is answered

-- what an answer that names a slot says, where it is one of those that an inserted identity has
pub answers_found : {reads : ℕ → Routed} {slot last : ℕ} (a : QueryAnswer) (f : Finding) → Answers reads slot last a → a ≡ Ok f → (f.global_slot.0 ≡ slot) × (f.position ≤ last)
answers_found a f (found g s p) e =
    let q : g ≡ f = cc in
    (rw (← q) s, rw (← q) p)
answers_found a f (refused position r some l m) e = never (cc)

module _ {n e seed : ℕ} {limits : Limits} {st : State} {cs ws fs : List ℕ} (r : Reached n e seed limits st cs ws fs) (id : ℕ) where
  -- a query of a table from fresh is its walk: no test refuses it
  pub query_walks : query_of st cs ws fs id ≡ positions_of (route_of st id) (holds_at ws fs id) st.plan.levels st.limits.hit_query_position_cap
  unfolding query_of
  query_walks = rw (reached_gate r)

  -- an identity that was not inserted is in no slot
  pub stranger_nowhere : (Inserted n e seed limits id st cs ws fs → ⊥) → (s : ℕ) → holds_at ws fs id s ≡ false
  stranger_nowhere not s = go (holds_at ws fs id s) refl
    where
      go : (x : Bool) → holds_at ws fs id s ≡ x → holds_at ws fs id s ≡ false
      go false q = q
      go true q = let w = stored_went_in r id s q in absurd (not (w.0, w.1))

  -- an identity that a scan does not find was not inserted
  pub nowhere_stranger : first_of ws fs id ≡ None → Inserted n e seed limits id st cs ws fs → ⊥
  nowhere_stranger q w =
      let size : length fs ≡ length ws = (reached_kept r).counts.flags_size ∙ sym (reached_lasting r).words_size in
      let h = (went_placed w.1).holds in
      let z = nowhere ws fs id size q w.0.location.global_slot.0 in
      never (cc)
