-- Laws of tables over time. Assumes nothing.
use Rattle.std.specs.Prelude.{Bool, true, false, List, [], ◌∷◌, ◌≡◌, refl, ℕ, zero, suc, ◌+◌, ◌≤◌, ◌<◌, eqb, ltb, length, get_or, set, replicate, Ok, Err}
use Rattle.std.proofs.Common.{sym, ap, subst, ◌∙◌, lt_of_not-le, arith, length-set, get_or-set_same, get_or-set_other, eqb-true, ltb-false}
use Rattle.std.proofs.Math.Decide.{dec_le}
use Rattle.std.proofs.lemmas.List.{length-replicate}
use Rattle.std.proofs.lemmas.Bool.{eqb-false}
use Rattle.words.specs.BytesLaws.{get_d_zeros}
use Rattle.words.specs.Pick.{pick}
use Rattle.geometry.specs.Config.{Gated, Configured}
use Rattle.geometry.specs.Elastic.{total, levels_of, lengths_of, length_at, offset_at}
use Rattle.geometry.specs.ElasticLaws.{total_take_step, prefix_mono, levels_facts, level_within}
use Rattle.elastic_probe.specs.Phi.{phi}
use Rattle.elastic.specs.declared.state.Limits.{Limits}
use Rattle.elastic.specs.declared.state.State.{State}
use Rattle.elastic_steps.specs.declared.answer.InsertRefusal.TheVariants as refusal
use Rattle.elastic.specs.State.{gate_of, fresh_of}
use Rattle.elastic.specs.StateLaws.{gate_valid, open_facts}
use Rattle.elastic.specs.Reading.{vacant_at}
use Rattle.elastic_steps.specs.Insert.{InsertAnswer, Chosen, choose_of, Done, done, counted, added_to, insertion_of, place_by, insert_by, insert_of}
use Rattle.elastic_steps.specs.InsertLaws.{choose_taken}
use Rattle.elastic_insert.specs.Table.{Outcome, kept, stored, occupied, Counted, Reached, fresh, more}

-- ---- what an insertion does

-- two answers that differ are not equal
pub never : {A : Type 0} → ◌≡◌ {A = ℕ} 0 1 → A
never z = absurd (omega arith)

-- An insertion is refused and changes nothing, or it stores the identity in the slot that was chosen.
pub insert_outcome : (st : State) (cs ws fs : List ℕ) (id : ℕ) → Outcome st cs ws fs id (insert_of st cs ws fs id)
unfolding insert_of place_by
insert_outcome st cs ws fs id = go (gate_of st cs (length ws) (length fs)) refl
  where
    place : gate_of st cs (length ws) (length fs) ≡ Ok tt → (x : Chosen) → choose_of st cs ws fs id ≡ x → Outcome st cs ws fs id (place_by st cs ws fs id x)
    place p (Err r) e = kept r (λ q. e ∙ ap Err q)
    place p (Ok x) e = by (ltb st.limits.hit_query_position_cap (phi (x.level + 1) (x.probe.0 + 1))) refl
      where
        by : (y : Bool) → ltb st.limits.hit_query_position_cap (phi (x.level + 1) (x.probe.0 + 1)) ≡ y
            → Outcome st cs ws fs id (pick y (done (Err refusal.Position) st cs ws fs)
            (done (Ok (insertion_of st.n x.case x.level x.slot x.probe)) (counted st) (added_to cs x.level) (set ws x.slot id) (set fs x.slot 1)))
        by true d = kept refusal.Position (λ q. never (cc))
        by false d = stored x.case x.level x.slot x.probe (gate_valid st cs (length ws) (length fs) p) e (ltb-false _ _ d)

    go : (g : Gated) → gate_of st cs (length ws) (length fs) ≡ g → Outcome st cs ws fs id (insert_by g st cs ws fs id)
    go (Err g) e = kept (refusal.Gate g) (λ q. never (cc))
    go (Ok _) e = place e (choose_of st cs ws fs id) refl

-- what holds of what an insertion leaves, of state and lists by name
pub leaves : (P : State → List ℕ → List ℕ → List ℕ → Type 0) {d : Done} {a : InsertAnswer} {st : State} {cs ws fs : List ℕ} → d ≡ done a st cs ws fs
    → P d.st d.counts d.words d.flags → P st cs ws fs
leaves P h p = subst (λ (d : Done). P d.st d.counts d.words d.flags) h p

-- ---- flags that are counted

-- a flag elsewhere
occupied_other : (fs : List ℕ) (s from size : ℕ) → ((i : ℕ) → from ≤ i → i < from + size → i ≡ s → ⊥) → occupied (set fs s 1) from size ≡ occupied fs from size
unfolding occupied
occupied_other fs s from zero h = refl
occupied_other fs s from (suc size) h =
    rw (get_or-set_other fs s from 1 0 (h from (omega arith) (omega arith)), occupied_other fs s (from + 1) size (λ i a b. h i (omega arith) (omega arith)))

-- a vacant flag among them
occupied_more : (fs : List ℕ) (s from size : ℕ) → s < length fs → get_or fs s 0 ≡ 0 → from ≤ s → s < from + size → occupied (set fs s 1) from size ≡ occupied fs from size + 1
unfolding occupied
occupied_more fs s from zero l v a b = absurd (omega arith)
occupied_more fs s from (suc size) l v a b = go (eqb from s) refl (λ d. occupied_more fs s (from + 1) size l v d (omega arith))
  where
    here : from ≡ s → pick (vacant_at (set fs s 1) from) 0 1 + occupied (set fs s 1) (from + 1) size ≡ pick (vacant_at fs from) 0 1 + occupied fs (from + 1) size + 1
    here e =
        let rest = occupied_other fs s (from + 1) size (λ i c d q. omega arith) in
        rw (e, get_or-set_same fs s 1 0 l, v, rw e at rest) (omega arith)

    there : (from ≡ s → ⊥) → occupied (set fs s 1) (from + 1) size ≡ occupied fs (from + 1) size + 1
        → pick (vacant_at (set fs s 1) from) 0 1 + occupied (set fs s 1) (from + 1) size ≡ pick (vacant_at fs from) 0 1 + occupied fs (from + 1) size + 1
    there e i = rw (get_or-set_other fs s from 1 0 e, i) (omega arith)

    go : (x : Bool) → eqb from s ≡ x → (from + 1 ≤ s → occupied (set fs s 1) (from + 1) size ≡ occupied fs (from + 1) size + 1)
        → pick (vacant_at (set fs s 1) from) 0 1 + occupied (set fs s 1) (from + 1) size ≡ pick (vacant_at fs from) 0 1 + occupied fs (from + 1) size + 1
    go true e r = here (eqb-true from s e)
    go false e r = let d = eqb-false from s e in there d (r (later d))
      where
        later : (from ≡ s → ⊥) → from + 1 ≤ s
        later d = omega arith

occupied_none : (n from size : ℕ) → occupied (replicate n 0) from size ≡ 0
unfolding occupied
occupied_none n from zero = refl
occupied_none n from (suc size) = rw (get_d_zeros n from, occupied_none n (from + 1) size)

-- ---- sums

total_set : (cs : List ℕ) (k : ℕ) → k < length cs → total (set cs k (get_or cs k 0 + 1)) ≡ total cs + 1
unfolding total
total_set [] k h = absurd (omega arith)
total_set (c ∷ cs) zero h = omega arith
total_set (c ∷ cs) (suc k) h = let i = total_set cs k (omega arith) in omega arith

total_zeros : (n : ℕ) → total (replicate n 0) ≡ 0
unfolding total
total_zeros zero = refl
total_zeros (suc n) = let i = total_zeros n in omega arith

-- levels lie side by side
pub levels_apart : (n k l slot : ℕ) → (k ≡ l → ⊥) → offset_at n l ≤ slot → slot < offset_at n l + length_at n l → (i : ℕ) → offset_at n k ≤ i → i < offset_at n k + length_at n k → i ≡ slot → ⊥
levels_apart n k l slot ne a b i d f e = go (dec_le k l)
  where
    go : Dec (k ≤ l) → ⊥
    go (yes h) =
        let s : suc k ≤ l = apart h in
        let m = prefix_mono (suc k) l (lengths_of n) s in
        let t = total_take_step k (lengths_of n) in
        omega arith
      where
        apart : k ≤ l → suc k ≤ l
        apart h = omega arith
    go (no h) =
        let g = lt_of_not-le h in
        let m = prefix_mono (suc l) k (lengths_of n) g in
        let t = total_take_step l (lengths_of n) in
        omega arith

-- ---- tables reached from fresh

counted_fresh : (n e seed : ℕ) (limits : Limits) → Counted (fresh_of n e seed limits) (replicate 32 0) (replicate n 0)
counted_fresh n e seed limits =
    record {
      size = length-replicate {A = ℕ} 32 0;
      flags_size = length-replicate {A = ℕ} n 0;
      sums = total_zeros 32;
      levels = λ k h. get_d_zeros 32 k ∙ sym (occupied_none n (offset_at n k) (length_at n k));
    }

module _ (st : State) (cs ws fs : List ℕ) (id : ℕ) (k : Counted st cs fs) (few : levels_of st.n ≤ 32) (within : (l : ℕ) → l < levels_of st.n → offset_at st.n l + length_at st.n l ≤ st.n) where
  counted_one : (level slot : ℕ) → level < levels_of st.n → offset_at st.n level ≤ slot → slot < offset_at st.n level + length_at st.n level → get_or fs slot 0 ≡ 0
      → Counted (counted st) (added_to cs level) (set fs slot 1)
  counted_one level slot has from to vacant =
      record {
        size = simp length-set k.size;
        flags_size = simp length-set k.flags_size;
        sums = total_set cs level (omega (arith, k.size)) ∙ ap (λ (x : ℕ). x + 1) k.sums;
        levels = λ l h. at_level l h (eqb l level) refl;
      }
    where
      at_level : (l : ℕ) → l < levels_of st.n → (x : Bool) → eqb l level ≡ x
          → get_or (added_to cs level) l 0 ≡ occupied (set fs slot 1) (offset_at st.n l) (length_at st.n l)
      at_level l h true e =
          let q : l ≡ level = eqb-true l level e in
          let w = within level has in
          rw q
          (get_or-set_same cs level (get_or cs level 0 + 1) 0 (omega (arith, k.size))
          ∙ ap (λ (x : ℕ). x + 1) (k.levels level has)
          ∙ sym (occupied_more fs slot (offset_at st.n level) (length_at st.n level) (omega (arith, k.flags_size)) vacant from to))
      at_level l h false e =
          let q : l ≡ level → ⊥ = eqb-false l level e in
          get_or-set_other cs level l (get_or cs level 0 + 1) 0 q
          ∙ k.levels l h
          ∙ sym (occupied_other fs slot (offset_at st.n l) (length_at st.n l) (levels_apart st.n l level slot q from to))

-- what holds of every table that insertions reach
pub record Kept (n e : ℕ) (st : State) (cs fs : List ℕ) : Type 0 where
  pub config : Configured n e
  pub n_is : st.n ≡ n
  pub counts : Counted st cs fs

kept_outcome : (n e : ℕ) (st : State) (cs ws fs : List ℕ) (id : ℕ) → Kept n e st cs fs → (d : Done) → Outcome st cs ws fs id d → Kept n e d.st d.counts d.flags
kept_outcome n e st cs ws fs id k d (kept r h) = k
kept_outcome n e st cs ws fs id k d (stored case level slot probe v h near) =
    let c : Configured st.n e = rw k.n_is k.config in
    let t = choose_taken st cs ws fs v id case level slot probe h in
    record {
      config = k.config;
      n_is = k.n_is;
      counts = counted_one st cs ws fs id k.counts (levels_facts st.n e c).few (level_within st.n e c) level slot t.has t.from t.to t.vacant;
    }

-- from fresh the level counts sum to the count, and each equals the occupied flags of its level
pub reached_kept : {n e seed : ℕ} {limits : Limits} {st : State} {cs ws fs : List ℕ} → Reached n e seed limits st cs ws fs → Kept n e st cs fs
reached_kept {n} {e} {seed} {limits} (fresh cs₀ ws₀ fs₀ st cs ws fs l h) =
    let f = open_facts n e seed limits cs₀ ws₀ fs₀ st cs ws fs h in
    let c : replicate 32 0 ≡ cs = rw l at f.2 in
    rw (← f.1, ← c, ← f.4) (record { config = f.0; n_is = refl; counts = counted_fresh n e seed limits })
reached_kept {n} {e} (more st cs ws fs id a st' cs' ws' fs' r h) =
    leaves (λ st cs ws fs. Kept n e st cs fs) h (kept_outcome n e st cs ws fs id (reached_kept r) (insert_of st cs ws fs id) (insert_outcome st cs ws fs id))
