-- The tests of a table that insertions reach from fresh pass. Assumes nothing.
use Rattle.std.specs.Prelude.{Bool, false, List, [], ◌∷◌, ◌≡◌, ℕ, zero, suc, ◌+◌, ◌≤◌, eqb, leb, length, get_or, replicate, Ok, Err}
use Rattle.std.proofs.Math.Bool.{true}
use Rattle.std.proofs.Math.Path.{refl}
use Rattle.std.proofs.Common.{ap, ◌∙◌, lt_of_not-le, arith, length-set, get_or-set_other}
use Rattle.std.proofs.Math.Decide.{dec_le}
use Rattle.std.proofs.lemmas.List.{length-replicate}
use borrow.Author.Tests.{eq-eqb, le-leb}
use Rattle.words.specs.BytesLaws.{get_d_zeros}
use Rattle.words.specs.Pick.{pick}
use Rattle.geometry.specs.Config.{Gated, Configured, maximum}
use Rattle.geometry.specs.Elastic.{total, levels_of, lengths_of, length_at, offset_at, split, is_plan_of}
use Rattle.geometry.specs.ElasticLaws.{lengths_total}
use Rattle.elastic.specs.declared.state.Limits.{Limits}
use Rattle.elastic.specs.declared.state.State.{State}
use Rattle.elastic.specs.State.{counts_within, counts_fit, state_fits, setting_gate, open_gate, gate_of, OpenDone, opened, open_by, open_of}
use Rattle.elastic.specs.StateLaws.{demand_facts, both_on, open_facts}
use Rattle.elastic.specs.Reading.{vacant_at}
use Rattle.elastic_steps.specs.Insert.{Done, insert_of}
use Rattle.elastic_steps.specs.InsertLaws.{choose_taken}
use Rattle.elastic_insert.specs.Table.{Outcome, kept, stored, occupied, Reached, fresh, more}
use Rattle.elastic_insert.specs.TableLaws.{insert_outcome, leaves, reached_kept}
use Rattle.elastic_laws.specs.Lasting.{Lasting}

-- ---- lists of counts

occupied_most : (fs : List ℕ) (from size : ℕ) → occupied fs from size ≤ size
unfolding occupied
occupied_most fs from zero = omega arith
occupied_most fs from (suc size) = go (vacant_at fs from) (occupied_most fs (from + 1) size)
  where
    go : (x : Bool) → occupied fs (from + 1) size ≤ size → pick x 0 1 + occupied fs (from + 1) size ≤ suc size
    go true h = omega arith
    go false h = omega arith

counts_within_lem : (ls cs : List ℕ) → ((k : ℕ) → get_or cs k 0 ≤ get_or ls k 0) → true ≡ counts_within ls cs
unfolding counts_within
counts_within_lem ls [] h = refl
counts_within_lem [] (c ∷ cs) h = both_on (eqb c 0) _ true (eq-eqb c 0 (let z = h 0 in omega arith)) (counts_within_lem [] cs (λ k. h (suc k)))
counts_within_lem (l ∷ ls) (c ∷ cs) h = both_on (leb c l) _ true (le-leb c l (h 0)) (counts_within_lem ls cs (λ k. h (suc k)))

total_within : (ls cs : List ℕ) → ((k : ℕ) → get_or cs k 0 ≤ get_or ls k 0) → total cs ≤ total ls
unfolding total
total_within ls [] h = omega arith
total_within [] (c ∷ cs) h = omega (arith, h 0, total_within [] cs (λ k. h (suc k)))
total_within (l ∷ ls) (c ∷ cs) h = omega (arith, h 0, total_within ls cs (λ k. h (suc k)))

-- ---- what lasts

open_settings : (n e seed : ℕ) (limits : Limits) (cs ws fs : List ℕ) (st : State) (cs' ws' fs' : List ℕ)
    → open_of n e seed limits cs ws fs ≡ opened (Ok st) cs' ws' fs' → setting_gate n e limits ≡ Ok tt
unfolding open_of open_by open_gate
open_settings n e seed limits cs ws fs st cs' ws' fs' h = go (open_gate n e limits (length ws) (length fs)) refl h
  where
    go : (g : Gated) → open_gate n e limits (length ws) (length fs) ≡ g → open_by g n e seed limits cs ws fs ≡ opened (Ok st) cs' ws' fs' → setting_gate n e limits ≡ Ok tt
    go (Err g) q k = let a = ap (λ (d : OpenDone). d.answer) k in let z : ◌≡◌ {A = ℕ} 0 1 = cc in absurd (omega arith)
    go (Ok _) q k = (demand_facts _ _ _ q).0

lasting_outcome : (st : State) (cs ws fs : List ℕ) (id : ℕ) → Lasting st cs ws → (d : Done) → Outcome st cs ws fs id d → Lasting d.st d.counts d.words
lasting_outcome st cs ws fs id l d (kept r h) = l
lasting_outcome st cs ws fs id l d (stored case level slot probe v h near) =
    record {
      settings = l.settings;
      plan_is = l.plan_is;
      words_size = simp length-set l.words_size;
      beyond = λ k m. get_or-set_other cs level k (get_or cs level 0 + 1) 0 (λ q. omega (arith, (choose_taken st cs ws fs v id case level slot probe h).has)) ∙ l.beyond k m;
    }

-- what the opening set and what no insertion changes
pub reached_lasting : {n e seed : ℕ} {limits : Limits} {st : State} {cs ws fs : List ℕ} → Reached n e seed limits st cs ws fs → Lasting st cs ws
reached_lasting {n} {e} {seed} {limits} (fresh cs₀ ws₀ fs₀ st cs ws fs l h) =
    let f = open_facts n e seed limits cs₀ ws₀ fs₀ st cs ws fs h in
    let c : replicate 32 0 ≡ cs = rw l at f.2 in
    rw (← f.1, ← c, ← f.3)
    (record {
      settings = open_settings n e seed limits cs₀ ws₀ fs₀ st cs ws fs h;
      plan_is = refl;
      words_size = length-replicate {A = ℕ} n 0;
      beyond = λ k m. get_d_zeros 32 k;
    })
reached_lasting (more st cs ws fs id a st' cs' ws' fs' r h) =
    leaves (λ st cs ws fs. Lasting st cs ws) h (lasting_outcome st cs ws fs id (reached_lasting r) (insert_of st cs ws fs id) (insert_outcome st cs ws fs id))

-- ---- the gate

module _ {n e seed : ℕ} {limits : Limits} {st : State} {cs ws fs : List ℕ} (r : Reached n e seed limits st cs ws fs) where
  -- no level count is above its level's length
  within_lengths : (k : ℕ) → get_or cs k 0 ≤ get_or (lengths_of st.n) k 0
  within_lengths k = go (dec_le (levels_of st.n) k)
    where
      go : Dec (levels_of st.n ≤ k) → get_or cs k 0 ≤ get_or (lengths_of st.n) k 0
      go (yes h) = omega (arith, (reached_lasting r).beyond k h)
      go (no h) = omega (arith, (reached_kept r).counts.levels k (lt_of_not-le h), occupied_most fs (offset_at st.n k) (length_at st.n k))

  -- Every table that insertions reach from fresh passes its tests.
  pub reached_gate : gate_of st cs (length ws) (length fs) ≡ Ok tt
  unfolding gate_of state_fits is_plan_of counts_fit lengths_of
  reached_gate =
      let l = reached_lasting r in
      let k = reached_kept r in
      let c : Configured st.n e = rw k.n_is k.config in
      let w : true ≡ counts_within (split (levels_of st.n) st.n) cs = counts_within_lem (lengths_of st.n) cs within_lengths in
      let few : st.count ≤ st.n = omega (arith, total_within (lengths_of st.n) cs within_lengths, lengths_total st.n e c, k.counts.sums) in
      rw (
        l.settings,
        l.plan_is,
        eq-eqb (length ws) st.n l.words_size,
        eq-eqb (length fs) st.n k.counts.flags_size,
        le-leb st.count st.n few,
        eq-eqb (levels_of st.n) (levels_of st.n) refl,
        eq-eqb (maximum st.n st.e) (maximum st.n st.e) refl,
        ← w,
        eq-eqb (total cs) st.count k.counts.sums,
      )
