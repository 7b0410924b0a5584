-- Laws of the level counts in a batch: how it starts, a member more, its end, and what it rules out. Assumes nothing.
use Rattle.std.specs.Prelude.{Bool, List, [], ◌∷◌, ◌≡◌, length, take, replicate}
use Rattle.std.proofs.Math.Bool.{true, false}
use Rattle.std.proofs.Math.Path.{refl}
use Rattle.std.proofs.Common.{◌∙◌, get_or-set_other}
use Prim.Native.Nat.{ℕ, zero, suc, ◌+◌, ◌-◌, ◌≤◌, ◌<◌}
use native.Mathlib.Omega.{arith}
use Rattle.std.proofs.Math.Dec.{eqb}
use Rattle.std.proofs.Math.ListN.{get_or}
use Rattle.std.proofs.Math.Seq.{get_or-set_same}
use borrow.Author.Tests.{eqb-true, eqb-false}
use Rattle.words.specs.BytesLaws.{get_d_zeros}
use Rattle.geometry.specs.Config.{Configured}
use Rattle.geometry.specs.Elastic.{total, levels_of}
use Rattle.geometry.specs.ElasticLaws.{total_take_step}
use Rattle.elastic_steps.specs.Insert.{added_to}
use Rattle.elastic_laws.specs.Schedule.{next_limit, current_limit, filled_to, quotas_before, InBatch, Takes, alone, current, next}
use Rattle.elastic_laws.proofs.QuotaLaws.{limits_order, quotas_fill}

-- ---- sums of level counts

-- counts that are zero from a place on add nothing
total_prefix : (cs : List ℕ) (m : ℕ) → ((k : ℕ) → m ≤ k → get_or cs k 0 ≡ 0) → total cs ≡ total (take m cs)
unfolding total
total_prefix [] zero h = refl
total_prefix [] (suc m) h = refl
total_prefix (c ∷ cs) zero h =
    let z = h 0 (omega arith) in
    let i = total_prefix cs zero (λ k l. h (suc k) (omega arith)) in
    omega arith
total_prefix (c ∷ cs) (suc m) h = let i = total_prefix cs m (λ k l. h (suc k) (omega arith)) in omega arith

-- levels at their limit
total_filled : (n e : ℕ) (cs : List ℕ) (b : ℕ) → ((k : ℕ) → k < b → get_or cs k 0 ≡ current_limit n e k) → total (take b cs) ≡ filled_to n e b
unfolding filled_to total
total_filled n e cs zero h = refl
total_filled n e cs (suc b) h =
    let i = total_filled n e cs b (λ k l. h k (omega arith)) in
    omega (arith, total_take_step b cs, h b (omega arith))

module _ (n e : ℕ) (cs : List ℕ) where
  -- in batch 0 all members are in level 0
  first_total : InBatch n e 0 cs → total cs ≡ get_or cs 0 0
  unfolding total
  first_total i = total_prefix cs 1 (λ k l. i.after k (omega arith)) ∙ total_take_step 0 cs ∙ omega arith

  -- in a later batch they are in the levels at their limit, in the current one and in the next
  later_total : (c : ℕ) → InBatch n e (suc c) cs → total cs ≡ filled_to n e c + get_or cs c 0 + get_or cs (suc c) 0
  later_total c i =
      let f = total_filled n e cs c (λ k l. i.before k (omega arith)) in
      let p = total_prefix cs (suc (suc c)) (λ k l. i.after k (omega arith)) in
      omega (arith, total_take_step c cs, total_take_step (suc c) cs)

-- ---- the steps

-- A fresh table is in batch 0.
pub batch_fresh : (n e size : ℕ) → InBatch n e 0 (replicate size 0)
batch_fresh n e size =
    record {
      before = λ k h. absurd (omega arith);
      begun = λ k h. absurd (omega arith);
      current = λ k h. absurd (omega arith);
      next = omega (arith, get_d_zeros size 0);
      after = λ k h. get_d_zeros size k;
    }

module _ (n e : ℕ) (s : Configured n e) where
  -- Before the quota of a batch is used, a member more leaves the table in the batch.
  pub batch_takes : (b : ℕ) (cs : List ℕ) → b < levels_of n → InBatch n e b cs → total cs < quotas_before n e (suc b)
      → (level : ℕ) → level < length cs → Takes n e b cs level → InBatch n e b (added_to cs level)
  unfolding filled_to
  batch_takes b cs has i h level l takes = go takes
    where
      added : get_or (added_to cs level) level 0 ≡ get_or cs level 0 + 1
      added = get_or-set_same cs level (get_or cs level 0 + 1) 0 l

      other : (k : ℕ) → (k ≡ level → ⊥) → get_or (added_to cs level) k 0 ≡ get_or cs k 0
      other k d = get_or-set_other cs level k (get_or cs level 0 + 1) 0 d

      in_current : level + 1 ≡ b → get_or cs level 0 < current_limit n e level → InBatch n e b (added_to cs level)
      in_current at low =
          record {
            before = λ k h. other k (λ q. omega arith) ∙ i.before k h;
            begun = λ k h. let q : k ≡ level = omega arith in rw q (omega (arith, added, i.begun level at));
            current = λ k h. let q : k ≡ level = omega arith in rw q (omega (arith, added));
            next = omega (arith, other b (λ q. omega arith), i.next);
            after = λ k h. other k (λ q. omega arith) ∙ i.after k h;
          }

      in_next : level ≡ b → get_or cs level 0 < next_limit n level → InBatch n e b (added_to cs level)
      in_next at low =
          record {
            before = λ k h. other k (λ q. omega arith) ∙ i.before k h;
            begun = λ k h. omega (arith, other k (λ q. omega arith), i.begun k h);
            current = λ k h. omega (arith, other k (λ q. omega arith), i.current k h);
            next = rw (← at) (omega (arith, added));
            after = λ k h. other k (λ q. omega arith) ∙ i.after k h;
          }

      -- in batch 0 the quota alone keeps level 0 below its limit
      room : b ≡ 0 → level ≡ 0 → get_or cs level 0 < next_limit n level
      room z at =
          let first : InBatch n e 0 cs = rw z at i in
          let unused : total cs < quotas_before n e 1 = rw z at h in
          rw at (omega (arith, first_total n e cs first, quotas_fill n e s 0 (omega arith)))

      go : Takes n e b cs level → InBatch n e b (added_to cs level)
      go (alone z at) = in_next (omega arith) (room z at)
      go (current at low) = in_current at low
      go (next at low) = in_next at low

  -- When the quota of a batch is used, both of its levels are at their limit: the next one becomes current.
  pub batch_ends : (b : ℕ) (cs : List ℕ) → b < levels_of n → InBatch n e b cs → quotas_before n e (suc b) ≤ total cs → InBatch n e (suc b) cs
  unfolding filled_to
  batch_ends zero cs has i h =
      let full : next_limit n 0 ≤ get_or cs 0 0 = omega (arith, first_total n e cs i, quotas_fill n e s 0 has) in
      record {
        before = λ k l. absurd (omega arith);
        begun = λ k l. let q : k ≡ 0 = omega arith in rw q full;
        current = λ k l. let q : k ≡ 0 = omega arith in rw q (omega (arith, i.next, limits_order n e 0 s));
        next = omega (arith, i.after 1 (omega arith));
        after = λ k l. i.after k (omega arith);
      }
  batch_ends (suc c) cs has i h =
      let t = later_total n e cs c i in
      let q = quotas_fill n e s (suc c) has in
      let full : get_or cs c 0 ≡ current_limit n e c = omega (arith, i.next, i.current c (omega arith)) in
      let full-next : next_limit n (suc c) ≤ get_or cs (suc c) 0 = omega (arith, i.current c (omega arith)) in
      record {
        before = λ k l. by k full (eqb k c) refl l;
        begun = λ k l. let q : k ≡ suc c = omega arith in rw q full-next;
        current = λ k l. let q : k ≡ suc c = omega arith in rw q (omega (arith, i.next, limits_order n e (suc c) s));
        next = omega (arith, i.after (suc (suc c)) (omega arith));
        after = λ k l. i.after k (omega arith);
      }
    where
      by : (k : ℕ) → get_or cs c 0 ≡ current_limit n e c → (x : Bool) → eqb k c ≡ x → k + 1 < suc (suc c) → get_or cs k 0 ≡ current_limit n e k
      by k full true q l = rw (eqb-true k c q) full
      by k full false q l = let d = eqb-false k c q in i.before k (less d)
        where
          less : (k ≡ c → ⊥) → k + 1 < suc c
          less d = omega arith

  -- the end of so many batches
  pub batches_end : (d b : ℕ) (cs : List ℕ) → b + d ≤ levels_of n → InBatch n e b cs → ((j : ℕ) → j < b + d → quotas_before n e (suc j) ≤ total cs) → InBatch n e (b + d) cs
  batches_end zero b cs has i h = let z : b + 0 ≡ b = omega arith in rw z i
  batches_end (suc d) b cs has i h =
      let z : suc b + d ≡ b + suc d = omega arith in
      rw (← z) (batches_end d (suc b) cs (omega arith) (batch_ends b cs (omega arith) i (h b (omega arith))) (λ j l. h j (omega arith)))

  -- ---- what a batch says and rules out

  -- In a later batch the current level and the next one hold C(L) of the current one, and what was inserted in the batch.
  pub batch_holds : (c : ℕ) (cs : List ℕ) → suc c < levels_of n → InBatch n e (suc c) cs
      → (quotas_before n e (suc c) ≤ total cs) × (get_or cs c 0 + get_or cs (suc c) 0 ≡ next_limit n c + (total cs - quotas_before n e (suc c)))
  batch_holds c cs has i =
      let t = later_total n e cs c i in
      let q = quotas_fill n e s c (omega arith) in
      let g = i.begun c (omega arith) in
      (omega arith, omega arith)

  -- Before the quota of a batch is used, its two levels are not both at their limit.
  pub never_both_full : (c : ℕ) (cs : List ℕ) → suc c < levels_of n → InBatch n e (suc c) cs → total cs < quotas_before n e (suc (suc c))
      → current_limit n e c ≤ get_or cs c 0 → next_limit n (suc c) ≤ get_or cs (suc c) 0 → ⊥
  unfolding filled_to
  never_both_full c cs has i h a b = omega (arith, later_total n e cs c i, quotas_fill n e s (suc c) has)
