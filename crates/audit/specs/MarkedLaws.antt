-- Laws of the marks of the slots that were taken: the greedy order's marks are these. Assumes nothing.
use Rattle.std.specs.Prelude.{List, ◌≡◌, length, get_or, set, replicate, Some, None}
use Rattle.std.proofs.Common.{⊎_elim, ap, sym, ◌∙◌, eq-or-lt_of_le, arith, get_or-set_same, get_or-set_other}
use Rattle.std.proofs.Math.Path.{refl}
use Prim.Native.Nat.{ℕ, zero, suc, ◌+◌, ◌≤◌, ◌<◌}
use Rattle.std.proofs.Math.ListN.{length-set}
use Rattle.std.proofs.lemmas.List.{length-replicate}
use Rattle.funnel.specs.declared.table.FunnelTable.{FunnelTable}
use Rattle.audit.specs.Greedy.{First, first_from, ready, Taken, taken, by_first, greedy_of}
use Rattle.audit.specs.FirstLaws.{first_found}
use Rattle.audit.specs.Waits.{Ended}
use Rattle.audit.specs.Marked.{marks_of, Listed}

pub length_marks : (n : ℕ) (order : List ℕ) (k : ℕ) → length (marks_of n order k) ≡ n
unfolding marks_of
length_marks n order zero = length-replicate n 0
length_marks n order (suc k) = length-set (marks_of n order k) (get_or order k 0) 1 ∙ length_marks n order k

-- of the slots before place p
marks_before : (n : ℕ) (order : List ℕ) (p s k : ℕ) → k ≤ p → marks_of n (set order p s) k ≡ marks_of n order k
unfolding marks_of
marks_before n order p s zero h = refl
marks_before n order p s (suc k) h = rw (get_or-set_other order p k s 0 (λ e. omega arith), marks_before n order p s k (omega arith))

-- ---- the greedy order

listed_none : (n : ℕ) (order : List ℕ) → Listed n (taken (replicate n 0) order 0)
unfolding marks_of
listed_none n order = record { marks_are = refl; slots = λ k h. absurd (omega arith); few = omega arith }

listed_more : (n : ℕ) (marks order : List ℕ) (placed s : ℕ) → s < n → placed < length order → Listed n (taken marks order placed)
    → Listed n (taken (set marks s 1) (set order placed s) (placed + 1))
unfolding marks_of
listed_more n marks order placed s l h t =
    let e : placed + 1 ≡ suc placed = omega arith in
    let g : get_or (set order placed s) placed 0 ≡ s = get_or-set_same order placed s 0 h in
    record {
      marks_are = rw (e, g, marks_before n order placed s placed (omega arith), ← t.marks_are);
      slots = λ k u.
          let v : k ≤ placed = omega arith in
          ⊎_elim (λ (q : k ≡ placed). rw (q, g) l) (λ (lt : k < placed). rw (get_or-set_other order placed k s 0 (λ q. omega arith)) (t.slots k lt)) (eq-or-lt_of_le v);
      few = simp length-set (omega arith);
    }

module _ (table : FunnelTable) (counts words flags : List ℕ) (n : ℕ) where
  listed_greedy : (turns : ℕ) (marks order : List ℕ) (placed : ℕ) → placed + turns ≤ length order → Listed n (taken marks order placed)
      → Listed n (greedy_of table counts words flags n turns marks order placed)
  unfolding greedy_of
  listed_greedy zero marks order placed h t = t
  listed_greedy (suc turns) marks order placed h t =
      go (first_from (ready table counts words flags marks placed) 0 n) refl
      (λ s. listed_greedy turns (set marks s 1) (set order placed s) (placed + 1) (simp length-set (omega arith)))
    where
      go : (r : First) → first_from (ready table counts words flags marks placed) 0 n ≡ r
          → ((s : ℕ) → Listed n (taken (set marks s 1) (set order placed s) (placed + 1)) → Listed n (greedy_of table counts words flags n turns (set marks s 1) (set order placed s) (placed + 1)))
          → Listed n (by_first r (taken marks order placed) (λ s. greedy_of table counts words flags n turns (set marks s 1) (set order placed s) (placed + 1)))
      go None e ih = t
      go (Some s) e ih = let f = first_found _ 0 n s e in ih s (listed_more n marks order placed s (omega (arith, f.below)) (omega arith) t)

  -- from marks that were cleared
  pub listed_whole : (marks order : List ℕ) (w : Taken) → marks ≡ replicate n 0 → length order ≡ n → greedy_of table counts words flags n n marks order 0 ≡ w → Listed n w
  listed_whole marks order w e h q = rw q at (listed_greedy n marks order 0 (omega arith) (rw e (listed_none n order)))

-- ---- the marks set anew

pub marks_none : (n : ℕ) (order marks l : List ℕ) → marks ≡ replicate (length l) 0 → length l ≡ n → marks ≡ marks_of n order 0
unfolding marks_of
marks_none n order marks l e h = e ∙ rw h

pub marks_more : (n : ℕ) (order marks : List ℕ) (k : ℕ) → marks ≡ marks_of n order k → set marks (get_or order k 0) 1 ≡ marks_of n order (k + 1)
unfolding marks_of
marks_more n order marks k e = let f : k + 1 ≡ suc k = omega arith in rw (f, e)

module _ {n : ℕ} {w : Taken} (t : Listed n w) {order : List ℕ} {placed : ℕ} (e : Ended w order placed) where
  pub listed_slots : (k : ℕ) → k < placed → get_or order k 0 < n
  listed_slots k h = rw e.order_is (t.slots k (omega (arith, e.placed_is)))

  pub listed_few : placed ≤ length order
  listed_few = rw (e.order_is, e.placed_is) t.few

  pub restored : (marks : List ℕ) → marks ≡ marks_of n order placed → taken marks order placed ≡ w
  restored marks q =
      let m : marks ≡ w.marks = q ∙ (rw (e.order_is, e.placed_is)) ∙ sym t.marks_are in
      rw (m, e.order_is, e.placed_is)

-- clearing leaves as many marks
pub cleared_n : (marks l : List ℕ) → marks ≡ replicate (length l) 0 → length marks ≡ length l
cleared_n marks l e = ap length e ∙ length-replicate (length l) 0

pub marks_end : (n o k placed : ℕ) (order marks : List ℕ) → n ≡ o → k ≡ placed → marks ≡ marks_of n order k → marks ≡ marks_of o order placed
marks_end n o k placed order marks a b e = rw (← a, ← b) e
