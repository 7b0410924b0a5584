-- The greedy order as the two passes over the slots make it: what is left gives what the whole gives. Assumes nothing.
use Rattle.std.specs.Prelude.{Bool, true, false, List, ◌≡◌, refl, length, get_or, set, replicate, ltb, Some, None}
use Rattle.std.proofs.Math.Path.{sym}
use Rattle.std.proofs.Common.{◌∙◌, ⊎_elim, eq-or-lt_of_le, length-set, get_or-set_same, ltb-true, ltb-false}
use Prim.Native.Nat.{ℕ, suc, ◌+◌, ◌-◌, ◌≤◌, ◌<◌}
use native.Mathlib.Omega.{arith}
use Rattle.funnel.specs.declared.table.FunnelTable.{FunnelTable}
use Rattle.funnel.specs.Path.{primary_start}
use Rattle.geometry.specs.Funnel.{IsPlan}
use Rattle.funnel.specs.Valid.{Valid}
use Rattle.audit.specs.Greedy.{First, first_from, ready, Taken, taken, by_first, greedy_of}
use Rattle.audit.specs.Going.{Going}
use Rattle.audit.specs.FirstLaws.{first_at, first_found, first_none, first_all}
use Rattle.audit.specs.ReadyLaws.{ready_marked}
use Rattle.audit.specs.OrdinaryLaws.{ready_later}

-- a table stays valid with other flags of the same number
pub valid_marks : {table : FunnelTable} {counts words flags : List ℕ} → Valid table counts words flags → (marks : List ℕ) → length marks ≡ table.n → Valid table counts words marks
valid_marks v marks l =
    record { planned = v.planned; cap_least = v.cap_least; cap_most = v.cap_most; words_length = v.words_length; flags_length = l; counted = v.counted }

-- none passes before the first that is looked at
pub first_skip : (test : ℕ → Bool) (start n : ℕ) → start ≤ n → ((t : ℕ) → t < start → test t ≡ false) → first_from test 0 n ≡ first_from test start (n - start)
first_skip test start n l quiet = go (first_from test start (n - start)) refl
  where
    go : (r : First) → first_from test start (n - start) ≡ r → first_from test 0 n ≡ r
    go None e = first_all test 0 n (λ t a b. by t (ltb t start) refl b)
      where
        by : (t : ℕ) (x : Bool) → ltb t start ≡ x → t < 0 + n → test t ≡ false
        by t true q b = quiet t (ltb-true _ _ q)
        by t false q b = let c : start ≤ t = ltb-false _ _ q in first_none test start (n - start) e t (omega arith) (omega arith)
    go (Some s) e =
        let f = first_found test start (n - start) s e in
        first_at test 0 n s (omega arith) (omega (arith, f.below)) f.holds (λ t a b. by t (ltb t start) refl b f.before)
      where
        by : (t : ℕ) (x : Bool) → ltb t start ≡ x → t < s → ((t : ℕ) → start ≤ t → t < s → test t ≡ false) → test t ≡ false
        by t true q b before = quiet t (ltb-true _ _ q)
        by t false q b before = let c : start ≤ t = ltb-false _ _ q in before t (omega arith) b

pub going_none : (table : FunnelTable) (counts words flags marks order : List ℕ) → length marks ≡ table.n → length order ≡ table.n
    → Going (greedy_of table counts words flags table.n table.n marks order 0) table counts words flags marks order 0 0
going_none table counts words flags marks order m o =
    record { left = (let e : table.n - 0 ≡ table.n = omega arith in rw e); quiet = λ t h. absurd (omega arith); marks_n = m; order_n = o }

-- the turns that are left, on their own
pub going_on : {whole : Taken} {table : FunnelTable} {counts words flags marks order : List ℕ} {placed i : ℕ} → Going whole table counts words flags marks order placed i
    → Going (greedy_of table counts words flags table.n (table.n - placed) marks order placed) table counts words flags marks order placed i
going_on g = record { left = refl; quiet = g.quiet; marks_n = g.marks_n; order_n = g.order_n }

module _ {whole : Taken} {table : FunnelTable} {counts words flags marks order : List ℕ} {placed i : ℕ} (g : Going whole table counts words flags marks order placed i) where
  greedy_step : placed < table.n → greedy_of table counts words flags table.n (table.n - placed) marks order placed
      ≡ by_first (first_from (ready table counts words flags marks placed) 0 table.n) (taken marks order placed)
      (λ s. greedy_of table counts words flags table.n (table.n - (placed + 1)) (set marks s 1) (set order placed s) (placed + 1))
  unfolding greedy_of
  greedy_step h = let e : table.n - placed ≡ suc (table.n - (placed + 1)) = omega arith in rw e

  -- a slot taken that is not among the first i, all of these ordinary
  going_take : (s j : ℕ) → IsPlan table.n table.e table.plan counts → placed < table.n → j ≤ s → j ≤ i → j ≤ primary_start table.plan counts
      → first_from (ready table counts words flags marks placed) 0 table.n ≡ Some s → Going whole table counts words flags (set marks s 1) (set order placed s) (placed + 1) j
  going_take s j is room l m p e =
      record {
        left = g.left ∙ greedy_step room ∙ rw e;
        quiet = λ t h. ready_later table is words flags marks placed t s (omega arith) (omega arith) (g.quiet t (omega arith));
        marks_n = simp length-set g.marks_n;
        order_n = simp length-set g.order_n;
      }

  -- ---- the rising pass over the ordinary slots

  pub going_skip : ready table counts words flags marks placed i ≡ false → Going whole table counts words flags marks order placed (i + 1)
  going_skip e =
      record {
        left = g.left;
        quiet = λ t h. (let l : t ≤ i = omega arith in ⊎_elim (λ q. rw q e) (λ lt. g.quiet t lt) (eq-or-lt_of_le l));
        marks_n = g.marks_n;
        order_n = g.order_n;
      }

  pub going_rise : IsPlan table.n table.e table.plan counts → placed < table.n → i < table.n → i < primary_start table.plan counts → ready table counts words flags marks placed i ≡ true
      → Going whole table counts words flags (set marks i 1) (set order placed i) (placed + 1) (i + 1)
  going_rise is room l p e =
      let f : first_from (ready table counts words flags marks placed) 0 table.n ≡ Some i = first_at _ 0 table.n i (omega arith) (omega arith) e (λ t a b. g.quiet t b) in
      let r = going_take i i is room (omega arith) (omega arith) (omega arith) f in
      let one_set : get_or (set marks i 1) i 0 ≡ 1 = get_or-set_same marks i 1 0 (omega (arith, g.marks_n)) in
      let done = ready_marked table counts words flags (set marks i 1) (placed + 1) i (λ z. omega arith) in
      record {
        left = r.left;
        quiet = λ t h. (let b : t ≤ i = omega arith in ⊎_elim (λ q. rw q done) (λ lt. r.quiet t lt) (eq-or-lt_of_le b));
        marks_n = r.marks_n;
        order_n = r.order_n;
      }

  -- ---- the turns in the special part, which starts at i

  module _ (is : IsPlan table.n table.e table.plan counts) (start : i ≡ primary_start table.plan counts) (within : i ≤ table.n) where
    pub going_special : (s : ℕ) → placed < table.n → first_from (ready table counts words flags marks placed) i (table.n - i) ≡ Some s
        → Going whole table counts words flags (set marks s 1) (set order placed s) (placed + 1) i
    going_special s room e =
        let f = first_found _ i (table.n - i) s e in
        going_take s i is room f.least (omega arith) (omega arith) (first_skip _ i table.n within g.quiet ∙ e)

    pub going_stop : placed < table.n → first_from (ready table counts words flags marks placed) i (table.n - i) ≡ None
        → taken marks order placed ≡ whole
    going_stop room e = sym (g.left ∙ greedy_step room ∙ rw (first_skip (ready table counts words flags marks placed) i table.n within g.quiet, e))

  pub going_end : table.n ≤ placed → taken marks order placed ≡ whole
  unfolding greedy_of
  going_end h = sym (g.left ∙ (let e : table.n - placed ≡ 0 = omega arith in rw e))

-- from marks that were cleared
pub greedy_cleared : (table : FunnelTable) (counts words flags marks order l : List ℕ) → marks ≡ replicate (length l) 0 → length l ≡ table.n
    → greedy_of table counts words flags table.n table.n marks order 0 ≡ greedy_of table counts words flags table.n table.n (replicate table.n 0) order 0
greedy_cleared table counts words flags marks order l e h = rw (e, h)
