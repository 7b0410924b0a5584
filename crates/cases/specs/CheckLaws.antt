-- The check of the funnel table in which every level is one bucket, where no slot but 0 and 1 is occupied. Assumes nothing.
use Rattle.std.specs.Prelude.{Bool, true, false, ◌≡◌, set, Some, None, Ok, Err}
use mathlib.Core.List.{List, ◌∷◌}
use Rattle.std.proofs.Math.Path.{refl}
use Rattle.std.proofs.Common.{◌∙◌, arith}
use Prim.Native.Nat.{ℕ, zero, suc, ◌+◌}
use Rattle.words.specs.BytesLaws.{get_d_zeros}
use Rattle.funnel.specs.declared.table.FunnelTable.{FunnelTable}
use Rattle.funnel.specs.declared.table.Search.TheVariants as search
use Rattle.funnel.specs.Dirty.{dirty_at}
use Rattle.audit_calls.specs.declared.check.CheckRefusal.TheVariants as checked
use Rattle.audit.specs.Greedy.{First, first_from, unplaced, ready, taken, greedy_of}
use Rattle.audit.specs.FirstLaws.{first_all}
use Rattle.audit.specs.ReadyLaws.{unplaced_vacant, ready_vacant, ready_marked, ready_by}
use Rattle.audit_calls.specs.Check.{Lent, ended, answer_of, end_of, take_all, audit_of, check_of}
use Rattle.funnel.specs.DirtyLaws.{clean_vacant}
use Rattle.audit_calls.specs.CheckLaws.{check_audit}
use Rattle.funnel.specs.OneBucket.{counts, table}
use Rattle.cases.specs.OneBucket.{zeros, ordinary, Given}
use Rattle.cases.specs.OneBucketLaws.{is_plan_lem, find_vacant, find_hit}

-- ---- the greedy order, turn by turn

module _ (t : FunnelTable) (cs words flags : List ℕ) (n turns : ℕ) (marks order : List ℕ) (placed : ℕ) where
  greedy_stops : first_from (ready t cs words flags marks placed) 0 n ≡ None → greedy_of t cs words flags n (suc turns) marks order placed ≡ taken marks order placed
  unfolding greedy_of
  greedy_stops e = rw e

  greedy_takes : (s : ℕ) → first_from (ready t cs words flags marks placed) 0 n ≡ Some s
      → greedy_of t cs words flags n (suc turns) marks order placed ≡ greedy_of t cs words flags n turns (set marks s 1) (set order placed s) (placed + 1)
  unfolding greedy_of
  greedy_takes s e = rw e

-- ---- an image of two slots

-- none of some slots passes, if slots 0 and 1 do not, and none after them
by_two : (test : ℕ → Bool) → test 0 ≡ false → test 1 ≡ false → ((i : ℕ) → test (suc (suc i)) ≡ false) → (n : ℕ) → first_from test 0 n ≡ None
by_two test a b c n = first_all test 0 n (λ i l h. at i)
  where
    at : (i : ℕ) → test i ≡ false
    at zero = a
    at (suc zero) = b
    at (suc (suc i)) = c i

first_zero : (test : ℕ → Bool) (n : ℕ) → test 0 ≡ true → first_from test 0 (suc n) ≡ Some 0
unfolding first_from
first_zero test n e = rw e

abbrev two : (a b : ℕ) → List ℕ
two a b = a ∷ b ∷ zeros 142

module _ (seed cap count : ℕ) (marks order : List ℕ) (given : Given cap count marks order) (a b x y : ℕ) where
  abbrev t : FunnelTable
  t = table seed cap count

  abbrev Ready : (marks : List ℕ) (placed slot : ℕ) → Bool
  Ready = ready t counts (two a b) (two x y)

  lent : Lent t counts (two a b) (two x y) marks order
  lent =
      record {
        valid = record { planned = is_plan_lem; cap_least = given.cap_least; cap_most = given.cap_most; words_length = refl; flags_length = refl; counted = given.counted };
        marks_n = given.marks_n;
        order_n = given.order_n;
      }

  -- slots 0 and 1 tell whether the greedy order stops
  stops : (ms : List ℕ) (placed : ℕ) → Ready ms placed 0 ≡ false → Ready ms placed 1 ≡ false → first_from (Ready ms placed) 0 144 ≡ None
  stops ms placed h k = by_two (Ready ms placed) h k (λ i. ready_vacant t counts (two a b) (two x y) ms placed (suc (suc i)) (get_d_zeros 142 i)) 144

  -- the check, by where the greedy order ends
  ends : dirty_at (two a b) (two x y) 0 ≡ false → dirty_at (two a b) (two x y) 1 ≡ false → (ms os : List ℕ) (placed : ℕ) (r : First)
      → greedy_of t counts (two a b) (two x y) 144 144 (zeros 144) order 0 ≡ taken ms os placed → first_from (unplaced (two x y) ms) 0 144 ≡ r
      → check_of t counts (two a b) (two x y) marks order ≡ ended (answer_of r placed) ms os
  unfolding audit_of take_all end_of
  ends h k ms os placed r g u =
      let c : first_from (dirty_at (two a b) (two x y)) 0 144 ≡ None = by_two (dirty_at (two a b) (two x y)) h k (λ i. clean_vacant (two a b) (two x y) (suc (suc i)) (get_d_zeros 142 i) (get_d_zeros 142 i)) 144 in
      check_audit t counts (two a b) (two x y) marks order lent ∙ rw (c, g, u)

-- ---- the three images

module _ (seed cap count : ℕ) (marks order : List ℕ) (given : Given cap count marks order) where
  abbrev here : FunnelTable
  here = table seed cap count

  -- "Empty: accepted, order empty"
  pub empty : check_of here counts (two 0 0) (two 0 0) marks order ≡ ended (Ok 0) (zeros 144) order
  unfolding dirty_at
  empty =
      ends seed cap count marks order given 0 0 0 0 refl refl (zeros 144) order 0 None
      (greedy_stops here counts (two 0 0) (two 0 0) 144 143 (zeros 144) order 0
      (stops seed cap count marks order given 0 0 0 0 (zeros 144) 0
      (ready_vacant here counts (two 0 0) (two 0 0) (zeros 144) 0 0 refl) (ready_vacant here counts (two 0 0) (two 0 0) (zeros 144) 0 1 refl)))
      (by_two (unplaced (two 0 0) (zeros 144)) (unplaced_vacant (two 0 0) (zeros 144) 0 refl) (unplaced_vacant (two 0 0) (zeros 144) 1 refl) (λ i. unplaced_vacant (two 0 0) (zeros 144) (suc (suc i)) (get_d_zeros 142 i)) 144)

  module _ (identity : ℕ) where
    -- "only slot 1 occupied: DISORDER, placed 0, slot 1": an insertion into the empty part would be answered at slot 0
    pub only_second : check_of here counts (two 0 identity) (two 0 1) marks order ≡ ended (Err (checked.Disorder 0 1)) (zeros 144) order
    unfolding dirty_at first_from unplaced
    only_second =
        let found = find_vacant seed cap identity given.cap_least count (two 0 identity) (zeros 144) 0 (omega arith) (λ j l. absurd (omega arith)) refl in
        let not-ready = ready_by here counts (two 0 identity) (two 0 1) (zeros 144) 0 1 (omega arith) (λ z. omega arith) refl (search.Vacant 1 (ordinary 0)) found in
        ends seed cap count marks order given 0 identity 0 1 refl refl (zeros 144) order 0 (Some 1)
        (greedy_stops here counts (two 0 identity) (two 0 1) 144 143 (zeros 144) order 0
        (stops seed cap count marks order given 0 identity 0 1 (zeros 144) 0 (ready_vacant here counts (two 0 identity) (two 0 1) (zeros 144) 0 0 refl) not-ready))
        refl

    -- "Equal identities in 0 and 1: placed 1, slot 1": with slot 0 taken, an insertion of the other is a duplicate
    pub twice : check_of here counts (two identity identity) (two 1 1) marks order ≡ ended (Err (checked.Disorder 1 1)) (1 ∷ zeros 143) (set order 0 0)
    unfolding dirty_at first_from unplaced
    twice =
        let words = two identity identity in
        let flags = two 1 1 in
        let one : List ℕ = 1 ∷ zeros 143 in
        let found = find_vacant seed cap identity given.cap_least count words (zeros 144) 0 (omega arith) (λ j l. absurd (omega arith)) refl in
        let hit = find_hit seed cap identity given.cap_least count words one 0 (omega arith) (λ j l. absurd (omega arith)) (λ z. omega arith) refl in
        let is_ready = ready_by here counts words flags (zeros 144) 0 0 (omega arith) (λ z. omega arith) refl (search.Vacant 1 (ordinary 0)) found in
        let not-ready = ready_by here counts words flags one 1 1 (omega arith) (λ z. omega arith) refl (search.Hit 1 (ordinary 0)) hit in
        ends seed cap count marks order given identity identity 1 1 refl refl one (set order 0 0) 1 (Some 1)
        (greedy_takes here counts words flags 144 143 (zeros 144) order 0 0 (first_zero (ready here counts words flags (zeros 144) 0) 143 is_ready)
        ∙ greedy_stops here counts words flags 144 142 one (set order 0 0) 1
        (stops seed cap count marks order given identity identity 1 1 one 1 (ready_marked here counts words flags one 1 0 (λ z. omega arith)) not-ready))
        refl
