-- Laws of the smallest number that passes a test. Assumes nothing.
use Rattle.std.specs.Prelude.{Some, None, Bool, true, false, ◌≡◌, refl, ℕ, zero, suc, ◌+◌, ◌≤◌, ◌<◌}
use Rattle.std.proofs.Common.{⊎_elim, ap, ◌∙◌, eq-or-lt_of_le, arith}
use Rattle.words.specs.Pick.{pick}
use Rattle.queue.specs.Queue.{first_in, Found}

-- ---- what the answer says

pub first_found : (test : ℕ → Bool) (from k s : ℕ) → first_in test from k ≡ Some s → Found test from k s
unfolding first_in
first_found test from zero s e = let z : ◌≡◌ {A = ℕ} 0 1 = cc in absurd (omega arith)
first_found test from (suc k) s e = go (test from) refl e (first_found test (suc from) k s)
  where
    go : (x : Bool) → test from ≡ x → pick x (Some from) (first_in test (suc from) k) ≡ Some s → (first_in test (suc from) k ≡ Some s → Found test (suc from) k s) → Found test from (suc k) s
    go true q e ih =
        let m : from ≡ s = cc in
        record { least = omega arith; below = omega arith; holds = rw m at q; before = λ t l h. absurd (omega arith) }
    go false q e ih =
        let r = ih e in
        record {
          least = omega arith;
          below = omega arith;
          holds = r.holds;
          before = λ t l h. ⊎_elim (λ m. rw m at q) (λ lt. r.before t lt h) (eq-or-lt_of_le l);
        }

-- none in the range passes
pub first_none : (test : ℕ → Bool) (from k : ℕ) → first_in test from k ≡ None → (s : ℕ) → from ≤ s → s < from + k → test s ≡ false
unfolding first_in
first_none test from zero e s h l = absurd (omega arith)
first_none test from (suc k) e s h l = go (test from) refl e (first_none test (suc from) k)
  where
    go : (x : Bool) → test from ≡ x → pick x (Some from) (first_in test (suc from) k) ≡ None
        → (first_in test (suc from) k ≡ None → (s : ℕ) → suc from ≤ s → s < suc from + k → test s ≡ false) → test s ≡ false
    go true q e ih = let z : ◌≡◌ {A = ℕ} 0 1 = cc in absurd (omega arith)
    go false q e ih = ⊎_elim (λ m. rw m at q) (λ lt. ih e s lt (omega arith)) (eq-or-lt_of_le h)

-- ---- and the other way round

first_suc : (test : ℕ → Bool) (from k : ℕ) → first_in test from (suc k) ≡ pick (test from) (Some from) (first_in test (suc from) k)
unfolding first_in
first_suc test from k = refl

pub first_at : (test : ℕ → Bool) (from k s : ℕ) → from ≤ s → s < from + k → test s ≡ true → ((t : ℕ) → from ≤ t → t < s → test t ≡ false) → first_in test from k ≡ Some s
first_at test from zero s l h e before = absurd (omega arith)
first_at test from (suc k) s l h e before =
    first_suc test from k ∙ ⊎_elim (λ m. let q : test from ≡ true = rw m e in rw q (ap Some m)) (λ lt. rw (before from (omega arith) lt) (first_at test (suc from) k s lt (omega arith) e (λ t u. before t (omega arith)))) (eq-or-lt_of_le l)

pub first_all : (test : ℕ → Bool) (from k : ℕ) → ((t : ℕ) → from ≤ t → t < from + k → test t ≡ false) → first_in test from k ≡ None
unfolding first_in
first_all test from zero h = refl
first_all test from (suc k) h = rw (h from (omega arith) (omega arith)) (first_all test (suc from) k (λ t u l. h t (omega arith) (omega arith)))
