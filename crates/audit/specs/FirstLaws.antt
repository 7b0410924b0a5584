-- Laws of the smallest slot that passes a test: it is the smallest number that does, so they are the queue's. Assumes nothing.
use Rattle.std.specs.Prelude.{Bool, true, false, ◌≡◌, refl, ℕ, zero, suc, ◌+◌, ◌-◌, ◌≤◌, ◌<◌, Some, None}
use Rattle.std.proofs.Common.{ap, ◌∙◌}
use Rattle.std.proofs.Math.Path.{sym}
use native.Mathlib.Omega.{arith}
use Rattle.words.specs.Pick.{pick}
use Rattle.queue.specs.FirstLaws as numbers
use Rattle.queue.specs.Queue.{first_in, Found}
use Rattle.audit.specs.Greedy.{First, first_from}

first_is : (test : ℕ → Bool) (from k : ℕ) → first_from test from k ≡ first_in test from k
unfolding first_from first_in
first_is test from zero = refl
first_is test from (suc k) = ap (pick (test from) (Some from)) (first_is test (suc from) k)

-- ---- what the answer says

pub first_found : (test : ℕ → Bool) (from k s : ℕ) → first_from test from k ≡ Some s → Found test from k s
first_found test from k s e = numbers.first_found test from k s (sym (first_is test from k) ∙ e)

-- none in the range passes
pub first_none : (test : ℕ → Bool) (from k : ℕ) → first_from test from k ≡ None → (s : ℕ) → from ≤ s → s < from + k → test s ≡ false
first_none test from k e = numbers.first_none test from k (sym (first_is test from k) ∙ e)

-- ---- and the other way round

pub first_at : (test : ℕ → Bool) (from k s : ℕ) → from ≤ s → s < from + k → test s ≡ true → ((t : ℕ) → from ≤ t → t < s → test t ≡ false) → first_from test from k ≡ Some s
first_at test from k s l h e before = first_is test from k ∙ numbers.first_at test from k s l h e before

pub first_all : (test : ℕ → Bool) (from k : ℕ) → ((t : ℕ) → from ≤ t → t < from + k → test t ≡ false) → first_from test from k ≡ None
first_all test from k h = first_is test from k ∙ numbers.first_all test from k h

-- none, where it is no slot
pub none_left : (r : First) → ((s : ℕ) → r ≡ Some s → ⊥) → r ≡ None
none_left (Some s) h = absurd (h s refl)
none_left None h = refl

-- two tests that agree on the range
pub first_alike : (test other : ℕ → Bool) (from k : ℕ) → ((t : ℕ) → from ≤ t → t < from + k → test t ≡ other t) → first_from test from k ≡ first_from other from k
unfolding first_from
first_alike test other from zero h = refl
first_alike test other from (suc k) h =
    rw (h from (omega arith) (omega arith), first_alike test other (suc from) k (λ t l u. h t (omega arith) (omega arith)))

-- ---- as a loop that counts up makes it

pub record Passed (test : ℕ → Bool) (from n i : ℕ) : Type 0 where
  pub left : first_from test from (n - from) ≡ first_from test i (n - i)

pub passed_none : (test : ℕ → Bool) (from n : ℕ) → Passed test from n from
passed_none test from n = record { left = refl }

first_step : (test : ℕ → Bool) (n i : ℕ) → i < n → first_from test i (n - i) ≡ pick (test i) (Some i) (first_from test (i + 1) (n - (i + 1)))
unfolding first_from
first_step test n i h =
    let e : n - i ≡ suc (n - (i + 1)) = omega arith in
    let e2 : suc i ≡ i + 1 = omega arith in
    rw (e, e2)

module _ {test : ℕ → Bool} {from n i : ℕ} (p : Passed test from n i) where
  pub passed_at : i < n → test i ≡ true → Some i ≡ first_from test from (n - from)
  passed_at h e = sym (p.left ∙ rw (first_step test n i h, e))

  pub passed_more : i < n → test i ≡ false → Passed test from n (i + 1)
  passed_more h e = record { left = p.left ∙ rw (first_step test n i h, e) }

  pub passed_end : n ≤ i → None ≡ first_from test from (n - from)
  unfolding first_from
  passed_end h = sym (p.left ∙ (let e : n - i ≡ 0 = omega arith in rw e))

-- from slot 0 on
pub from_zero : (test : ℕ → Bool) (n : ℕ) → first_from test 0 (n - 0) ≡ first_from test 0 n
from_zero test n = let e : n - 0 ≡ n = omega arith in rw e
