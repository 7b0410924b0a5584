-- Which slots are dirty, as code tests it. Assumes nothing.
use Rattle.std.specs.Prelude.{true, false, List, ◌≡◌, ℕ, ◌≤◌, ◌<◌, get_or}
use borrow.Author.Tests.{eq-eqb, ne_eqb, lt-ltb, le-ltb}
use Rattle.funnel.specs.Dirty.{dirty_at}

module _ (words flags : List ℕ) (s : ℕ) where
  pub dirty_word : get_or flags s 0 ≡ 0 → (get_or words s 0 ≡ 0 → ⊥) → dirty_at words flags s ≡ true
  unfolding dirty_at
  dirty_word f w = rw (eq-eqb _ _ f, ne_eqb _ _ w)

  pub dirty_flag : (get_or flags s 0 ≡ 0 → ⊥) → 1 < get_or flags s 0 → dirty_at words flags s ≡ true
  unfolding dirty_at
  dirty_flag f l = rw (ne_eqb _ _ f, lt-ltb _ _ l)

  pub clean_vacant : get_or flags s 0 ≡ 0 → get_or words s 0 ≡ 0 → dirty_at words flags s ≡ false
  unfolding dirty_at
  clean_vacant f w = rw (eq-eqb _ _ f, eq-eqb _ _ w)

  pub clean_flag : (get_or flags s 0 ≡ 0 → ⊥) → get_or flags s 0 ≤ 1 → dirty_at words flags s ≡ false
  unfolding dirty_at
  clean_flag f l = rw (ne_eqb _ _ f, le-ltb _ _ l)
