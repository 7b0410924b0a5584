-- A line splits at its first space. Assumes nothing.
use Rattle.std.proofs.Common.{◌≡◌, ◌≢◌, ℕ, ◌+◌, ◌<◌, Bool, true, false, List, [], ◌∷◌, ◌++◌, length, get_or, take, drop, All, refl, sym, ap, ◌∙◌, take-append-drop}
use Rattle.std.specs.List.{slice_split, onto_first}
use Rattle.std.proofs.lemmas.Bool.{cond-true, cond-false}
use Rattle.std.proofs.lemmas.List.{drop_more, take_more}
use Rattle.std.proofs.lemmas.List.Elements.{All-push, All-head, All-tail}
use borrow.Author.Tests.{ne_eqb}
use Rattle.text.specs.Fields.{is_space}

module _ (p : ℕ → Bool) where
  split_no : (x : ℕ) (xs : List ℕ) → p x ≡ false → slice_split p (x ∷ xs) ≡ onto_first x (slice_split p xs)
  split_no x xs e = cond-false (p x) _ _ e

  pub split_none : (xs : List ℕ) → All (λ x. p x ≡ false) xs → slice_split p xs ≡ xs ∷ []
  split_none [] h = refl
  split_none (x ∷ xs) h =
      split_no x xs (All-head (λ y. p y ≡ false) x xs h) ∙ ap (onto_first x) (split_none xs (All-tail (λ y. p y ≡ false) x xs h))

  split_at : (xs : List ℕ) (y : ℕ) (ys : List ℕ) → All (λ x. p x ≡ false) xs → p y ≡ true → slice_split p (xs ++ y ∷ ys) ≡ xs ∷ slice_split p ys
  split_at [] y ys h e = cond-true (p y) _ _ e
  split_at (x ∷ xs) y ys h e =
      split_no x (xs ++ y ∷ ys) (All-head (λ z. p z ≡ false) x xs h) ∙ ap (onto_first x) (split_at xs y ys (All-tail (λ z. p z ≡ false) x xs h) e)

  -- the first part ends at a place where the test passes
  pub split_read : (xs : List ℕ) (i : ℕ) (y : ℕ) → i < length xs → y ≡ get_or xs i y → p y ≡ true → All (λ x. p x ≡ false) (take i xs) → slice_split p xs ≡ take i xs ∷ slice_split p (drop (i + 1) xs)
  split_read xs i y lt read e h =
      let parts : xs ≡ take i xs ++ y ∷ drop (i + 1) xs =
      sym (take-append-drop i xs) ∙ ap (λ zs. take i xs ++ zs) (drop_more xs i y lt ∙ ap (λ z. z ∷ drop (i + 1) xs) (sym read)) in
      ap (slice_split p) parts ∙ split_at (take i xs) y (drop (i + 1) xs) h e

-- one place more without a space
pub all_more : (line : List ℕ) (at : ℕ) → at < length line → (get_or line at 0 ≢ 32) → All (λ x. is_space x ≡ false) (take at line)
    → All (λ x. is_space x ≡ false) (take (at + 1) line)
all_more line at lt ne h =
    let last : is_space (get_or line at 0) ≡ false = ne_eqb (get_or line at 0) 32 ne in
    rw (take_more line at 0 lt) (All-push (λ x. is_space x ≡ false) (take at line) (get_or line at 0) h last)
