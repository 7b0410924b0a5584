-- Laws of the slots that hold an identity: after a slot is written, and where a scan finds none. Assumes nothing.
use Rattle.std.specs.Prelude.{Bool, true, false, List, ◌≡◌, refl, ℕ, zero, suc, ◌+◌, ◌≤◌, ◌<◌, eqb, length, get_or, set, Some, None}
use Rattle.std.proofs.Common.{sym, ap, ◌∙◌, lt_of_not-le, arith, get_or-set_same, get_or-set_other, eq-eqb, eqb-true}
use Rattle.std.proofs.Math.Decide.{dec_le}
use Rattle.std.proofs.Math.ListN.{get_or-eq_default}
use Rattle.std.proofs.lemmas.Bool.{eqb-false}
use Rattle.words.specs.Pick.{pick}
use Rattle.elastic.specs.Reading.{holds_at, first_from, first_of}
use Rattle.elastic.specs.ReadingLaws.{holds_vacant, holds_word}
use Rattle.elastic_insert.specs.TableLaws.{never}

holds_here : (ws fs : List ℕ) (id s : ℕ) → (get_or fs s 0 ≡ 0 → ⊥) → get_or ws s 0 ≡ id → holds_at ws fs id s ≡ true
holds_here ws fs id s f w = sym (holds_word ws fs id s f) ∙ eq-eqb (get_or ws s 0) id w

-- what a slot that holds an identity has
pub holds_flag : (ws fs : List ℕ) (id s : ℕ) → holds_at ws fs id s ≡ true → get_or fs s 0 ≡ 0 → ⊥
holds_flag ws fs id s h z = let n = holds_vacant ws fs id s z in never (cc)

holds_id : (ws fs : List ℕ) (id s : ℕ) → holds_at ws fs id s ≡ true → get_or ws s 0 ≡ id
holds_id ws fs id s h = eqb-true (get_or ws s 0) id (holds_word ws fs id s (holds_flag ws fs id s h) ∙ h)

-- a slot apart from the one that is written
pub holds_apart : (ws fs : List ℕ) (x id t s : ℕ) → (s ≡ t → ⊥) → holds_at (set ws t x) (set fs t 1) id s ≡ holds_at ws fs id s
unfolding holds_at
holds_apart ws fs x id t s d = rw (get_or-set_other fs t s 1 0 d, get_or-set_other ws t s x 0 d)

-- the slot that is written
module _ (ws fs : List ℕ) (x t : ℕ) (lw : t < length ws) (lf : t < length fs) where
  pub holds_written : holds_at (set ws t x) (set fs t 1) x t ≡ true
  holds_written = holds_here (set ws t x) (set fs t 1) x t (λ z. omega (arith, get_or-set_same fs t 1 0 lf)) (get_or-set_same ws t x 0 lw)

  pub holds_only_written : (id : ℕ) → holds_at (set ws t x) (set fs t 1) id t ≡ true → x ≡ id
  holds_only_written id h = sym (get_or-set_same ws t x 0 lw) ∙ holds_id (set ws t x) (set fs t 1) id t h

-- an identity that a scan did not find is nowhere
first_nowhere : (ws fs : List ℕ) (id tries slot : ℕ) → first_from ws fs id tries slot ≡ None → (s : ℕ) → slot ≤ s → s < slot + tries → holds_at ws fs id s ≡ false
unfolding first_from
first_nowhere ws fs id zero slot h s a b = absurd (omega arith)
first_nowhere ws fs id (suc tries) slot h s a b = go (holds_at ws fs id slot) refl h (λ g d. first_nowhere ws fs id tries (slot + 1) g s d (omega arith))
  where
    go : (x : Bool) → holds_at ws fs id slot ≡ x → pick x (Some slot) (first_from ws fs id tries (slot + 1)) ≡ None
        → (first_from ws fs id tries (slot + 1) ≡ None → slot + 1 ≤ s → holds_at ws fs id s ≡ false) → holds_at ws fs id s ≡ false
    go true e g on = never (cc)
    go false e g on = by (eqb s slot) refl
      where
        by : (y : Bool) → eqb s slot ≡ y → holds_at ws fs id s ≡ false
        by true d = ap (holds_at ws fs id) (eqb-true s slot d) ∙ e
        by false d = let q = eqb-false s slot d in on g (further q)
          where
            further : (s ≡ slot → ⊥) → slot + 1 ≤ s
            further q = omega arith

pub nowhere : (ws fs : List ℕ) (id : ℕ) → length fs ≡ length ws → first_of ws fs id ≡ None → (s : ℕ) → holds_at ws fs id s ≡ false
unfolding first_of
nowhere ws fs id l h s = go (dec_le (length fs) s)
  where
    go : Dec (length fs ≤ s) → holds_at ws fs id s ≡ false
    go (yes m) = sym (holds_vacant ws fs id s (get_or-eq_default fs 0 m))
    go (no m) = let k = lt_of_not-le m in first_nowhere ws fs id (length ws) 0 h s (omega arith) (omega arith)
