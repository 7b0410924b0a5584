-- Laws of truth values that answer a question. Assumes nothing.
use Rattle.std.specs.Prelude.{Bool, true, false, ◌≡◌, refl, ℕ}
use Rattle.std.proofs.Common.{arith}
use Rattle.geometry.specs.Says.{Says, truth}

pub says_true : (b : Bool) (P : Type 0) → Says b P → b ≡ true → P
says_true true P s e = s
says_true false P s e = let z : ◌≡◌ {A = ℕ} 0 1 = cc in absurd (omega arith)

pub says_false : (b : Bool) (P : Type 0) → Says b P → b ≡ false → P → ⊥
says_false true P s e = let z : ◌≡◌ {A = ℕ} 0 1 = cc in absurd (omega arith)
says_false false P s e = s

-- two answers to one question are the same
pub says_one : (b d : Bool) (P : Type 0) → Says b P → Says d P → b ≡ d
says_one true true P p q = refl
says_one true false P p q = absurd (q p)
says_one false true P p q = absurd (p q)
says_one false false P p q = refl

pub truth_says : {A : Type 0} (d : Dec A) → Says (truth d) A
truth_says (yes a) = a
truth_says (no f) = f
