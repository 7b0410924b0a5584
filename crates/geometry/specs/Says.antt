-- What it is for a truth value to answer a question. Assumes nothing.
use Rattle.std.specs.Prelude.{Bool, true, false}

-- the answer tells whether it is so
abbrev pub Says : Bool → Type 0 → Type 0
Says true P = P
Says false P = P → ⊥

-- the truth value of what is decided
abbrev pub truth : {A : Type 0} → Dec A → Bool
truth (yes a) = true
truth (no f) = false
