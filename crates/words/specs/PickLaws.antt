-- Laws of the choice by a test. Assumes nothing.
use Rattle.std.specs.Prelude.{Bool, true, false, ◌≡◌}
use Rattle.words.specs.Pick.{pick}

-- a function of a choice is the choice of its values, as the report of a choice is the choice of the reports
pub through : {A B : Type 0} (f : A → B) (t : Bool) (a b : A) (x y : B) → f a ≡ x → f b ≡ y → f (pick t a b) ≡ pick t x y
through f true a b x y p q = p
through f false a b x y p q = q
