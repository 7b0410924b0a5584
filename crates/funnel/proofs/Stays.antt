-- An answer that is not "full" is the answer of the whole search. Assumes nothing.
use mathlib.Core.List.{List}
use mathlib.Core.Path.{◌≡◌, refl}
use Prim.Native.Nat.{ℕ}
use Rattle.funnel.specs.declared.table.Search.{Search}
use Rattle.funnel.specs.declared.table.Search.TheVariants.{Hit, Vacant, Full, Range}
use Rattle.funnel.specs.Path.{Path}
use Rattle.funnel.specs.SearchLaws.{resume}

pub stays : (words flags : List ℕ) (identity : ℕ) (q : Path) (r : Search) → ((x : ℕ) → r ≡ Full x → ⊥) → r ≡ resume words flags identity q r
unfolding resume
stays words flags identity q (Hit probes place) h = refl
stays words flags identity q (Vacant probes place) h = refl
stays words flags identity q (Range refusal) h = refl
stays words flags identity q (Full probes) h = absurd (h probes refl)
