-- What a query looks up, by the numbers that its steps use. Assumes nothing.
use Rattle.std.specs.Prelude.{Bool, List, ℕ, ◌+◌}
use Rattle.elastic.specs.Reading.{Routed, reading_of, holds_at}
use Rattle.elastic_query.specs.declared.query.Lookup.{Lookup}
use Rattle.elastic_query.specs.Query.{QueryAnswer}
use Rattle.elastic_query.specs.QuerySteps.{from, Queried}

-- what a probe of a level reads
abbrev pub route_in : Lookup → ℕ → ℕ → Routed
route_in look = reading_of look.probing.n look.probing.key look.probing.cap

-- whether a slot holds the identity
abbrev pub holds_in : Lookup → (ws fs : List ℕ) → ℕ → Bool
holds_in look ws fs = holds_at ws fs look.id

abbrev pub levels_in : Lookup → ℕ
levels_in look = look.probing.last + 1

-- the walk from a position on
abbrev pub from_in : Lookup → (ws fs : List ℕ) → (p mapped words : ℕ) → QueryAnswer
from_in look ws fs = from (route_in look) (holds_in look ws fs) (levels_in look) look.cap

-- a table of so many words and flags in which it can be looked up
abbrev pub Looking : Lookup → (words flags : ℕ) → Type 0
Looking look words flags = Queried look.probing.n look.probing.last look.probing.cap look.cap words flags
