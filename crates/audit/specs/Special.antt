-- What makes a special slot ready: first that its identity's search passes the ordinary part of its path, which no special slot
-- changes; then the special part. Assumes nothing.
use Rattle.std.specs.Prelude.{Bool, true, false, List, ℕ, ◌+◌, get_or, eqb, leb}
use Rattle.words.specs.Pick.{pick}
use Rattle.funnel.specs.declared.table.FunnelTable.{FunnelTable}
use Rattle.funnel.specs.declared.table.Search.{Search}
use Rattle.funnel.specs.declared.table.Search.TheVariants as search
use Rattle.funnel.specs.Path.{Path, join, levels_from, primary_from, fallback_of}
use Rattle.funnel.specs.Search.{search_of}
use Rattle.audit.specs.Greedy.{vacant_at}

-- "per level one bucket"
abbrev pub ordinary_path : FunnelTable → (counts : List ℕ) (identity : ℕ) → Path
ordinary_path table counts identity = levels_from table.plan counts table.seed table.word_cap identity 0 table.plan.alpha

-- "then g primary probes; then buckets A and B", the special slots from `start` on
abbrev pub special_path : FunnelTable → (start identity : ℕ) → Path
special_path table start identity =
    join (primary_from table.plan start table.seed table.word_cap identity 0 table.plan.loglog_ceiling)
    (fallback_of table.plan (start + table.plan.special_primary_len) table.seed table.word_cap identity)

-- a search that met neither the identity nor a vacancy
abbrev pub goes_on : Search → Bool
goes_on (search.Hit probes place) = false
goes_on (search.Vacant probes place) = false
goes_on (search.Full probes) = true
goes_on (search.Range refusal) = false

-- a slot that is occupied, and whose identity's search goes on past the ordinary slots
unfoldable pub live : FunnelTable → (counts words flags marks : List ℕ) → ℕ → Bool
live table counts words flags marks slot =
    pick (eqb (get_or flags slot 0) 0) false (goes_on (search_of words marks (get_or words slot 0) (ordinary_path table counts (get_or words slot 0)) 0))

-- a slot that is not placed, with room for one more, and at which the search of its identity along the special slots ends vacant
unfoldable pub ready_past : FunnelTable → (words marks : List ℕ) (start placed slot : ℕ) → Bool
ready_past table words marks start placed slot =
    pick (eqb (get_or marks slot 0) 0) (pick (leb table.plan.maximum placed) false
    (vacant_at slot (search_of words marks (get_or words slot 0) (special_path table start (get_or words slot 0)) 0))) false
