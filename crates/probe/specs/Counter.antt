-- Counters as sums of powers of two, and their limits. Assumes nothing.
use Rattle.std.specs.Prelude.{ℕ, ◌+◌, ◌*◌, ◌^◌, [], ◌∷◌, nat_lt, Option, Some, None}
use Rattle.refusal.specs.declared.Name.TheVariants as name
use Rattle.refusal.specs.Table.{Report, answered, refused}
use Rattle.words.specs.Pick.{pick}
use Rattle.probe.specs.declared.counter.Domain.{Domain}
use Rattle.probe.specs.declared.counter.Domain.TheVariants.{Ordinary, Primary, FallbackA, FallbackB}

-- "counter = level<<16, probe<<3, retry"
abbrev pub elastic_counter_of : (level probe retry : ℕ) → ℕ
elastic_counter_of level probe retry = level * 2 ^ 16 + probe * 2 ^ 3 + retry

-- "limits 32, 8192, 8": none beyond them
unfoldable pub elastic_packed_of : (level probe retry : ℕ) → Option ℕ
elastic_packed_of level probe retry =
    pick (nat_lt level 32)
    (pick (nat_lt probe 8192)
    (pick (nat_lt retry 8) (Some (elastic_counter_of level probe retry)) None) None) None

-- "tags 0 ordinary, 1 primary, 2 and 3 fallback A and B"
abbrev pub tag_of : Domain → ℕ
tag_of (Ordinary level) = 0
tag_of Primary = 1
tag_of FallbackA = 2
tag_of FallbackB = 3

-- the level of a domain; a special one has level 0
abbrev pub level_of : Domain → ℕ
level_of (Ordinary level) = level
level_of Primary = 0
level_of FallbackA = 0
level_of FallbackB = 0

-- "counter = tag<<62, level<<16, probe<<8, retry"
abbrev pub funnel_counter_of : Domain → (probe retry : ℕ) → ℕ
funnel_counter_of domain probe retry = tag_of domain * 2 ^ 62 + level_of domain * 2 ^ 16 + probe * 2 ^ 8 + retry

-- "limits 2^46, 256, 256": none beyond them
unfoldable pub funnel_packed_of : Domain → (probe retry : ℕ) → Option ℕ
funnel_packed_of domain probe retry =
    pick (nat_lt (level_of domain) (2 ^ 46))
    (pick (nat_lt probe 256)
    (pick (nat_lt retry 256) (Some (funnel_counter_of domain probe retry)) None) None) None

-- what a packing reports: COUNTER where there is none
abbrev pub packed_report : Option ℕ → Report
packed_report (Some counter) = answered (counter ∷ [])
packed_report None = refused name.Counter []
