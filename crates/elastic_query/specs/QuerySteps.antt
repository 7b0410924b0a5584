-- The query by mapped positions alone: what its steps say. Assumes nothing.
use Rattle.std.specs.Prelude.{Bool, true, false, ◌≡◌, ℕ, ◌+◌, ◌-◌, ◌*◌, ◌/◌, ◌≤◌, ◌<◌, min, eqb, Ok}
use Rattle.words.specs.Pick.{pick}
use Rattle.geometry.specs.Elastic.{levels_of}
use Rattle.elastic_probe.specs.Phi.{at, coords_of}
use Rattle.elastic_probe.specs.TreeLaws.{Node}
use Rattle.std.proofs.Common.{ControlFlow, Continue, Break}
use Rattle.elastic.specs.Reading.{read_slot, Routed}
use Rattle.elastic_query.specs.declared.query.Cost.{Cost}
use Rattle.elastic_query.specs.Query.{QueryAnswer, Tally, within, walk_of}

-- what was counted when position p is next and level 0 probe 0 was read: each position before is mapped or a gap
abbrev pub up_to : (p mapped words : ℕ) → Tally
up_to p m w = record { mapped = m; gaps = p - 1 - m; words = w; seen = true }

-- the walk from position p on
unfoldable pub from : (route : ℕ → ℕ → Routed) (holds : ℕ → Bool) (levels cap p mapped words : ℕ) → QueryAnswer
from route holds levels cap p m w = walk_of route holds levels (cap + 1 - p) p (up_to p m w)

-- the words of a mapped position; level 0 probe 0 takes no more
unfoldable pub charged : (i j words : ℕ) → ℕ
charged i j words = pick (eqb (i - 1 + (j - 1)) 0) 0 words

-- a reading that is no refusal and not the identity
pub record Missed (route : ℕ → ℕ → Routed) (holds : ℕ → Bool) (level probe : ℕ) : Type 0 where
  pub slot : ℕ
  pub words : ℕ
  pub is : route level probe ≡ Ok (read_slot slot words)
  pub other : holds slot ≡ false

-- what holds of the counts where position p is next
pub record Fine (p mapped words : ℕ) : Type 0 where
  pub few : mapped < p
  pub low : words ≤ 8 * p

-- what was counted
abbrev pub cost : (mapped words : ℕ) → Cost
cost m w = record { mapped = m; words = w }

-- what a position or the positions of a node say: the answer of the walk, or on with the counts
abbrev pub Scan : Type 0
Scan = ControlFlow QueryAnswer Cost

-- a scan ends the walk with its answer, or the walk goes on with the counts
abbrev pub scan_told : Scan → (ℕ → ℕ → QueryAnswer) → QueryAnswer
scan_told (Break a) rest = a
scan_told (Continue c) rest = rest c.mapped c.words

abbrev pub IsScanFine : Scan → ℕ → Type 0
IsScanFine (Break a) e = Unit {0}
IsScanFine (Continue c) e = Fine e c.mapped c.words

-- what a scan says of the walk before it, with the walk after it
pub record Scanned (old : QueryAnswer) (r : Scan) (rest : ℕ → ℕ → QueryAnswer) (e : ℕ) : Type 0 where
  pub same : old ≡ scan_told r rest
  pub fine : IsScanFine r e

-- a table that can be queried
pub record Queried (n last word_cap cap words flags : ℕ) : Type 0 where
  pub least : 2 ≤ n
  pub most : n ≤ 4294967296
  pub last_is : last + 1 ≡ levels_of n
  pub short : last < 32
  pub few : word_cap ≤ 8
  pub near : cap ≤ 984263340
  pub words_size : words ≡ n
  pub flags_size : flags ≡ n

-- what a scan of a node asks
pub record Scanning (route : ℕ → ℕ → Routed) (holds : ℕ → Bool) (cap b j q mapped words : ℕ) : Type 0 where
  pub node : Node b j q
  pub miss : Missed route holds 0 0
  pub near : b ≤ cap
  pub fine : Fine b mapped words

-- what a visit of position p asks: it is probe j of level i, both from 1
pub record Visiting (levels cap p i j mapped words : ℕ) : Type 0 where
  pub is : within levels (coords_of p) ≡ at i j
  pub level_pos : 0 < i
  pub level : i ≤ levels
  pub probe_pos : 0 < j
  pub probe : j ≤ 8192
  pub near : p ≤ cap
  pub fine : Fine p mapped words

-- where the mapped positions of a node end, by i: at its middle, past the last level, or at the cap
abbrev pub end_of : (levels cap b q : ℕ) → ℕ
end_of levels cap b q = min (min (2 * (q / 4)) (levels + 1)) (cap - b + 1)
