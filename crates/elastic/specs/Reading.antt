-- What a probe of a level reads; the search of a level for a vacancy; the first slot that holds an identity. Assumes nothing.
use Rattle.std.specs.Prelude.{Bool, false, List, ◌≡◌, ℕ, zero, suc, ◌+◌, ◌≤◌, ◌<◌, eqb, length, get_or, Option, Some, None, Result, Ok, Err}
use Rattle.words.specs.Pick.{pick}
use Rattle.geometry.specs.Elastic.{levels_of, length_at, offset_at}
use Rattle.probe.specs.Range.{Drawn, keyed_draw_of}
use Rattle.refusal.specs.declared.RangeRefusal.{RangeRefusal}
use Rattle.words.specs.declared.place.LogicalProbe.{LogicalProbe}
use Rattle.elastic.specs.declared.route.Reading.{Reading}
use Rattle.elastic.specs.declared.route.Vacant.{Vacant}

-- what a probe reads: a slot, and how many words its draw took; or that all its words were rejected
abbrev pub read_slot : (slot words : ℕ) → Reading
read_slot slot words = record { slot = slot; words = words }

abbrev pub Routed : Type 0
Routed = Result Reading RangeRefusal

-- where a search ends: at a vacant slot and the probe that read it, past its last probe, or refused
abbrev pub vacant : (slot : ℕ) → LogicalProbe → Vacant
vacant slot probe = record { slot = slot; probe = probe }

abbrev pub Sought : Type 0
Sought = Result (Option Vacant) RangeRefusal

-- where an identity is
abbrev pub Located : Type 0
Located = Option ℕ

-- an index drawn in a level is a slot of the table
abbrev pub reading_by : (offset : ℕ) → Drawn → Routed
reading_by offset (Ok drew) = Ok (read_slot (offset + drew.index) drew.words)
reading_by offset (Err refusal) = Err refusal

-- the slot that a probe of a level reads for the identity of a key, and the words that it took
unfoldable pub reading_of : (n key cap level probe : ℕ) → Routed
reading_of n key cap level probe =
    reading_by (offset_at n level) (keyed_draw_of key level probe (length_at n level) cap)

-- "Flag 0 is vacant, any other occupied"
abbrev pub vacant_at : List ℕ → ℕ → Bool
vacant_at fs slot = eqb (get_or fs slot 0) 0

-- an occupied slot with that identity
unfoldable pub holds_at : (ws fs : List ℕ) (id slot : ℕ) → Bool
holds_at ws fs id slot = pick (vacant_at fs slot) false (eqb (get_or ws slot 0) id)

-- one probe of a search: refused, at a vacancy, or on to the later ones
abbrev pub seek_by : List ℕ → ℕ → Routed → Sought → Sought
seek_by fs probe (Err refusal) later = Err refusal
seek_by fs probe (Ok reading) later = pick (vacant_at fs reading.slot) (Ok (Some (vacant reading.slot (record { 0 = probe })))) later

-- so many probes of a level from one on, up to the first vacancy
unfoldable pub seek_from : (n key cap : ℕ) → List ℕ → (level tries probe : ℕ) → Sought
seek_from n key cap fs level zero probe = Ok None
seek_from n key cap fs level (suc tries) probe =
    seek_by fs probe (reading_of n key cap level probe) (seek_from n key cap fs level tries (probe + 1))

abbrev pub seek_of : (n key cap : ℕ) → List ℕ → (level tries : ℕ) → Sought
seek_of n key cap fs level tries = seek_from n key cap fs level tries 0

-- "DUPLICATE names the smallest such slot": of so many slots from one on
unfoldable pub first_from : (ws fs : List ℕ) (id tries slot : ℕ) → Located
first_from ws fs id zero slot = None
first_from ws fs id (suc tries) slot = pick (holds_at ws fs id slot) (Some slot) (first_from ws fs id tries (slot + 1))

unfoldable pub first_of : (ws fs : List ℕ) (id : ℕ) → Located
first_of ws fs id = first_from ws fs id (length ws) 0

-- none of the first words is the identity
pub record Without (ws : List ℕ) (id i : ℕ) : Type 0 where
  pub none : (j : ℕ) → j < i → get_or ws j 0 ≡ id → ⊥

-- a level that can be probed, with `last` the number of the last level
pub record Probed (n last cap level : ℕ) : Type 0 where
  pub least : 2 ≤ n
  pub most : n ≤ 4294967296
  pub last_is : last + 1 ≡ levels_of n
  pub has : level ≤ last
  pub few : cap ≤ 8

-- a search of it that keeps within the packing
pub record Seekable (n last cap level tries flags : ℕ) : Type 0 where
  pub probed : Probed n last cap level
  pub tries_most : tries ≤ 8192
  pub size : flags ≡ n

-- where the slot of a reading lies
pub record Read (n cap level slot words : ℕ) : Type 0 where
  pub from : offset_at n level ≤ slot
  pub to : slot < offset_at n level + length_at n level
  pub below : slot < n
  pub some : 0 < words
  pub most : words ≤ cap
