-- Where a search stops, told by the slot alone. Assumes nothing.
use Rattle.std.specs.Prelude.{◌≡◌, List, ℕ, ◌+◌, ◌*◌, ◌<◌, ◌^◌, get_or}
use Rattle.words.specs.declared.place.Place.{Place}
use Rattle.words.specs.declared.place.Place.TheVariants as place
use Rattle.probe.specs.Counter.{funnel_counter_of}
use Rattle.probe.specs.Range.{FirstIndex}
use Rattle.probe.specs.declared.counter.Domain.TheVariants as domain
use Rattle.probe.specs.declared.word.FunnelKey.{FunnelKey}
use Rattle.funnel.specs.declared.table.Halt.{Halt}
use Rattle.funnel.specs.declared.table.Halt.TheVariants as halt
use Rattle.funnel.specs.declared.table.Search.{Search}
use Rattle.funnel.specs.declared.table.Search.TheVariants as search
use Rattle.funnel.specs.declared.table.Stop.{Stop}
use Rattle.funnel.specs.declared.table.Stop.TheVariants as stop
use Rattle.funnel.specs.declared.table.Walk.{Walk}
use Rattle.funnel.specs.declared.table.Walk.TheVariants as walk
use Rattle.funnel.specs.Path.{slot_of, run, bucket_from}
use Rattle.funnel.specs.Search.{search_of}

-- a search finds the identity in a slot
pub record HitAt (slot : ℕ) (found : Search) : Type 0 where
  pub probes : ℕ
  pub place : Place
  pub is : found ≡ search.Hit probes place
  pub there : slot ≡ slot_of place

-- a search ends at a vacant slot
pub record VacantAt (slot : ℕ) (found : Search) : Type 0 where
  pub probes : ℕ
  pub place : Place
  pub is : found ≡ search.Vacant probes place
  pub there : slot ≡ slot_of place

-- where a search stops; `else` is what is known where that is nowhere among the slots passed
unfoldable pub StopsAt : Stop → Search → Type 0 → Type 0
StopsAt (stop.Hit slot) found else = HitAt slot found
StopsAt (stop.Vacant slot) found else = VacantAt slot found
StopsAt stop.Nowhere found else = else

-- where a bucket of w slots stops a search, whatever the bucket's numbers and the probes made before
abbrev pub BucketStops : (words flags : List ℕ) (identity from w : ℕ) → Stop → Type 0
BucketStops words flags identity from w r =
    (level bucket k : ℕ)
    → StopsAt r (search_of words flags identity (run (bucket_from level bucket from 0 w)) k)
    (search_of words flags identity (run (bucket_from level bucket from 0 w)) k ≡ search.Full (k + w))

-- what a bucket of w slots from `from` on answers a search after k probes with, by where it halts
unfoldable pub halt_of : (level bucket from w k : ℕ) → Halt → Search
halt_of level bucket from w k (halt.Hit i) = search.Hit (k + i + 1) (place.Ordinary level bucket i (record { 0 = from + i }))
halt_of level bucket from w k (halt.Vacant i) = search.Vacant (k + i + 1) (place.Ordinary level bucket i (record { 0 = from + i }))
halt_of level bucket from w k halt.Nowhere = search.Full (k + w)

unfoldable pub Inside : ℕ → Halt → Type 0
Inside w (halt.Hit i) = i < w
Inside w (halt.Vacant i) = i < w
Inside w halt.Nowhere = Unit {0}

-- where a bucket of w slots halts a search, whatever the bucket's numbers and the probes made before
pub record Halts (words flags : List ℕ) (identity from w : ℕ) (r : Halt) : Type 0 where
  pub inside : Inside w r
  pub says : (level bucket k : ℕ) → search_of words flags identity (run (bucket_from level bucket from 0 w)) k ≡ halt_of level bucket from w k r

-- a bucket of a level halts the search along the levels, which are beta slots each; the numbers of its answer are small
pub record HaltedIn (beta level bucket from : ℕ) (r : Halt) (found : Search) : Type 0 where
  pub inside : Inside beta r
  pub slots : from + beta < 2 ^ 64
  pub probes : level * beta + beta < 2 ^ 64
  pub is : found ≡ halt_of level bucket from beta (level * beta) r

-- what a walk over alpha levels says of the search along them
unfoldable pub WalksTo : (alpha beta : ℕ) → Walk → Search → Type 0
WalksTo alpha beta (walk.Hit level bucket from i) found = HaltedIn beta level bucket from (halt.Hit i) found
WalksTo alpha beta (walk.Vacant level bucket from i) found = HaltedIn beta level bucket from (halt.Vacant i) found
WalksTo alpha beta walk.Past found = found ≡ search.Full (alpha * beta)
WalksTo alpha beta walk.Unsettled found = Unit {0}

-- the bucket of a level by its first word, where there is such a level
pub record FirstAhead (key : FunnelKey) (counts : List ℕ) (alpha level bucket : ℕ) : Type 0 where
  pub ahead : level < alpha → FirstIndex key.inner key.outer (funnel_counter_of (domain.Ordinary level) 0 0) (get_or counts level 0) bucket
