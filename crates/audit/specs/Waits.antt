-- The turns in the special part: which special slots wait on which, and how far the greedy order is while the ordinary marks hold the links
-- and the queue of those still to be looked at. Special slots go by their number from the start of the part. Assumes nothing.
use Rattle.std.specs.Prelude.{Bool, true, false, List, ◌⊎◌, ◌≡◌, ℕ, ◌+◌, ◌≤◌, ◌<◌, length, get_or, eqb, Some, None}
use Rattle.words.specs.Pick.{pick}
use Rattle.funnel.specs.declared.table.FunnelTable.{FunnelTable}
use Rattle.funnel.specs.declared.table.Search.{Search}
use Rattle.funnel.specs.declared.table.Search.TheVariants as search
use Rattle.funnel.specs.Path.{slot_of}
use Rattle.funnel.specs.Search.{search_of}
use Rattle.waiting.specs.Links.{candidate, Fits, Beyond}
use Rattle.waiting.specs.Waiting.{Waiting}
use Rattle.audit.specs.Greedy.{First, Taken, vacant_at}
use Rattle.audit.specs.Going.{Going}
use Rattle.audit.specs.Special.{special_path, live}

-- the search of a slot's identity along the special slots
abbrev pub special_end : FunnelTable → (words marks : List ℕ) (start slot : ℕ) → Search
special_end table words marks start slot = search_of words marks (get_or words slot 0) (special_path table start (get_or words slot 0)) 0

-- the slot at which a search ended vacant
abbrev pub vacancy_of : Search → First
vacancy_of (search.Hit probes place) = None
vacancy_of (search.Vacant probes place) = Some (slot_of place)
vacancy_of (search.Full probes) = None
vacancy_of (search.Range refusal) = None

-- x waits on u: its search ends vacant at u
unfoldable pub waits_of : FunnelTable → (words marks : List ℕ) (start x u : ℕ) → Bool
waits_of table words marks start x u = vacant_at (start + u) (special_end table words marks start (start + x))

-- x is live and not placed
unfoldable pub pending_of : FunnelTable → (counts words flags marks : List ℕ) (start x : ℕ) → Bool
pending_of table counts words flags marks start x = pick (live table counts words flags marks (start + x)) (eqb (get_or marks (start + x) 0) 0) false

-- on the way to the whole: `base` are the marks as they would be, of which the special ones are there
pub record Doing (whole : Taken) (table : FunnelTable) (counts words flags : List ℕ) (start m : ℕ) (marks order : List ℕ) (placed : ℕ) : Type 0 where
  pub base : List ℕ
  pub going : Going whole table counts words flags base order placed start
  pub alike : (i : ℕ) → start ≤ i → get_or marks i 0 ≡ get_or base i 0
  pub size : length marks ≡ table.n
  pub fits : Fits marks m
  pub waiting : Waiting (waits_of table words base start) (pending_of table counts words flags base start) marks m

-- on the way to some whole
pub record Begun (table : FunnelTable) (counts words flags : List ℕ) (start m : ℕ) (marks order : List ℕ) (placed : ℕ) : Type 0 where
  pub whole : Taken
  pub doing : Doing whole table counts words flags start m marks order placed

-- at the whole's end, but for the marks
pub record Ended (whole : Taken) (order : List ℕ) (placed : ℕ) : Type 0 where
  pub order_is : order ≡ whole.order
  pub placed_is : placed ≡ whole.placed

-- whatever whole it was on the way to, it still is
pub record Onward (table : FunnelTable) (counts words flags : List ℕ) (start m : ℕ) (first begun : List ℕ) (before : ℕ) (marks order : List ℕ) (placed : ℕ) : Type 0 where
  pub on : (whole : Taken) → Doing whole table counts words flags start m first begun before → Doing whole table counts words flags start m marks order placed

-- and at last it is at its end
pub record Finished (table : FunnelTable) (counts words flags : List ℕ) (start m : ℕ) (marks order : List ℕ) (before : ℕ) (last : List ℕ) (placed : ℕ) : Type 0 where
  pub end : (whole : Taken) → Doing whole table counts words flags start m marks order before → Ended whole last placed

-- the smallest candidate: it waits on itself, and there is room for it
pub record Choice (table : FunnelTable) (words : List ℕ) (start m placed : ℕ) (before after : List ℕ) (slot : ℕ) : Type 0 where
  pub number : ℕ
  pub is_slot : slot ≡ start + number
  pub small : number < m
  pub stands : candidate after m number ≡ true
  pub first : (y : ℕ) → y < number → candidate after m y ≡ false
  pub itself : waits_of table words before start number number ≡ true
  pub room : placed < table.plan.maximum

unfoldable pub Chosen : FunnelTable → (words : List ℕ) (start m placed : ℕ) (before after : List ℕ) → First → Type 0
Chosen table words start m placed before after (Some slot) = Choice table words start m placed before after slot
Chosen table words start m placed before after None = (table.plan.maximum ≤ placed) ⊎ ((x : ℕ) → x < m → candidate after m x ≡ false)

-- candidates that are not ready were dropped or filed, up to one that is
pub record Turned (table : FunnelTable) (words : List ℕ) (start m : ℕ) (before after : List ℕ) : Type 0 where
  pub fits : Fits after m
  pub beyond : Beyond before after m
  pub kept : (waits : ℕ → ℕ → Bool) (pending : ℕ → Bool) → ((x u : ℕ) → waits x u ≡ waits_of table words before start x u)
      → Waiting waits pending before m → Waiting waits pending after m
