-- One level of flags over another: k flags from `low` on, and from `up` on a flag for each 64 of them. A flag is a byte, and is set where it
-- is not 0. Assumes nothing.
use Rattle.std.specs.Prelude.{List, ◌≡◌, ℕ, ◌+◌, ◌*◌, ◌/◌, ◌≤◌, ◌<◌, length, get_or}

-- how many groups of 64 cover k flags
abbrev pub groups : ℕ → ℕ
groups k = (k + 63) / 64

-- a flag that is not set
abbrev pub IsClear : List ℕ → ℕ → Type 0
IsClear b t = get_or b t 0 ≡ 0

-- every flag of group j is clear
abbrev pub IsClearGroup : List ℕ → (low k j : ℕ) → Type 0
IsClearGroup b low k j = (i : ℕ) → i < k → i / 64 ≡ j → IsClear b (low + i)

-- the upper level is exact: no flag is set under a clear one, and a group's flag is clear where its flags are
pub record Over (b : List ℕ) (low up k : ℕ) : Type 0 where
  pub above : (i : ℕ) → i < k → IsClear b (up + i / 64) → IsClear b (low + i)
  pub below : (j : ℕ) → j < groups k → IsClearGroup b low k j → IsClear b (up + j)

-- the same, but the flag of x's group may be set over a group that is clear
pub record Nearly (b : List ℕ) (low up k x : ℕ) : Type 0 where
  pub above : (i : ℕ) → i < k → IsClear b (up + i / 64) → IsClear b (low + i)
  pub below : (j : ℕ) → j < groups k → (j ≡ x / 64 → ⊥) → IsClearGroup b low k j → IsClear b (up + j)

-- at most the byte at p was changed, and not from clear to set
pub record Lowered (before after : List ℕ) (p : ℕ) : Type 0 where
  pub same_n : length after ≡ length before
  pub others : (t : ℕ) → (t ≡ p → ⊥) → get_or after t 0 ≡ get_or before t 0
  pub lower : IsClear before p → IsClear after p

-- the upper level is exact again
pub record Settled (before after : List ℕ) (low up k x : ℕ) : Type 0 where
  pub over : Over after low up k
  pub lowered : Lowered before after (up + x / 64)

-- ---- searches

-- r is the first place of these that is set, or their end
pub record FirstSet (b : List ℕ) (from to r : ℕ) : Type 0 where
  pub least : from ≤ r
  pub most : r ≤ to
  pub before : (t : ℕ) → from ≤ t → t < r → IsClear b t
  pub here : r < to → IsClear b r → ⊥

-- the smaller of k and the next group's first number
pub record GroupEnd (k j r : ℕ) : Type 0 where
  pub least : j * 64 < r
  pub most : r ≤ k
  pub within : r ≤ j * 64 + 64
  pub whole : (i : ℕ) → i < k → i / 64 ≡ j → i < r

-- r is the first flag of group j that is set, or k
pub record InGroup (b : List ℕ) (low k j r : ℕ) : Type 0 where
  pub most : r ≤ k
  pub before : (i : ℕ) → i < r → i / 64 ≡ j → IsClear b (low + i)
  pub group : r < k → r / 64 ≡ j
  pub here : r < k → IsClear b (low + r) → ⊥

-- ---- a range of bytes set to 0

pub record Wiped (before after : List ℕ) (from to : ℕ) : Type 0 where
  pub same_n : length after ≡ length before
  pub zero : (t : ℕ) → from ≤ t → t < to → IsClear after t
  pub low : (t : ℕ) → t < from → get_or after t 0 ≡ get_or before t 0
  pub high : (t : ℕ) → to ≤ t → get_or after t 0 ≡ get_or before t 0
