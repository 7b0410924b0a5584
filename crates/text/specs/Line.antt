-- Lines out of an input that comes in parts. Assumes nothing.
use Rattle.std.specs.Prelude.{◌≡◌, ℕ, ◌<◌, Bool, true, false, List, [], ◌∷◌, ◌++◌, length, take, drop, ◌==◌, nat_lt, Option, Some, None}
use Rattle.words.specs.Pick.{pick}

-- a byte more of a line, "at most" so many: a longer line keeps its first bytes
unfoldable pub hold : (room : ℕ) → List ℕ → ℕ → List ℕ
hold room held b = pick (nat_lt (length held) room) (held ++ (b ∷ [])) held

-- a line so far: it goes on with the next part, or a newline finished it and the rest of the part is behind it
pub data Line : Type 0 where
  unfinished : (held : List ℕ) → Line
  finished : (held rest : List ℕ) → Line

-- the line that the bytes of a part go on with
unfoldable pub line_of : (room : ℕ) (held part : List ℕ) → Line
line_of room held [] = unfinished held
line_of room held (b ∷ part) = pick (b == 10) (finished held part) (line_of room (hold room held b) part)

-- what is held of the last line after a whole part
unfoldable pub held_of : (room : ℕ) (held part : List ℕ) → List ℕ
held_of room held [] = held
held_of room held (b ∷ part) = held_of room (pick (b == 10) [] (hold room held b)) part

abbrev pub line_by : Bool → (held rest : List ℕ) → Line
line_by true held rest = finished held rest
line_by false held rest = unfinished held

-- what was taken of a part, from a place on: the buffer has the line so far, or the whole line where it finished
pub record Takes (part : List ℕ) (from : ℕ) (before : List ℕ) (so_far : ℕ) (after : List ℕ) (size next : ℕ) (end : Bool) : Type 0 where
  pub says : line_by end (take size after) (drop next part) ≡ line_of (length before) (take so_far before) (drop from part)
  pub room : length after ≡ length before
  pub onward : from < length part → from < next
  -- without a newline the whole part was taken
  pub whole : end ≡ false → drop next part ≡ []

-- what a part leaves in the buffer: the bytes of its last line, held for the next part
pub record Leaves (part before : List ℕ) (size : ℕ) (after : List ℕ) (len : ℕ) : Type 0 where
  pub holds : take len after ≡ held_of (length before) (take size before) part

-- what was taken by where the next line starts: none where the part ended before its line did
abbrev pub TakesTo : (part : List ℕ) (from : ℕ) (before : List ℕ) (so_far : ℕ) (after : List ℕ) (size : ℕ) → Option ℕ → Type 0
TakesTo part from before so_far after size (Some next) = Takes part from before so_far after size next true
TakesTo part from before so_far after size None = Takes part from before so_far after size (length part) false
