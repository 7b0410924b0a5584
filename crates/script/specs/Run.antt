-- Slots of a table. Assumes nothing.
use Rattle.std.specs.Prelude.{ℕ, ◌≡◌, ◌≤◌, ◌<◌, List, length, set}

-- a value is put into a slot of a buffer that has it, as another one of so many slots has; else the buffer stays
abbrev pub Puts : ℕ → ℕ → List ℕ → ℕ → List ℕ → Type 0
Puts slot x before others after =
    (slot < length before → slot < others → after ≡ set before slot x) × (length before ≤ slot → after ≡ before) × (others ≤ slot → after ≡ before)
