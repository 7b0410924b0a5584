-- Stretches of n without a layout, and the first n that has one. Assumes nothing.
use Rattle.std.specs.Prelude.{◌≡◌, Option, Some, None, ℕ, ◌+◌, ◌*◌, ◌/◌, ◌^◌, ◌-◌, ◌≤◌, ◌<◌, min, max}
use Rattle.std.specs.Int.{◌∣◌}
use Rattle.geometry.specs.Extreme.{IsLargest}
use Rattle.geometry.specs.Special.{loglog, special_least, SpecialLength}

-- no n from a to below b has a special length
abbrev pub Bare : (e a b : ℕ) → Type 0
Bare e a b = (n s : ℕ) → a ≤ n → n < b → SpecialLength n e s → ⊥

-- r is the smallest length from lo on whose half is whole buckets of w
pub record LengthFrom (lo w r : ℕ) : Type 0 where
  pub from : lo ≤ r
  pub whole : w ∣ r / 2
  pub most : r ≤ lo + 2 * w
  pub least : (z : ℕ) → lo ≤ z → w ∣ z / 2 → r ≤ z

-- r is the smallest n whose upper bound of the special length reaches s
pub record SlotsFrom (e s r : ℕ) : Type 0 where
  pub part : s * 2 ^ (e + 2) ≤ 3 * r
  pub main : s + (4 * e + 10) * (2 * e) ≤ r
  pub least : (n : ℕ) → s * 2 ^ (e + 2) ≤ 3 * n → s + (4 * e + 10) * (2 * e) ≤ n → r ≤ n

-- r is the last n with the same g
pub record Alike (n r : ℕ) : Type 0 where
  pub from : n ≤ r
  pub to : r ≤ 4294967296
  pub alike : (m : ℕ) → n ≤ m → m ≤ r → loglog m ≡ loglog n
  pub last : (m : ℕ) → r < m → m ≤ 4294967296 → loglog n < loglog m

-- the n to ask after n: s is the next length from its lower bound on, t the first n whose upper bound reaches s. It is t, but above n,
-- and not past the first n with another g
pub record Next (e n r : ℕ) : Type 0 where
  pub s : ℕ
  pub t : ℕ
  pub end : ℕ
  pub is_length : LengthFrom (special_least n e) (2 * loglog n) s
  pub is_slots : SlotsFrom e s t
  pub is_end : Alike n end
  pub is : r ≡ max n (min (t - 1) end) + 1

-- the first n with a special length
pub record First (e start last n : ℕ) : Type 0 where
  pub from : start ≤ n
  pub to : n ≤ last
  pub special : (s : ℕ) × IsLargest (SpecialLength n e) s
  pub bare : Bare e start n

-- what the search answers: the first from `start` to `last`, or None where there is none
unfoldable pub FirstLayout : (e start last : ℕ) → Option ℕ → Type 0
FirstLayout e start last None = Bare e start (last + 1)
FirstLayout e start last (Some n) = First e start last n
