-- A lower bound on the n that have a layout. Assumes nothing.
use Rattle.std.specs.Prelude.{Option, Some, None, [], ◌∷◌, ℕ, ◌+◌, ◌*◌, ◌/◌, ◌^◌, ◌≤◌, ◌<◌}
use Rattle.refusal.specs.Table.{Report, answered, refused}
use Rattle.refusal.specs.declared.Name.TheVariants as name
use Rattle.geometry.specs.Extreme.{IsSmallest}
use Rattle.geometry.specs.Special.{loglog}

-- "n >= from whose special-array ceiling floor(3n / 2^(d+2)) can hold two fallback buckets"; n fits a word
pub record Roomy (e from n : ℕ) : Type 0 where
  pub above : from ≤ n
  pub fits : n ≤ 18446744073709551615
  pub room : 4 * loglog n ≤ 3 * n / 2 ^ (e + 2)

-- "the smallest", or "`None` on overflow": no word will do
unfoldable pub Minimum : (e from : ℕ) → Option ℕ → Type 0
Minimum e from (Some n) = IsSmallest (Roomy e from) n
Minimum e from None = (n : ℕ) → Roomy e from n → ⊥

-- what it reports
abbrev pub minimum_report : Option ℕ → Report
minimum_report (Some n) = answered (n ∷ [])
minimum_report None = refused name.None []

-- r is the smallest with x ≤ 3 * r
pub record ThirdUp (x r : ℕ) : Type 0 where
  pub holds : x ≤ 3 * r
  pub below : (m : ℕ) → x ≤ 3 * m → r ≤ m

-- the smallest n that a special length of l needs, or None where no word will do
unfoldable pub Required : (l power : ℕ) → Option ℕ → Type 0
Required l power None = 55340232221128654845 < l * power
Required l power (Some r) = ThirdUp (l * power) r

-- the loop of the Rust from n on: g of n, four times g by `1_u128.checked_shl(d + 2)`, a third of it rounded up, `usize::try_from`;
-- each of these may overflow, which is `None`
pub data RustMinimum : (e n : ℕ) → Option ℕ → Type 0 where
  shift : {e n : ℕ} → 128 ≤ e + 2 → RustMinimum e n None
  product : {e n : ℕ} → 2 ^ 128 ≤ 4 * loglog n * 2 ^ (e + 2) → RustMinimum e n None
  word : {e n : ℕ} (r : ℕ) → ThirdUp (4 * loglog n * 2 ^ (e + 2)) r → 18446744073709551615 < r → RustMinimum e n None
  enough : {e n : ℕ} (r : ℕ) → ThirdUp (4 * loglog n * 2 ^ (e + 2)) r → r ≤ n → RustMinimum e n (Some n)
  again : {e n : ℕ} {a : Option ℕ} (r : ℕ) → ThirdUp (4 * loglog n * 2 ^ (e + 2)) r → n < r → r ≤ 18446744073709551615 → RustMinimum e r a → RustMinimum e n a

-- on the way: n is at least `from`, and none below it will do
pub record Raised (e from n : ℕ) : Type 0 where
  pub above : from ≤ n
  pub below : (m : ℕ) → Roomy e from m → n ≤ m
