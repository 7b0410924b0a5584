-- The configuration: which n and e are taken, and the largest number of members. Assumes nothing.
use Rattle.std.specs.Prelude.{Bool, true, false, [], Result, Ok, Err, ℕ, ◌-◌, ◌/◌, ◌^◌, ◌≤◌, ◌<◌, ltb, eqb}
use Rattle.refusal.specs.Table.{name_of, Report, answered, refused}
use Rattle.refusal.specs.declared.Gate.{Gate}
use Rattle.refusal.specs.declared.Gate.TheVariants as gate

-- "n from 2 to 4,294,967,296; e any nonzero u32"
pub record Configured (n e : ℕ) : Type 0 where
  pub least : 2 ≤ n
  pub most : n ≤ 4294967296
  pub some : 0 < e

-- what a gate says: all its tests passed, or the first that failed
abbrev pub Gated : Type 0
Gated = Result (Unit {0}) Gate

-- the refusal where a test says so, else what the later tests say
abbrev pub refuse_if : Bool → Gate → Gated → Gated
refuse_if true g later = Err g
refuse_if false g later = later

-- N (1): "n below 2"; ZEROEXP (2): "e is 0"; SIZE (3): "n above 2^32"; "Order: 1 to 7 by number". `later` is what the tests after these say
unfoldable pub config_then : ℕ → ℕ → Gated → Gated
config_then n e later = refuse_if (ltb n 2) gate.N (refuse_if (eqb e 0) gate.ZeroExp (refuse_if (ltb 4294967296 n) gate.Size later))

abbrev pub config_gate : ℕ → ℕ → Gated
config_gate n e = config_then n e (Ok tt)

-- what a gate reports
abbrev pub gated_report : Gated → Report
gated_report (Ok _) = answered []
gated_report (Err g) = refused (name_of g) []

-- "n minus floor(n/2^e)"
abbrev pub maximum : ℕ → ℕ → ℕ
maximum n e = n - n / 2 ^ e
