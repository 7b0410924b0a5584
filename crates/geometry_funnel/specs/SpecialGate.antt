-- What the gate of a funnel finds on the way. Assumes nothing.
use Rattle.std.specs.Prelude.{Result, Ok, Err, ◌≡◌, ℕ, ◌≤◌}
use Rattle.refusal.specs.declared.Gate.{Gate}
use Rattle.geometry.specs.Config.{Configured}
use Rattle.geometry.specs.Extreme.{IsLargest}
use Rattle.geometry.specs.Special.{SpecialLength}
use Rattle.geometry.specs.FunnelGate.{funnel_gate}

-- the special length that a plan has, or the refusal that there is instead
unfoldable pub SpecialOr : (n e : ℕ) → Result ℕ Gate → Type 0
SpecialOr n e (Ok s) = Configured n e × (3 ≤ e) × IsLargest (SpecialLength n e) s
SpecialOr n e (Err g) = funnel_gate n e ≡ Err g
