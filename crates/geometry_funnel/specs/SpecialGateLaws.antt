-- Laws of what the gate of a funnel finds on the way. Assumes nothing.
use Rattle.std.specs.Prelude.{Option, Some, None, Result, Ok, Err, ◌≡◌, ℕ, ◌≤◌}
use Rattle.std.proofs.Common.{sym}
use Rattle.refusal.specs.declared.Gate.{Gate}
use Rattle.std.specs.Option.{ok_or}
use Rattle.refusal.specs.declared.Gate.TheVariants as gate
use Rattle.geometry.specs.Config.{Configured, config_gate}
use Rattle.geometry.specs.Extreme.{IsLargest}
use Rattle.geometry.specs.Special.{SpecialLength, FoundFor}
use Rattle.geometry.specs.FunnelGate.{funnel_gate}
use Rattle.geometry.specs.FunnelGateLaws.{special_none, special_some, special_passes}
use Rattle.geometry_funnel.specs.SpecialGate.{SpecialOr}

pub special_or_passed : (n e : ℕ) (r : Result ℕ Gate) (s : ℕ) → SpecialOr n e r → r ≡ Ok s → Ok tt ≡ funnel_gate n e
unfolding SpecialOr
special_or_passed n e r s o h = let f : SpecialOr n e (Ok s) = rw h at o in sym (special_passes n e s f.0 f.1 f.2)

pub special_or_refused : (n e : ℕ) (r : Result ℕ Gate) (g : Gate) → SpecialOr n e r → r ≡ Err g → Err g ≡ funnel_gate n e
unfolding SpecialOr
special_or_refused n e r g o h = let f : SpecialOr n e (Err g) = rw h at o in sym f

pub special_or_length : (n e : ℕ) (r : Result ℕ Gate) (s : ℕ) → SpecialOr n e r → r ≡ Ok s → Configured n e × (3 ≤ e) × IsLargest (SpecialLength n e) s
unfolding SpecialOr
special_or_length n e r s o h = let f : SpecialOr n e (Ok s) = rw h at o in f

-- what the search for a length found, behind the other tests
pub special_or_found : (n e : ℕ) → config_gate n e ≡ Ok tt → 3 ≤ e → (found : Option ℕ) → FoundFor n e found → SpecialOr n e (ok_or found gate.Layout)
unfolding SpecialOr
special_or_found n e h l None f = special_none n e h l f
special_or_found n e h l (Some s) f = special_some n e h l s f
