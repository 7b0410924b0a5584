-- What the tests and the opening of an elastic table report: refusals by name and in their order. Assumes nothing.
use Rattle.std.specs.Prelude.{Bool, not, List, [], ◌≡◌, ℕ, eqb, ltb, length, Ok}
use Rattle.std.proofs.Math.Bool.{true, false}
use Rattle.std.proofs.Math.Path.{refl}
use Rattle.refusal.specs.Table.{name_of, answered, refused}
use Rattle.refusal.specs.declared.Gate.TheVariants as gate
use Rattle.refusal.specs.declared.Name.TheVariants as name
use Rattle.words.specs.Pick.{pick}
use Rattle.geometry.specs.Config.{refuse_if, config_then, gated_report}
use Rattle.elastic.specs.declared.state.Limits.{Limits}
use Rattle.elastic.specs.State.{limits_fit, buffers_fit, demand, setting_gate, open_gate, open_by, open_of, open_report}

-- "Order: 1 to 7 by number": N, ZEROEXP, SIZE, LIMITS, STATE
module _ (n e : ℕ) (limits : Limits) where
  pub state_report : (fits : Bool) → gated_report (demand (setting_gate n e limits) fits gate.State)
      ≡ pick (ltb n 2) (refused name.N []) (pick (eqb e 0) (refused name.ZeroExp []) (pick (ltb 4294967296 n) (refused name.Size [])
      (pick (not (limits_fit e limits)) (refused name.Limits []) (pick (not fits) (refused name.State []) (answered [])))))
  unfolding setting_gate config_then name_of
  state_report fits = go (ltb n 2) (eqb e 0) (ltb 4294967296 n) (limits_fit e limits) fits
    where
      go : (small zero large within fits : Bool)
          → gated_report (demand (demand (refuse_if small gate.N (refuse_if zero gate.ZeroExp (refuse_if large gate.Size (Ok tt)))) within gate.Limits) fits gate.State)
          ≡ pick small (refused name.N []) (pick zero (refused name.ZeroExp []) (pick large (refused name.Size [])
          (pick (not within) (refused name.Limits []) (pick (not fits) (refused name.State []) (answered [])))))
      go true zero large within fits = refl
      go false true large within fits = refl
      go false false true within fits = refl
      go false false false false fits = refl
      go false false false true false = refl
      go false false false true true = refl

  -- an opening reports what its tests do
  pub open_report_lem : (seed : ℕ) (cs ws fs : List ℕ) → open_report (open_of n e seed limits cs ws fs).answer ≡ gated_report (open_gate n e limits (length ws) (length fs))
  unfolding open_of open_gate open_by setting_gate config_then open_report
  open_report_lem seed cs ws fs = go (ltb n 2) (eqb e 0) (ltb 4294967296 n) (limits_fit e limits) (buffers_fit n (length ws) (length fs))
    where
      go : (small zero large within fits : Bool)
          → open_report (open_by (demand (demand (refuse_if small gate.N (refuse_if zero gate.ZeroExp (refuse_if large gate.Size (Ok tt)))) within gate.Limits) fits gate.State)
          n e seed limits cs ws fs).answer
          ≡ gated_report (demand (demand (refuse_if small gate.N (refuse_if zero gate.ZeroExp (refuse_if large gate.Size (Ok tt)))) within gate.Limits) fits gate.State)
      go true zero large within fits = refl
      go false true large within fits = refl
      go false false true within fits = refl
      go false false false false fits = refl
      go false false false true false = refl
      go false false false true true = refl
