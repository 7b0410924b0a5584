-- `probe::counter::elastic_counter` meets its contract. Assumes nothing.
use Rattle.std.proofs.Common.{ap, ◌∙◌, arith, Some}
use mathlib.Core.Logic.{inl, inr}
use Rattle.probe.specs.CounterLaws.{elastic_or, packed_level, packed_probe, packed_retry, packed}
use Rattle.probe.proofs.counter.elastic_counter.Goals as goal

pub returns-then-level-ge-ELASTIC_LEVELS : goal.returns-then-level-ge-ELASTIC_LEVELS
returns-then-level-ge-ELASTIC_LEVELS c = elim c.then-level-ge-ELASTIC_LEVELS.either [
  | inl h ↦ packed_level _ _ _ h
  | inr r ↦ elim r [
    | inl h ↦ packed_probe _ _ _ (omega arith) (omega arith)
    | inr h ↦ packed_retry _ _ _ (omega arith) (omega arith) (omega arith)
  ]
]

pub returns : goal.returns
returns c = ap Some (elastic_or _ _ _ _ c.elastic_base.ensures (omega arith)) ∙ packed _ _ _ (omega arith) (omega arith) (omega arith)
