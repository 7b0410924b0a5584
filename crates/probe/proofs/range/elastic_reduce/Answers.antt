use Rattle.std.proofs.Common.{refl, arith}
use Rattle.std.proofs.lemmas.Result.{err_from_is_err_and}
use mathlib.Core.Logic.{inl, inr}
use Rattle.probe.specs.RangeLaws.{elastic_upper, elastic_level, elastic_probe, elastic_cap, elastic_answer}
use Rattle.probe.proofs.range.elastic_reduce.Goals as goal

pub returns-then-upper-eq0 : goal.returns-then-upper-eq0
returns-then-upper-eq0 c = elastic_upper _ _ _ _ _ _ c.if-upper-eq0.true

pub returns-then-level-ge-ELASTIC_LEVELS : goal.returns-then-level-ge-ELASTIC_LEVELS
returns-then-level-ge-ELASTIC_LEVELS c = elim c.then-level-ge-ELASTIC_LEVELS.either [
  | inl h ↦ elastic_level _ _ _ _ _ _ c.if-upper-eq0.false h
  | inr r ↦ elim r [
    | inl h ↦ elastic_probe _ _ _ _ _ _ c.if-upper-eq0.false (omega arith) (omega arith)
    | inr h ↦ elastic_cap _ _ _ _ _ _ c.if-upper-eq0.false (omega arith) (omega arith) (omega arith)
  ]
]

pub returns-in_err-elastic_draw : goal.returns-in_err-elastic_draw
returns-in_err-elastic_draw c =
    let p = err_from_is_err_and c.from_residual.result c.from_residual.ensures.1 in
    rw (p.1, p.2) (elastic_answer _ _ _ _ _ _ c.if-upper-eq0.false (omega arith) (omega arith) (omega arith) _ _ _ c.elastic_key.ensures c.in_err-elastic_draw.ensures refl)

pub returns : goal.returns
returns c = elastic_answer _ _ _ _ _ _ c.if-upper-eq0.false (omega arith) (omega arith) (omega arith) _ _ _ c.elastic_key.ensures c.in_ok-elastic_draw.ensures refl
