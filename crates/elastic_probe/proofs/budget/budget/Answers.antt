-- `elastic_probe::budget::budget` meets its contract. Assumes nothing.
use native.Mathlib.Omega.{arith}
use mathlib.Core.Logic.{inl, inr}
use Rattle.elastic_probe.specs.BudgetLaws.{log_squared, ratio_fits, probes_steps, budget_none, budget_above, budget_zero, budget_high, budget_low}
use Rattle.elastic_probe.proofs.budget.budget.Goals as goal

pub returns-then-free-eq0 : goal.returns-then-free-eq0
returns-then-free-eq0 c = elim c.then-free-eq0.either [
  | inl h ↦ budget_none _ _ _ _ h
  | inr h ↦ budget_above _ _ _ _ h.0 h.1
]

pub returns-then-c-eq0 : goal.returns-then-c-eq0
returns-then-c-eq0 c = budget_zero _ _ _ _ c.if-free-eq0.false (omega arith) c.if-c-eq0.true

pub overflow_add-level : goal.overflow_add-level
overflow_add-level c = omega (arith, ratio_fits c.args.free c.args.level (omega arith) (omega arith))

pub overflow_mul-log : goal.overflow_mul-log
overflow_mul-log c = let a = c.args in
    omega (arith, log_squared _ _ (omega (arith, ratio_fits a.free a.level (omega arith) (omega arith))) c.ceil_log2-log.ensures)

pub returns-then-multiply_high-gt0 : goal.returns-then-multiply_high-gt0
returns-then-multiply_high-gt0 c = let a = c.args in
    let p = probes_steps a.free a.level a.e a.c _ _ (omega arith) (omega arith) (omega arith) c.ceil_log2-log.ensures c.min-capped.ensures in
    budget_high _ _ _ _ c.if-free-eq0.false (omega arith) c.if-c-eq0.false _ p _ c.multiply_high.ensures c.if-multiply_high-gt0.true

pub returns : goal.returns
returns c = let a = c.args in
    let p = probes_steps a.free a.level a.e a.c _ _ (omega arith) (omega arith) (omega arith) c.ceil_log2-log.ensures c.min-capped.ensures in
    budget_low _ _ _ _ c.if-free-eq0.false (omega arith) c.if-c-eq0.false _ p _ _ c.multiply_high.ensures c.multiply.ensures c.if-multiply_high-gt0.false
