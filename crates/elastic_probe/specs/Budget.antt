-- The budget of probes in the current level of an elastic table. Assumes nothing.
use Rattle.std.specs.Prelude.{[], ◌∷◌, ℕ, ◌*◌, ◌^◌, min, eqb, ltb, Result, Ok, Err}
use Rattle.refusal.specs.declared.Name.TheVariants as name
use Rattle.refusal.specs.Table.{Report, answered, refused}
use Rattle.words.specs.Log.{ceil_log2}
use Rattle.words.specs.Quotient.{ceil_div}
use Rattle.words.specs.Pick.{pick}
use Rattle.elastic_probe.specs.declared.budget.BudgetRefusal.{BudgetRefusal}
use Rattle.elastic_probe.specs.declared.budget.BudgetRefusal.TheVariants.{Free, Factor, Product}

-- "c * min(ceil(log2(ceil(level/free)))^2, e)"
unfoldable pub probes_of : (free level e c : ℕ) → ℕ
probes_of free level e c = c * min (ceil_log2 (ceil_div level free) ^ 2) e

-- BUDGET: "reason 1: free is 0 or above the level; 2: c is 0; 3: product overflows u64"; "reasons in turn"
unfoldable pub budget_of : (free level e c : ℕ) → Result ℕ BudgetRefusal
budget_of free level e c =
    pick (eqb free 0) (Err Free)
    (pick (ltb level free) (Err Free)
    (pick (eqb c 0) (Err Factor)
    (pick (ltb (probes_of free level e c) (2 ^ 64)) (Ok (probes_of free level e c)) (Err Product))))

-- the numbers of the reasons
abbrev pub reason_of : BudgetRefusal → ℕ
reason_of Free = 1
reason_of Factor = 2
reason_of Product = 3

-- what it reports
abbrev pub budget_report : Result ℕ BudgetRefusal → Report
budget_report (Ok probes) = answered (probes ∷ [])
budget_report (Err refusal) = refused name.Budget (reason_of refusal ∷ [])
