-- Operations of a run. Assumes nothing.
use Rattle.std.specs.Prelude.{ℕ, ◌≡◌, ◌-◌, length}
use Rattle.text.specs.Fields.{fields_left}
use Rattle.script.specs.declared.operation.Operations.{Operations}
use Rattle.script.specs.declared.operation.Operations.TheVariants.{Listed, Bulk}
use Rattle.script.specs.declared.request.Form as form

-- how many are left at most
abbrev pub operations_left : Operations → ℕ
operations_left (Listed fields kind n) = length (fields_left fields)
operations_left (Bulk start many done) = many - done

-- an operation for each field, or, in bulk, the start and how many
abbrev pub Asks : form.Form → ℕ → Operations → Type 0
Asks form.TheVariants.Listed fields operations = operations_left operations ≡ fields
Asks form.TheVariants.Bulk fields operations = fields ≡ 2
