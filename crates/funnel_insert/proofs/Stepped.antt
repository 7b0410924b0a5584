-- The table after an answer that is not "inserted" is the table before. Assumes nothing.
use Rattle.std.specs.Prelude.{Ok, Err}
use mathlib.Core.Path.{◌≡◌, refl}
use Rattle.funnel.specs.declared.table.FunnelTable.{FunnelTable}
use Rattle.funnel.specs.declared.table.Reached.{Reached}
use Rattle.funnel.specs.Insert.{Insertion, stepped}

pub unstepped : (r : Insertion) (table : FunnelTable) → ((put : Reached) → r ≡ Ok put → ⊥) → stepped r table ≡ table
unstepped (Ok put) table h = absurd (h put refl)
unstepped (Err refusal) table h = refl
