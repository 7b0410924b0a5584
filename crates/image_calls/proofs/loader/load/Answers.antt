-- `image_calls::loader::load` meets its contract. Assumes nothing.
use mathlib.Core.Path.{sym, ◌∙◌}
use Rattle.image_calls.specs.LoadingLaws.{loads_bad, loads_foreign, loads_done, head_differs, head_equal}
use Rattle.image_calls.proofs.loader.load.Goals as goal

pub returns-in-Err : goal.returns-in-Err
returns-in-Err g c = loads_bad _ _ _ _ _ (sym c.read.ensures ∙ c.in-Err.is)

pub returns-then-ne : goal.returns-then-ne
returns-then-ne g c = let r = sym c.read.ensures ∙ c.in-Ok.is in
    let o = rw c.head_of.ensures at (head_differs c.in-Ok.outline.head c.head_of.result c.ne.result c.ne.ensures c.if-ne.true) in
    loads_foreign _ _ _ _ _ r o

pub returns-else-ne : goal.returns-else-ne
returns-else-ne g c = let r = sym c.read.ensures ∙ c.in-Ok.is in
    let o = rw c.head_of.ensures at (head_equal c.in-Ok.outline.head c.head_of.result c.ne.result c.ne.ensures c.if-ne.false) in
    loads_done _ _ _ _ _ r o _ _ (rw (c.clear.ensures, c.clear_bytes.ensures) at c.fill_image.ensures)
