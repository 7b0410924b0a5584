-- `funnel_insert::insert::put` meets its contract. One law for each answer of the search; the vacancy lies in both buffers by a law of the path. Assumes nothing.
use mathlib.Core.Path.{sym, ◌∙◌}
use native.Mathlib.Omega.{arith}
use Rattle.funnel.proofs.InsertLaws.{vacant_within, insert_range, insert_duplicate, insert_spent_vacant, insert_spent_full, insert_full, insert_inserted}
use Rattle.funnel_insert.proofs.insert.put.Goals as goal

pub returns-then-maximum-count : goal.returns-then-maximum-count
returns-then-maximum-count g c = insert_spent_full _ _ _ _ _ _ c.if-maximum-count.true _ (sym c.find.ensures ∙ c.in-Full.is)

pub returns-then-maximum-count-2 : goal.returns-then-maximum-count-2
returns-then-maximum-count-2 g c = insert_spent_vacant _ _ _ _ _ _ c.if-maximum-count-2.true _ _ (sym c.find.ensures ∙ c.in-Vacant.is)

pub put-requires : goal.put-requires
put-requires g c = let l = vacant_within c.requires.0 _ _ _ (sym c.find.ensures ∙ c.in-Vacant.is) in let s = c.slot_of-slot.ensures in omega arith

pub bounds-flags-at : goal.bounds-flags-at
bounds-flags-at g c = let l = vacant_within c.requires.0 _ _ _ (sym c.find.ensures ∙ c.in-Vacant.is) in let s = c.slot_of-slot.ensures in omega arith

pub returns-in-Hit : goal.returns-in-Hit
returns-in-Hit g c = insert_duplicate _ _ _ _ _ _ _ _ (sym c.find.ensures ∙ c.in-Hit.is)

pub returns-in-Range : goal.returns-in-Range
returns-in-Range g c = insert_range _ _ _ _ _ _ _ (sym c.find.ensures ∙ c.in-Range.is)

pub returns-else-maximum-count : goal.returns-else-maximum-count
returns-else-maximum-count g c = insert_full _ _ _ _ _ _ c.if-maximum-count.false _ (sym c.find.ensures ∙ c.in-Full.is)

pub returns-else-maximum-count-2 : goal.returns-else-maximum-count-2
returns-else-maximum-count-2 g c = rw c.put.ensures (insert_inserted _ _ _ _ _ _ c.if-maximum-count-2.false _ _ _ (sym c.find.ensures ∙ c.in-Vacant.is) c.slot_of-slot.ensures)
