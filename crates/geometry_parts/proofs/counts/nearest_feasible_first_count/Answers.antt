-- `geometry_parts::counts::nearest_feasible_first_count` meets its contract. Assumes nothing.
use mathlib.Core.Path.{sym, ◌∙◌}
use native.Mathlib.Omega.{arith}
use borrow.Author.Tests.{leb-true, leb-false}
use Rattle.geometry.specs.FilledLaws.{first_quarter, first_below, first_above}
use Rattle.geometry_parts.proofs.counts.nearest_feasible_first_count.Goals as goal

pub returns-then-minimum_path_sum_at_most : goal.returns-then-minimum_path_sum_at_most
returns-then-minimum_path_sum_at_most c =
    let s = c.requires in
    first_quarter _ _ s.0 s.1 _ (omega arith) (leb-true _ _ (sym c.maximum_path_sum_at_least.ensures ∙ c.if-maximum_path_sum_at_least.true)) (leb-true _ _ (sym c.minimum_path_sum_at_most.ensures ∙ c.if-minimum_path_sum_at_most.true))

pub largest_within-requires : goal.largest_within-requires
largest_within-requires c =
    let s = c.requires in
    (s.0, s.1, leb-false _ _ (sym c.minimum_path_sum_at_most.ensures ∙ c.if-minimum_path_sum_at_most.false), omega arith)

pub returns-then-maximum_path_sum_at_least : goal.returns-then-maximum_path_sum_at_least
returns-then-maximum_path_sum_at_least c =
    let s = c.requires in
    first_above _ _ s.0 s.1 _ (omega arith) (leb-false _ _ (sym c.minimum_path_sum_at_most.ensures ∙ c.if-minimum_path_sum_at_most.false)) _ c.largest_within.ensures

pub smallest_reaching-requires : goal.smallest_reaching-requires
smallest_reaching-requires c = (c.requires.0, leb-false _ _ (sym c.maximum_path_sum_at_least.ensures ∙ c.if-maximum_path_sum_at_least.false))

pub returns : goal.returns
returns c =
    let s = c.requires in
    first_below _ _ s.0 s.1 _ (omega arith) (leb-false _ _ (sym c.maximum_path_sum_at_least.ensures ∙ c.if-maximum_path_sum_at_least.false)) _ c.smallest_reaching.ensures
