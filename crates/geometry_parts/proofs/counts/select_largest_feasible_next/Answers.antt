-- `geometry_parts::counts::select_largest_feasible_next` meets its contract. Assumes nothing.
use Rattle.geometry.specs.FilledLaws.{taken_top, taken_middle, taken_bottom}
use Rattle.geometry_parts.proofs.counts.select_largest_feasible_next.Goals as goal

pub returns-then-minimum_path_sum_at_most : goal.returns-then-minimum_path_sum_at_most
returns-then-minimum_path_sum_at_most c =
    let a = c.args in
    let p = c.requires in
    let t = c.maximum_next_bucket_count-top in
    let b = c.minimum_path_sum_at_most in
    taken_top a.x a.levels a.sum p.0 p.1 t.result b.result t.ensures b.ensures c.if-minimum_path_sum_at_most.true

pub returns-then-minimum_path_sum_at_most-2 : goal.returns-then-minimum_path_sum_at_most-2
returns-then-minimum_path_sum_at_most-2 c =
    let a = c.args in
    let p = c.requires in
    let t = c.maximum_next_bucket_count-top in
    let b = c.minimum_path_sum_at_most in
    let d = c.minimum_path_sum_at_most-2 in
    taken_middle a.x a.levels a.sum p.0 p.1 t.result b.result t.ensures b.ensures c.if-minimum_path_sum_at_most.false d.result d.ensures c.if-minimum_path_sum_at_most-2.true

pub returns : goal.returns
returns c =
    let a = c.args in
    let p = c.requires in
    let t = c.maximum_next_bucket_count-top in
    let b = c.minimum_path_sum_at_most in
    let d = c.minimum_path_sum_at_most-2 in
    rw c.minimum_next_bucket_count.ensures (taken_bottom a.x a.levels a.sum p.0 p.1 t.result b.result t.ensures b.ensures c.if-minimum_path_sum_at_most.false d.result d.ensures c.if-minimum_path_sum_at_most-2.false)
