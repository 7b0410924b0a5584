-- `elastic::route::route` meets its contract: offset and length are the level's, and the draw is within it. Assumes nothing.
use native.Mathlib.Omega.{arith}
use Rattle.std.proofs.lemmas.Result.{err_from_is_err_and}
use Rattle.elastic.specs.ReadingLaws.{probed_few, probed_offset, probed_length, probed_some, probed_within, reading_index, reading_refused, index_drew}
use Rattle.elastic.proofs.route.Probing.route.Goals as goal

pub elastic_draw-requires : goal.elastic_draw-requires
elastic_draw-requires c =
    let p = c.requires.0 in
    let l = probed_length p _ c.level_length-length.ensures in
    (omega (arith, l, probed_some p), probed_few p, c.requires.1, p.few)

pub overflow_add-result : goal.overflow_add-result
overflow_add-result c =
    let p = c.requires.0 in
    let o = probed_offset p _ c.level_offset-offset.ensures in
    let l = probed_length p _ c.level_length-length.ensures in
    let f = index_drew p _ _ _ _ o l _ c.elastic_draw.ensures _ _ c.in_ok-drew.was in
    omega (arith, f.below, o, l, probed_within p, p.most)

pub returns-in_err-drew : goal.returns-in_err-drew
returns-in_err-drew c =
    let p = c.requires.0 in
    let e = err_from_is_err_and c.from_residual.result c.from_residual.ensures.1 in
    let o = probed_offset p _ c.level_offset-offset.ensures in
    let l = probed_length p _ c.level_length-length.ensures in
    rw (e.1, e.2) (reading_refused p _ _ _ _ o l _ c.elastic_draw.ensures _ c.in_err-drew.was)

pub returns : goal.returns
returns c =
    let p = c.requires.0 in
    let o = probed_offset p _ c.level_offset-offset.ensures in
    let l = probed_length p _ c.level_length-length.ensures in
    reading_index p _ _ _ _ o l _ c.elastic_draw.ensures _ _ c.in_ok-drew.was
