-- Small worked examples, in the table of 144 slots with e = 3, where every level is one bucket. Assumes nothing.
use Rattle.std.specs.Prelude.{[], ◌∷◌, ◌≡◌, refl, length, replicate}
use Rattle.words.specs.declared.place.Place.TheVariants as place
use Rattle.geometry.specs.Counts.{total}
use Rattle.probe.specs.Mix.{xor_bits, xor_shift, mix64_of}
use Rattle.probe.specs.Word.{funnel_in_of, funnel_out_of, word_of}
use Rattle.probe.specs.Range.{words_at, reduce_of, draw_of, domain_draw_of, funnel_draw_of}
use Rattle.funnel.specs.declared.table.Search.TheVariants.{Hit, Vacant}
use Rattle.funnel.specs.OneBucket.{plan, counts}
use Rattle.funnel.specs.Path.{Path, join, bucket_from, levels_from, primary_from, pairs_from, fallback_of, path_of}
use Rattle.funnel.specs.Search.{walk_of, search_of, readings_of}

-- the path of the identity 7 with seed 0 and word cap 1
abbrev path : Path
path = path_of plan counts 0 1 7

-- alpha*beta + g + 4g places
example_length : length path.places ≡ 147
unfolding path_of join levels_from bucket_from primary_from fallback_of pairs_from funnel_draw_of domain_draw_of draw_of reduce_of words_at word_of funnel_in_of funnel_out_of mix64_of xor_shift xor_bits total counts
example_length = refl

-- in a fresh table it is put at slot 0 with one probe
example_fresh : search_of (replicate 144 0) (replicate 144 0) 7 path 0 ≡ Vacant 1 (place.Ordinary 0 0 0 (record { 0 = 0 }))
unfolding search_of walk_of path_of join levels_from bucket_from primary_from fallback_of pairs_from funnel_draw_of domain_draw_of draw_of reduce_of words_at word_of funnel_in_of funnel_out_of mix64_of xor_shift xor_bits total counts
example_fresh = refl

-- after two others it is read at slots 0, 1 and 2, and found vacant at the third probe; a stale word under flag 0 does not count
example_third : search_of (4 ∷ 5 ∷ 7 ∷ []) (1 ∷ 1 ∷ 0 ∷ []) 7 path 0 ≡ Vacant 3 (place.Ordinary 0 0 2 (record { 0 = 2 }))
unfolding search_of walk_of path_of join levels_from bucket_from primary_from fallback_of pairs_from funnel_draw_of domain_draw_of draw_of reduce_of words_at word_of funnel_in_of funnel_out_of mix64_of xor_shift xor_bits total counts
example_third = refl

example_readings : readings_of (4 ∷ 5 ∷ 7 ∷ []) (1 ∷ 1 ∷ 0 ∷ []) 7 path.places ≡ 0 ∷ 1 ∷ 2 ∷ []
unfolding readings_of path_of join levels_from bucket_from primary_from fallback_of pairs_from funnel_draw_of domain_draw_of draw_of reduce_of words_at word_of funnel_in_of funnel_out_of mix64_of xor_shift xor_bits total counts
example_readings = refl

-- and found there once it is in
example_hit : search_of (4 ∷ 5 ∷ 7 ∷ []) (1 ∷ 1 ∷ 1 ∷ []) 7 path 0 ≡ Hit 3 (place.Ordinary 0 0 2 (record { 0 = 2 }))
unfolding search_of walk_of path_of join levels_from bucket_from primary_from fallback_of pairs_from funnel_draw_of domain_draw_of draw_of reduce_of words_at word_of funnel_in_of funnel_out_of mix64_of xor_shift xor_bits total counts
example_hit = refl
