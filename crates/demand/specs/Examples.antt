-- Worked examples of the check at (144, 3), past its gate, computed. Assumes nothing.
use Rattle.std.specs.Prelude.{Ok, Err, List, [], ◌∷◌, ◌++◌, ◌≡◌, refl, ℕ, replicate}
use Rattle.geometry.specs.Counts.{total}
use Rattle.probe.specs.Mix.{xor_bits, xor_shift, mix64_of}
use Rattle.probe.specs.Word.{funnel_in_of, funnel_out_of, word_of}
use Rattle.probe.specs.Range.{words_at, reduce_of, draw_of, domain_draw_of, funnel_draw_of}
use Rattle.funnel.specs.OneBucket.{counts, table}
use Rattle.funnel.specs.Path.{join, bucket_from, levels_from, primary_from, pairs_from, fallback_of, path_of}
use Rattle.funnel.specs.Search.{walk_of, search_of, find_of}
use Rattle.funnel.specs.Insert.{insert_by, insert_of}
use Rattle.audit_calls.specs.declared.check.CheckRefusal.TheVariants as checked
use Rattle.audit.specs.Greedy.{first_from, unplaced, ready, greedy_of}
use Rattle.funnel.specs.Dirty.{dirty_at}
use Rattle.audit_calls.specs.Check.{Ended, ended, end_of, take_all, audit_of}

-- what the check leaves of an image that starts with these words and flags, from marks of 7 and an order of 9
abbrev checked_at : (words flags : List ℕ) (rest : ℕ) → Ended
checked_at words flags rest = audit_of (table 0 1 0) counts (words ++ replicate rest 0) (flags ++ replicate rest 0) (replicate 144 7) (replicate 144 9)

-- two members in turn: accepted, with their slots in the order
pub two : checked_at (7 ∷ 9 ∷ []) (1 ∷ 1 ∷ []) 142 ≡ ended (Ok 2) (1 ∷ 1 ∷ replicate 142 0) (0 ∷ 1 ∷ replicate 142 9)
unfolding audit_of take_all end_of dirty_at first_from unplaced ready greedy_of insert_of insert_by find_of search_of walk_of path_of join levels_from primary_from fallback_of bucket_from pairs_from total funnel_draw_of domain_draw_of draw_of reduce_of words_at word_of funnel_in_of funnel_out_of mix64_of xor_shift xor_bits counts
two = refl

-- a vacant slot with a word, and a flag of 2: dirty, and nothing is written
pub dirty_word : checked_at (0 ∷ 7 ∷ []) (0 ∷ 0 ∷ []) 142 ≡ ended (Err (checked.Dirty 1)) (replicate 144 7) (replicate 144 9)
unfolding audit_of take_all end_of dirty_at first_from unplaced ready greedy_of insert_of insert_by find_of search_of walk_of path_of join levels_from primary_from fallback_of bucket_from pairs_from total funnel_draw_of domain_draw_of draw_of reduce_of words_at word_of funnel_in_of funnel_out_of mix64_of xor_shift xor_bits counts
dirty_word = refl

pub dirty_flag : checked_at (7 ∷ []) (2 ∷ []) 143 ≡ ended (Err (checked.Dirty 0)) (replicate 144 7) (replicate 144 9)
unfolding audit_of take_all end_of dirty_at first_from unplaced ready greedy_of insert_of insert_by find_of search_of walk_of path_of join levels_from primary_from fallback_of bucket_from pairs_from total funnel_draw_of domain_draw_of draw_of reduce_of words_at word_of funnel_in_of funnel_out_of mix64_of xor_shift xor_bits counts
dirty_flag = refl
