-- Reduction of words to an index below a number of values. Assumes nothing.
use Rattle.std.specs.Prelude.{◌≡◌, ℕ, zero, suc, ◌+◌, ◌*◌, ◌/◌, ◌%◌, ◌^◌, ◌<◌, List, [], ◌∷◌, ◌==◌, nat_le, nat_lt, Result, Ok, Err}
use Rattle.refusal.specs.Draw.{range_values}
use Rattle.refusal.specs.declared.Draw.{Draw}
use Rattle.refusal.specs.declared.Draw.TheVariants as draw
use Rattle.refusal.specs.declared.RangeRefusal.{RangeRefusal}
use Rattle.refusal.specs.declared.Name.TheVariants as name
use Rattle.refusal.specs.Table.{Report, answered, refused}
use Rattle.words.specs.Pick.{pick}
use Rattle.probe.specs.Counter.{elastic_counter_of, level_of, funnel_counter_of}
use Rattle.probe.specs.Word.{elastic_key_of, funnel_in_of, funnel_out_of, word_of}
use Rattle.probe.specs.declared.counter.Domain.{Domain}
use Rattle.probe.specs.declared.counter.Domain.TheVariants as domain
use Rattle.probe.specs.declared.range.Index.{Index}
use Rattle.probe.specs.declared.range.ReduceRefusal.{ReduceRefusal}
use Rattle.probe.specs.declared.range.ReduceRefusal.TheVariants as reduced

-- an index, and how many words were read for it
abbrev pub indexed : (index words : ℕ) → Index
indexed index words = record { index = index; words = words }

-- what words gave: an index, or how many were rejected where no more are allowed
abbrev pub Trial : Type 0
Trial = Result Index ℕ

-- what a reduction gives where its range and counters are right: an index, or that all words were rejected, and where
abbrev pub Drawn : Type 0
Drawn = Result Index RangeRefusal

-- what the bare reduction answers
abbrev pub Reduced : Type 0
Reduced = Result Index ReduceRefusal

-- the words of n counters from base on. The retry is a counter's lowest field, so that those of one probe follow each other.
unfoldable pub words_at : (inner outer base n : ℕ) → List ℕ
words_at inner outer base zero = []
words_at inner outer base (suc n) = word_of inner outer base ∷ words_at inner outer (base + 1) n

-- RANGE: "all allowed words rejected, with the number of words"
abbrev pub all_rejected : ℕ → Trial
all_rejected words = Err words

-- "the product of word and u has two 64-bit halves; reject while the low half is below 2^64 mod u; the index is the high half";
-- `used` words were rejected before these
unfoldable pub reduce_of : (words : List ℕ) (u used : ℕ) → Trial
reduce_of [] u used = all_rejected used
reduce_of (word ∷ words) u used =
    pick (nat_le (2 ^ 64 % u) (word * u % 2 ^ 64))
    (Ok (indexed (word * u / 2 ^ 64) (used + 1)))
    (reduce_of words u (used + 1))

-- an index below u from at most cap words, by the numbers that key them and the counter of the first
unfoldable pub draw_of : (inner outer base u cap : ℕ) → Trial
draw_of inner outer base u cap = reduce_of (words_at inner outer base cap) u 0

-- an index, where it is one below u, that the first word gives: whatever more words are allowed, they are not needed
pub record FirstIndex (inner outer base u index : ℕ) : Type 0 where
  pub first : index < u → (cap : ℕ) → 0 < cap → draw_of inner outer base u cap ≡ Ok (indexed index 1)

-- "The reduction's refusal should carry its domain, level and logical probe": what words gave, with the draw that they were for
abbrev pub drawn_for : Draw → (probe : ℕ) → Trial → Drawn
drawn_for draw probe (Ok index) = Ok index
drawn_for draw probe (Err words) = Err (record { words = words; draw = draw; probe = record { 0 = probe } })

-- a refusal that names a draw, at a probe, and all words that it may take
pub record Names (d : Draw) (probe cap : ℕ) (r : RangeRefusal) : Type 0 where
  pub all : r.words ≡ cap
  pub for_draw : r.draw ≡ d
  pub at_probe : r.probe.0 ≡ probe

-- the index of the identity of a key in a level of u slots of an elastic table, at a probe
unfoldable pub keyed_draw_of : (key level probe u cap : ℕ) → Drawn
keyed_draw_of key level probe u cap = drawn_for (draw.Elastic level) probe (draw_of key key (elastic_counter_of level probe 0) u cap)

unfoldable pub elastic_draw_of : (seed identity level probe u cap : ℕ) → Drawn
elastic_draw_of seed identity level probe u cap = keyed_draw_of (elastic_key_of seed identity) level probe u cap

-- what a funnel draws for
abbrev pub origin_of : Domain → Draw
origin_of (domain.Ordinary level) = draw.Ordinary level
origin_of domain.Primary = draw.Primary
origin_of domain.FallbackA = draw.FallbackA
origin_of domain.FallbackB = draw.FallbackB

-- the index of the identity of two numbers that key its words among u buckets or slots of a funnel table, at a probe
unfoldable pub domain_draw_of : (inner outer : ℕ) → Domain → (probe u cap : ℕ) → Drawn
domain_draw_of inner outer domain probe u cap = drawn_for (origin_of domain) probe (draw_of inner outer (funnel_counter_of domain probe 0) u cap)

unfoldable pub funnel_draw_of : (seed identity : ℕ) → Domain → (probe u cap : ℕ) → Drawn
funnel_draw_of seed identity domain probe u cap = domain_draw_of (funnel_in_of seed identity) (funnel_out_of seed identity) domain probe u cap

-- a draw as the bare reduction answers it
abbrev pub reduced_of : Drawn → Reduced
reduced_of (Ok index) = Ok index
reduced_of (Err refusal) = Err (reduced.Range refusal)

-- "Reduction: 8, 9, 10; a cap of 0 is RANGE with 0 words"; UPPER: "range reduction to 0 values"; COUNTER: "level, probe, retry or word
-- cap beyond the packing"
unfoldable pub elastic_reduce_of : (seed identity level probe u cap : ℕ) → Reduced
elastic_reduce_of seed identity level probe u cap =
    pick (u == 0) (Err reduced.Upper)
    (pick (nat_le 32 level) (Err reduced.Counter)
    (pick (nat_le 8192 probe) (Err reduced.Counter)
    (pick (nat_lt 8 cap) (Err reduced.Counter)
    (reduced_of (elastic_draw_of seed identity level probe u cap)))))

unfoldable pub funnel_reduce_of : (seed identity : ℕ) → Domain → (probe u cap : ℕ) → Reduced
funnel_reduce_of seed identity domain probe u cap =
    pick (u == 0) (Err reduced.Upper)
    (pick (nat_le (2 ^ 46) (level_of domain)) (Err reduced.Counter)
    (pick (nat_le 256 probe) (Err reduced.Counter)
    (pick (nat_lt 256 cap) (Err reduced.Counter)
    (reduced_of (funnel_draw_of seed identity domain probe u cap)))))

-- what the bare reduction reports
abbrev pub reduced_report : Reduced → Report
reduced_report (Ok drew) = answered (drew.index ∷ drew.words ∷ [])
reduced_report (Err reduced.Upper) = refused name.Upper []
reduced_report (Err reduced.Counter) = refused name.Counter []
reduced_report (Err (reduced.Range refusal)) = refused name.Range (range_values refusal)
