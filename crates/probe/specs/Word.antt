-- Keys of an identity under a seed, and the words of a key. Assumes nothing.
use Rattle.std.specs.Prelude.{ℕ, ◌+◌, ◌%◌, ◌^◌, [], ◌∷◌, Option, Some, None}
use Rattle.refusal.specs.declared.Name.TheVariants as name
use Rattle.refusal.specs.Table.{Report, answered, refused}
use Rattle.probe.specs.Mix.{xor, mix64_of}
use Rattle.probe.specs.Counter.{elastic_counter_of, elastic_packed_of, funnel_counter_of, funnel_packed_of}
use Rattle.probe.specs.declared.counter.Domain.{Domain}

-- "Elastic key = identity + seed + 9E3779B97F4A7C15, wrapped"
unfoldable pub elastic_key_of : (seed identity : ℕ) → ℕ
elastic_key_of seed identity = (identity + seed + 0x9E3779B97F4A7C15) % 2 ^ 64

-- "keyed = identity + seed, wrapped"
abbrev pub keyed_of : (seed identity : ℕ) → ℕ
keyed_of seed identity = (identity + seed) % 2 ^ 64

-- "in = keyed + 2D358DCCAA6C78A5"
unfoldable pub funnel_in_of : (seed identity : ℕ) → ℕ
funnel_in_of seed identity = (keyed_of seed identity + 0x2D358DCCAA6C78A5) % 2 ^ 64

-- "out = mix64(keyed + 8BB84B93962EACC9)"
unfoldable pub funnel_out_of : (seed identity : ℕ) → ℕ
funnel_out_of seed identity = mix64_of ((keyed_of seed identity + 0x8BB84B93962EACC9) % 2 ^ 64)

-- "word = mix64(counter xor in) xor out"; for the elastic table the key is both
unfoldable pub word_of : (inner outer counter : ℕ) → ℕ
word_of inner outer counter = xor (mix64_of (xor counter inner)) outer

-- "word = mix64(counter xor key) xor key"
abbrev pub elastic_word_of : (seed identity level probe retry : ℕ) → ℕ
elastic_word_of seed identity level probe retry =
    word_of (elastic_key_of seed identity) (elastic_key_of seed identity) (elastic_counter_of level probe retry)

abbrev pub funnel_word_of : (seed identity : ℕ) → Domain → (probe retry : ℕ) → ℕ
funnel_word_of seed identity domain probe retry =
    word_of (funnel_in_of seed identity) (funnel_out_of seed identity) (funnel_counter_of domain probe retry)

-- the word of a counter that was packed
abbrev pub worded : (inner outer : ℕ) → Option ℕ → Option ℕ
worded inner outer (Some counter) = Some (word_of inner outer counter)
worded inner outer None = None

-- what a call for one word answers: none where a field is beyond the packing
unfoldable pub elastic_worded_of : (seed identity level probe retry : ℕ) → Option ℕ
elastic_worded_of seed identity level probe retry =
    worded (elastic_key_of seed identity) (elastic_key_of seed identity) (elastic_packed_of level probe retry)

unfoldable pub funnel_worded_of : (seed identity : ℕ) → Domain → (probe retry : ℕ) → Option ℕ
funnel_worded_of seed identity domain probe retry =
    worded (funnel_in_of seed identity) (funnel_out_of seed identity) (funnel_packed_of domain probe retry)

-- what it reports: COUNTER where there is none
abbrev pub word_report : Option ℕ → Report
word_report (Some word) = answered (word ∷ [])
word_report None = refused name.Counter []
