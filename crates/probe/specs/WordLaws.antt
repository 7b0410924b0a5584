-- Laws of keys and words. Assumes nothing.
use Rattle.std.specs.Prelude.{◌≡◌, ℕ, ◌^◌, ◌<◌, bit_xor, Option, Some, None}
use Rattle.std.proofs.Common.{sym, ap, ◌∙◌}
use Rattle.probe.specs.Mix.{xor, mix64_of}
use Rattle.probe.specs.MixLaws.{xor_below, xor_bits_lem}
use Rattle.probe.specs.Counter.{elastic_packed_of, funnel_packed_of}
use Rattle.probe.specs.Word.{elastic_key_of, funnel_in_of, funnel_out_of, word_of, worded, elastic_worded_of, funnel_worded_of}
use Rattle.probe.specs.declared.counter.Domain.{Domain}

-- a word has 64 bits, whatever the key and the counter
pub word_below : (inner outer counter : ℕ) → word_of inner outer counter < 2 ^ 64
unfolding word_of
word_below inner outer counter = xor_below 64 (mix64_of (xor counter inner)) outer

-- the steps of the code
pub word_steps : (inner outer counter mixed : ℕ) → inner < 2 ^ 64 → outer < 2 ^ 64 → counter < 2 ^ 64 → mixed < 2 ^ 64
    → mixed ≡ mix64_of (bit_xor counter inner) → bit_xor mixed outer ≡ word_of inner outer counter
unfolding word_of
word_steps inner outer counter mixed hi ho hc hm e =
    xor_bits_lem 64 mixed outer hm ho
    ∙ ap (λ (y : ℕ). xor y outer) (e ∙ ap mix64_of (xor_bits_lem 64 counter inner hc hi))

-- ---- the answers

pub worded_word : (inner outer counter word : ℕ) (p : Option ℕ) → p ≡ Some counter → word ≡ word_of inner outer counter → Some word ≡ worded inner outer p
worded_word inner outer counter word p e w = ap Some w ∙ sym (ap (worded inner outer) e)

pub worded_beyond : (inner outer : ℕ) (p : Option ℕ) → p ≡ None → None ≡ worded inner outer p
worded_beyond inner outer p e = sym (ap (worded inner outer) e)

pub elastic_worded : (seed identity level probe retry key : ℕ) (p : Option ℕ) → key ≡ elastic_key_of seed identity → p ≡ elastic_packed_of level probe retry
    → worded key key p ≡ elastic_worded_of seed identity level probe retry
unfolding elastic_worded_of
elastic_worded seed identity level probe retry key p k e = rw (k, e)

pub funnel_worded : (seed identity : ℕ) (domain : Domain) (probe retry inner outer : ℕ) (p : Option ℕ)
    → inner ≡ funnel_in_of seed identity → outer ≡ funnel_out_of seed identity → p ≡ funnel_packed_of domain probe retry
    → worded inner outer p ≡ funnel_worded_of seed identity domain probe retry
unfolding funnel_worded_of
funnel_worded seed identity domain probe retry inner outer p i o e = rw (i, o, e)
