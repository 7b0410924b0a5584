-- Values from outside, evaluated by the checker: splitmix64's published outputs, words and reductions. Assumes nothing.
use Rattle.std.specs.Prelude.{◌≡◌, refl, Ok, Err}
use Rattle.probe.specs.Mix.{xor_bits, xor_shift, mix64_of}
use Rattle.probe.specs.Word.{elastic_key_of, funnel_in_of, funnel_out_of, word_of, elastic_word_of, funnel_word_of}
use Rattle.probe.specs.Range.{indexed, words_at, reduce_of, draw_of, keyed_draw_of, elastic_draw_of, domain_draw_of, funnel_draw_of, elastic_reduce_of, funnel_reduce_of}
use Rattle.refusal.specs.declared.Draw.TheVariants as draw
use Rattle.probe.specs.declared.counter.Domain.TheVariants as domain
use Rattle.probe.specs.declared.range.ReduceRefusal.TheVariants as reduced

-- the first three outputs of splitmix64 with seed 0: its state goes up by 9E3779B97F4A7C15
pub splitmix_1 : mix64_of 0x9E3779B97F4A7C15 ≡ 0xE220A8397B1DCDAF
unfolding xor_bits xor_shift mix64_of
splitmix_1 = refl

pub splitmix_2 : mix64_of 0x3C6EF372FE94F82A ≡ 0x6E789E6AA1B965F4
unfolding xor_bits xor_shift mix64_of
splitmix_2 = refl

pub splitmix_3 : mix64_of 0xDAA66D2C7DDF743F ≡ 0x06C45D188009454F
unfolding xor_bits xor_shift mix64_of
splitmix_3 = refl

-- words of the Rust
pub elastic_word : elastic_word_of 0 7 1 2 0 ≡ 18242784564448335128
unfolding xor_bits xor_shift mix64_of elastic_key_of word_of
elastic_word = refl

pub funnel_word : funnel_word_of 0 7 (domain.Ordinary 3) 0 0 ≡ 11442233877804456331
unfolding xor_bits xor_shift mix64_of funnel_in_of funnel_out_of word_of
funnel_word = refl

pub special_word : funnel_word_of 5 9 domain.FallbackB 1 2 ≡ 0xC0BABC13546C388F
unfolding xor_bits xor_shift mix64_of funnel_in_of funnel_out_of word_of
special_word = refl

-- reductions: by the first word, by the third, and by none of one
pub reduced_first : funnel_reduce_of 0 7 domain.Primary 3 6 8 ≡ Ok (indexed 3 1)
unfolding xor_bits xor_shift mix64_of funnel_in_of funnel_out_of word_of words_at reduce_of draw_of domain_draw_of funnel_draw_of funnel_reduce_of
reduced_first = refl

pub reduced_third : elastic_reduce_of 1 0 2 3 9223372036854775809 8 ≡ Ok (indexed 5300231492657067200 3)
unfolding xor_bits xor_shift mix64_of elastic_key_of word_of words_at reduce_of draw_of keyed_draw_of elastic_draw_of elastic_reduce_of
reduced_third = refl

pub reduced_none : elastic_reduce_of 0 0x61C8864680B583EB 0 0 3 1 ≡ Err (reduced.Range (record { words = 1; draw = draw.Elastic 0; probe = record { 0 = 0 } }))
unfolding xor_bits xor_shift mix64_of elastic_key_of word_of words_at reduce_of draw_of keyed_draw_of elastic_draw_of elastic_reduce_of
reduced_none = refl
