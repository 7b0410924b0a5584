-- What each public call reports, in 01's words: its refusals by name and in their order, then its values. Assumes nothing.
use Rattle.std.specs.Prelude.{◌≡◌, ℕ, ◌^◌, [], ◌∷◌, ◌==◌, nat_le, nat_lt, refl, Option}
use Rattle.refusal.specs.declared.Name.TheVariants as name
use Rattle.refusal.specs.Table.{Report, answered, refused}
use Rattle.words.specs.Pick.{pick}
use Rattle.words.specs.PickLaws.{through}
use Rattle.probe.specs.Counter.{elastic_counter_of, elastic_packed_of, level_of, funnel_counter_of, funnel_packed_of, packed_report}
use Rattle.probe.specs.Word.{elastic_key_of, funnel_in_of, funnel_out_of, elastic_word_of, funnel_word_of, worded, elastic_worded_of, funnel_worded_of, word_report}
use Rattle.probe.specs.Range.{elastic_draw_of, funnel_draw_of, reduced_of, elastic_reduce_of, funnel_reduce_of, reduced_report}
use Rattle.probe.specs.declared.counter.Domain.{Domain}

pub elastic_counter_report : (level probe retry : ℕ) → packed_report (elastic_packed_of level probe retry)
    ≡ pick (nat_lt level 32)
    (pick (nat_lt probe 8192)
    (pick (nat_lt retry 8) (answered (elastic_counter_of level probe retry ∷ [])) (refused name.Counter [])) (refused name.Counter [])) (refused name.Counter [])
unfolding elastic_packed_of
elastic_counter_report level probe retry =
    through packed_report (nat_lt level 32) _ _ _ _
    (through packed_report (nat_lt probe 8192) _ _ _ _ (through packed_report (nat_lt retry 8) _ _ _ _ refl refl) refl) refl

pub funnel_counter_report : (domain : Domain) (probe retry : ℕ) → packed_report (funnel_packed_of domain probe retry)
    ≡ pick (nat_lt (level_of domain) (2 ^ 46))
    (pick (nat_lt probe 256)
    (pick (nat_lt retry 256) (answered (funnel_counter_of domain probe retry ∷ [])) (refused name.Counter [])) (refused name.Counter [])) (refused name.Counter [])
unfolding funnel_packed_of
funnel_counter_report domain probe retry =
    through packed_report (nat_lt (level_of domain) (2 ^ 46)) _ _ _ _
    (through packed_report (nat_lt probe 256) _ _ _ _ (through packed_report (nat_lt retry 256) _ _ _ _ refl refl) refl) refl

pub elastic_word_report : (seed identity level probe retry : ℕ) → word_report (elastic_worded_of seed identity level probe retry)
    ≡ pick (nat_lt level 32)
    (pick (nat_lt probe 8192)
    (pick (nat_lt retry 8) (answered (elastic_word_of seed identity level probe retry ∷ [])) (refused name.Counter [])) (refused name.Counter [])) (refused name.Counter [])
unfolding elastic_worded_of elastic_packed_of
elastic_word_report seed identity level probe retry =
    through f (nat_lt level 32) _ _ _ _ (through f (nat_lt probe 8192) _ _ _ _ (through f (nat_lt retry 8) _ _ _ _ refl refl) refl) refl
  where
    f : Option ℕ → Report
    f p = word_report (worded (elastic_key_of seed identity) (elastic_key_of seed identity) p)

pub funnel_word_report : (seed identity : ℕ) (domain : Domain) (probe retry : ℕ) → word_report (funnel_worded_of seed identity domain probe retry)
    ≡ pick (nat_lt (level_of domain) (2 ^ 46))
    (pick (nat_lt probe 256)
    (pick (nat_lt retry 256) (answered (funnel_word_of seed identity domain probe retry ∷ [])) (refused name.Counter [])) (refused name.Counter [])) (refused name.Counter [])
unfolding funnel_worded_of funnel_packed_of
funnel_word_report seed identity domain probe retry =
    through f (nat_lt (level_of domain) (2 ^ 46)) _ _ _ _ (through f (nat_lt probe 256) _ _ _ _ (through f (nat_lt retry 256) _ _ _ _ refl refl) refl) refl
  where
    f : Option ℕ → Report
    f p = word_report (worded (funnel_in_of seed identity) (funnel_out_of seed identity) p)

-- "Reduction: 8, 9, 10"
pub elastic_reduce_report : (seed identity level probe u cap : ℕ) → reduced_report (elastic_reduce_of seed identity level probe u cap)
    ≡ pick (u == 0) (refused name.Upper [])
    (pick (nat_le 32 level) (refused name.Counter [])
    (pick (nat_le 8192 probe) (refused name.Counter [])
    (pick (nat_lt 8 cap) (refused name.Counter [])
    (reduced_report (reduced_of (elastic_draw_of seed identity level probe u cap))))))
unfolding elastic_reduce_of
elastic_reduce_report seed identity level probe u cap =
    through reduced_report (u == 0) _ _ _ _ refl
    (through reduced_report (nat_le 32 level) _ _ _ _ refl
    (through reduced_report (nat_le 8192 probe) _ _ _ _ refl (through reduced_report (nat_lt 8 cap) _ _ _ _ refl refl)))

pub funnel_reduce_report : (seed identity : ℕ) (domain : Domain) (probe u cap : ℕ) → reduced_report (funnel_reduce_of seed identity domain probe u cap)
    ≡ pick (u == 0) (refused name.Upper [])
    (pick (nat_le (2 ^ 46) (level_of domain)) (refused name.Counter [])
    (pick (nat_le 256 probe) (refused name.Counter [])
    (pick (nat_lt 256 cap) (refused name.Counter [])
    (reduced_report (reduced_of (funnel_draw_of seed identity domain probe u cap))))))
unfolding funnel_reduce_of
funnel_reduce_report seed identity domain probe u cap =
    through reduced_report (u == 0) _ _ _ _ refl
    (through reduced_report (nat_le (2 ^ 46) (level_of domain)) _ _ _ _ refl
    (through reduced_report (nat_le 256 probe) _ _ _ _ refl (through reduced_report (nat_lt 256 cap) _ _ _ _ refl refl)))
