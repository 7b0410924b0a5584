-- Laws of counters: shifts are sums, and the limits. Assumes nothing.
use Rattle.std.specs.Prelude.{◌≡◌, ℕ, ◌+◌, ◌*◌, ◌%◌, ◌^◌, ◌<◌, ◌≤◌, Bool, true, false, not, bit_or, nat_lt, Some, None}
use Rattle.std.proofs.Math.Path.{sym}
use Rattle.std.proofs.Common.{ap, ap₂, ◌∙◌, arith}
use Rattle.std.proofs.lemmas.Nat.{or_shifted}
use borrow.Author.Tests.{lt-ltb, le-ltb, ltb-true, ltb-false, not-true, not-false}
use Rattle.probe.specs.Counter.{elastic_counter_of, elastic_packed_of, tag_of, level_of, funnel_counter_of, funnel_packed_of}
use Rattle.probe.specs.declared.counter.Domain.{Domain}
use Rattle.probe.specs.declared.counter.Domain.TheVariants.{Ordinary, Primary, FallbackA, FallbackB}

-- ---- elastic

module _ (level probe : ℕ) (hl : level < 32) (hp : probe < 8192) where
  pub elastic_shifts : bit_or (level * 2 ^ 16 % 2 ^ 64) (probe * 2 ^ 3 % 2 ^ 64) ≡ elastic_counter_of level probe 0
  elastic_shifts =
      let high : level * 2 ^ 16 % 2 ^ 64 ≡ level * 2 ^ 16 = omega arith in
      let mid : probe * 2 ^ 3 % 2 ^ 64 ≡ probe * 2 ^ 3 = omega arith in
      ap₂ bit_or high mid ∙ or_shifted level 16 (probe * 2 ^ 3) (omega arith) ∙ omega arith

  -- a counter fits: 21 bits
  pub elastic_fits : (retry : ℕ) → retry < 8 → elastic_counter_of level probe retry < 2 ^ 21
  elastic_fits retry hr = omega arith

pub elastic_or : (level probe retry base : ℕ) → base ≡ elastic_counter_of level probe 0 → retry < 8 → bit_or base retry ≡ elastic_counter_of level probe retry
elastic_or level probe retry base e hr =
    let both : base ≡ (level * 2 ^ 13 + probe) * 2 ^ 3 = omega arith in
    ap (λ (x : ℕ). bit_or x retry) both ∙ or_shifted (level * 2 ^ 13 + probe) 3 retry hr ∙ omega arith

-- the counters of the retries follow that of the first word
pub elastic_next : (level probe retry : ℕ) → elastic_counter_of level probe 0 + retry ≡ elastic_counter_of level probe retry
elastic_next level probe retry = omega arith

module _ (level probe retry : ℕ) where
  pub packed_level : 32 ≤ level → None ≡ elastic_packed_of level probe retry
  unfolding elastic_packed_of
  packed_level h = sym (rw (le-ltb level 32 h))

  module _ (hl : level < 32) where
    pub packed_probe : 8192 ≤ probe → None ≡ elastic_packed_of level probe retry
    unfolding elastic_packed_of
    packed_probe h = sym (rw (lt-ltb level 32 hl, le-ltb probe 8192 h))

    module _ (hp : probe < 8192) where
      pub packed_retry : 8 ≤ retry → None ≡ elastic_packed_of level probe retry
      unfolding elastic_packed_of
      packed_retry h = sym (rw (lt-ltb level 32 hl, lt-ltb probe 8192 hp, le-ltb retry 8 h))

      pub packed : retry < 8 → Some (elastic_counter_of level probe retry) ≡ elastic_packed_of level probe retry
      unfolding elastic_packed_of
      packed h = sym (rw (lt-ltb level 32 hl, lt-ltb probe 8192 hp, lt-ltb retry 8 h))

-- no two probes or retries share a counter
pub record SameElastic (level probe retry level' probe' retry' : ℕ) : Type 0 where
  pub levels : level ≡ level'
  pub probes : probe ≡ probe'
  pub retries : retry ≡ retry'

pub elastic_injective : (l p r l' p' r' : ℕ) → p < 8192 → r < 8 → p' < 8192 → r' < 8
    → elastic_counter_of l p r ≡ elastic_counter_of l' p' r' → SameElastic l p r l' p' r'
elastic_injective l p r l' p' r' hp hr hp' hr' e = record { levels = omega arith; probes = omega arith; retries = omega arith }

-- ---- funnel

pub funnel_shifts : (domain : Domain) (probe base : ℕ) → base ≡ tag_of domain * 2 ^ 62 + level_of domain * 2 ^ 16 → probe < 256
    → bit_or base (probe * 2 ^ 8 % 2 ^ 64) ≡ funnel_counter_of domain probe 0
funnel_shifts domain probe base e hp =
    let both : base ≡ (tag_of domain * 2 ^ 46 + level_of domain) * 2 ^ 16 = omega arith in
    let mid : probe * 2 ^ 8 % 2 ^ 64 ≡ probe * 2 ^ 8 = omega arith in
    ap₂ bit_or both mid ∙ or_shifted (tag_of domain * 2 ^ 46 + level_of domain) 16 (probe * 2 ^ 8) (omega arith) ∙ omega arith

pub funnel_or : (domain : Domain) (probe retry base : ℕ) → base ≡ funnel_counter_of domain probe 0 → retry < 256 → bit_or base retry ≡ funnel_counter_of domain probe retry
funnel_or domain probe retry base e hr =
    let both : base ≡ (tag_of domain * 2 ^ 54 + level_of domain * 2 ^ 8 + probe) * 2 ^ 8 = omega arith in
    ap (λ (x : ℕ). bit_or x retry) both ∙ or_shifted (tag_of domain * 2 ^ 54 + level_of domain * 2 ^ 8 + probe) 8 retry hr ∙ omega arith

-- the counters of the retries follow that of the first word
pub funnel_next : (domain : Domain) (probe retry : ℕ) → funnel_counter_of domain probe 0 + retry ≡ funnel_counter_of domain probe retry
funnel_next domain probe retry = omega arith

pub tag_most : (domain : Domain) → tag_of domain ≤ 3
tag_most (Ordinary level) = omega arith
tag_most Primary = omega arith
tag_most FallbackA = omega arith
tag_most FallbackB = omega arith

module _ (domain : Domain) (probe : ℕ) (hl : level_of domain < 2 ^ 46) (hp : probe < 256) where
  -- a counter fits a word, and so do those of all its retries
  pub funnel_fits : (cap : ℕ) → cap ≤ 256 → funnel_counter_of domain probe 0 + cap ≤ 2 ^ 64
  funnel_fits cap hc = omega (arith, tag_most domain)

-- what the test of a domain's level tells
module _ (domain : Domain) (t : Bool) (is : t ≡ nat_lt (level_of domain) (2 ^ 46)) where
  pub domain_beyond : not t ≡ true → 2 ^ 46 ≤ level_of domain
  domain_beyond h = ltb-false (level_of domain) (2 ^ 46) (sym is ∙ not-true t h)

  pub domain_below : not t ≡ false → level_of domain < 2 ^ 46
  domain_below h = ltb-true (level_of domain) (2 ^ 46) (sym is ∙ not-false t h)

module _ (domain : Domain) (probe retry : ℕ) where
  pub funnel_packed_level : 2 ^ 46 ≤ level_of domain → None ≡ funnel_packed_of domain probe retry
  unfolding funnel_packed_of
  funnel_packed_level h = sym (rw (le-ltb (level_of domain) (2 ^ 46) h))

  module _ (hl : level_of domain < 2 ^ 46) where
    pub funnel_packed_probe : 256 ≤ probe → None ≡ funnel_packed_of domain probe retry
    unfolding funnel_packed_of
    funnel_packed_probe h = sym (rw (lt-ltb (level_of domain) (2 ^ 46) hl, le-ltb probe 256 h))

    module _ (hp : probe < 256) where
      pub funnel_packed_retry : 256 ≤ retry → None ≡ funnel_packed_of domain probe retry
      unfolding funnel_packed_of
      funnel_packed_retry h = sym (rw (lt-ltb (level_of domain) (2 ^ 46) hl, lt-ltb probe 256 hp, le-ltb retry 256 h))

      pub funnel_packed : retry < 256 → Some (funnel_counter_of domain probe retry) ≡ funnel_packed_of domain probe retry
      unfolding funnel_packed_of
      funnel_packed h = sym (rw (lt-ltb (level_of domain) (2 ^ 46) hl, lt-ltb probe 256 hp, lt-ltb retry 256 h))
