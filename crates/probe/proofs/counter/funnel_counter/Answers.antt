-- `probe::counter::funnel_counter` meets its contract. Assumes nothing.
use Rattle.std.proofs.Common.{not, ap, ◌∙◌, arith, Some}
use mathlib.Core.Logic.{inl, inr}
use Rattle.probe.specs.CounterLaws.{domain_beyond, domain_below, funnel_or, funnel_packed_level, funnel_packed_probe, funnel_packed_retry, funnel_packed}
use Rattle.probe.proofs.counter.funnel_counter.Goals as goal

pub returns-then-not-domain_fits : goal.returns-then-not-domain_fits
returns-then-not-domain_fits c = elim c.then-not-domain_fits.either [
  | inl h ↦ funnel_packed_level _ _ _ (domain_beyond c.args.domain _ c.domain_fits.ensures (ap not h))
  | inr r ↦ elim r [
    | inl h ↦ funnel_packed_probe _ _ _ (domain_below c.args.domain _ c.domain_fits.ensures (ap not h.0)) (omega arith)
    | inr h ↦ funnel_packed_retry _ _ _ (domain_below c.args.domain _ c.domain_fits.ensures (ap not h.0)) (omega arith) (omega arith)
  ]
]

pub funnel_base-requires : goal.funnel_base-requires
funnel_base-requires c = (domain_below c.args.domain _ c.domain_fits.ensures (ap not c.if-not-domain_fits.false), omega arith)

pub returns : goal.returns
returns c = ap Some (funnel_or c.args.domain c.args.probe.0 _ _ c.funnel_base.ensures (omega arith))
    ∙ funnel_packed _ _ _ (domain_below c.args.domain _ c.domain_fits.ensures (ap not c.if-not-domain_fits.false)) (omega arith) (omega arith)
