use Rattle.std.proofs.Common.{ap, not, refl, arith}
use Rattle.std.proofs.lemmas.Result.{err_from_is_err_and}
use mathlib.Core.Logic.{inl, inr}
use Rattle.probe.specs.CounterLaws.{domain_beyond, domain_below}
use Rattle.probe.specs.RangeLaws.{funnel_upper, funnel_level, funnel_probe, funnel_cap, funnel_answer, domain_told}
use Rattle.probe.proofs.range.funnel_reduce.Goals as goal

pub returns-then-upper-eq0 : goal.returns-then-upper-eq0
returns-then-upper-eq0 c = funnel_upper _ _ _ _ _ _ c.if-upper-eq0.true

pub returns-then-not-domain_fits : goal.returns-then-not-domain_fits
returns-then-not-domain_fits c = elim c.then-not-domain_fits.either [
  | inl h ↦ funnel_level _ _ _ _ _ _ c.if-upper-eq0.false (domain_beyond c.args.domain _ c.domain_fits.ensures (ap not h))
  | inr r ↦ elim r [
    | inl h ↦ funnel_probe _ _ _ _ _ _ c.if-upper-eq0.false (domain_below c.args.domain _ c.domain_fits.ensures (ap not h.0)) (omega arith)
    | inr h ↦ funnel_cap _ _ _ _ _ _ c.if-upper-eq0.false (domain_below c.args.domain _ c.domain_fits.ensures (ap not h.0)) (omega arith) (omega arith)
  ]
]

pub funnel_base-base-requires : goal.funnel_base-base-requires
funnel_base-base-requires c = (domain_below c.args.domain _ c.domain_fits.ensures (ap not c.if-not-domain_fits.false), omega arith)

pub returns-in_err-told : goal.returns-in_err-told
returns-in_err-told c =
    let a = c.args in
    let p = err_from_is_err_and c.from_residual.result c.from_residual.ensures.1 in
    let h = domain_below a.domain _ c.domain_fits.ensures (ap not c.if-not-domain_fits.false) in
    let d = domain_told _ _ a.domain _ _ _ _ _ _ _ c.funnel_base-base.ensures c.draw.ensures c.from.ensures c.in_err-told.ensures in
    rw (p.1, p.2) (funnel_answer a.seed a.identity a.domain a.probe.0 a.upper a.cap c.if-upper-eq0.false h (omega arith) (omega arith) _ _ _ _
    c.funnel_key-key.ensures.0 c.funnel_key-key.ensures.1 d refl)

pub returns : goal.returns
returns c =
    let a = c.args in
    let h = domain_below a.domain _ c.domain_fits.ensures (ap not c.if-not-domain_fits.false) in
    let d = domain_told _ _ a.domain _ _ _ _ _ _ _ c.funnel_base-base.ensures c.draw.ensures c.from.ensures c.in_ok-told.ensures in
    funnel_answer a.seed a.identity a.domain a.probe.0 a.upper a.cap c.if-upper-eq0.false h (omega arith) (omega arith) _ _ _ _
    c.funnel_key-key.ensures.0 c.funnel_key-key.ensures.1 d refl
