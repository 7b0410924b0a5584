-- `probe::range::accepts` meets its contract. Assumes nothing.
use Rattle.std.proofs.Common.{ℕ, ◌%◌, ◌^◌, leb, sym, ap, mod-lt, arith, le-leb}
use Rattle.probe.proofs.range.accepts.Goals as goal

pub returns-then-u-low : goal.returns-then-u-low
returns-then-u-low c = let u = c.args.u in
    sym (le-leb (2 ^ 64 % u) c.args.low (omega (arith, mod-lt (2 ^ 64) {m = u} c.requires)))

pub returns-else-u-low : goal.returns-else-u-low
returns-else-u-low c = ap (λ (t : ℕ). leb t c.args.low) c.two64_mod.ensures
