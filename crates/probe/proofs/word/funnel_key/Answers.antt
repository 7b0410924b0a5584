-- `probe::word::funnel_key` meets its contract. Assumes nothing.
use Rattle.std.proofs.Common.{ap, ◌∙◌, arith}
use Rattle.probe.specs.Mix.{mix64_of}
use Rattle.probe.specs.Word.{funnel_in_of, funnel_out_of}
use Rattle.probe.proofs.word.funnel_key.Goals as goal

pub returns : goal.returns
unfolding funnel_in_of funnel_out_of
returns c = (omega arith, c.mix64.ensures ∙ ap mix64_of (omega arith))
