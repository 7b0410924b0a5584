use Rattle.std.proofs.Common.{take_all, rules, get_or, eq-eqb}
use Rattle.std.proofs.lemmas.List.{take_rest, get_or_default}
use Rattle.text.specs.Fields.{is_space}
use Rattle.text.proofs.FieldLemmas.{split_none, split_read, all_more}
use Rattle.text.proofs.field.split_first_field.Goals as goal

pub returns-then-b-eq32 : goal.returns-then-b-eq32
returns-then-b-eq32 c =
    rw take_rest
    (split_read is_space c.args.line.now c.loop-at.at (get_or c.args.line.now c.loop-at.at 0) c.loop-at-test.true (search (rules, get_or_default)) (eq-eqb _ 32 c.if-b-eq32.true) c.loop-at.invariant)

pub loop-at-preserved : goal.loop-at-preserved
loop-at-preserved c = all_more c.args.line.now c.loop-at.at c.loop-at-test.true c.if-b-eq32.false c.loop-at.invariant

pub returns : goal.returns
returns c = split_none _ _ (rw (take_all _ _ c.loop-at-test.false) at c.loop-at.invariant)
