-- `image_calls::calls::write_image` meets its contract. Assumes nothing.
use mathlib.Core.Path.{sym, ◌∙◌}
use native.Mathlib.Omega.{arith}
use Rattle.std.proofs.lemmas.Result.{err_from_is_err_and}
use Rattle.image_calls.specs.CallLaws.{gate_writable, write_refused, write_passed}
use Rattle.image_calls.proofs.calls.write_image.Goals as goal

pub returns-in_err-write_gate : goal.returns-in_err-write_gate
returns-in_err-write_gate c =
    let p = err_from_is_err_and c.from_residual.result c.from_residual.ensures.1 in
    rw (p.1, p.2) (write_refused _ _ _ _ _ _ _ (sym c.write_gate.ensures ∙ c.in_err-write_gate.was))

pub write-requires : goal.write-requires
write-requires c = let s = c.args in
    let w = gate_writable s.table s.counts.now s.words.now s.flags.now s.label.now (sym c.write_gate.ensures ∙ c.in_ok-write_gate.was) in
    let v = w.valid in
    let m = v.planned.configured.most in
    (v.words_length ∙ sym v.flags_length, omega (arith, v.flags_length), w.short)

pub returns : goal.returns
returns c = write_passed _ _ _ _ _ _ (sym c.write_gate.ensures ∙ c.in_ok-write_gate.was) _ c.write.ensures
