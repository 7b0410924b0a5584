-- `audit_ready::ready::is_ready` meets its contract. Assumes nothing.
use mathlib.Core.Path.{sym}
use Rattle.audit.specs.ReadyLaws.{ready_vacant, ready_marked, ready_exhausted, ready_stopped, ready_there, ready_ends}
use Rattle.audit_ready.proofs.ready.is_ready.Goals as goal

pub returns-then-view-s-eq0 : goal.returns-then-view-s-eq0
returns-then-view-s-eq0 g c = sym (ready_vacant _ _ _ _ _ _ _ c.if-view-s-eq0.true)

pub returns-then-marks-s-ne0 : goal.returns-then-marks-s-ne0
returns-then-marks-s-ne0 g c = sym (ready_marked _ _ _ _ _ _ _ c.if-marks-s-ne0.true)

pub returns-then-view-placed : goal.returns-then-view-placed
returns-then-view-placed g c = sym (ready_exhausted _ _ _ _ _ _ _ c.if-view-placed.true)

pub returns-in-Vacant : goal.returns-in-Vacant
returns-in-Vacant g c = ready_stopped _ _ _ _ _ _ _ c.if-view-placed.false c.if-view-s-eq0.false c.if-marks-s-ne0.false _ c.word-identity.ensures _ _ c.pass_placed.ensures c.in-Vacant.is

pub returns-in-Hit : goal.returns-in-Hit
returns-in-Hit g c = ready_there _ _ _ _ _ _ _ c.if-view-placed.false c.if-view-s-eq0.false c.if-marks-s-ne0.false _ c.word-identity.ensures _ _ c.pass_placed.ensures c.in-Hit.is

pub returns-in-Nowhere : goal.returns-in-Nowhere
returns-in-Nowhere g c = ready_ends _ _ _ _ _ _ _ c.if-view-placed.false c.if-view-s-eq0.false c.if-marks-s-ne0.false _ c.word-identity.ensures _ c.ends_at.ensures
