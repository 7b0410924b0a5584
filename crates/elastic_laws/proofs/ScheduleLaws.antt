-- From a fresh table the two levels of a batch are never both low. Assumes nothing.
use mathlib.Core.List.Memᴰ
use mathlib.Core.List.{List, [], ◌∷◌, Memᴰ}
use Rattle.std.proofs.Common.{⊎_elim, sym, ap, ◌∙◌, lt_of_not-le, arith, length-set}
use Rattle.std.specs.Prelude.{◌≡◌, refl, ℕ, suc, ◌+◌, ◌-◌, ◌≤◌, ◌<◌, length, replicate, Err}
use Rattle.std.proofs.Math.Decide.{dec_le}
use Rattle.std.proofs.lemmas.List.{length-replicate}
use Rattle.geometry.specs.Config.{Configured, maximum}
use Rattle.geometry.specs.Elastic.{total, levels_of, lengths_of, uncut_quotas, batch_of, IsBatch}
use Rattle.geometry.specs.ElasticLaws.{levels_facts}
use Rattle.probe.specs.Word.{elastic_key_of}
use Rattle.elastic.specs.declared.state.Limits.{Limits}
use Rattle.elastic.specs.declared.state.State.{State}
use Rattle.elastic.specs.State.{fresh_of}
use Rattle.elastic.specs.StateLaws.{open_facts}
use Rattle.elastic_steps.specs.declared.answer.InsertRefusal.TheVariants as refusal
use Rattle.elastic_steps.specs.Insert.{Done, counted, added_to, insert_of}
use Rattle.elastic_insert.specs.Table.{Outcome, kept, stored, Reached, fresh, more}
use Rattle.elastic_insert.specs.TableLaws.{insert_outcome, leaves, reached_kept}
use Rattle.elastic_laws.specs.Schedule.{quotas_before, batch_now, InBatch, Takes, alone, current, next, Scheduled, answers_of}
use Rattle.elastic_laws.proofs.QuotaLaws.{batch_uncut}
use Rattle.elastic_laws.proofs.BatchLaws.{batch_fresh, batch_takes, batches_end, never_both_full}
use Rattle.elastic_laws.specs.Choice.{BothLow}
use Rattle.elastic_laws.proofs.ChoiceLaws.{steps_chose, steps_schedule, slot_stepped, schedule_stepped}

-- ---- a table with room

module _ (st : State) (cs : List ℕ) (s : Scheduled st cs) (room : st.count < st.plan.maximum) where
  -- its batch has its two levels, its counts are in it, and its quota is not used
  record Going : Type 0 where
    few : levels_of st.n ≤ 32
    has : batch_now st < levels_of st.n
    filled : InBatch st.n st.e (batch_now st) cs
    unused : total cs < quotas_before st.n st.e (suc (batch_now st))

  going : Going
  going =
      let b = batch_uncut st.n st.e s.config st.count (omega (arith, s.maximum_is)) in
      record { few = (levels_facts st.n st.e s.config).few; has = b.1; filled = s.batch room; unused = omega (arith, s.sums, b.0.exceeds) }

  -- In a table that follows the schedule and has room, the two levels of the batch are not both low.
  pub never_both_low : BothLow st (batch_now st) cs → ⊥
  never_both_low w =
      let g = going in
      let q : batch_now st ≡ suc w.at = omega (arith, w.batch) in
      let z : w.at + 1 ≡ suc w.at = omega arith in
      let filled : InBatch st.n st.e (suc w.at) cs = rw q at g.filled in
      let unused : total cs < quotas_before st.n st.e (suc (suc w.at)) = rw q at g.unused in
      never_both_full st.n st.e s.config w.at cs (omega (arith, g.has)) filled unused (omega (arith, w.current)) (omega (arith, rw z at w.next))

  module _ (level : ℕ) (t : Takes st.n st.e (batch_now st) cs level) where
    taken_below : level < length cs
    taken_below = go t
      where
        go : Takes st.n st.e (batch_now st) cs level → level < length cs
        go (alone z at) = omega (arith, going.has, going.few, s.size)
        go (current at low) = omega (arith, going.has, going.few, s.size)
        go (next at low) = omega (arith, going.has, going.few, s.size)

    -- the batch after a member more: the same one, or the first whose quota is not used then
    batch_on : total (added_to cs level) ≡ st.count + 1 → st.count + 1 < st.plan.maximum → InBatch st.n st.e (batch_now (counted st)) (added_to cs level)
    batch_on sums still =
        let g = going in
        let old = batch_uncut st.n st.e s.config st.count (omega (arith, s.maximum_is)) in
        let new = batch_uncut st.n st.e s.config (st.count + 1) (omega (arith, s.maximum_is)) in
        go old.0 new.0 new.1 (batch_takes st.n st.e s.config (batch_now st) cs g.has g.filled g.unused level taken_below t) (dec_le (batch_now st) (batch_now (counted st)))
      where
        go : IsBatch (uncut_quotas st.e (lengths_of st.n)) st.count (batch_now st) → IsBatch (uncut_quotas st.e (lengths_of st.n)) (st.count + 1) (batch_now (counted st))
            → batch_now (counted st) < levels_of st.n → InBatch st.n st.e (batch_now st) (added_to cs level) → Dec (batch_now st ≤ batch_now (counted st))
            → InBatch st.n st.e (batch_now (counted st)) (added_to cs level)
        go old new has i (yes l) =
            let d : batch_now st + (batch_now (counted st) - batch_now st) ≡ batch_now (counted st) = omega arith in
            let j = batches_end st.n st.e s.config (batch_now (counted st) - batch_now st) (batch_now st) (added_to cs level) (omega arith) i (λ j k. omega (arith, new.first j (omega arith))) in
            rw d at j
        go old new has i (no l) = let k = lt_of_not-le l in absurd (omega (arith, old.first _ k, new.exceeds))

    -- A member more in a level that the batch takes leaves a table that follows the schedule.
    scheduled_stored : total (added_to cs level) ≡ st.count + 1 → Scheduled (counted st) (added_to cs level)
    scheduled_stored sums = record { config = s.config; maximum_is = s.maximum_is; size = simp length-set s.size; sums = sums; batch = batch_on sums }

-- ---- tables over time

-- A fresh table follows the schedule.
scheduled_fresh : (n e seed : ℕ) (limits : Limits) → Configured n e → total (replicate 32 0) ≡ 0 → Scheduled (fresh_of n e seed limits) (replicate 32 0)
scheduled_fresh n e seed limits c z = record { config = c; maximum_is = refl; size = length-replicate {A = ℕ} 32 0; sums = z; batch = first }
  where
    first : 0 < maximum n e → InBatch n e (batch_of n e 0) (replicate 32 0)
    first room =
        let f = batch_uncut n e c 0 room in
        let q : 0 + batch_of n e 0 ≡ batch_of n e 0 = omega arith in
        let i = batches_end n e c (batch_of n e 0) 0 (replicate 32 0) (omega (arith, f.1)) (batch_fresh n e 32) (λ j k. omega (arith, f.0.first j (omega arith))) in
        rw q at i

-- An insertion, refused or not, leaves a table that follows the schedule.
scheduled_outcome : (st : State) (cs ws fs : List ℕ) (id : ℕ) → Scheduled st cs → (d : Done) → Outcome st cs ws fs id d → total d.counts ≡ d.st.count → Scheduled d.st d.counts
scheduled_outcome st cs ws fs id s d (kept r h) sums = s
scheduled_outcome st cs ws fs id s d (stored case level slot probe v h near) sums =
    let w = slot_stepped st cs ws fs id case level slot probe h in
    let c = steps_chose st (elastic_key_of st.seed id) cs fs (batch_now st) case level slot probe w.steps in
    scheduled_stored st cs s w.room level c.takes sums

-- Every table that insertions reach from fresh follows the schedule.
pub reached_scheduled : {n e seed : ℕ} {limits : Limits} {st : State} {cs ws fs : List ℕ} → Reached n e seed limits st cs ws fs → Scheduled st cs
reached_scheduled {n} {e} {seed} {limits} (fresh cs₀ ws₀ fs₀ st cs ws fs l h) =
    let f = open_facts n e seed limits cs₀ ws₀ fs₀ st cs ws fs h in
    let c : replicate 32 0 ≡ cs = rw l at f.2 in
    let k : total cs ≡ st.count = (reached_kept (fresh cs₀ ws₀ fs₀ st cs ws fs l h)).counts.sums in
    let z : total (replicate 32 0) ≡ 0 = ap total c ∙ k ∙ sym (ap (λ (s : State). s.count) f.1) in
    rw (← f.1, ← c) (scheduled_fresh n e seed limits f.0 z)
reached_scheduled (more st cs ws fs id a st' cs' ws' fs' r h) =
    let k : total cs' ≡ st'.count = (reached_kept (more st cs ws fs id a st' cs' ws' fs' r h)).counts.sums in
    let sums : total (insert_of st cs ws fs id).counts ≡ (insert_of st cs ws fs id).st.count = rw h k in
    leaves (λ st cs ws fs. Scheduled st cs) h (scheduled_outcome st cs ws fs id (reached_scheduled r) (insert_of st cs ws fs id) (insert_outcome st cs ws fs id) sums)

-- ---- SCHEDULE

-- An insertion answers SCHEDULE only where the table has room and both levels of its batch are low.
schedule_both_low : (st : State) (cs ws fs : List ℕ) (id : ℕ) (d : Done) → Outcome st cs ws fs id d → d.answer ≡ Err refusal.Schedule
    → (st.count < st.plan.maximum) × BothLow st (batch_now st) cs
schedule_both_low st cs ws fs id d (kept r h) e =
    let q : r ≡ refusal.Schedule = cc in
    let w = schedule_stepped st cs ws fs id (h q) in
    (w.room, steps_schedule st (elastic_key_of st.seed id) cs fs (batch_now st) w.steps)
schedule_both_low st cs ws fs id d (stored case level slot probe v h near) e = let z : ◌≡◌ {A = ℕ} 0 1 = cc in absurd (omega arith)

-- No insertion into a table that insertions reach from fresh, refused ones among them, is answered SCHEDULE.
pub never_schedule : {n e seed : ℕ} {limits : Limits} {st : State} {cs ws fs : List ℕ} → Reached n e seed limits st cs ws fs
    → (id : ℕ) → (insert_of st cs ws fs id).answer ≡ Err refusal.Schedule → ⊥
never_schedule {st = st} {cs} {ws} {fs} r id h =
    let w = schedule_both_low st cs ws fs id (insert_of st cs ws fs id) (insert_outcome st cs ws fs id) h in
    never_both_low st cs (reached_scheduled r) w.0 w.1

-- and so of a sequence of them
pub answers_never : {n e seed : ℕ} {limits : Limits} {st : State} {cs ws fs : List ℕ} → Reached n e seed limits st cs ws fs
    → (ids : List ℕ) → Memᴰ (Err refusal.Schedule) (answers_of st cs ws fs ids) → ⊥
unfolding answers_of
answers_never {st = st} {cs} {ws} {fs} r [] m = Memᴰ.not-nil m
answers_never {st = st} {cs} {ws} {fs} r (id ∷ ids) m =
    let d = insert_of st cs ws fs id in
    let on = answers_never {st = d.st} {cs = d.counts} {ws = d.words} {fs = d.flags} (more st cs ws fs id d.answer d.st d.counts d.words d.flags r refl) ids in
    ⊎_elim (λ e. never_schedule r id (sym e)) on (Memᴰ.cases_cons m)
