-- Laws of images made by the public calls: these are the images that insertions leave. Assumes nothing.
use Rattle.std.specs.Prelude.{Ok, Err, List, [], ◌∷◌, ◌≡◌, ℕ, length}
use Rattle.std.proofs.Math.Path.{refl}
use Rattle.std.proofs.Common.{ap, sym, ◌∙◌, arith}
use Rattle.geometry.specs.FunnelGate.{funnel_gate}
use Rattle.geometry.specs.FunnelGateLaws.{plan_passes}
use Rattle.geometry.specs.FunnelLaws.{plan_unique}
use Rattle.geometry.specs.Config.{Gated}
use Rattle.funnel.specs.declared.table.FunnelTable.{FunnelTable}
use Rattle.funnel.specs.declared.table.Step.{Step}
use Rattle.funnel.specs.Calls.{table_gate, open_gate, Opens, Insertions, insertions, insert_gated, insert_answer_of}
use Rattle.funnel.specs.CallLaws.{limits_pass, lengths_pass, open_gate_later, valid_gate}
use Rattle.funnel.specs.Fresh.{Sound}
use Rattle.funnel.proofs.FreshLaws.{fresh_sound, next_sound}
use Rattle.funnel.specs.Insert.{Insertion, reached, Done, done, insert_of}
use Rattle.funnel.specs.Path.{slot_of}
use Rattle.funnel.specs.Valid.{Valid}
use Rattle.demand.specs.Called.{Calls, no_call, one_call, Called}
use Rattle.demand.specs.Made.{Inserts, none, one, fresh_of, Made}

-- a call that is answered past its gate is the insertion
gated_done : (answer : Insertion) (after : FunnelTable) (words' flags' : List ℕ) (g : Gated) (words flags : List ℕ) (d : Done)
    → insert_gated g words flags d ≡ insertions (Ok (record { answer = answer; table = after })) words' flags' → d ≡ done answer after words' flags'
gated_done answer after words' flags' (Err g) words flags d h =
    let x = ap (λ (i : Insertions). i.answer) h in
    let z : ◌≡◌ {A = ℕ} 0 1 = cc in
    absurd (omega arith)
gated_done answer after words' flags' (Ok _) words flags d h =
    let x = ap (λ (i : Insertions). i.answer) h in
    let s : ◌≡◌ {A = Step} (record { answer = d.answer; table = d.table }) (record { answer = answer; table = after }) = cc in
    let p : d.answer ≡ answer = ap (λ (r : Step). r.answer) s in
    let q : d.table ≡ after = ap (λ (r : Step). r.table) s in
    let w : d.words ≡ words' = ap (λ (i : Insertions). i.words) h in
    let f : d.flags ≡ flags' = ap (λ (i : Insertions). i.flags) h in
    rw (← p, ← q, ← w, ← f)

calls_inserts : {counts : List ℕ} {table after : FunnelTable} {words flags identities words' flags' : List ℕ}
    → Calls counts table words flags identities after words' flags' → (slots : List ℕ) × Inserts counts table words flags identities slots after words' flags'
unfolding insert_answer_of
calls_inserts no_call = ([], none)
calls_inserts {counts} {table} {words = words} {flags = flags} (one_call {table' = t} {words' = w} {flags' = f} {identity = identity} probes place h rest) =
    let s = calls_inserts rest in
    let d = gated_done _ t w f (table_gate table counts (length words) (length flags)) words flags (insert_of table counts words flags identity) h in
    (slot_of place ∷ s.0, one probes place d refl s.1)

-- in a sound table every call passes its gate, and leaves a sound table
inserts_calls : {counts : List ℕ} {table after : FunnelTable} {words flags identities slots words' flags' : List ℕ}
    → Sound counts (record { table = table; words = words; flags = flags })
    → Inserts counts table words flags identities slots after words' flags' → Calls counts table words flags identities after words' flags'
unfolding insert_answer_of
inserts_calls s none = no_call
inserts_calls {counts} {table} {words = words} {flags = flags} s (one {table' = t} {words' = w} {flags' = f} {identity = identity} probes place h at rest) =
    let n : Sound counts (record { table = t; words = w; flags = f }) = rw h at (next_sound counts (record { table = table; words = words; flags = flags }) s identity) in
    let e : insert_answer_of table counts words flags identity ≡ insertions (Ok (record { answer = Ok (reached probes place); table = t })) w f =
    rw (valid_gate s.valid, h) in
    one_call probes place e (inserts_calls n rest)

module _ {table : FunnelTable} {counts words flags : List ℕ} (valid : Valid table counts words flags) (lent-counts lent-words lent-flags : List ℕ) where
  open_passes : length lent-words ≡ table.n → length lent-flags ≡ table.n
      → open_gate table.n table.e table.word_cap (length lent-words) (length lent-flags) ≡ Ok tt
  open_passes w f =
      let low = valid.cap_least in
      sym
      (open_gate_later table.n table.e table.word_cap (length lent-words) (length lent-flags) (funnel_gate table.n table.e) (Ok tt) (Ok tt) refl
      (plan_passes valid.planned)
      (lengths_pass table.n (length lent-words) (length lent-flags) (Ok tt) w f)
      (limits_pass table.word_cap (Ok tt) (λ z. omega arith) valid.cap_most))

  pub made_called : length lent-words ≡ table.n → length lent-flags ≡ table.n → Made table counts words flags
      → Called table counts words flags lent-counts lent-words lent-flags
  unfolding Opens
  made_called w f m =
      record {
        opened = (fresh_of table).table;
        opened_words = (fresh_of table).words;
        opened_flags = (fresh_of table).flags;
        opens = (open_passes w f, valid.planned, refl, refl, refl);
        identities = m.0;
        after = m.1.1.after;
        calls = inserts_calls (fresh_sound valid.planned table.seed table.word_cap valid.cap_least valid.cap_most) m.1.1.inserts;
      }

  pub called_made : Called table counts words flags lent-counts lent-words lent-flags → Made table counts words flags
  unfolding Opens
  called_made c =
      let o = c.opens in
      let p = (plan_unique o.1 valid.planned).0 in
      let t : c.opened ≡ (fresh_of table).table = o.4 ∙ rw p in
      let s = calls_inserts (rw (t, o.2, o.3) at c.calls) in
      (c.identities, (s.0, record { after = c.after; inserts = s.1 }))
