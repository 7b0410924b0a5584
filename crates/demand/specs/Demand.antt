-- DEMAND 3: the check accepts a table image exactly if some order of insertions makes it, with the order as witness; otherwise no order
-- exists, and the placed part is handed back. `Made.antt` says what the words mean; no definition here or there mentions code, and
-- the contract of the check says that its answer, marks and order are those of `check_of`. The theorems speak of calls past STATE
-- (`Lent`: the state is valid and the lent buffers are n long). Assumes nothing.
use Rattle.std.specs.Prelude.{Ok, Err, Some, List, ◌≡◌, ℕ, ◌^◌, ◌≤◌, ◌<◌, length, get_or, take, drop}
use Rattle.std.proofs.Common.{ap, sym, ◌∙◌, arith}
use Rattle.funnel.specs.declared.table.FunnelTable.{FunnelTable}
use Rattle.audit_calls.specs.declared.check.CheckRefusal.TheVariants as checked
use Rattle.funnel.specs.Dirty.{dirty_at}
use Rattle.audit_calls.specs.Check.{Lent, Checked, Ended, ended, check_of}
use Rattle.queue.specs.Queue.{Found}
use Rattle.audit.specs.FirstLaws.{first_found}
use Rattle.audit.specs.Marked.{marks_of}
use Rattle.audit.specs.ReadyLaws.{unplaced_facts, unplaced_yes}
use Rattle.words.specs.BytesLaws.{get_d_zeros}
use Rattle.geometry.specs.Funnel.{IsPlan}
use Rattle.geometry.specs.FunnelLaws.{plan_facts}
use Rattle.geometry.specs.declared.funnel.FunnelPlan.{FunnelPlan}
use Rattle.funnel.specs.Fresh.{fresh, after, Sound}
use Rattle.funnel.proofs.FreshLaws.{fresh_after}
use Rattle.funnel.specs.Insert.{with_count}
use Rattle.image_calls.specs.Calls.{write_image_of, loaded, loadings, load_image_of}
use Rattle.image_writer.specs.DirtyLaws.{entries_most}
use Rattle.image.specs.Format.{entries_of}
use Rattle.image_writer.specs.Writing.{writes, head_of}
use Rattle.image_laws.specs.CallRoundTrip.{load_image_after_write_image}
use Rattle.image_laws.specs.RoundTrip.{Machine}
use Rattle.demand.specs.Called.{Called}
use Rattle.demand.specs.CalledLaws.{made_called, called_made}
use Rattle.demand.specs.RunLaws.{after_made, after_table, after_bounded}
use Rattle.demand.specs.Made.{Occupied, members, LeavesAt, Made, identities_at, PartOf, placed_words}
use Rattle.demand.specs.MadeLaws.{placed_all, placed_same}
use Rattle.demand.specs.EndLaws.{Finished, accepted_end, disorder_end, dirty_end, made_answer, end_contains, accepted_marks}

module _ {table : FunnelTable} {counts words flags marks order : List ℕ} (lent : Lent table counts words flags marks order) where
  -- 1. ACCEPTED. The first `placed` entries of the order are slots whose identities, inserted one after the other into a fresh table, are each
  -- answered as inserted at its slot, and end in the image slot for slot, words and flags.
  pub accepted : (placed : ℕ) (marks' order' : List ℕ) → check_of table counts words flags marks order ≡ ended (Ok placed) marks' order'
      → LeavesAt table counts (identities_at words (take placed order')) (take placed order') words flags
  accepted placed marks' order' e =
      let f = accepted_end lent placed marks' order' e in
      let m : marks' ≡ flags = accepted_marks lent placed marks' order' f in
      let w : placed_words words flags ≡ words = placed_all words flags (lent.valid.words_length ∙ sym lent.valid.flags_length) f.clean.vacant_words in
      record { after = _; inserts = rw (m, w) at f.turns.built }

  -- 2. MADE IMAGES ARE ACCEPTED. If any order of insertions, each answered as inserted, leaves the image, the check accepts it, with every
  -- member placed.
  pub made_accepted : Made table counts words flags → (check_of table counts words flags marks order).answer ≡ Ok (members flags)
  made_accepted m = made_answer lent m

  -- 1 and 2 together: the check accepts the image exactly if some order of insertions makes it.
  pub exactly : ((placed : ℕ) → (check_of table counts words flags marks order).answer ≡ Ok placed → Made table counts words flags)
      × (Made table counts words flags → (check_of table counts words flags marks order).answer ≡ Ok (members flags))
  exactly = (
    λ placed e.
        let c = check_of table counts words flags marks order in
        let l = accepted placed c.marks c.order (ap (λ (a : Checked). ended a c.marks c.order) e) in
        (identities_at words (take placed c.order), (take placed c.order, l)),
    made_accepted,
  )

  -- And to be made is to be what the public calls leave: an opening of such a table on any buffers of its length, and calls of the insertion, each answered
  -- as inserted.
  pub called : (lent-counts lent-words lent-flags : List ℕ) → length lent-words ≡ table.n → length lent-flags ≡ table.n
      → (Made table counts words flags → Called table counts words flags lent-counts lent-words lent-flags)
      × (Called table counts words flags lent-counts lent-words lent-flags → Made table counts words flags)
  called lent-counts lent-words lent-flags w f =
      (made_called lent.valid lent-counts lent-words lent-flags w f, called_made lent.valid lent-counts lent-words lent-flags)

  -- 3. DISORDERED. No order of insertions leaves the image; `placed` is the number of placed slots; the slot named is occupied and not
  -- placed, and every smaller occupied slot is placed.
  pub record Disordered (placed slot : ℕ) (marks' : List ℕ) : Type 0 where
    pub no_order : Made table counts words flags → ⊥
    pub number : placed ≡ members marks'
    pub occupied : Occupied flags slot
    pub unplaced : get_or marks' slot 0 ≡ 0
    pub smallest : (s : ℕ) → s < slot → Occupied flags s → Occupied marks' s

  pub disordered : (placed slot : ℕ) (marks' order' : List ℕ) → check_of table counts words flags marks order ≡ ended (Err (checked.Disorder placed slot)) marks' order'
      → Disordered placed slot marks'
  disordered placed slot marks' order' e =
      let f = disorder_end lent placed slot marks' order' e in
      let u = first_found _ 0 table.n slot f.first in
      let h = unplaced_facts flags marks' slot u.holds in
      record {
        no_order = λ m.
            let a : Err (checked.Disorder placed slot) ≡ Ok (members flags) = sym (ap (λ (x : Ended). x.answer) e) ∙ made_accepted m in
            let z : ◌≡◌ {A = ℕ} 0 1 = cc in
            omega arith;
        number = sym f.turns.number;
        occupied = h.0;
        unplaced = h.1;
        smallest = λ s l o q.
            let a = u.before s (omega arith) l in
            let b = unplaced_yes flags marks' s o q in
            let z : ◌≡◌ {A = ℕ} 0 1 = cc in
            omega arith;
      }

  -- 4. THE PLACED PART of a disordered image is a part of it and is itself made, by the order that was handed back; and if the image has no more
  -- members than the maximum, it contains every part of the image that some order leaves.
  pub record PlacedPart (placed : ℕ) (marks' order' : List ℕ) : Type 0 where
    pub is_part : PartOf (placed_words words marks') marks' words flags
    pub made : LeavesAt table counts (identities_at words (take placed order')) (take placed order') (placed_words words marks') marks'
    pub contains : members flags ≤ table.plan.maximum → (words' flags' : List ℕ) → PartOf words' flags' words flags → Made table counts words' flags'
        → PartOf words' flags' (placed_words words marks') marks'

  pub placed_part : (placed slot : ℕ) (marks' order' : List ℕ) → check_of table counts words flags marks order ≡ ended (Err (checked.Disorder placed slot)) marks' order'
      → PlacedPart placed marks' order'
  placed_part placed slot marks' order' e =
      record {
        is_part = record { occupied = f.turns.part; same = word };
        made = record { after = _; inserts = f.turns.built };
        contains = λ few words' flags' p m.
            let c : (s : ℕ) → Occupied flags' s → Occupied marks' s = λ s o. rw f.marks_are (end_contains lent few words' flags' p m s o) in
            record { occupied = c; same = λ s o. p.same s o ∙ sym (word s (c s o)) };
      }
    where
      f : Finished lent (Some slot) placed marks' order'
      f = disorder_end lent placed slot marks' order' e

      word : (s : ℕ) → Occupied marks' s → get_or (placed_words words marks') s 0 ≡ get_or words s 0
      word s o = placed_same words marks' s (lent.valid.words_length ∙ sym f.turns.marks_n) o

  -- 5. DIRTY images are made by no order; the slot named is the smallest dirty one.
  pub dirty : (slot : ℕ) (marks' order' : List ℕ) → check_of table counts words flags marks order ≡ ended (Err (checked.Dirty slot)) marks' order' → Made table counts words flags → ⊥
  dirty slot marks' order' e m =
      let a : Err (checked.Dirty slot) ≡ Ok (members flags) = sym (ap (λ (x : Ended). x.answer) e) ∙ made_accepted m in
      let z : ◌≡◌ {A = ℕ} 0 1 = cc in
      omega arith

  pub dirty_slot : (slot : ℕ) (marks' order' : List ℕ) → check_of table counts words flags marks order ≡ ended (Err (checked.Dirty slot)) marks' order'
      → Found (dirty_at words flags) 0 table.n slot
  dirty_slot slot marks' order' e = first_found _ 0 table.n slot (dirty_end lent slot marks' order' e)

  -- Both endings leave 1 in the marks of the slots placed and 0 in the others: as many 1 as were placed, only under members. The tail of the order is
  -- as it was.
  pub record Left (placed : ℕ) (marks' order' : List ℕ) : Type 0 where
    pub marks_are : marks' ≡ marks_of table.n order' placed
    pub bits : (s : ℕ) → get_or marks' s 0 ≤ 1
    pub marked : (s : ℕ) → Occupied marks' s → Occupied flags s
    pub number : placed ≡ members marks'
    pub marks_n : length marks' ≡ table.n
    pub order_n : length order' ≡ length order
    pub tail : drop placed order' ≡ drop placed order

  pub accepted_left : (placed : ℕ) (marks' order' : List ℕ) → check_of table counts words flags marks order ≡ ended (Ok placed) marks' order' → Left placed marks' order'
  accepted_left placed marks' order' e =
      let f = accepted_end lent placed marks' order' e in
      let t = f.turns in
      record { marks_are = f.listed; bits = t.bits; marked = t.part; number = sym t.number; marks_n = t.marks_n; order_n = t.order_n; tail = t.tail }

  pub disordered_left : (placed slot : ℕ) (marks' order' : List ℕ) → check_of table counts words flags marks order ≡ ended (Err (checked.Disorder placed slot)) marks' order' → Left placed marks' order'
  disordered_left placed slot marks' order' e =
      let f = disorder_end lent placed slot marks' order' e in
      let t = f.turns in
      record { marks_are = f.listed; bits = t.bits; marked = t.part; number = sym t.number; marks_n = t.marks_n; order_n = t.order_n; tail = t.tail }

-- 5, second sentence. Images of tables that insertions filled from fresh, written and loaded, are accepted: whatever identities of 64 bits were
-- inserted, and however each was answered, if the writer wrote an image then the loader reads back the same words and flags, and the check
-- of the table that it answers accepts them, with every member placed.
pub record Returned (counts : List ℕ) (table : FunnelTable) (words flags image words₀ flags₀ : List ℕ) : Type 0 where
  pub table' : FunnelTable
  pub label_at : ℕ
  pub label_len : ℕ
  pub loads : load_image_of table counts words₀ flags₀ image ≡ loadings (Ok (loaded table' label_at label_len)) words flags
  pub accepts : (marks order : List ℕ) → length marks ≡ table.n → length order ≡ table.n
      → (check_of table' counts words flags marks order).answer ≡ Ok (members flags)

pub returned : (counts : List ℕ) (n e seed cap : ℕ) (plan : FunnelPlan) → IsPlan n e plan counts → 1 ≤ cap → cap ≤ 256
    → seed < 2 ^ 64 → (identities : List ℕ) → ((k : ℕ) → get_or identities k 0 < 2 ^ 64)
    → (table : FunnelTable) (words flags : List ℕ) → after counts (fresh n e seed cap plan) identities ≡ record { table = table; words = words; flags = flags }
    → (label out out' : List ℕ) (len : ℕ) → write_image_of table counts words flags label out ≡ writes (Ok len) out'
    → (words₀ flags₀ : List ℕ) → length words₀ ≡ table.n → length flags₀ ≡ table.n → Returned counts table words flags (take len out') words₀ flags₀
unfolding entries_of
returned counts n e seed cap plan is low high small identities each table words flags ran label out out' len wrote words₀ flags₀ lw lf =
    record {
      table' = with_count table (length (entries_of words flags));
      label_at = _;
      label_len = _;
      loads = load_image_after_write_image table counts words flags label out fits len out' wrote words₀ flags₀ lw lf;
      accepts = λ marks order m o. made_accepted (lent marks order m o) (made.0, (made.1.0, record { after = made.1.1.after; inserts = made.1.1.inserts }));
    }
  where
    sound : Sound counts (record { table = table; words = words; flags = flags })
    sound = rw ran at (fresh_after is seed cap low high identities)

    -- "identity and seed any u64": what is written has a machine's numbers
    fits : Machine (head_of table) words
    fits =
        let t = after_table counts n e seed cap plan identities in
        let q : table ≡ with_count (fresh n e seed cap plan).table t.0 = rw ran at t.1 in
        let f = plan_facts is in
        let a : table.n ≡ n = ap (λ (x : FunnelTable). x.n) q in
        let b : table.e ≡ e = ap (λ (x : FunnelTable). x.e) q in
        let s : table.seed ≡ seed = ap (λ (x : FunnelTable). x.seed) q in
        record {
          n_fits_lem = omega arith;
          e_fits_lem = omega arith;
          seed_fits_lem = omega arith;
          words_fit = rw ran at (after_bounded counts (2 ^ 64) (fresh n e seed cap plan) identities (λ i. omega (arith, get_d_zeros n i)) each);
        }

    made : Made table counts words flags
    made = rw ran at (after_made counts n e seed cap plan identities)

    lent : (marks order : List ℕ) → length marks ≡ table.n → length order ≡ table.n → Lent (with_count table (length (entries_of words flags))) counts words flags marks order
    lent marks order m o =
        let v = sound.valid in
        let most = entries_most words flags 0 (length flags) in
        record {
          valid = record { planned = v.planned; cap_least = v.cap_least; cap_most = v.cap_most; words_length = v.words_length; flags_length = v.flags_length; counted = omega (arith, v.flags_length) };
          marks_n = m;
          order_n = o;
        }
