-- Laws of readings, searches and scans. Assumes nothing.
use Rattle.std.specs.Prelude.{Bool, List, ◌≡◌, get_or, Some, None, Ok, Err}
use Rattle.std.proofs.Math.Bool.{true, false}
use Rattle.std.proofs.Math.Path.{refl, sym, ap}
use Rattle.std.proofs.Common.{◌∙◌}
use Prim.Native.Nat.{ℕ, zero, suc, ◌+◌, ◌-◌, ◌/◌, ◌^◌, ◌≤◌, ◌<◌}
use native.Mathlib.Omega.{arith}
use Rattle.std.proofs.Math.Dec.{eqb}
use Rattle.std.proofs.Math.ListN.{length}
use borrow.Author.Tests.{eq-eqb, ne_eqb, eqb-true, eqb-false}
use Rattle.refusal.specs.declared.RangeRefusal.{RangeRefusal}
use Rattle.words.specs.declared.place.LogicalProbe.{LogicalProbe}
use Rattle.words.specs.Pick.{pick}
use Rattle.geometry.specs.Config.{Configured}
use Rattle.geometry.specs.Elastic.{levels_of, length_at, offset_at, level_length}
use Rattle.geometry.specs.ElasticLaws.{levels_facts, offset_at_lem, length_at_lem, length_pos, level_within}
use Rattle.probe.specs.Range.{indexed, Drawn, keyed_draw_of}
use Rattle.probe.specs.RangeLaws.{keyed_draw_index, Drew}
use Rattle.elastic.specs.declared.route.Reading.{Reading}
use Rattle.elastic.specs.declared.route.Vacant.{Vacant}
use Rattle.elastic.specs.Reading.{read_slot, Routed, vacant, Sought, Located, reading_by, reading_of, vacant_at, holds_at, seek_by, seek_from, seek_of, first_from, first_of, Without, Probed, Read}

-- ---- levels that can be probed

module _ {n last cap level : ℕ} (p : Probed n last cap level) where
  -- the sizes are those of a table, whatever its exponent
  probed_config : Configured n 1
  probed_config = record { least = p.least; most = p.most; some = omega arith }

  probed_below : level < levels_of n
  probed_below = let h = p.has in omega (arith, p.last_is)

  pub probed_few : level < 32
  probed_few = omega (arith, probed_below, (levels_facts n 1 probed_config).few)

  pub probed_offset : (o : ℕ) → o ≡ n - n / 2 ^ level → o ≡ offset_at n level
  probed_offset o h = h ∙ sym (offset_at_lem n 1 probed_config level probed_below)

  pub probed_length : (l : ℕ) → l ≡ level_length (last - level) (n / 2 ^ level) → l ≡ length_at n level
  probed_length l h =
      let m : last - level ≡ levels_of n - 1 - level = omega (arith, p.last_is) in
      h ∙ ap (λ (k : ℕ). level_length k (n / 2 ^ level)) m ∙ sym (length_at_lem n 1 probed_config level probed_below)

  pub probed_some : 0 < length_at n level
  probed_some = length_pos n 1 probed_config level probed_below

  pub probed_within : offset_at n level + length_at n level ≤ n
  probed_within = level_within n 1 probed_config level probed_below

-- ---- readings

module _ {n last cap level : ℕ} (p : Probed n last cap level) (key probe o l : ℕ) (eo : o ≡ offset_at n level) (el : l ≡ length_at n level) (d : Drawn)
    (ed : d ≡ keyed_draw_of key level probe l cap) where
  pub reading_index : (i w : ℕ) → d ≡ Ok (indexed i w) → Ok (read_slot (o + i) w) ≡ reading_of n key cap level probe
  unfolding reading_of
  reading_index i w h = sym (rw (← el, ← ed, h, ← eo))

  pub reading_refused : (r : RangeRefusal) → d ≡ Err r → Err r ≡ reading_of n key cap level probe
  unfolding reading_of
  reading_refused r h = sym (rw (← el, ← ed, h))

  -- the index lies within the level
  pub index_drew : (i w : ℕ) → d ≡ Ok (indexed i w) → Drew l cap i w
  index_drew i w h = keyed_draw_index key level probe l cap i w (omega (arith, el, probed_some p)) (sym ed ∙ h)

pub reading_read : {n last cap level : ℕ} → Probed n last cap level → (key probe s w : ℕ) → reading_of n key cap level probe ≡ Ok (read_slot s w) → Read n cap level s w
unfolding reading_of
reading_read {n} {last} {cap} {level} p key probe s w h = go (keyed_draw_of key level probe (length_at n level) cap) refl h
  where
    go : (d : Drawn) → d ≡ keyed_draw_of key level probe (length_at n level) cap → reading_by (offset_at n level) d ≡ Ok (read_slot s w) → Read n cap level s w
    go (Err r) e q = let z : ◌≡◌ {A = ℕ} 0 1 = cc in absurd (omega arith)
    go (Ok drew) e q =
        let i = drew.index in
        let u = drew.words in
        let both : read_slot (offset_at n level + drew.index) drew.words ≡ read_slot s w = cc in
        let a : offset_at n level + i ≡ s = ap (λ (x : Reading). x.slot) both in
        let b : u ≡ w = ap (λ (x : Reading). x.words) both in
        let f : Drew (length_at n level) cap i u = keyed_draw_index key level probe (length_at n level) cap i u (probed_some p) (sym e) in
        record { from = omega arith; to = omega (arith, f.below); below = omega (arith, f.below, probed_within p); some = omega (arith, f.some); most = omega (arith, f.most) }

-- ---- searches

module _ (n key cap : ℕ) (fs : List ℕ) (level : ℕ) where
  -- the search as a loop makes it: what is left gives what the whole gives
  pub record Sought-from (tries probe : ℕ) : Type 0 where
    pub rest : seek_of n key cap fs level tries ≡ seek_from n key cap fs level (tries - probe) probe

  pub sought_start : (tries : ℕ) → Sought-from tries 0
  sought_start tries = record { rest = let z : tries - 0 ≡ tries = omega arith in rw z }

  module _ (tries probe : ℕ) (k : Sought-from tries probe) (h : probe < tries) where
    one : tries - probe ≡ suc (tries - (probe + 1))
    one = omega arith

    pub sought_refused : (r : RangeRefusal) → reading_of n key cap level probe ≡ Err r → Err r ≡ seek_of n key cap fs level tries
    unfolding seek_from
    sought_refused r e = sym (k.rest ∙ rw (one, e))

    module _ (s w : ℕ) (e : reading_of n key cap level probe ≡ Ok (read_slot s w)) where
      pub sought_vacant : get_or fs s 0 ≡ 0 → Ok (Some (vacant s (record { 0 = probe }))) ≡ seek_of n key cap fs level tries
      unfolding seek_from
      sought_vacant v = sym (k.rest ∙ rw (one, e, eq-eqb (get_or fs s 0) 0 v))

      pub sought_on : (get_or fs s 0 ≡ 0 → ⊥) → Sought-from tries (probe + 1)
      unfolding seek_from
      sought_on v = record { rest = k.rest ∙ rw (one, e, ne_eqb (get_or fs s 0) 0 v) }

  pub sought_end : (tries probe : ℕ) → Sought-from tries probe → tries ≤ probe → Ok None ≡ seek_of n key cap fs level tries
  unfolding seek_from
  sought_end tries probe k h = let z : tries - probe ≡ 0 = omega arith in sym (k.rest ∙ rw z)

-- where a search ends vacant: a slot of the level, by its flag vacant, at a probe below the tries
pub record Vacancy (n cap level : ℕ) (fs : List ℕ) (tries s probe : ℕ) : Type 0 where
  pub from : offset_at n level ≤ s
  pub to : s < offset_at n level + length_at n level
  pub below : s < n
  pub vacant : get_or fs s 0 ≡ 0
  pub in_time : probe < tries

pub seek_vacant : {n last cap level : ℕ} → Probed n last cap level → (key : ℕ) (fs : List ℕ) (tries s : ℕ) (probe : LogicalProbe)
    → seek_of n key cap fs level tries ≡ Ok (Some (vacant s probe)) → Vacancy n cap level fs tries s probe.0
unfolding seek_from
seek_vacant {n} {last} {cap} {level} reached key fs tries s probe h = go tries 0 (omega arith) h
  where
    step : (t q : ℕ) → q + suc t ≤ tries → (r : Routed) → reading_of n key cap level q ≡ r → seek_by fs q r (seek_from n key cap fs level t (q + 1)) ≡ Ok (Some (vacant s probe))
        → (seek_from n key cap fs level t (q + 1) ≡ Ok (Some (vacant s probe)) → Vacancy n cap level fs tries s probe.0) → Vacancy n cap level fs tries s probe.0
    step t q l (Err r) e g later = let z : ◌≡◌ {A = ℕ} 0 1 = cc in absurd (omega arith)
    step t q l (Ok reading) e g later = by (vacant_at fs reading.slot) refl g
      where
        u : ℕ
        u = reading.slot

        by : (x : Bool) → vacant_at fs u ≡ x → pick {A = Sought} x (Ok (Some (vacant u (record { 0 = q })))) (seek_from n key cap fs level t (q + 1)) ≡ Ok (Some (vacant s probe)) → Vacancy n cap level fs tries s probe.0
        by false d g = later g
        by true d g =
            let both : vacant u (record { 0 = q }) ≡ vacant s probe = cc in
            let a : u ≡ s = ap (λ (x : Vacant). x.slot) both in
            let p : ◌≡◌ {A = LogicalProbe} (record { 0 = q }) probe = ap (λ (x : Vacant). x.probe) both in
            let b : q ≡ probe.0 = ap (λ (x : LogicalProbe). x.0) p in
            let f = reading_read reached key q u reading.words e in
            record { from = omega (arith, f.from); to = omega (arith, f.to); below = omega (arith, f.below); vacant = ap (λ (x : ℕ). get_or fs x 0) (sym a) ∙ eqb-true _ _ d; in_time = omega arith }

    go : (t q : ℕ) → q + t ≤ tries → seek_from n key cap fs level t q ≡ Ok (Some (vacant s probe)) → Vacancy n cap level fs tries s probe.0
    go zero q l g = let z : ◌≡◌ {A = ℕ} 0 1 = cc in absurd (omega arith)
    go (suc t) q l g = step t q l (reading_of n key cap level q) refl g (λ d. go t (q + 1) (omega arith) d)

-- ---- scans

pub holds_vacant : (ws fs : List ℕ) (id slot : ℕ) → get_or fs slot 0 ≡ 0 → false ≡ holds_at ws fs id slot
unfolding holds_at
holds_vacant ws fs id slot h = rw (eq-eqb (get_or fs slot 0) 0 h)

pub holds_word : (ws fs : List ℕ) (id slot : ℕ) → (get_or fs slot 0 ≡ 0 → ⊥) → eqb (get_or ws slot 0) id ≡ holds_at ws fs id slot
unfolding holds_at
holds_word ws fs id slot h = rw (ne_eqb (get_or fs slot 0) 0 h)

holds_other : (ws fs : List ℕ) (id slot : ℕ) → (get_or ws slot 0 ≡ id → ⊥) → holds_at ws fs id slot ≡ false
unfolding holds_at
holds_other ws fs id slot h = go (vacant_at fs slot)
  where
    go : (x : Bool) → pick x false (eqb (get_or ws slot 0) id) ≡ false
    go true = refl
    go false = ne_eqb (get_or ws slot 0) id h

pub without_start : (ws : List ℕ) (id : ℕ) → Without ws id 0
without_start ws id = record { none = λ j h. absurd (omega arith) }

pub without_more : (ws : List ℕ) (id i : ℕ) → Without ws id i → (get_or ws i 0 ≡ id → ⊥) → Without ws id (i + 1)
without_more ws id i k h = record { none = λ j l. go j l (eqb j i) refl }
  where
    go : (j : ℕ) → j < i + 1 → (x : Bool) → eqb j i ≡ x → get_or ws j 0 ≡ id → ⊥
    go j l true e = let d = eqb-true j i e in rw d h
    go j l false e = let d = eqb-false j i e in k.none j (lower d)
      where
        lower : (j ≡ i → ⊥) → j < i
        lower d = omega arith

module _ (ws fs : List ℕ) (id : ℕ) where
  pub first_none : (tries slot : ℕ) → ((j : ℕ) → slot ≤ j → j < slot + tries → get_or ws j 0 ≡ id → ⊥) → first_from ws fs id tries slot ≡ None
  unfolding first_from
  first_none zero slot h = refl
  first_none (suc tries) slot h =
      rw (holds_other ws fs id slot (h slot (omega arith) (omega arith))) (first_none tries (slot + 1) (λ j a b. h j (omega arith) (omega arith)))

  pub first_without : (i : ℕ) → Without ws id i → length ws ≤ i → None ≡ first_of ws fs id
  unfolding first_of
  first_without i k h = sym (first_none (length ws) 0 (λ j a b. k.none j (omega arith)))

  -- the scan as a loop makes it
  pub record Scanned (i : ℕ) : Type 0 where
    pub rest : first_of ws fs id ≡ first_from ws fs id (length ws - i) i

  pub scanned_start : Scanned 0
  unfolding first_of
  scanned_start = record { rest = let z : length ws - 0 ≡ length ws = omega arith in rw z }

  module _ (i : ℕ) (k : Scanned i) (h : i < length ws) where
    one_more : length ws - i ≡ suc (length ws - (i + 1))
    one_more = omega arith

    pub scanned_here : holds_at ws fs id i ≡ true → Some i ≡ first_of ws fs id
    unfolding first_from
    scanned_here e = sym (k.rest ∙ rw (one_more, e))

    pub scanned_on : holds_at ws fs id i ≡ false → Scanned (i + 1)
    unfolding first_from
    scanned_on e = record { rest = k.rest ∙ rw (one_more, e) }

  pub scanned_end : (i : ℕ) → Scanned i → length ws ≤ i → None ≡ first_of ws fs id
  unfolding first_from
  scanned_end i k h = let z : length ws - i ≡ 0 = omega arith in sym (k.rest ∙ rw z)

  -- what a scan says: the slot that it names holds the identity, and no smaller one does
  pub record IsFirst (s : ℕ) : Type 0 where
    pub below : s < length ws
    pub holds : holds_at ws fs id s ≡ true
    pub first : (j : ℕ) → j < s → holds_at ws fs id j ≡ false

  pub first_is : (s : ℕ) → first_of ws fs id ≡ Some s → IsFirst s
  unfolding first_of first_from
  first_is s h = go (length ws) 0 (omega arith) (λ j l. absurd (omega arith)) h
    where
      step : (t i : ℕ) → i + suc t ≡ length ws → ((j : ℕ) → j < i → holds_at ws fs id j ≡ false) → (x : Bool) → holds_at ws fs id i ≡ x
          → pick {A = Located} x (Some i) (first_from ws fs id t (i + 1)) ≡ Some s
          → (((j : ℕ) → j < i + 1 → holds_at ws fs id j ≡ false) → first_from ws fs id t (i + 1) ≡ Some s → IsFirst s) → IsFirst s
      step t i l before true e g later =
          let a : i ≡ s = cc in
          record { below = omega arith; holds = ap (holds_at ws fs id) (sym a) ∙ e; first = λ j m. before j (omega arith) }
      step t i l before false e g later = later (λ j m. up_to j m (eqb j i) refl) g
        where
          up_to : (j : ℕ) → j < i + 1 → (x : Bool) → eqb j i ≡ x → holds_at ws fs id j ≡ false
          up_to j m true d = let q = eqb-true j i d in ap (holds_at ws fs id) q ∙ e
          up_to j m false d = let q = eqb-false j i d in before j (lower q)
            where
              lower : (j ≡ i → ⊥) → j < i
              lower q = omega arith

      go : (t i : ℕ) → i + t ≡ length ws → ((j : ℕ) → j < i → holds_at ws fs id j ≡ false) → first_from ws fs id t i ≡ Some s → IsFirst s
      go zero i l before g = let z : ◌≡◌ {A = ℕ} 0 1 = cc in absurd (omega arith)
      go (suc t) i l before g = step t i l before (holds_at ws fs id i) refl g (λ b d. go t (i + 1) (omega arith) b d)
