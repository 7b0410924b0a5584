-- Laws of the smallest funnel table: its gate, its answers, and that the answer is one. Assumes nothing.
use Rattle.std.specs.Prelude.{Some, None, Result, Ok, Err, Bool, true, false, List, ltb, eqb}
use Rattle.std.proofs.Math.Path.{◌≡◌, refl}
use Rattle.std.proofs.Common.{sym, ap, ◌∙◌}
use Prim.Native.Nat.{ℕ, ◌≤◌, ◌<◌}
use native.Mathlib.Omega.{arith}
use borrow.Author.Tests.{lt-ltb, le-ltb, eq-eqb, ne_eqb, ltb-false}
use Rattle.refusal.specs.declared.Gate.{Gate}
use Rattle.refusal.specs.declared.Gate.TheVariants as gate
use Rattle.geometry.specs.declared.funnel.FunnelPlan.{FunnelPlan}
use Rattle.geometry.specs.Config.{Gated, Configured, refuse_if}
use Rattle.geometry.specs.Extreme.{IsSmallest}
use Rattle.geometry.specs.ExtremeLaws.{smallest_one}
use Rattle.geometry.specs.Funnel.{IsPlan}
use Rattle.geometry.specs.FunnelLaws.{plan_unique}
use Rattle.geometry.specs.FunnelExist.{special_layout}
use Rattle.geometry.specs.FunnelGate.{funnel_gate, Planned}
use Rattle.geometry.specs.FunnelGateLaws.{special_passes, planned_plan, planned_refused}
use Rattle.geometry_smallest.specs.declared.smallest.Smallest.{Smallest}
use Rattle.geometry_smallest.specs.declared.smallest.SmallestRefusal.{SmallestRefusal}
use Rattle.geometry_smallest.specs.declared.smallest.SmallestRefusal.TheVariants.{Refused, Nothing}
use Rattle.geometry_smallest.specs.Search.{Serves, SlotsFound}
use Rattle.geometry_smallest.specs.Smallest.{Takes, smallest_gate, Answer}

module _ (e first last : ℕ) where
  pub gate_n : first < 2 → smallest_gate e first last ≡ Err gate.N
  unfolding smallest_gate
  gate_n a = rw (lt-ltb first 2 a)

  module _ (a : 2 ≤ first) where
    pub gate_zero : e ≡ 0 → smallest_gate e first last ≡ Err gate.ZeroExp
    unfolding smallest_gate
    gate_zero z = rw (le-ltb first 2 a, eq-eqb e 0 z)

    module _ (b : e ≡ 0 → ⊥) where
      pub gate_size : 4294967296 < last → smallest_gate e first last ≡ Err gate.Size
      unfolding smallest_gate
      gate_size l = rw (le-ltb first 2 a, ne_eqb e 0 b, lt-ltb 4294967296 last l)

      module _ (c : last ≤ 4294967296) where
        pub gate_exponent : e < 3 → smallest_gate e first last ≡ Err gate.Exponent
        unfolding smallest_gate
        gate_exponent l = rw (le-ltb first 2 a, ne_eqb e 0 b, le-ltb 4294967296 last c, lt-ltb e 3 l)

        pub gate_pass : 3 ≤ e → smallest_gate e first last ≡ Ok tt
        unfolding smallest_gate
        gate_pass l = rw (le-ltb first 2 a, ne_eqb e 0 b, le-ltb 4294967296 last c, le-ltb e 3 l)

  -- what a passed gate says
  pub gate_facts : smallest_gate e first last ≡ Ok tt → (2 ≤ first) × (3 ≤ e) × (last ≤ 4294967296)
  unfolding smallest_gate
  gate_facts h = go (ltb first 2) (eqb e 0) (ltb 4294967296 last) (ltb e 3) refl refl refl refl h
    where
      no_refusal : {g : Gate} → ◌≡◌ {A = Gated} (Err g) (Ok tt) → ⊥
      no_refusal k = let c : ◌≡◌ {A = ℕ} 0 1 = cc in omega arith

      go : (w x y z : Bool) → ltb first 2 ≡ w → eqb e 0 ≡ x → ltb 4294967296 last ≡ y → ltb e 3 ≡ z
          → refuse_if w gate.N (refuse_if x gate.ZeroExp (refuse_if y gate.Size (refuse_if z gate.Exponent (Ok tt)))) ≡ Ok tt → (2 ≤ first) × (3 ≤ e) × (last ≤ 4294967296)
      go true x y z a b c d k = absurd (no_refusal k)
      go false true y z a b c d k = absurd (no_refusal k)
      go false false true z a b c d k = absurd (no_refusal k)
      go false false false true a b c d k = absurd (no_refusal k)
      go false false false false a b c d k =
          let i = ltb-false first 2 a in
          let j = ltb-false 4294967296 last c in
          let l = ltb-false e 3 d in
          (omega arith, omega arith, omega arith)

-- a question that the gate passed
module _ (count e first last : ℕ) (gate : smallest_gate e first last ≡ Ok tt) where
  configured : (n : ℕ) → first ≤ n → n ≤ last → Configured n e
  configured n a b = let f = gate_facts e first last gate in record { least = omega arith; most = omega arith; some = omega arith }

  -- to serve is to have a layout: a special length comes with its counts
  pub takes_of : (n : ℕ) → Serves count e first last n → Takes count e first last n
  takes_of n t =
      let s = t.special in
      record { from = t.from; to = t.to; layout = special_layout n e s.0 (configured n t.from t.to) (gate_facts e first last gate).1 s.1; enough = t.enough }

  pub serves_of : (n : ℕ) → Takes count e first last n → Serves count e first last n
  serves_of n t = let l = t.layout in record { from = t.from; to = t.to; enough = t.enough; special = (l.0.special_len, l.2.special.largest) }

  -- what the search found
  pub none_takes : SlotsFound count e first last None → (n : ℕ) → Takes count e first last n → ⊥
  unfolding SlotsFound
  none_takes f = λ n t. f n (serves_of n t)

  pub smallest_serves : (r : ℕ) → SlotsFound count e first last (Some r) → IsSmallest (Serves count e first last) r
  unfolding SlotsFound
  smallest_serves r f = f

  module _ (n : ℕ) (is : IsSmallest (Serves count e first last) n) where
    pub smallest_takes : IsSmallest (Takes count e first last) n
    smallest_takes = record { holds = takes_of n is.holds; below = λ m t. is.below m (serves_of m t) }

    -- its plan is not refused
    pub never_refused : (g : Gate) → funnel_gate n e ≡ Err g → ⊥
    never_refused g h =
        let t = is.holds in
        let s = t.special in
        let p = special_passes n e s.0 (configured n t.from t.to) (gate_facts e first last gate).1 s.1 in
        let k = sym p ∙ h in
        let z : ◌≡◌ {A = ℕ} 0 1 = cc in
        omega arith

-- the answers of the code: r is what the search found, and t is what a request for its plan is answered
module _ (count e first last : ℕ) (before : List ℕ) where
  pub answer_refused : (g : Gate) → smallest_gate e first last ≡ Err g → Answer count e first last before (Err (Refused g)) before
  unfolding Answer
  answer_refused g h = (h, refl)

  module _ (gate : smallest_gate e first last ≡ Ok tt) where
    pub answer_none : SlotsFound count e first last None → Answer count e first last before (Err Nothing) before
    unfolding Answer
    answer_none found = (gate, none_takes count e first last gate found, refl)

    module _ (r : ℕ) (found : SlotsFound count e first last (Some r)) (t : Result FunnelPlan Gate) (after : List ℕ) (planned : Planned r e before t after) where
      is : IsSmallest (Serves count e first last) r
      is = smallest_serves count e first last gate r found

      pub answer_found : (p : FunnelPlan) → t ≡ Ok p → Answer count e first last before (Ok (record { n = r; plan = p })) after
      unfolding Answer
      answer_found p h =
          let q : Planned r e before (Ok p) after = rw h at planned in
          (gate, smallest_takes count e first last gate r is, planned_plan r e before after p q)

      pub answer_never : (g : Gate) → t ≡ Err g → ⊥
      answer_never g h =
          let q : Planned r e before (Err g) after = rw h at planned in
          never_refused count e first last gate r is g (planned_refused r e before after g q).0

-- an n that is found has a slot for each member, and fits 33 bits
pub found_fits : (count e first last : ℕ) (before after : List ℕ) (r : Result Smallest SmallestRefusal) (s : Smallest)
    → r ≡ Ok s → Answer count e first last before r after → (count ≤ s.n) × (s.n ≤ 4294967296)
unfolding Answer
found_fits count e first last before after r s h a =
    let b : Answer count e first last before (Ok s) after = rw h at a in
    let t = b.1.holds in
    let f = gate_facts e first last b.0 in
    let enough = t.enough in
    let to = t.to in
    (omega arith, omega arith)

smallest_same : (s t : Smallest) → s.n ≡ t.n → s.plan ≡ t.plan → s ≡ t
smallest_same s t a b = λ i. record { n = a i; plan = b i }

-- the answer and the counts at exit are one
pub answer_unique : (count e first last : ℕ) (old : List ℕ) (r t : Result Smallest SmallestRefusal) (a b : List ℕ) → Answer count e first last old r a → Answer count e first last old t b → (r ≡ t) × (a ≡ b)
unfolding Answer
answer_unique count e first last old (Ok s) (Ok t) a b i j =
    let x : s.n ≡ t.n = smallest_one i.1 j.1 in
    let k : IsPlan s.n e t.plan b = rw (← x) at j.2 in
    let u = plan_unique i.2 k in
    (ap Ok (smallest_same s t x u.0), u.1)
answer_unique count e first last old (Ok s) (Err (Refused g)) a b i j = let k = sym i.0 ∙ j.0 in let z : ◌≡◌ {A = ℕ} 0 1 = cc in absurd (omega arith)
answer_unique count e first last old (Ok s) (Err Nothing) a b i j = absurd (j.1 s.n i.1.holds)
answer_unique count e first last old (Err (Refused g)) (Ok t) a b i j = let k = sym j.0 ∙ i.0 in let z : ◌≡◌ {A = ℕ} 0 1 = cc in absurd (omega arith)
answer_unique count e first last old (Err (Refused g)) (Err (Refused h)) a b i j =
    let k = sym i.0 ∙ j.0 in
    (let x : g ≡ h = cc in ap (λ (y : Gate). Err (Refused y)) x, i.1 ∙ sym j.1)
answer_unique count e first last old (Err (Refused g)) (Err Nothing) a b i j = let k = sym j.0 ∙ i.0 in let z : ◌≡◌ {A = ℕ} 0 1 = cc in absurd (omega arith)
answer_unique count e first last old (Err Nothing) (Ok t) a b i j = absurd (i.1 t.n j.1.holds)
answer_unique count e first last old (Err Nothing) (Err (Refused h)) a b i j = let k = sym i.0 ∙ j.0 in let z : ◌≡◌ {A = ℕ} 0 1 = cc in absurd (omega arith)
answer_unique count e first last old (Err Nothing) (Err Nothing) a b i j = (refl, i.2 ∙ sym j.2)
