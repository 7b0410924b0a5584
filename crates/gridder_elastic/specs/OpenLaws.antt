-- Laws of the exported opening of an elastic table. Assumes nothing.
use mathlib.Core.List.{List, []}
use Rattle.std.specs.Prelude.{◌≡◌, ℕ, ◌*◌, ◌≤◌, eqb, Ok, Err}
use Rattle.std.proofs.Math.Path.{ap}
use Rattle.std.proofs.Common.{sym, ◌∙◌, arith, eqb-true}
use Rattle.std.proofs.Math.ListN.{length, replicate}
use Rattle.refusal.specs.Table.{number_of, name_of}
use Rattle.refusal.specs.declared.Gate.{Gate}
use Rattle.geometry.specs.Config.{Gated}
use Rattle.geometry.specs.ConfigLaws.{config_gate_facts}
use Rattle.elastic.specs.State.{setting_gate, open_gate, fresh_of}
use Rattle.elastic.specs.StateLaws.{both_yes, demand_facts}
use Rattle.elastic.specs.declared.state.Limits.{Limits}
use Rattle.elastic.specs.declared.state.State.{State}
use Rattle.lent.specs.Lent.{words_of, word_count}
use Rattle.lent.specs.LentLaws.{count_some, words_zeros}
use Rattle.gridder_answer.specs.GateLaws.{block_facts}
use Rattle.gridder_answer.specs.Answer.{answer_length, says, Reply, reply}
use Rattle.gridder_answer.specs.AnswerLaws.{says_none}
use Rattle.gridder_calls.specs.Calls.{left}
use Rattle.gridder_open.specs.Open.{open_saying}
use Rattle.gridder_state.specs.State.{state_length}
use Rattle.gridder_elastic.specs.Calls.{open_blocks_gate, open_left, open_call, Fresh}

-- what it says that an opening's gate passed
pub record Room (n words flags state answer : ℕ) : Type 0 where
  pub least : 2 ≤ n
  pub words_right : words ≡ n
  pub flags_right : flags ≡ n
  pub state_right : state ≡ state_length
  pub answer_right : answer ≡ answer_length

pub room : (n e : ℕ) (limits : Limits) (words flags state answer : ℕ) → open_blocks_gate n e limits words flags state answer ≡ Ok tt → Room n words flags state answer
unfolding open_blocks_gate open_gate setting_gate
room n e limits words flags state answer h =
    let a = block_facts _ _ _ h in
    let b = block_facts _ _ _ a.0 in
    let d = demand_facts _ _ _ b.0 in
    let f = demand_facts _ _ _ d.0 in
    let size = both_yes (eqb words n) (eqb flags n) d.1 in
    record {
      least = (config_gate_facts n e f.0).least;
      words_right = eqb-true words n size.0;
      flags_right = eqb-true flags n size.1;
      state_right = b.1;
      answer_right = a.1;
    }

-- ---- the opening by its gate

module _ (n e seed : ℕ) (limits : Limits) (state words flags answer : List ℕ) (entries : ℕ) (w : entries ≡ word_count (length words)) (g : Gated)
    (is : g ≡ open_blocks_gate n e limits entries (length flags) (length state) (length answer)) where
  gate_of_lem : open_blocks_gate n e limits (word_count (length words)) (length flags) (length state) (length answer) ≡ g
  gate_of_lem = sym (is ∙ rw w)

  pub open_room : g ≡ Ok tt → Room n (word_count (length words)) (length flags) (length state) (length answer)
  open_room p = room n e limits (word_count (length words)) (length flags) (length state) (length answer) (gate_of_lem ∙ p)

  module _ (number : ℕ) (answer' : List ℕ) where
    pub opens_refused : (x : Gate) → g ≡ Err x → reply number answer' ≡ reply (number_of (name_of x)) (open_saying (number_of (name_of x)) (length state) answer)
        → left number answer' state (words_of words) flags ≡ open_call n e seed limits state words flags answer
    unfolding open_call open_left
    opens_refused x p h =
        let m : number ≡ number_of (name_of x) = ap (λ (r : Reply). r.number) h in
        let a : answer' ≡ open_saying (number_of (name_of x)) (length state) answer = ap (λ (r : Reply). r.answer) h in
        rw (m, a) (sym (rw (gate_of_lem, p)))

    pub opens_passed : (st : State) (state' words' flags' : List ℕ) → g ≡ Ok tt → st ≡ fresh_of n e seed limits → Fresh st words flags answer number state' words' flags' answer'
        → left number answer' state' (words_of words') flags' ≡ open_call n e seed limits state words flags answer
    unfolding open_call open_left
    opens_passed st state' words' flags' p s f =
        let r = open_room p in
        let two = r.least in
        let k : length words ≡ n * 8 = count_some (length words) n (omega arith) r.words_right in
        let z : words_of words' ≡ replicate n 0 = rw (f.words_are_lem, k) (words_zeros n) in
        let y : flags' ≡ replicate n 0 = f.flags_are_lem ∙ ap (λ (m : ℕ). replicate m 0) r.flags_right in
        let a : answer' ≡ says [] = f.answer_is ∙ says_none _ r.answer_right in
        rw (f.number_is, a, f.state_is, s, z, y) (sym (rw (gate_of_lem, p)))
