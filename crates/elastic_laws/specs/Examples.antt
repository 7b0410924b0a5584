-- SCHEDULE at a state that a caller made up. Assumes nothing.
use Rattle.std.specs.Prelude.{◌∷◌, ◌≡◌, refl, replicate, Err}
use Rattle.words.specs.Log.{ceil_log2, first_from}
use Rattle.geometry.specs.Config.{config_then}
use Rattle.geometry.specs.Elastic.{level_length, split, lengths_of, later_quotas, uncut_quotas, cut, quotas_of, total, batch_from, batch_of, plan_of, is_plan_of}
use Rattle.elastic.specs.declared.state.Limits.{Limits}
use Rattle.elastic.specs.declared.state.State.{State}
use Rattle.elastic.specs.State.{factor_fits, limits_fit, counts_within, counts_fit, state_fits, setting_gate, gate_of}
use Rattle.elastic.specs.Reading.{holds_at, first_from as firstSlotFrom, first_of}
use Rattle.elastic_steps.specs.declared.answer.InsertRefusal.TheVariants as refusal
use Rattle.elastic_steps.specs.Insert.{pair_by, pair_of, steps_of, choose_of, place_by, insert_of}

abbrev limits : Limits
limits = record { range_word_cap = 1; uniform_search_probe_cap = 1; probe_budget_c = 1; hit_query_position_cap = 1 }

-- a table of 8 slots at e 3, in batch 2, whose levels of 4, 2 and 2 slots have 2 members each; from fresh level 0 has 4 in that batch
abbrev state : State
state = record { n = 8; e = 3; seed = 0; limits = limits; plan = plan_of 8 3; count = 6 }

-- A state that passes its tests and is not reached from fresh can still be answered SCHEDULE.
pub made_up_schedule : (insert_of state (2 ∷ 2 ∷ 2 ∷ replicate 29 0) (replicate 8 0) (replicate 8 0) 7).answer ≡ Err refusal.Schedule
unfolding insert_of gate_of setting_gate config_then limits_fit factor_fits state_fits is_plan_of counts_fit counts_within split level_length total ceil_log2 first_from choose_of first_of firstSlotFrom holds_at steps_of batch_of batch_from quotas_of cut uncut_quotas later_quotas lengths_of pair_of pair_by place_by
made_up_schedule = refl
