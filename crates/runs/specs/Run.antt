-- A longer run of P on many devices, by computation: a bid overtakes the release that its module sent before it, so that the supervisor notes
-- the module that it takes for the holder; the bid counts all the same, after the other module's.
use Rattle.std.specs.Prelude.{◌≡◌, refl, true, List, [], ◌∷◌, ◌++◌, Some, None}
use Rattle.std.specs.Float.Ieee.{round, of_bits}
use Rattle.bits.specs.Bit.{bit, all_below, put_bit, least, or_else, some_below, mask_of}
use Rattle.words.specs.Word.{word_at, word_bytes}
use Rattle.litres.specs.Eighths.{is_eighths, count, eighths}
use Rattle.records.specs.Kinds.{body_len, kind_of}
use Rattle.records.specs.Range.{in_range, operand_in_range}
use Rattle.records.specs.Key.{key_of, same_key, precedes}
use Rattle.reader.specs.Read.{record_of}
use Rattle.reader.specs.Walk.{walk_of, records_in}
use Rattle.reader.specs.Find.{find_in, found}
use Rattle.rules.specs.LookUp.{field1, field2, field3, word_field, field_of, steps_of}
use Rattle.rules.specs.Rules.{index_runs, in_order, names_declared, keeps_rules, all_declared}
use Rattle.rules.specs.Check.{fault_of, check_walk, verdict_of}
use Rattle.plan.specs.Plan.{field4, target, state_or, supervisor_after, counting}
use Rattle.modules.specs.Procedure.{called_by, arrive_at, performed, tick_of, respond_of}
use Rattle.water.specs.Water.{flow_ok, water_of, added}
use Rattle.modules.specs.Turn.{has_move, first_usable, by_response, by_command, enabled, chosen, by_choice, turn_on, turn_of, wish, start_own}
use Rattle.modules.specs.Fits.{every, queue_fits, idle_fits, step_fits, procedure_fits, own_fits, own_empty}
use Rattle.words.specs.Lists.{list_from}
use Rattle.device_states.specs.States.{own_slot_fits, state_slot_fits, start_slot, start_state, device_fits, shown_by, state_after_turn}
use Rattle.device.specs.Device.{turned, after_turn, turn_in, turn_by, reply_in, reply_by, start_by, start_call}
use Rattle.messages.specs.Message.{message_bytes, parse}
use Rattle.permits.specs.Names.{named}
use Rattle.permits.specs.Module as M
use Rattle.permits.specs.Supervisor as S
use Rattle.permits.specs.Step.{bytes_of_messages}
use Rattle.permits.specs.declared.Holder.TheVariants.{Home, Out}
use Rattle.protocol.specs.Generic.{update}
use Rattle.protocol.specs.System.{turn_events}
use Rattle.agreement.specs.System.{System, Act, module_step, supervisor_step, deliver, respond, start, step, run}
use Rattle.agreement.specs.System.{pieces, wrote, wrote_out, at, mark, under_way, once, brought, delivered, delivered_at}
use Rattle.agreement.specs.Compared as C
use Rattle.marked.specs.Sheet.{plan_p}
use Rattle.marked.specs.Table.{buffer}

-- Twelve messages are sent, and a delivery names its message by its index among them. Module 0 bids (message 0), is noted, gets the permit (1) with
-- event 0 disabled, takes its turn with nothing to fire, releases it (2), bids again (3); this bid arrives first
abbrev pub overtaking : List Act
overtaking =
    module_step 0 buffer ∷ deliver 0 ∷ supervisor_step 0 buffer ∷ deliver 1 ∷ module_step 0 buffer ∷ module_step 0 buffer ∷ deliver 3 ∷ []

-- module 1 bids (4) and is noted before the release arrives; it is served first, since module 0 was served last, and fires event 2
abbrev pub other : List Act
other = module_step 1 buffer ∷ deliver 4 ∷ deliver 2 ∷ supervisor_step 0 buffer ∷ deliver 5 ∷ module_step 1 buffer ∷ deliver 6 ∷ []

-- the bid that overtook is served, and event 0, disabled no more, fires; a response comes in for module 1 meanwhile
abbrev pub served : List Act
served = supervisor_step 0 buffer ∷ deliver 7 ∷ respond 1 3 ∷ module_step 0 buffer ∷ deliver 8 ∷ []

-- module 1 bids for its response and fires event 3; its release is still under way
abbrev pub response : List Act
response = module_step 1 buffer ∷ deliver 9 ∷ supervisor_step 0 buffer ∷ deliver 10 ∷ module_step 1 buffer ∷ []

unfoldable pub s1 : System
s1 = run plan_p (start plan_p) overtaking

unfoldable pub s2 : System
s2 = run plan_p s1 other

unfoldable pub s3 : System
s3 = run plan_p s2 served

unfoldable pub s4 : System
s4 = run plan_p s3 response

pub record Overtaken : Type 0 where
  pub noted_while_out : s1.supervisor_at 0 ≡ record { state = 0; noted = 1; holder = Out 0; last = 0 }
  pub release_behind : under_way s1.sent ≡ (0x03 ∷ 0 ∷ 0 ∷ 0xff ∷ []) ∷ []
  pub other_first : s2.supervisor_at 0 ≡ record { state = 1; noted = 1; holder = Home; last = 1 }
  pub then_served : s3.supervisor_at 0 ≡ record { state = 1; noted = 0; holder = Home; last = 0 }
  pub response_out : s4.supervisor_at 0 ≡ record { state = 1; noted = 0; holder = Out 1; last = 1 }
  pub last_release : under_way s4.sent ≡ (0x03 ∷ 1 ∷ 0 ∷ 3 ∷ []) ∷ []
  -- "at most once": the permit of module 1 is delivered, and a second delivery of it brings nothing
  pub permit_delivered : at 10 s4.sent ≡ Some (record { bytes = 0x02 ∷ 0 ∷ 1 ∷ 0 ∷ 0 ∷ 0 ∷ 0 ∷ 0 ∷ 0 ∷ 0 ∷ 0 ∷ []; delivered = true })
  pub not_again : brought 10 s4.sent ≡ None
  -- the turns taken, and what the one device answers to them
  pub events : C.record_of_events (C.seen plan_p (start plan_p) (overtaking ++ other ++ served ++ response)) ≡ 2 ∷ 0 ∷ 3 ∷ []
  pub fed : C.fed plan_p (start plan_p) (overtaking ++ other ++ served ++ response)
      ≡ C.device_turn 0 ∷ C.device_turn 1 ∷ C.device_respond 1 3 ∷ C.device_turn 0 ∷ C.device_turn 1 ∷ []
  pub one_device : C.record_of_events (C.device_seen plan_p (start_call plan_p).device (C.fed plan_p (start plan_p) (overtaking ++ other ++ served ++ response))) ≡ 2 ∷ 0 ∷ 3 ∷ []

pub overtaken : Overtaken
unfolding plan_p s1 s2 s3 s4 bit all_below put_bit least or_else some_below mask_of word_at word_bytes is_eighths count eighths round of_bits body_len kind_of in_range operand_in_range key_of same_key precedes record_of walk_of records_in find_in field1 field2 field3 word_field found field_of steps_of index_runs in_order names_declared keeps_rules all_declared fault_of check_walk verdict_of field4 target state_or supervisor_after counting water_of called_by respond_of has_move first_usable by_response by_command enabled chosen by_choice turn_on turn_of wish start_own every queue_fits idle_fits step_fits procedure_fits own_fits own_empty message_bytes parse named M.missing_in M.held_in M.fits_in M.choice_on M.choice M.event_for M.releases_in bytes_of_messages M.sent_by M.answer_by M.state_by M.step_in M.step_by M.is_for M.bid_with M.taken_by M.deliver_in M.deliver_by M.start_by S.holder_fits S.supervisor_fits S.module_after S.next_noted S.served_on S.sent_to S.answer_by S.state_by S.step_in S.step_by S.taken_by S.deliver_in S.deliver_by S.start_by update start step run pieces wrote wrote_out at mark under_way once delivered delivered_at C.step_seen C.act_seen C.seen turn_events C.record_of_events C.choice_fed C.act_fed C.fed C.device_step C.turning_seen C.device_act_seen C.device_seen list_from own_slot_fits state_slot_fits start_slot start_state device_fits shown_by state_after_turn turned after_turn turn_in turn_by reply_in reply_by start_by S.applied S.held_by M.reply_by arrive_at performed tick_of flow_ok added
overtaken = record {
  noted_while_out = refl;
  release_behind = refl;
  other_first = refl;
  then_served = refl;
  response_out = refl;
  last_release = refl;
  permit_delivered = refl;
  not_again = refl;
  events = refl;
  fed = refl;
  one_device = refl;
}
