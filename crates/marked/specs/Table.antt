-- Document 01, "Marked ◆", as one table over the definitions, each row by computation. A quotation above rows is a marked one of document 01; rows
-- that are not marked there follow a comment that says so.
use Rattle.refusal.specs.Refusal.{refusal}
use Rattle.std.specs.Prelude.{ℕ, ◌≡◌, refl, List, [], ◌∷◌, false, length, take, replicate, Float, Some, None, Ok, Err}
use Rattle.std.specs.Float.{binary64}
use Rattle.std.specs.Float.Ieee.{round, add, of_bits}
use Rattle.bits.specs.Bit.{bit, all_below, put_bit, least, or_else, some_below, mask_of}
use Rattle.words.specs.Word.{word_at, word_bytes}
use Rattle.litres.specs.Eighths.{is_eighths, count, eighths}
use Rattle.records.specs.Kinds.{body_len, kind_of}
use Rattle.records.specs.Range.{in_range, operand_in_range}
use Rattle.records.specs.Key.{key_of, same_key, precedes}
use Rattle.reader.specs.Read.{record_of}
use Rattle.reader.specs.Walk.{walk_of, records_in}
use Rattle.reader.specs.Find.{find_in, found}
use Rattle.rules.specs.LookUp.{field1, field2, field3, word_field, field_of, steps_of}
use Rattle.rules.specs.Rules.{index_runs, in_order, names_declared, keeps_rules, all_declared}
use Rattle.rules.specs.Check.{fault_of, check_walk, verdict_of}
use Rattle.plan.specs.Plan.{field4, target, state_or, supervisor_after, counting}
use Rattle.water.specs.Water.{flow_ok, water_of, added, sum}
use Rattle.water.specs.declared.Water.{Water}
use Rattle.water.specs.declared.Flow.{Flow}
use Rattle.water.specs.declared.Flow.TheVariants.{Litres}
use Rattle.modules.specs.Procedure.{called_by, arrive_at, performed, tick_of, respond_of}
use Rattle.modules.specs.Turn.{has_move, first_usable, by_response, by_command, enabled, chosen, by_choice, turn_on, turn_of, wish, start_own}
use Rattle.modules.specs.Fits.{every, queue_fits, idle_fits, step_fits, procedure_fits, own_fits, own_empty}
use Rattle.modules.specs.Queue.{queue_of}
use Rattle.words.specs.Lists.{list_from}
use Rattle.device_states.specs.States.{own_slot_fits, state_slot_fits, start_slot, start_state, device_fits, shown_by, state_after_turn, own_at, state_at}
use Rattle.device.specs.Device.{turned, after_turn, turn_in, turn_by, turn_call, reply_in, reply_by, respond_call, tick_call, start_by, start_call}
use Rattle.device_states.specs.declared.Device.{Device}
use Rattle.messages.specs.Message.{buffer_length, message_bytes, parse}
use Rattle.permits.specs.Names.{named}
use Rattle.permits.specs.Module as M
use Rattle.permits.specs.Supervisor as S
use Rattle.permits.specs.Step.{bytes_of_messages}
use Rattle.permits.specs.declared.Module.{Module}
use Rattle.permits.specs.declared.Supervisor.{Supervisor}
use Rattle.permits.specs.declared.Stepped.TheVariants.{Bids, Turns}
use Rattle.permits.specs.declared.Served.TheVariants.{Sends}
use Rattle.marked.specs.Sheet.{plan_p}

-- the one device after each call of the sheet: t 0, t 1, t 0, r 1 3, t 1
unfoldable pub d0 : Device
d0 = (start_call plan_p).device

unfoldable pub d1 : Device
d1 = (turn_call plan_p d0 0).device

unfoldable pub d2 : Device
d2 = (turn_call plan_p d1 1).device

unfoldable pub d3 : Device
d3 = (turn_call plan_p d2 0).device

unfoldable pub d4 : Device
d4 = (respond_call plan_p d3 1 3).device

unfoldable pub d5 : Device
d5 = (turn_call plan_p d4 1).device

-- a buffer, and module 0 and supervisor 0 on two devices: the bid, its note, the permit, its arrival
abbrev pub buffer : List ℕ
buffer = replicate buffer_length 0xaa

unfoldable pub m0 : Module
m0 = (M.module_start plan_p 0).state

unfoldable pub v0 : Supervisor
v0 = (S.supervisor_start plan_p 0).state

unfoldable pub m1 : Module
m1 = (M.module_step plan_p 0 m0 buffer).state

unfoldable pub v1 : Supervisor
v1 = (S.supervisor_deliver plan_p 0 v0 (0x01 ∷ 0 ∷ 0 ∷ [])).state

unfoldable pub m2 : Module
m2 = (M.module_deliver plan_p 0 m1 (0x02 ∷ 0 ∷ 0 ∷ 0 ∷ 0 ∷ 0 ∷ 0 ∷ 0 ∷ 0 ∷ 0 ∷ 1 ∷ [])).state

-- the f64 a / b
abbrev pub f64 : ℕ → ℕ → Float
f64 a b = round binary64 false a b

-- the water of a litres step of 3 litres after the readings 2.5 and 0.125, each put to it by `plus`
abbrev pub two_readings : (Water → Flow → Water) → Water
two_readings plus = plus (plus (record { target = f64 3 1; total = f64 0 1 }) (Litres (f64 5 2))) (Litres (f64 1 8))

pub record Marked : Type 0 where
  -- not marked: the length that the sheet gives for P
  pub p_length : length plan_p ≡ 82
  -- "P accepted; empty image 3 at 0; `1F` 4 at 0; `10 01 00 01 1F` 8 at 4"
  pub p_accepted : verdict_of plan_p ≡ Ok tt
  pub empty_image : verdict_of [] ≡ Err (refusal 3 0)
  pub end_alone : verdict_of (0x1f ∷ []) ≡ Err (refusal 4 0)
  pub undeclared : verdict_of (0x10 ∷ 1 ∷ 0 ∷ 1 ∷ 0x1f ∷ []) ≡ Err (refusal 8 4)
  -- "the six turns and responses above"
  pub first : (turn_call plan_p d0 0).answer ≡ Ok None
  pub second : (turn_call plan_p d1 1).answer ≡ Ok (Some 2)
  pub third : (turn_call plan_p d2 0).answer ≡ Ok (Some 0)
  pub fourth : (respond_call plan_p d3 1 3).answer ≡ Ok tt
  pub fourth_queued : queue_of (own_at d4 1) ≡ 3 ∷ []
  pub fifth : (turn_call plan_p d4 1).answer ≡ Ok (Some 3)
  pub sixth : (turn_call plan_p d5 0).answer ≡ Ok None
  -- not marked: the last line of the sheet, `states 1 0 0`
  pub module_0 : (own_at (turn_call plan_p d5 0).device 0).state ≡ 1
  pub module_1 : (own_at (turn_call plan_p d5 0).device 1).state ≡ 0
  pub supervisor_0 : state_at (turn_call plan_p d5 0).device 0 ≡ 0
  -- "module 0's bid `01 00 00`"
  pub bid : (M.module_step plan_p 0 m0 buffer).answer ≡ Ok (Bids 0 3)
  pub bid_bytes : take 4 (M.module_step plan_p 0 m0 buffer).buffer ≡ 0x01 ∷ 0 ∷ 0 ∷ 0xaa ∷ []
  -- not marked: the bid is noted
  pub noted : (S.supervisor_deliver plan_p 0 v0 (0x01 ∷ 0 ∷ 0 ∷ [])).answer ≡ Ok tt
  -- "the permit `02 00 00 0000000000000001`"
  pub permit : (S.supervisor_step plan_p 0 v1 buffer).answer ≡ Ok (Sends 0 11)
  pub permit_bytes : take 12 (S.supervisor_step plan_p 0 v1 buffer).buffer ≡ 0x02 ∷ 0 ∷ 0 ∷ 0 ∷ 0 ∷ 0 ∷ 0 ∷ 0 ∷ 0 ∷ 0 ∷ 1 ∷ 0xaa ∷ []
  -- "its release `03 00 00 FF`"
  pub release : (M.module_step plan_p 0 m2 buffer).answer ≡ Ok (Turns None 4)
  pub release_bytes : take 5 (M.module_step plan_p 0 m2 buffer).buffer ≡ 0x03 ∷ 0 ∷ 0 ∷ 0xff ∷ 0xaa ∷ []
  -- "readings 2.5 then 0.125 total 21 eighths": by the whole-number sum, and by the f64 sum that the code makes
  pub readings : count (two_readings added).total ≡ 21
  pub readings_f64 : (two_readings sum).total ≡ eighths 21
  -- "64 taken, 64.125 gets 14"
  pub reading_64 : (tick_call plan_p d0 0 (Litres (f64 64 1))).answer ≡ Ok tt
  pub reading_more : (tick_call plan_p d0 0 (Litres (f64 513 8))).answer ≡ Err (refusal 14 0)

pub marked : Marked
unfolding plan_p d0 d1 d2 d3 d4 d5 m0 m1 m2 v0 v1 bit all_below put_bit least or_else some_below mask_of word_at word_bytes is_eighths count eighths round add of_bits body_len kind_of in_range operand_in_range key_of same_key precedes record_of walk_of records_in find_in field1 field2 field3 word_field found field_of steps_of index_runs in_order names_declared keeps_rules all_declared fault_of check_walk verdict_of field4 target state_or supervisor_after counting water_of flow_ok added sum arrive_at performed tick_of respond_of has_move first_usable by_response by_command enabled chosen by_choice turn_on turn_of wish start_own every queue_fits idle_fits step_fits procedure_fits own_fits own_empty list_from own_slot_fits state_slot_fits start_slot start_state device_fits shown_by state_after_turn turned after_turn turn_in turn_by called_by reply_in reply_by start_by message_bytes parse named M.missing_in M.held_in M.fits_in M.choice_on M.choice M.event_for M.releases_in bytes_of_messages M.sent_by M.answer_by M.state_by M.step_in M.step_by M.is_for M.bid_with M.taken_by M.deliver_in M.deliver_by M.start_by S.holder_fits S.supervisor_fits S.module_after S.next_noted S.served_on S.sent_to S.answer_by S.state_by S.step_in S.step_by S.taken_by S.deliver_in S.deliver_by S.start_by
marked = record {
  p_length = refl;
  p_accepted = refl;
  empty_image = refl;
  end_alone = refl;
  undeclared = refl;
  first = refl;
  second = refl;
  third = refl;
  fourth = refl;
  fourth_queued = refl;
  fifth = refl;
  sixth = refl;
  module_0 = refl;
  module_1 = refl;
  supervisor_0 = refl;
  bid = refl;
  bid_bytes = refl;
  noted = refl;
  permit = refl;
  permit_bytes = refl;
  release = refl;
  release_bytes = refl;
  readings = refl;
  readings_f64 = refl;
  reading_64 = refl;
  reading_more = refl;
}
