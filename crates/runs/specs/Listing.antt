-- Document 01, "The two-valve sheet": with P and the six lines of its script, all that the listing program prints, by computation.
use Rattle.std.specs.Prelude.{◌≡◌, refl, List, ℕ}
use Rattle.std.specs.Float.Ieee.{round, of_bits}
use Rattle.bits.specs.Bit.{bit, all_below, put_bit, least, or_else, some_below, mask_of}
use Rattle.words.specs.Word.{word_at, word_bytes}
use Rattle.litres.specs.Eighths.{is_eighths, count, eighths}
use Rattle.records.specs.Kinds.{body_len, kind_of}
use Rattle.records.specs.Range.{in_range, operand_in_range}
use Rattle.records.specs.Key.{key_of, same_key, precedes}
use Rattle.reader.specs.Read.{record_of}
use Rattle.reader.specs.Walk.{walk_of, records_in}
use Rattle.reader.specs.Find.{find_in, found}
use Rattle.rules.specs.LookUp.{field1, field2, field3, word_field, field_of, steps_of}
use Rattle.rules.specs.Rules.{index_runs, in_order, names_declared, keeps_rules, all_declared}
use Rattle.rules.specs.Check.{fault_of, check_walk, verdict_of}
use Rattle.plan.specs.Plan.{field4, target, state_or, supervisor_after, counting}
use Rattle.modules.specs.Procedure.{called_by, arrive_at, performed, tick_of, respond_of}
use Rattle.water.specs.Water.{flow_ok, water_of, added}
use Rattle.modules.specs.Turn.{has_move, first_usable, by_response, by_command, enabled, chosen, by_choice, turn_on, turn_of, wish, start_own}
use Rattle.modules.specs.Fits.{every, queue_fits, idle_fits, step_fits, procedure_fits, own_fits, own_empty}
use Rattle.words.specs.Lists.{list_from}
use Rattle.device_states.specs.States.{own_slot_fits, state_slot_fits, start_slot, start_state, device_fits, shown_by, state_after_turn}
use Rattle.device.specs.Device.{turned, after_turn, turn_in, turn_by, reply_in, reply_by, start_by}
use Rattle.lines.specs.Number.{number_from, begins, up_to, number_up_to, number_of, space_in}
use Rattle.texts.specs.Ascii.{ascii, digits}
use Rattle.script.specs.Line.{pair_of, line_of}
use Rattle.texts.specs.Numbers.{spaced_all}
use Rattle.script.specs.Answers.{header_line, refused_line, turn_line, response_line, states_row}
use Rattle.sheet.specs.Listing.{device_after, answer_to, on_first, lines_of, answers_to, listed_by, listed}
use Rattle.marked.specs.Sheet.{plan_p}

-- the six lines, and what is printed of them
abbrev pub script : List ℕ
script = ascii "t 0\nt 1\nt 0\nr 1 3\nt 1\nt 0\n"

abbrev pub printed : List ℕ
printed = ascii "plan 2 1 4\nturn 0 none\nturn 1 event 2\nturn 0 event 0\nresponse 1 queued 3\nturn 1 event 3\nturn 0 none\nstates 1 0 0\n"

pub sheet : listed plan_p script ≡ printed
unfolding plan_p ascii digits number_from begins up_to number_up_to number_of space_in pair_of line_of spaced_all header_line refused_line turn_line response_line states_row device_after answer_to on_first lines_of answers_to listed_by bit all_below put_bit least or_else some_below mask_of word_at word_bytes is_eighths count eighths round of_bits body_len kind_of in_range operand_in_range key_of same_key precedes record_of walk_of records_in find_in field1 field2 field3 word_field found field_of steps_of index_runs in_order names_declared keeps_rules all_declared fault_of check_walk verdict_of field4 target state_or supervisor_after counting water_of flow_ok added arrive_at performed tick_of respond_of has_move first_usable by_response by_command enabled chosen by_choice turn_on turn_of wish start_own every queue_fits idle_fits step_fits procedure_fits own_fits own_empty list_from own_slot_fits state_slot_fits start_slot start_state device_fits shown_by state_after_turn turned after_turn turn_in turn_by called_by reply_in reply_by start_by
sheet = refl
