-- Document 01, "The two-valve sheet": its lines and some others, each by computation.
use Rattle.refusal.specs.Refusal.{refusal}
use Rattle.std.specs.Prelude.{◌≡◌, refl, Some, None, Ok, Err}
use Rattle.device_states.specs.States.{empty_device}
use Rattle.lines.specs.Number.{number_from, begins, up_to, number_up_to, number_of, space_in}
use Rattle.script.specs.declared.Line.TheVariants.{Turn, Response, Misshapen}
use Rattle.texts.specs.Ascii.{ascii, digits}
use Rattle.script.specs.Line.{pair_of, line_of}
use Rattle.texts.specs.Numbers.{spaced_all}
use Rattle.script.specs.Answers.{header_line, plan_refused_line, refused_line, turn_line, response_line, states_row, states_line}

-- the sheet's script, and numbers up to 255
pub record Scripts : Type 0 where
  pub turn : line_of (ascii "t 0") ≡ Turn 0
  pub response : line_of (ascii "r 1 3") ≡ Response 1 3
  pub largest : line_of (ascii "t 255") ≡ Turn 255
  pub longest : line_of (ascii "r 255 255") ≡ Response 255 255

-- "any other is 10"
pub record Misshaped : Type 0 where
  pub none : line_of (ascii "") ≡ Misshapen
  pub alone : line_of (ascii "t") ≡ Misshapen
  pub no_number : line_of (ascii "t ") ≡ Misshapen
  pub over : line_of (ascii "t 256") ≡ Misshapen
  pub far_over : line_of (ascii "r 9 300") ≡ Misshapen
  pub leading_zero : line_of (ascii "t 00") ≡ Misshapen
  pub leading_zero_behind : line_of (ascii "r 1 03") ≡ Misshapen
  pub two_spaces : line_of (ascii "t  0") ≡ Misshapen
  pub space_behind : line_of (ascii "t 0 ") ≡ Misshapen
  pub space_before : line_of (ascii " t 0") ≡ Misshapen
  pub capital : line_of (ascii "T 0") ≡ Misshapen
  pub sign : line_of (ascii "t +1") ≡ Misshapen
  pub carriage_return : line_of (ascii "t 0\r") ≡ Misshapen
  pub tab : line_of (ascii "t\t0") ≡ Misshapen
  pub one_too_many : line_of (ascii "t 0 1") ≡ Misshapen
  pub one_too_few : line_of (ascii "r 0") ≡ Misshapen

-- the sheet's answers, and the other lines
pub record Answers : Type 0 where
  pub header : header_line 2 1 4 ≡ ascii "plan 2 1 4\n"
  pub none : turn_line 0 (Ok None) ≡ ascii "turn 0 none\n"
  pub event : turn_line 1 (Ok (Some 2)) ≡ ascii "turn 1 event 2\n"
  pub queued : response_line 1 3 (Ok tt) ≡ ascii "response 1 queued 3\n"
  pub refused_turn : turn_line 9 (Err (refusal 11 0)) ≡ ascii "refused 11\n"
  pub refused_response : response_line 1 3 (Err (refusal 13 0)) ≡ ascii "refused 13\n"
  pub misshapen : refused_line 10 ≡ ascii "refused 10\n"
  pub states : states_line empty_device 2 1 ≡ ascii "states 0 0 0\n"
  pub refused_plan : plan_refused_line 3 49152 ≡ ascii "plan refused 3 at 49152\n"
  pub farthest : plan_refused_line 255 18446744073709551615 ≡ ascii "plan refused 255 at 18446744073709551615\n"

pub scripts : Scripts
unfolding ascii number_from begins up_to number_up_to number_of space_in pair_of line_of
scripts = record { turn = refl; response = refl; largest = refl; longest = refl }

pub misshaped : Misshaped
unfolding ascii number_from begins up_to number_up_to number_of space_in pair_of line_of
misshaped =
    record {
      none = refl;
      alone = refl;
      no_number = refl;
      over = refl;
      far_over = refl;
      leading_zero = refl;
      leading_zero_behind = refl;
      two_spaces = refl;
      space_behind = refl;
      space_before = refl;
      capital = refl;
      sign = refl;
      carriage_return = refl;
      tab = refl;
      one_too_many = refl;
      one_too_few = refl;
    }

pub answers : Answers
unfolding ascii digits spaced_all header_line plan_refused_line refused_line turn_line response_line states_row
answers =
    record {
      header = refl;
      none = refl;
      event = refl;
      queued = refl;
      refused_turn = refl;
      refused_response = refl;
      misshapen = refl;
      states = refl;
      refused_plan = refl;
      farthest = refl;
    }
