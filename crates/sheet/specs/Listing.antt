-- Document 01, "The two-valve sheet": what a line of the listing's script does and prints, and all that the listing program prints.
use Rattle.refusal.specs.Refusal.{refused_number, refused_offset}
use Rattle.refusal.specs.declared.Refusal.{Refusal}
use Rattle.std.specs.Prelude.{ℕ, ◌≡◌, List, [], ◌∷◌, ◌++◌, cond, eqb, Result, Ok, Err, ⊤}
use Prim.Native.Char.{code}
use Rattle.reader.specs.Walk.{records_of}
use Rattle.rules.specs.LookUp.{modules_of, supervisors_of, events_of}
use Rattle.device_states.specs.declared.Device.{Device}
use Rattle.device.specs.Device.{turn_call, respond_call, start_call}
use Rattle.lines.specs.declared.Partial.{Partial}
use Rattle.lines.specs.Partial.{begun, with_byte, has_byte}
use Rattle.script.specs.declared.Line.{Line}
use Rattle.script.specs.declared.Line.TheVariants.{Turn, Response, Misshapen}
use Rattle.script.specs.Line.{line_of, parsed_of, line_number}
use Rattle.texts.specs.Text.{text_of}
use Rattle.script.specs.Answers.{header_line, plan_refused_line, refused_line, turn_line, response_line, states_line}
use Rattle.sheet.specs.declared.Played.{Played}

-- ---- a line

-- "`t M` is a turn of module M, `r M E` a queued response E"
unfoldable pub device_after : List ℕ → Device → Line → Device
device_after image d (Turn m) = (turn_call image d m).device
device_after image d (Response m e) = (respond_call image d m e).device
device_after image d Misshapen = d

-- "turn 1 event 2", "response 1 queued 3", "`refused N`"
unfoldable pub answer_to : List ℕ → Device → Line → List ℕ
answer_to image d (Turn m) = turn_line m (turn_call image d m).answer
answer_to image d (Response m e) = response_line m e (respond_call image d m e).answer
answer_to image d Misshapen = refused_line (line_number Misshapen)

abbrev pub played : List ℕ → Device → Line → Played
played image d l = record { device = device_after image d l; line = text_of (answer_to image d l) }

-- ---- a whole script

-- a byte at the start of the first line
unfoldable pub on_first : ℕ → List (List ℕ) → List (List ℕ)
on_first b [] = (b ∷ []) ∷ []
on_first b (l ∷ ls) = (b ∷ l) ∷ ls

-- "and a line feed (the last may lack it)": the lines without their line feeds; nothing behind the last line feed is no line
unfoldable pub lines_of : List ℕ → List (List ℕ)
lines_of [] = []
lines_of (b ∷ bs) = let ls = lines_of bs in cond (eqb b (code "\n")) ([] ∷ ls) (on_first b ls)

-- "Last line: module states, then supervisor states."
abbrev pub last_line : List ℕ → Device → List ℕ
last_line image d = states_line d (modules_of (records_of image)) (supervisors_of (records_of image))

-- the answer to each line, and the last line
unfoldable pub answers_to : List ℕ → Device → List (List ℕ) → List ℕ
answers_to image d [] = last_line image d
answers_to image d (l ∷ ls) = answer_to image d (line_of l) ++ answers_to image (device_after image d (line_of l)) ls

-- "Header: modules, supervisors, events."; "and, alone, `plan refused N at B`"
unfoldable pub listed_by : Result ⊤ Refusal → List ℕ → Device → List ℕ → List ℕ
listed_by (Ok u) image d script = header_line (modules_of (records_of image)) (supervisors_of (records_of image)) (events_of (records_of image)) ++ answers_to image d (lines_of script)
listed_by (Err e) image d script = plan_refused_line (refused_number {X = ⊤} (Err e)) (refused_offset {X = ⊤} (Err e))

-- "The listing program reads `plan.bin` and standard input": all that it prints
abbrev pub listed : List ℕ → List ℕ → List ℕ
listed image script = listed_by (start_call image).answer image (start_call image).device script

-- ---- byte by byte

-- the answers as the program gives them, which keeps no script: a line is played at its line feed, and the last, if it has a byte, at the end
unfoldable pub answers_from : List ℕ → Device → Partial → List ℕ → List ℕ
answers_from image d p [] = cond (has_byte p) (answer_to image d (parsed_of p) ++ last_line image (device_after image d (parsed_of p))) (last_line image d)
answers_from image d p (b ∷ bs) =
    cond (eqb b (code "\n")) (answer_to image d (parsed_of p) ++ answers_from image (device_after image d (parsed_of p)) begun bs)
    (answers_from image d (with_byte p b) bs)

-- they are those of its lines, whatever the script
abbrev pub Bytewise : Type 0
Bytewise = (image : List ℕ) (d : Device) (script : List ℕ) → answers_from image d begun script ≡ answers_to image d (lines_of script)
