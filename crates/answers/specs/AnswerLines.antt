-- The line that the simulation prints of what a line of its script got.
use Rattle.refusal.specs.Refusal.{refusal, refused_number}
use Rattle.refusal.specs.declared.Refusal.{Refusal}
use Rattle.std.specs.Prelude.{ℕ, ◌+◌, ◌≡◌, ◌≢◌, List, Bool, cond, set, replicate, leb, ltb, Option, Some, None, Result, Ok, Err, ⊤}
use Rattle.records.specs.declared.Record.{Record}
use Rattle.rules.specs.LookUp.{controllable}
use Rattle.messages.specs.Message.{message_bytes}
use Rattle.messages.specs.declared.Message.{Message}
use Rattle.texts.specs.declared.Text.{Text}
use Rattle.texts.specs.Text.{text_of}
use Rattle.script.specs.Answers.{refused_line, response_line}
use Rattle.script.specs.SimulationLines.{delivered_line, stepped_line, served_line, tick_line, nothing_line}
use Rattle.permits.specs.declared.Stepped.{Stepped}
use Rattle.permits.specs.declared.Stepped.TheVariants.{Turns, Bids, Waits}
use Rattle.simulation.specs.declared.Answer.{Answer}
use Rattle.simulation.specs.declared.Answer.TheVariants.{Module, Supervisor, Delivery, NoMessage, Response, Tick, Misshapen}
use Rattle.simulation.specs.Numbers.{answer_number}
use Rattle.answers.specs.declared.Row.{Row}

unfoldable pub delivery_line : Message → Result ⊤ Refusal → List ℕ
delivery_line g (Ok u) = delivered_line (message_bytes g)
delivery_line g (Err e) = refused_line (refused_number {X = ⊤} (Err e))

unfoldable pub answer_line : Answer → List ℕ
answer_line (Module m a) = stepped_line m a
answer_line (Supervisor v a) = served_line v a
answer_line (Delivery g a) = delivery_line g a
answer_line NoMessage = nothing_line
answer_line (Response m e a) = response_line m e a
answer_line (Tick m a) = tick_line m a
answer_line Misshapen = refused_line (answer_number Misshapen)

-- the text t of an answer, which is "`refused N`" of one that has a number
pub record PrintedAs (a : Answer) (t : Text) : Type 0 where
  pub line : t ≡ text_of (answer_line a)
  pub refused : answer_number a ≢ 0 → t ≡ text_of (refused_line (answer_number a))

-- "The record lists the events fired, in order"
unfoldable pub step_event : Result Stepped Refusal → Option ℕ
step_event (Ok (Turns t n)) = t
step_event (Ok (Bids v n)) = None
step_event (Ok Waits) = None
step_event (Err e) = None

unfoldable pub fired : Answer → Option ℕ
fired (Module m a) = step_event a
fired (Supervisor v a) = None
fired (Delivery g a) = None
fired NoMessage = None
fired (Response m e a) = None
fired (Tick m a) = None
fired Misshapen = None

-- "commands are its controllable ones"
unfoldable pub command_of : List Record → Option ℕ → Option ℕ
command_of rs (Some e) = cond (controllable rs e) (Some e) None
command_of rs None = None

abbrev pub command : List Record → Answer → Option ℕ
command rs a = command_of rs (fired a)

-- a row of events, at most 1024 to a line
abbrev pub no_row : Row
no_row = record { numbers = replicate 1024 0; count = 0 }

abbrev pub row_full : Row → Bool
row_full r = leb 1024 r.count

unfoldable pub with_number : Row → ℕ → Row
with_number r n = cond (ltb r.count 1024) (record { numbers = set r.numbers r.count n; count = r.count + 1 }) r
