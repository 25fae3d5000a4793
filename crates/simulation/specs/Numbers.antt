-- Document 01, "Numbers for what is turned down": the number of what a line of the script got. It has no offset of its own.
use Rattle.refusal.specs.Refusal.{refused_number}
use Rattle.messages.specs.declared.Message.{Message}
use Rattle.std.specs.Prelude.{ℕ, ◌≡◌, List, Option, Some, None}
use Rattle.litres.specs.Eighths.{eighths}
use Rattle.water.specs.declared.Flow.TheVariants.{Litres, NoSensor}
use Rattle.messages.specs.Message.{message_bytes}
use Rattle.messages.specs.declared.Message.TheVariants.{Bid, Permit, Release}
use Rattle.permits.specs.Module.{module_step, module_deliver, module_respond, module_tick}
use Rattle.permits.specs.Supervisor.{supervisor_step, supervisor_deliver}
use Rattle.wire.specs.Wire.{under, nth_of}
use Rattle.parties.specs.declared.Parties.{Parties}
use Rattle.parties.specs.Parties.{module_at, supervisor_at}
use Rattle.acts.specs.declared.Act.{Act}
use Rattle.acts.specs.declared.Act.TheVariants.{Module as ModuleLine, Supervisor as SupervisorLine, Delivery as DeliveryLine, Response as ResponseLine, Tick as TickLine, Unfitted as UnfittedLine, Misshapen as MisshapenLine}
use Rattle.acts.specs.Act.{act_number}
use Rattle.simulation.specs.declared.Answer.{Answer}
use Rattle.simulation.specs.declared.Answer.TheVariants.{Module, Supervisor, Delivery, NoMessage, Response, Tick, Misshapen}
use Rattle.simulation.specs.declared.Played.{Played}
use Rattle.simulation.specs.Play.{lent_for, played}

-- that of the call's answer; 10 is "script line misshapen", and an index where no message stands has none
abbrev pub answer_number : Answer → ℕ
answer_number (Module m a) = refused_number a
answer_number (Supervisor v a) = refused_number a
answer_number (Delivery g a) = refused_number a
answer_number NoMessage = 0
answer_number (Response m e a) = refused_number a
answer_number (Tick m a) = refused_number a
answer_number Misshapen = 10

-- the same by the image, the parties and the line: the number that the call of a line gives
unfoldable pub delivery_number : List ℕ → Parties → Option Message → ℕ
delivery_number image p None = 0
delivery_number image p (Some (Bid m v)) = refused_number (supervisor_deliver image v (supervisor_at p v) (message_bytes (Bid m v))).answer
delivery_number image p (Some (Permit v m k)) = refused_number (module_deliver image m (module_at p m) (message_bytes (Permit v m k))).answer
delivery_number image p (Some (Release m v e)) = refused_number (supervisor_deliver image v (supervisor_at p v) (message_bytes (Release m v e))).answer

unfoldable pub call_number : List ℕ → Parties → Act → ℕ
call_number image p (ModuleLine m) = refused_number (module_step image m (module_at p m) (lent_for p.wire 32)).answer
call_number image p (SupervisorLine v) = refused_number (supervisor_step image v (supervisor_at p v) (lent_for p.wire 1)).answer
call_number image p (DeliveryLine k) = delivery_number image p (nth_of (under p.wire) k)
call_number image p (ResponseLine m e) = refused_number (module_respond image m (module_at p m) e).answer
call_number image p (TickLine m n) = refused_number (module_tick image m (module_at p m) (Litres (eighths n))).answer
call_number image p (UnfittedLine m) = refused_number (module_tick image m (module_at p m) NoSensor).answer
call_number image p MisshapenLine = act_number MisshapenLine

-- the whole answer r of a line: its case with its values and the parties after it, and the number of that case
pub record PlayedAs (image : List ℕ) (p : Parties) (a : Act) (r : Played) : Type 0 where
  pub answer : r ≡ played image p a
  pub number : answer_number r.answer ≡ call_number image p a
