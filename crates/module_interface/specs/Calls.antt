-- The calls of a module on its own device over lent bytes. Each is the call of crate permits on the module that the state's bytes are.
use Rattle.refusal.specs.Refusal.{refused_number}
use Rattle.refusal.specs.declared.Refusal.{Refusal}
use Rattle.std.specs.Prelude.{ℕ, List, [], Float, Result}
use Rattle.messages.specs.Message.{put_at}
use Rattle.permits.specs.Module.{StepCall, module_start, module_step, module_deliver, module_respond, module_tick}
use Rattle.permits.specs.declared.Module.{Module}
use Rattle.permits.specs.declared.ModuleCalled.{ModuleCalled}
use Rattle.permits.specs.declared.Stepped.{Stepped}
use Rattle.party_bytes.specs.Module.{module_size, module_bytes, module_of}
use Rattle.packing.specs.Answer.{Answer, called_answer, stepped_answer, lent_after, start_answer}
use Rattle.packing.specs.Flow.{flow_of}

-- the state's bytes s after a call of number n that leaves the module x
abbrev pub module_bytes_after : ℕ → Module → List ℕ → List ℕ
module_bytes_after n x s = lent_after n (put_at (module_bytes x) 0 s) s

abbrev pub called_on : ModuleCalled → List ℕ → Answer
called_on c s = record { number = called_answer c.answer; state = module_bytes_after (refused_number c.answer) c.state s; buffer = [] }

abbrev pub stepped_on : Result Stepped Refusal → Module → List ℕ → List ℕ → Answer
stepped_on a x s buffer = record { number = stepped_answer a; state = module_bytes_after (refused_number a) x s; buffer = buffer }

unfoldable pub start_bytes : List ℕ → ℕ → List ℕ → Answer
start_bytes image m b = start_answer module_size (module_start image m).answer (module_bytes (module_start image m).state) b

abbrev pub step_on : StepCall → List ℕ → Answer
step_on c s = stepped_on c.answer c.state s c.buffer

unfoldable pub step_bytes : List ℕ → List ℕ → ℕ → List ℕ → Answer
step_bytes image s m b = step_on (module_step image m (module_of s) b) s

unfoldable pub deliver_bytes : List ℕ → List ℕ → ℕ → List ℕ → Answer
deliver_bytes image s m message = called_on (module_deliver image m (module_of s) message) s

unfoldable pub respond_bytes : List ℕ → List ℕ → ℕ → ℕ → Answer
respond_bytes image s m e = called_on (module_respond image m (module_of s) e) s

unfoldable pub tick_bytes : List ℕ → List ℕ → ℕ → ℕ → Float → Answer
tick_bytes image s m sensor litres = called_on (module_tick image m (module_of s) (flow_of sensor litres)) s
