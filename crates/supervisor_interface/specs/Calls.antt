-- The calls of a supervisor on its own device over lent bytes. Each is the call of crate permits on the supervisor that the state's bytes are.
use Rattle.refusal.specs.Refusal.{refused_number}
use Rattle.refusal.specs.declared.Refusal.{Refusal}
use Rattle.std.specs.Prelude.{ℕ, List, [], Result}
use Rattle.messages.specs.Message.{put_at}
use Rattle.permits.specs.Supervisor.{ServeCall, supervisor_start, supervisor_step, supervisor_deliver}
use Rattle.permits.specs.declared.Supervisor.{Supervisor}
use Rattle.permits.specs.declared.SupervisorCalled.{SupervisorCalled}
use Rattle.permits.specs.declared.Served.{Served}
use Rattle.party_bytes.specs.Supervisor.{supervisor_size, supervisor_bytes, supervisor_of}
use Rattle.packing.specs.Answer.{Answer, called_answer, served_answer, lent_after, start_answer}

-- the state's bytes s after a call of number n that leaves the supervisor y
abbrev pub supervisor_bytes_after : ℕ → Supervisor → List ℕ → List ℕ
supervisor_bytes_after n y s = lent_after n (put_at (supervisor_bytes y) 0 s) s

abbrev pub called_on : SupervisorCalled → List ℕ → Answer
called_on c s = record { number = called_answer c.answer; state = supervisor_bytes_after (refused_number c.answer) c.state s; buffer = [] }

abbrev pub stepped_on : Result Served Refusal → Supervisor → List ℕ → List ℕ → Answer
stepped_on a y s buffer = record { number = served_answer a; state = supervisor_bytes_after (refused_number a) y s; buffer = buffer }

unfoldable pub start_bytes : List ℕ → ℕ → List ℕ → Answer
start_bytes image v b = start_answer supervisor_size (supervisor_start image v).answer (supervisor_bytes (supervisor_start image v).state) b

abbrev pub step_on : ServeCall → List ℕ → Answer
step_on c s = stepped_on c.answer c.state s c.buffer

unfoldable pub step_bytes : List ℕ → List ℕ → ℕ → List ℕ → Answer
step_bytes image s v b = step_on (supervisor_step image v (supervisor_of s) b) s

unfoldable pub deliver_bytes : List ℕ → List ℕ → ℕ → List ℕ → Answer
deliver_bytes image s v message = called_on (supervisor_deliver image v (supervisor_of s) message) s
