-- Document 01, "What demand 3 compares": lists of calls over one plan image. "Each call gets the state that the last call on its module or
-- supervisor left, at first the starting state; nobody else writes states or image."
use Rattle.refusal.specs.declared.Refusal.{Refusal}
use Rattle.messages.specs.declared.Message.{Message}
use Rattle.std.specs.Prelude.{ℕ, zero, suc, ◌/◌, Bool, true, false, cond, ◌≡◌, List, [], ◌∷◌, ◌++◌, map, length, take, Option, Some, None, Result, Ok, Err}
use Rattle.water.specs.declared.Flow.{Flow}
use Rattle.messages.specs.Message.{parse, release_size}
use Rattle.messages.specs.declared.Message.TheVariants.{Bid, Permit, Release}
use Rattle.permits.specs.declared.Module.{Module}
use Rattle.permits.specs.declared.Supervisor.{Supervisor}
use Rattle.permits.specs.declared.Stepped.{Stepped}
use Rattle.permits.specs.declared.Stepped.TheVariants.{Turns, Bids, Waits}
use Rattle.permits.specs.declared.Served.{Served}
use Rattle.permits.specs.declared.Served.TheVariants.{Sends, Waits as SupervisorWaits}
use Rattle.permits.specs.Module as M
use Rattle.permits.specs.Supervisor as S
use Rattle.protocol.specs.Generic.{update}
-- the buffer that a step is lent, and how the releases in it are cut, passed on
pub use Rattle.messages.specs.Message.{buffer_length}
unfoldable pub use Rattle.messages.specs.Message.{pieces}

-- a message sent: its bytes, and whether it has been delivered; document 01's term: "under way until delivered"
pub record Sent : Type 0 where
  pub bytes : List ℕ
  pub delivered : Bool

-- the states of all modules and supervisors, and every message sent so far, in the order sent
pub record System : Type 0 where
  pub module_at : ℕ → Module
  pub supervisor_at : ℕ → Supervisor
  pub sent : List Sent

-- a call: a step of a module or a supervisor with the buffer lent to it, a delivery of the message with an index among all that were sent, a
-- response, a tick
pub data Act : Type 0 where
  module_step supervisor_step : ℕ → List ℕ → Act
  deliver : ℕ → Act
  respond : ℕ → ℕ → Act
  tick : ℕ → Flow → Act

abbrev pub Lent : Act → Type 0
Lent (module_step m b) = length b ≡ buffer_length
Lent (supervisor_step v b) = length b ≡ buffer_length
Lent (deliver k) = Unit {0}
Lent (respond m e) = Unit {0}
Lent (tick m f) = Unit {0}

abbrev pub AllLent : List Act → Type 0
AllLent [] = Unit {0}
AllLent (a ∷ l) = Lent a × AllLent l

-- "A message is sent by the accepted step that writes it"; "each release is sent as a message by itself"
unfoldable pub wrote : Result Stepped Refusal → List ℕ → List (List ℕ)
wrote (Ok (Turns t n)) b = pieces release_size (n / release_size) b
wrote (Ok (Bids v n)) b = take n b ∷ []
wrote (Ok Waits) b = []
wrote (Err e) b = []

unfoldable pub wrote_out : Result Served Refusal → List ℕ → List (List ℕ)
wrote_out (Ok (Sends m n)) b = take n b ∷ []
wrote_out (Ok SupervisorWaits) b = []
wrote_out (Err e) b = []

-- put behind those sent before, not delivered yet
abbrev pub fresh : List ℕ → Sent
fresh b = record { bytes = b; delivered = false }

abbrev pub send : List Sent → List (List ℕ) → List Sent
send w l = w ++ map fresh l

-- the message with an index among those sent
unfoldable pub at : ℕ → List Sent → Option Sent
at k [] = None
at zero (g ∷ l) = Some g
at (suc k) (g ∷ l) = at k l

-- the messages sent, with the one at an index delivered
unfoldable pub mark : ℕ → List Sent → List Sent
mark k [] = []
mark zero (g ∷ l) = record { bytes = g.bytes; delivered = true } ∷ l
mark (suc k) (g ∷ l) = g ∷ mark k l

-- "under way until delivered; equal bytes sent twice are two messages": the messages not delivered yet, in the order sent
unfoldable pub under_way : List Sent → List (List ℕ)
under_way [] = []
under_way (g ∷ l) = cond g.delivered (under_way l) (g.bytes ∷ under_way l)

-- "at most once": the bytes that a delivery of a message brings to its party, none where it has been delivered, or where no message is
unfoldable pub once : Option Sent → Option (List ℕ)
once None = None
once (Some g) = cond g.delivered None (Some g.bytes)

abbrev pub brought : ℕ → List Sent → Option (List ℕ)
brought k w = once (at k w)

abbrev pub with_module : System → ℕ → Module → List Sent → System
with_module D m x w = record { module_at = update D.module_at m x; supervisor_at = D.supervisor_at; sent = w }

abbrev pub with_supervisor : System → ℕ → Supervisor → List Sent → System
with_supervisor D v y w = record { module_at = D.module_at; supervisor_at = update D.supervisor_at v y; sent = w }

-- a delivery "to the party it names that takes its kind", the messages sent being w after it
unfoldable pub delivered : List ℕ → System → List ℕ → List Sent → Option Message → System
delivered image D bytes w (Some (Bid m v)) = with_supervisor D v (S.supervisor_deliver image v (D.supervisor_at v) bytes).state w
delivered image D bytes w (Some (Permit v m k)) = with_module D m (M.module_deliver image m (D.module_at m) bytes).state w
delivered image D bytes w (Some (Release m v e)) = with_supervisor D v (S.supervisor_deliver image v (D.supervisor_at v) bytes).state w
delivered image D bytes w None = record { module_at = D.module_at; supervisor_at = D.supervisor_at; sent = w }

-- where nothing is brought, nothing is called
unfoldable pub delivered_at : List ℕ → System → ℕ → Option (List ℕ) → System
delivered_at image D k None = D
delivered_at image D k (Some bytes) = delivered image D bytes (mark k D.sent) (parse bytes)

unfoldable pub step : List ℕ → System → Act → System
step image D (module_step m b) =
    let c = M.module_step image m (D.module_at m) b in with_module D m c.state (send D.sent (wrote c.answer c.buffer))
step image D (supervisor_step v b) =
    let c = S.supervisor_step image v (D.supervisor_at v) b in with_supervisor D v c.state (send D.sent (wrote_out c.answer c.buffer))
step image D (deliver k) = delivered_at image D k (brought k D.sent)
step image D (respond m e) = with_module D m (M.module_respond image m (D.module_at m) e).state D.sent
step image D (tick m f) = with_module D m (M.module_tick image m (D.module_at m) f).state D.sent

unfoldable pub run : List ℕ → System → List Act → System
run image D [] = D
run image D (a ∷ l) = run image (step image D a) l

-- "begun at the starting state"
unfoldable pub start : List ℕ → System
start image = record { module_at = λ m. (M.module_start image m).state; supervisor_at = λ v. (S.supervisor_start image v).state; sent = [] }
