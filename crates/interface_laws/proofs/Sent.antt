-- What is sent by the number of a step's answer is what demand 3 takes to be sent, and it is bytes.
use Rattle.std.specs.Prelude.{Option, Some, None, Result, Ok, Err, ⊤}
use Rattle.refusal.specs.declared.Refusal.{Refusal}
use mathlib.Core.Path.{◌≡◌, refl, sym, ap, ◌∙◌, subst}
use mathlib.Core.List.{List, [], ◌∷◌}
use mathlib.Core.Bool.{Bool, true, false, cond, not, ◌&&◌}
use Prim.Native.Nat.{ℕ, zero, suc, ◌+◌, ◌*◌, ◌/◌, ◌%◌, ◌^◌, ◌≤◌, ◌<◌}
use native.Mathlib.Omega.{arith}
use lib.ListN.{length, get_or, take, drop, get_or-append}
use lib.Seq.{get_or-drop}
use lib.Dec.{eqb, ltb, lit<}
use borrow.Author.Tests.{ne_eqb, ltb-true, ltb-false}
use Rattle.bits.specs.Bit.{bit}
use Rattle.bits.proofs.Least.{least_some}
use Rattle.words.specs.Word.{word_bytes}
use Rattle.records.specs.declared.Record.{Record}
use Rattle.reader.specs.Walk.{records_of}
use Rattle.rules.specs.LookUp.{modules_of, supervisors_of}
use Rattle.rules.specs.Check.{IsPlan}
use Rattle.plan.specs.Plan.{neighbours, in_alphabet, shown}
use Rattle.accepted.specs.Plan.{Sound}
use Rattle.accepted.proofs.Accepted.{every_plan}
use Rattle.roundtrip.specs.Fits.{Byte, Bytes}
use Rattle.messages.specs.Message.{release_size, message_bytes, short, written}
use Rattle.messages.specs.declared.Message.{Message}
use Rattle.messages.specs.declared.Message.TheVariants.{Bid, Permit, Release}
use Rattle.modules.specs.Queue.{response_at}
use Rattle.modules.specs.Turn.{has_move, turn_of}
use Rattle.modules.specs.declared.Own.{Own}
use Rattle.permits.specs.Step.{bytes_of_messages}
use Rattle.permits.specs.Module as M
use Rattle.permits.specs.Supervisor as S
use Rattle.permits.specs.declared.Module.{Module}
use Rattle.permits.specs.declared.Supervisor.{Supervisor}
use Rattle.permits.specs.declared.Stepped.{Stepped}
use Rattle.permits.specs.declared.Stepped.TheVariants.{Turns, Bids, Waits}
use Rattle.permits.specs.declared.Served.{Served}
use Rattle.permits.specs.declared.Served.TheVariants.{Sends, Waits as ServedWaits}
use Rattle.permits.proofs.Stepping.{bytes_append}
use Rattle.turn_laws.proofs.Turn.{turn_cases, move_below}
use Rattle.refusals.specs.Table.{InTable}
use Rattle.refusals.proofs.Table.{listed}
use Rattle.packing.specs.Answer.{packed, turn_answer, stepped_answer, served_answer}
use Rattle.packing.specs.Parts.{Parts}
use Rattle.packing.proofs.Parts.{unpacked}
use Rattle.agreement.specs.System.{buffer_length, pieces, wrote, wrote_out}
use Rattle.interface_laws.specs.Run.{module_sends, supervisor_sends}
use Rattle.interface_laws.proofs.ByteLists.{bytes_none, bytes_more, bytes_joined, word_bytes_lem}
use Rattle.interface_laws.proofs.OwnParts.{choose}
use Rattle.interface_laws.proofs.Parties.{served_small}

-- ---- an answer whose parts have room in its number

abbrev pub TurnSmall : Option ℕ → Type 0
TurnSmall (Some e) = Byte e
TurnSmall None = Unit {0}

abbrev pub StepSmall : Result Stepped Refusal → Type 0
StepSmall (Ok (Turns t n)) = TurnSmall t × (n < 2 ^ 32)
StepSmall (Ok (Bids v n)) = Byte v × (n < 2 ^ 32)
StepSmall (Ok Waits) = Unit {0}
StepSmall (Err e) = InTable e.number

abbrev ServeSmall : Result Served Refusal → Type 0
ServeSmall (Ok (Sends m n)) = Byte m × (n < 2 ^ 32)
ServeSmall (Ok ServedWaits) = Unit {0}
ServeSmall (Err e) = InTable e.number

module _ (s b : List ℕ) where
  -- of an accepted step by what was done, of what, and the bytes written
  module _ (d v n : ℕ) (dh : d < 256) (vh : Byte v) (nh : n < 2 ^ 32) where
    abbrev p : ℕ
    p = packed 0 d v n

    its : Parts 0 d v n
    its = unpacked 0 d v n (lit< tt) dh vh

    size : p / 4294967296 ≡ n
    size = its.size ∙ omega arith

    by_module : module_sends (record { number = p; state = s; buffer = b }) ≡ cond (eqb d 4) (take n b ∷ []) (pieces release_size (n / release_size) b)
    unfolding module_sends
    by_module = simp (its.number, its.did, size)

    by_supervisor : supervisor_sends (record { number = p; state = s; buffer = b }) ≡ cond (eqb d 5) (take n b ∷ []) []
    unfolding supervisor_sends
    by_supervisor = simp (its.number, its.did, size)

  turn_sends : (t : Option ℕ) (n : ℕ) → TurnSmall t → n < 2 ^ 32 → module_sends (record { number = turn_answer t n; state = s; buffer = b }) ≡ pieces release_size (n / release_size) b
  unfolding turn_answer
  turn_sends (Some e) n h l = by_module 1 e n (lit< tt) h l
  turn_sends None n h l = by_module 3 0 n (lit< tt) (lit< tt) l

  module _ (n o : ℕ) (t : InTable n) where
    its_number : packed n 0 0 o % 256 ≡ n
    its_number = (unpacked n 0 0 o (listed.byte n t) (lit< tt) (lit< tt)).number

    not_taken : eqb n 0 ≡ false
    not_taken = ne_eqb n 0 (listed.not_0 n t)

    none_by_module : module_sends (record { number = packed n 0 0 o; state = s; buffer = b }) ≡ []
    unfolding module_sends
    none_by_module = simp (its_number, not_taken)

    none_by_supervisor : supervisor_sends (record { number = packed n 0 0 o; state = s; buffer = b }) ≡ []
    unfolding supervisor_sends
    none_by_supervisor = simp (its_number, not_taken)

  pub module_sends_lem : (a : Result Stepped Refusal) → StepSmall a → module_sends (record { number = stepped_answer a; state = s; buffer = b }) ≡ wrote a b
  unfolding stepped_answer wrote
  module_sends_lem (Ok (Turns t n)) h = turn_sends t n h.0 h.1
  module_sends_lem (Ok (Bids v n)) h = by_module 4 v n (lit< tt) h.0 h.1
  module_sends_lem (Ok Waits) h = by_module 6 0 0 (lit< tt) (lit< tt) (lit< tt) ∙ (unfold pieces in refl)
  module_sends_lem (Err e) h = none_by_module e.number e.offset h

  pub supervisor_sends_lem : (a : Result Served Refusal) → ServeSmall a → supervisor_sends (record { number = served_answer a; state = s; buffer = b }) ≡ wrote_out a b
  unfolding served_answer wrote_out
  supervisor_sends_lem (Ok (Sends m n)) h = by_supervisor 5 m n (lit< tt) h.0 h.1
  supervisor_sends_lem (Ok ServedWaits) h = by_supervisor 6 0 0 (lit< tt) (lit< tt) (lit< tt)
  supervisor_sends_lem (Err e) h = none_by_supervisor e.number e.offset h

-- ---- what is sent are bytes

abbrev pub AllBytes : List (List ℕ) → Type 0
AllBytes [] = Unit {0}
AllBytes (g ∷ gs) = Bytes g × AllBytes gs

-- the first n of a list are bytes
abbrev First : ℕ → List ℕ → Type 0
First n b = (j : ℕ) → j < n → Byte (get_or b j 0)

taken : (n : ℕ) (b : List ℕ) → First n b → Bytes (take n b)
taken zero b h = bytes_none
taken (suc n) [] h = bytes_none
taken (suc n) (x ∷ b) h = bytes_more x (take n b) (h 0 (omega arith)) (taken n b (λ j l. h (suc j) (omega arith)))

in_pieces : (k : ℕ) (b : List ℕ) → First (k * release_size) b → AllBytes (pieces release_size k b)
unfolding pieces
in_pieces zero b h = tt
in_pieces (suc k) b h =
    (taken release_size b (λ j l. h j (omega arith)), in_pieces k (drop release_size b) (λ j l. subst Byte (sym (get_or-drop release_size b j 0)) (h (release_size + j) (omega arith))))

first_written : (bytes b : List ℕ) → Bytes bytes → First (length bytes) (written bytes b)
first_written bytes b h j l = subst Byte (sym (get_or-append bytes (drop (length bytes) b) 0 j l)) (h j)

abbrev MessageSmall : Message → Type 0
MessageSmall (Bid m v) = Byte m × Byte v
MessageSmall (Permit v m k) = Byte v × Byte m
MessageSmall (Release m v e) = Byte m × Byte v × Byte e

message_bytes_lem : (g : Message) → MessageSmall g → Bytes (message_bytes g)
unfolding message_bytes
message_bytes_lem (Bid m v) h = bytes_more 1 (m ∷ v ∷ []) (lit< tt) (bytes_more m (v ∷ []) h.0 (bytes_more v [] h.1 bytes_none))
message_bytes_lem (Permit v m k) h = bytes_more 2 (v ∷ m ∷ word_bytes k) (lit< tt) (bytes_more v (m ∷ word_bytes k) h.0 (bytes_more m (word_bytes k) h.1 (word_bytes_lem k)))
message_bytes_lem (Release m v e) h =
    bytes_more 3 (m ∷ v ∷ e ∷ []) (lit< tt) (bytes_more m (v ∷ e ∷ []) h.0 (bytes_more v (e ∷ []) h.1 (bytes_more e [] h.2 bytes_none)))

one_message : (g : Message) → MessageSmall g → Bytes (bytes_of_messages (g ∷ []))
unfolding bytes_of_messages
one_message g h = bytes_joined (message_bytes g) [] (message_bytes_lem g h) bytes_none

-- ---- a module's step

-- it has room in the answer's number, and what is sent are bytes
abbrev Sendable : M.StepCall → Type 0
Sendable c = StepSmall c.answer × AllBytes (wrote c.answer c.buffer)

-- a response by which the module has a move and a command are below 64
pub turn_small : (rs : List Record) (m k : ℕ) (own : Own) → TurnSmall (turn_of rs m k own).turn
turn_small rs m k own =
    turn_cases rs m own k (λ y. TurnSmall y.turn) (λ i st l g. response (response_at own i) l.passes) (λ e st h r l g. let b : e < 64 = l.below in omega arith) tt
  where
    response : (e : ℕ) → has_move rs m own.state e ≡ true → Byte e
    response e h = let b : e < 64 = move_below rs m own.state e h in omega arith

module _ (rs : List Record) (plan : Sound rs) (m : ℕ) where
  event_byte : (v : ℕ) (t : Option ℕ) → TurnSmall t → Byte (M.event_for rs v t)
  unfolding M.event_for
  event_byte v (Some e) h = choose Byte (in_alphabet rs v e) _ _ (λ a. h) (λ a. lit< tt)
  event_byte v None h = lit< tt

  releases_bytes : (t : Option ℕ) → TurnSmall t → Byte m → (n : ℕ) → n ≤ 32 → Bytes (bytes_of_messages (M.releases rs m t n))
  unfolding M.releases_in
  releases_bytes t h b zero l = unfold bytes_of_messages in bytes_none
  releases_bytes t h b (suc n) l =
      subst Bytes (sym (bytes_append (M.releases rs m t n) last))
      (bytes_joined (bytes_of_messages (M.releases rs m t n)) (bytes_of_messages last) (releases_bytes t h b n (omega arith))
      (choose (λ (gs : List Message). Bytes (bytes_of_messages gs)) (bit (neighbours rs m) n) _ _
      (λ e. one_message (Release m n (M.event_for rs n t)) (b, omega arith, event_byte n t h)) (λ e. unfold bytes_of_messages in bytes_none)))
    where
      last : List Message
      last = cond (bit (neighbours rs m) n) (Release m n (M.event_for rs n t) ∷ []) []

  -- an accepted bid is to one of the 32 supervisors
  bid_to : (o : Option ℕ) (n b h w : Bool) (v : ℕ) → M.choice_on o n b h w ≡ M.bids_to v → o ≡ Some v
  unfolding M.choice_on
  bid_to None true b h w v e = let z : ◌≡◌ {A = ℕ} 0 1 = cc in absurd (omega arith)
  bid_to None false b h true v e = let z : ◌≡◌ {A = ℕ} 0 1 = cc in absurd (omega arith)
  bid_to None false b h false v e = let z : ◌≡◌ {A = ℕ} 0 1 = cc in absurd (omega arith)
  bid_to (Some u) n true h w v e = let z : ◌≡◌ {A = ℕ} 0 1 = cc in absurd (omega arith)
  bid_to (Some u) n false true w v e = let z : u ≡ v = cc in ap Some z
  bid_to (Some u) n false false true v e = let z : u ≡ v = cc in ap Some z
  bid_to (Some u) n false false false v e = let z : ◌≡◌ {A = ℕ} 0 1 = cc in absurd (omega arith)

  module _ (x : Module) (b : List ℕ) (l : length b ≡ buffer_length) where
    module_bid : (v : ℕ) → M.choice rs m x ≡ M.bids_to v → v < 32
    unfolding M.choice M.missing_in
    module_bid v e = (least_some (λ w. bit (neighbours rs m) w && not (bit x.held w)) 32 v (bid_to (M.missing rs m x.held) _ _ _ _ v e)).below

    chosen_sent : Byte m → (c : M.Choice) → M.choice rs m x ≡ c → length (M.step_bytes rs m x c) ≤ buffer_length
        → StepSmall (M.answer_by rs m x c) × AllBytes (wrote (M.answer_by rs m x c) (written (M.step_bytes rs m x c) b))
    unfolding M.answer_by M.sent_by wrote
    chosen_sent h M.takes_turn e r =
        let u : TurnSmall (M.turn_taken rs m x).turn = turn_small rs m x.received x.own in
        let g : Bytes (M.step_bytes rs m x M.takes_turn) = releases_bytes (M.turn_taken rs m x).turn u h 32 (omega arith) in
        ((u, omega arith), in_pieces (length (M.step_bytes rs m x M.takes_turn) / release_size) (written (M.step_bytes rs m x M.takes_turn) b) (λ j k. first_written (M.step_bytes rs m x M.takes_turn) b g j (omega arith)))
    chosen_sent h (M.bids_to v) e r =
        let k : v < 32 = module_bid v e in
        let g : Bytes (M.step_bytes rs m x (M.bids_to v)) = one_message (Bid m v) (h, omega arith) in
        ((omega arith, omega arith), (taken (length (M.step_bytes rs m x (M.bids_to v))) (written (M.step_bytes rs m x (M.bids_to v)) b) (first_written (M.step_bytes rs m x (M.bids_to v)) b g), tt))
    chosen_sent h M.waits e r = (tt, tt)

    module_sent_in : Sendable (M.step_by (Ok tt) rs m x b)
    unfolding M.step_by M.step_in wrote
    module_sent_in =
        choose Sendable (ltb m (modules_of rs)) _ _ (λ p. choose Sendable (M.module_fits rs m x) _ _
        (λ f. choose Sendable (short (M.step_bytes rs m x (M.choice rs m x)) b) _ _ (λ q. (refl, tt))
        (λ q. chosen_sent (omega (arith, ltb-true m (modules_of rs) p, plan.modules.1)) (M.choice rs m x) refl (omega (arith, ltb-false (length b) (length (M.step_bytes rs m x (M.choice rs m x))) q))))
        (λ f. (refl, tt))) (λ p. (refl, tt))

pub module_sent : (image : List ℕ) → IsPlan image → (m : ℕ) (x : Module) (b : List ℕ) → length b ≡ buffer_length → Sendable (M.module_step image m x b)
module_sent image a m x b l =
    subst (λ (v : Result ⊤ Refusal). Sendable (M.step_by v (records_of image) m x b)) (sym a) (module_sent_in (records_of image) (every_plan image a).sound m x b l)

-- ---- a supervisor's step

abbrev Servable : S.ServeCall → Type 0
Servable c = ServeSmall c.answer × AllBytes (wrote_out c.answer c.buffer)

module _ (rs : List Record) (plan : Sound rs) (v : ℕ) (y : Supervisor) (b : List ℕ) (l : length b ≡ buffer_length) where
  serves : Byte v → (o : Option ℕ) → S.served y ≡ o → length (S.step_bytes rs v y o) ≤ buffer_length
      → ServeSmall (S.answer_by (S.step_bytes rs v y o) o) × AllBytes (wrote_out (S.answer_by (S.step_bytes rs v y o) o) (written (S.step_bytes rs v y o) b))
  unfolding S.answer_by S.sent_to wrote_out
  serves h None e r = (tt, tt)
  serves h (Some m) e r =
      let k : m < 16 = served_small y m e in
      let p : List ℕ = S.step_bytes rs v y (Some m) in
      let g : Bytes p = one_message (Permit v m (shown rs v y.state)) (h, omega arith) in
      ((omega arith, omega arith), (taken (length p) (written p b) (first_written p b g), tt))

  supervisor_sent_in : Servable (S.step_by (Ok tt) rs v y b)
  unfolding S.step_by S.step_in wrote_out
  supervisor_sent_in =
      choose Servable (ltb v (supervisors_of rs)) _ _ (λ p. choose Servable (S.supervisor_fits rs v y) _ _
      (λ f. choose Servable (short (S.step_bytes rs v y (S.served y)) b) _ _ (λ q. (refl, tt))
      (λ q. serves (omega (arith, ltb-true v (supervisors_of rs) p, plan.supervisors)) (S.served y) refl (omega (arith, ltb-false (length b) (length (S.step_bytes rs v y (S.served y))) q))))
      (λ f. (refl, tt))) (λ p. (refl, tt))

pub supervisor_sent : (image : List ℕ) → IsPlan image → (v : ℕ) (y : Supervisor) (b : List ℕ) → length b ≡ buffer_length → Servable (S.supervisor_step image v y b)
supervisor_sent image a v y b l =
    subst (λ (w : Result ⊤ Refusal). Servable (S.step_by w (records_of image) v y b)) (sym a) (supervisor_sent_in (records_of image) (every_plan image a).sound v y b l)
