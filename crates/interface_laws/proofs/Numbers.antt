-- `SameNumbers` of specs/Laws.antt.
use Rattle.refusal.specs.Refusal.{refused_number}
use Rattle.std.specs.Prelude.{Option, Some, None, Result, Ok, Err, ⊤}
use Rattle.refusal.specs.declared.Refusal.{Refusal}
use Rattle.messages.specs.declared.Message.{Message}
use Rattle.records.specs.declared.Record.{Record}
use mathlib.Core.Path.{◌≡◌, refl, sym, ap, ◌∙◌}
use mathlib.Core.List.{List}
use mathlib.Core.Bool.{Bool, true, false, cond, ◌&&◌}
use Prim.Native.Nat.{ℕ, ◌%◌, ◌≤◌, ◌<◌}
use native.Mathlib.Omega.{arith}
use lib.ListN.{length, get_or}
use lib.Dec.{eqb, leb, ltb, lit<}
use borrow.Author.Tests.{ne_eqb, eqb-false, leb-true, le-ltb}
use Rattle.records.specs.Kinds.{kind_of, size_of}
use Rattle.reader.specs.Read.{read_at, read_number}
use Rattle.reader.specs.declared.NoRecord.{NoRecord}
use Rattle.reader.specs.declared.NoRecord.TheVariants.{Unknown, Cut, Nothing as Absent}
use Rattle.writer.specs.Write.{answer_of}
use Rattle.messages.specs.Message.{message_bytes, short, parse, parsed_number}
use Rattle.rules.specs.Check.{verdict_of}
use Rattle.paper.specs.Print.{answer_by as print_answer}
use Rattle.device.specs.Device.{start_call}
use Rattle.permits.specs.Module.{module_start}
use Rattle.permits.specs.Supervisor.{supervisor_start}
use Rattle.permits.specs.declared.Stepped.{Stepped}
use Rattle.permits.specs.declared.Stepped.TheVariants.{Turns, Bids, Waits}
use Rattle.permits.specs.declared.Served.{Served}
use Rattle.permits.specs.declared.Served.TheVariants.{Sends, Waits as ServedWaits}
use Rattle.pieces.specs.Pieces.{starting, verdict_by}
use Rattle.pieces.specs.declared.Stage.TheVariants.{Open, Ended, Faulty}
use Rattle.fields.specs.Fields.{is_flag}
use Rattle.fields.proofs.Back.{and_left, and_right}
use Rattle.words.specs.Word.{quad_at}
use Rattle.piece_bytes.specs.State.{stage_of, is_stage, is_state, state_at, state_bytes}
use Rattle.piece_interface.specs.Calls.{check_start_bytes, check_piece_bytes, check_answer_bytes}
use Rattle.refusals.specs.Table as Table
use Rattle.refusals.specs.Table.{CallKind}
use Rattle.refusals.specs.Refusals.{OfCheck, Answer}
use Rattle.refusals.proofs.Table.{is_refusal, is_byte}
use Rattle.refusals.proofs.Cases.{done}
use Rattle.refusals.proofs.Refusals.{refusals}
use Rattle.device_bytes.specs.Device.{device_size, device_bytes, device_of}
use Rattle.party_bytes.specs.Module.{module_size, module_bytes, module_of}
use Rattle.party_bytes.specs.Supervisor.{supervisor_size, supervisor_bytes, supervisor_of}
use Rattle.packing.specs.Answer.{packed, called_answer, turn_answer, turning_answer, stepped_answer, served_answer, start_answer, length_answer}
use Rattle.packing.specs.Flow.{flow_of}
use Rattle.plan_interface.specs.Records.{read_by, record_by, write_by}
use Rattle.plan_interface.specs.Pages.{print_by}
use Rattle.plan_interface.specs.Messages.{message_kind, parsed_answer, message_by, write_parsed}
use Rattle.blocking.proofs.OneAnswer.{one_answer}
use Rattle.analysis_interface.specs.Analysis.{blocking_answer}
use Rattle.counting.proofs.OneAnswer.{one_answer as one-count}
use Rattle.device_interface.specs.Calls as Device
use Rattle.module_interface.specs.Calls as Module
use Rattle.supervisor_interface.specs.Calls as Supervisor
use Rattle.interface_laws.specs.Laws.{number_of, start_number, record_number, message_number, SameNumbers}

-- what is done has the number 0, and what is refused its own
pub accepted : (d v s : ℕ) → packed 0 d v s % 256 ≡ 0
unfolding packed
accepted d v s = omega arith

small : (n o : ℕ) → n < 256 → packed n 0 0 o % 256 ≡ n
unfolding packed
small n o h = omega arith

-- of what a call refuses
number : (c : CallKind) {X : Type 0} (e : Refusal) → Answer {X = X} c (Err e) → packed e.number 0 0 e.offset % 256 ≡ e.number
number c e h = small e.number e.offset (is_byte c e.number (h.numbered e refl))

called_number_lem : (c : CallKind) (a : Result ⊤ Refusal) → Answer c a → called_answer a % 256 ≡ refused_number a
unfolding called_answer
called_number_lem c (Ok u) h = accepted 0 0 0
called_number_lem c (Err e) h = number c e h

length_number_lem : (c : CallKind) (a : Result ℕ Refusal) → Answer c a → length_answer a % 256 ≡ refused_number a
unfolding length_answer
length_number_lem c (Ok n) h = accepted 0 0 n
length_number_lem c (Err e) h = number c e h

-- ---- the calls on one record and on one message

read_number_lem : (s : List ℕ) (at : ℕ) (x : Result (Record × ℕ) NoRecord) → read_by s at x % 256 ≡ read_number x
unfolding read_by
read_number_lem s at (Ok (r, n)) = accepted 0 (kind_of r) (size_of r)
read_number_lem s at (Err Unknown) = small 2 _ (lit< tt)
read_number_lem s at (Err Cut) = small 3 _ (lit< tt)
read_number_lem s at (Err Absent) = small 3 _ (lit< tt)

record_number_lem : (f : Option Record) (l : List ℕ) → number_of (write_by f l) ≡ record_number f l
unfolding write_by
record_number_lem (Some r) l = length_number_lem Table.write_record (answer_of r l) (refusals.writers.write r l).answer
record_number_lem None l = small 5 0 (lit< tt)

parsed_number_lem : (p : Option Message) → parsed_answer p % 256 ≡ parsed_number p
unfolding parsed_answer
parsed_number_lem (Some g) = accepted 0 (message_kind g) (length (message_bytes g))
parsed_number_lem None = small 10 0 (lit< tt)

message_number_lem : (p : Option Message) (l : List ℕ) → number_of (write_parsed p l) ≡ message_number p l
unfolding write_parsed
message_number_lem (Some g) l = go (short (message_bytes g) l) refl
  where
    go : (t : Bool) → short (message_bytes g) l ≡ t → number_of (write_parsed (Some g) l) ≡ cond (short (message_bytes g) l) 15 0
    go true e = simp e (small 15 0 (lit< tt))
    go false e = simp e (accepted 0 0 (length (message_bytes g)))
message_number_lem None l = small 10 0 (lit< tt)

-- ---- the calls on states

pub turn_number : (t : Option ℕ) (s : ℕ) → turn_answer t s % 256 ≡ 0
unfolding turn_answer
turn_number (Some e) s = accepted 1 e s
turn_number None s = accepted 3 0 s

turning_number_lem : (a : Result (Option ℕ) Refusal) → Answer Table.turn a → turning_answer a % 256 ≡ refused_number a
unfolding turning_answer
turning_number_lem (Ok t) h = turn_number t 0
turning_number_lem (Err e) h = number Table.turn e h

stepped_number_lem : (a : Result Stepped Refusal) → Answer Table.module_step a → stepped_answer a % 256 ≡ refused_number a
unfolding stepped_answer
stepped_number_lem (Ok (Turns t s)) h = turn_number t s
stepped_number_lem (Ok (Bids v s)) h = accepted 4 v s
stepped_number_lem (Ok Waits) h = accepted 6 0 0
stepped_number_lem (Err e) h = number Table.module_step e h

served_number_lem : (a : Result Served Refusal) → Answer Table.supervisor_step a → served_answer a % 256 ≡ refused_number a
unfolding served_answer
served_number_lem (Ok (Sends m s)) h = accepted 5 m s
served_number_lem (Ok ServedWaits) h = accepted 6 0 0
served_number_lem (Err e) h = number Table.supervisor_step e h

start_number_lem : (c : CallKind) (size : ℕ) (a : Result ⊤ Refusal) (bytes l : List ℕ) → Answer c a → number_of (start_answer size a bytes l) ≡ start_number size (refused_number a) l
unfolding start_answer
start_number_lem c size (Ok u) bytes l h = go (ltb (length l) size) refl
  where
    go : (t : Bool) → ltb (length l) size ≡ t → number_of (start_answer size (Ok tt) bytes l) ≡ cond (ltb (length l) size) 15 0
    go true e = simp e (unfold packed in refl)
    go false e = simp e (accepted 0 0 size)
start_number_lem c size (Err e) bytes l h =
    number c e h ∙ sym (ap (λ (q : Bool). cond q (cond (ltb (length l) size) 15 0) e.number) (ne_eqb e.number 0 (is_refusal c e.number (h.numbered e refl))))

-- ---- the check in pieces

pub stage_of_check : (x n o : ℕ) → is_stage x n o ≡ true → OfCheck (stage_of x n o)
unfolding is_stage stage_of
stage_of_check x n o h = go (eqb x 0) (eqb x 1) refl refl
  where
    go : (a b : Bool) → eqb x 0 ≡ a → eqb x 1 ≡ b → OfCheck (cond a Open (cond b Ended (Faulty n o)))
    go true b e f = tt
    go false true e f = tt
    go false false e f =
        let z : x ≡ 0 → ⊥ = eqb-false x 0 e in
        let u : x ≡ 1 → ⊥ = eqb-false x 1 f in
        let two : 2 ≤ x = omega arith in
        let all : (eqb x 2 && (leb 2 n && leb n 8)) ≡ true = sym (ap (λ (t : Bool). cond t (eqb n 0 && eqb o 0) (eqb x 2 && (leb 2 n && leb n 8))) (le-ltb x 2 two)) ∙ h in
        let w : (leb 2 n && leb n 8) ≡ true = and_right (eqb x 2) (leb 2 n && leb n 8) all in
        (leb-true 2 n (and_left (leb 2 n) (leb n 8) w), leb-true n 8 (and_right (leb 2 n) (leb n 8) w))

-- of bytes that stand for a state
pub of_check : (s : List ℕ) → is_state s ≡ true → OfCheck (state_at s).stage
unfolding is_state state_at
of_check s h =
    let st : Bool = is_stage (get_or s 0 0) (get_or s 1 0) (quad_at s 2) in
    let f : Bool = is_flag (get_or s 23 0) in
    stage_of_check (get_or s 0 0) (get_or s 1 0) (quad_at s 2) (and_left st f (and_right (eqb (length s) 495) (st && f) h))

piece_number : (s p : List ℕ) → number_of (check_piece_bytes s p) ≡ cond (is_state s) 0 9
unfolding check_piece_bytes
piece_number s p = go (is_state s) refl
  where
    go : (t : Bool) → is_state s ≡ t → number_of (check_piece_bytes s p) ≡ cond (is_state s) 0 9
    go true e = simp e (accepted 0 0 0)
    go false e = simp e (small 9 0 (lit< tt))

answer_number : (s : List ℕ) → check_answer_bytes s % 256 ≡ cond (is_state s) (refused_number (verdict_by (state_at s))) 9
unfolding check_answer_bytes
answer_number s = go (is_state s) refl
  where
    go : (t : Bool) → is_state s ≡ t → check_answer_bytes s % 256 ≡ cond (is_state s) (refused_number (verdict_by (state_at s))) 9
    go true e = simp e (called_number_lem Table.check (verdict_by (state_at s)) (refusals.checker.pieces (state_at s) (of_check s e)))
    go false e = simp e (small 9 0 (lit< tt))

-- ---- the analyses of a plan

blocking_number_lem : (a : Result (Option ℕ) Refusal) → Answer Table.find_stuck a → blocking_answer a % 256 ≡ refused_number a
unfolding blocking_answer
blocking_number_lem (Ok None) h = accepted 7 0 0
blocking_number_lem (Ok (Some n)) h = accepted 8 0 n
blocking_number_lem (Err e) h = number Table.find_stuck e h

pub same_numbers : SameNumbers
same_numbers =
    record {
      check = λ image. called_number_lem Table.check (verdict_of image) (refusals.checker.check image);
      check_start = λ l. unfold check_start_bytes in start_number_lem Table.check 495 (Ok tt) (state_bytes starting) l (done Table.check);
      check_piece = piece_number;
      check_answer = answer_number;
      read_record = λ s at. read_number_lem s at (read_at s at);
      write_record = λ k a b c d w l. record_number_lem (record_by k a b c d w) l;
      print_plan = λ image l. unfold print_by in length_number_lem Table.print_plan (print_answer (verdict_of image) image l) (refusals.writers.print image l).answer;
      read_message = λ g. parsed_number_lem (parse g);
      write_message = λ k a b e w l. message_number_lem (message_by k a b e w) l;
      device_start = λ image l. unfold Device.start_bytes in start_number_lem Table.device_start device_size (start_call image).answer (device_bytes (start_call image).device) l (refusals.device.start image);
      device_turn = λ image s m. unfold Device.turn_bytes in turning_number_lem _ (refusals.device.turn image (device_of s) m).answer;
      device_respond = λ image s m e. unfold Device.respond_bytes in called_number_lem Table.respond _ (refusals.device.respond image (device_of s) m e).answer;
      device_tick = λ image s m f x. unfold Device.tick_bytes in called_number_lem Table.tick _ (refusals.device.tick image (device_of s) m (flow_of f x)).answer;
      module_start = λ image m l. unfold Module.start_bytes in start_number_lem Table.start module_size (module_start image m).answer (module_bytes (module_start image m).state) l (refusals.modules.start image m);
      module_step = λ image s m l. unfold Module.step_bytes in stepped_number_lem _ (refusals.modules.step image m (module_of s) l).answer;
      module_deliver = λ image s m g. unfold Module.deliver_bytes in called_number_lem Table.deliver _ (refusals.modules.deliver image m (module_of s) g).answer;
      module_respond = λ image s m e. unfold Module.respond_bytes in called_number_lem Table.respond _ (refusals.modules.respond image m (module_of s) e).answer;
      module_tick = λ image s m f x. unfold Module.tick_bytes in called_number_lem Table.tick _ (refusals.modules.tick image m (module_of s) (flow_of f x)).answer;
      supervisor_start = λ image v l. unfold Supervisor.start_bytes in start_number_lem Table.start supervisor_size (supervisor_start image v).answer (supervisor_bytes (supervisor_start image v).state) l (refusals.supervisors.start image v);
      supervisor_step = λ image s v l. unfold Supervisor.step_bytes in served_number_lem _ (refusals.supervisors.step image v (supervisor_of s) l).answer;
      supervisor_deliver = λ image s v g. unfold Supervisor.deliver_bytes in called_number_lem Table.deliver _ (refusals.supervisors.deliver image v (supervisor_of s) g).answer;
      find_stuck = λ image l a r after t f.
          ap (λ (x : ℕ). x % 256) f.packed
          ∙ blocking_number_lem f.answer (refusals.analyses.find_stuck image l f.answer after f.told).answer
          ∙ ap refused_number (one_answer image l f.answer a after after f.told t).0;
      count_words = λ image m l a r after t f.
          ap (λ (x : ℕ). x % 256) f.packed
          ∙ length_number_lem Table.count_words f.answer (refusals.analyses.count_words image m l f.answer after f.told).answer
          ∙ ap refused_number (one-count image m l f.answer a after after f.told t).0;
    }
