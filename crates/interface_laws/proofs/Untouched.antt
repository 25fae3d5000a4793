-- `AllUntouched` of specs/Laws.antt.
use Rattle.refusal.specs.Refusal.{refused_number}
use Rattle.std.specs.Prelude.{Option, Some, None, Result, Ok, Err, ⊤}
use Rattle.refusal.specs.declared.Refusal.{Refusal}
use Rattle.messages.specs.declared.Message.{Message}
use mathlib.Core.Path.{◌≡◌, refl, ap, ◌∙◌}
use mathlib.Core.Logic.{◌≢◌}
use mathlib.Core.List.{List, []}
use mathlib.Core.Bool.{Bool, true, false, cond}
use Prim.Native.Nat.{ℕ, ◌%◌}
use lib.ListN.{length}
use lib.Dec.{ltb}
use borrow.Author.Tests.{ne_eqb}
use Rattle.records.specs.declared.Record.{Record}
use Rattle.writer.specs.Write.{answer_of, buffer_by}
use Rattle.messages.specs.Message.{message_bytes, short, written}
use Rattle.device.specs.Device.{start_call}
use Rattle.permits.specs.Module.{module_start, module_step}
use Rattle.permits.specs.Supervisor.{supervisor_start, supervisor_step}
use Rattle.refusals.proofs.Refusals.{refusals}
use Rattle.device_bytes.specs.Device.{device_size, device_bytes}
use Rattle.party_bytes.specs.Module.{module_size, module_bytes, module_of}
use Rattle.party_bytes.specs.Supervisor.{supervisor_size, supervisor_bytes, supervisor_of}
use Rattle.packing.specs.Answer.{Answer, packed, lent_after, start_answer, length_answer}
use Rattle.pieces.specs.Pieces.{starting, piece_taken}
use Rattle.piece_bytes.specs.State.{is_state, state_at, state_bytes}
use Rattle.piece_interface.specs.Calls.{check_start_bytes, check_piece_bytes}
use Rattle.plan_interface.specs.Records.{record_by, write_by}
use Rattle.plan_interface.specs.Pages.{print_by}
use Rattle.plan_interface.specs.Messages.{message_by, write_parsed}
use Rattle.device_interface.specs.Calls as Device
use Rattle.module_interface.specs.Calls as Module
use Rattle.supervisor_interface.specs.Calls as Supervisor
use Rattle.interface_laws.specs.Laws.{number_of, Untouched, AllUntouched}
use Rattle.interface_laws.proofs.Numbers.{accepted, same_numbers}

-- an accepted answer is not refused
taken : (a : Answer) (s l : List ℕ) → number_of a ≡ 0 → Untouched a s l
taken a s l e = record { state = λ n. absurd (n e); buffer = λ n. absurd (n e) }

-- ---- calls with a buffer

start_untouched : (size : ℕ) (c : Result ⊤ Refusal) (bytes l : List ℕ) → Untouched (start_answer size c bytes l) [] l
unfolding start_answer
start_untouched size (Ok u) bytes l = go (ltb (length l) size) refl
  where
    go : (t : Bool) → ltb (length l) size ≡ t → Untouched (start_answer size (Ok tt) bytes l) [] l
    go true e = simp e (record { state = λ n. refl; buffer = λ n. refl })
    go false e = simp e (taken (record { number = packed 0 0 0 size; state = []; buffer = written bytes l }) [] l (accepted 0 0 size))
start_untouched size (Err e) bytes l = record { state = λ n. refl; buffer = λ n. refl }

written_untouched : (r : Record) (l : List ℕ) (w : Result ℕ Refusal) → Untouched (record { number = length_answer w; state = []; buffer = buffer_by w r l }) [] l
unfolding length_answer
written_untouched r l (Ok n) = taken (record { number = packed 0 0 0 n; state = []; buffer = buffer_by (Ok n) r l }) [] l (accepted 0 0 n)
written_untouched r l (Err e) = record { state = λ n. refl; buffer = λ n. refl }

record_untouched : (f : Option Record) (l : List ℕ) → Untouched (write_by f l) [] l
unfolding write_by
record_untouched (Some r) l = written_untouched r l (answer_of r l)
record_untouched None l = record { state = λ n. refl; buffer = λ n. refl }

message_untouched : (p : Option Message) (l : List ℕ) → Untouched (write_parsed p l) [] l
unfolding write_parsed
message_untouched (Some g) l = go (short (message_bytes g) l) refl
  where
    go : (t : Bool) → short (message_bytes g) l ≡ t → Untouched (write_parsed (Some g) l) [] l
    go true e = simp e (record { state = λ n. refl; buffer = λ n. refl })
    go false e = simp e (taken (record { number = packed 0 0 0 (length (message_bytes g)); state = []; buffer = written (message_bytes g) l }) [] l (accepted 0 0 (length (message_bytes g))))
message_untouched None l = record { state = λ n. refl; buffer = λ n. refl }

-- ---- calls on a state

lent_same : (n : ℕ) (after s : List ℕ) → n ≢ 0 → lent_after n after s ≡ s
unfolding lent_after
lent_same n after s h = ap (λ (t : Bool). cond t after s) (ne_eqb n 0 h)

-- a call of number n whose answer has that number
on_state : (n number : ℕ) (after s : List ℕ) → number % 256 ≡ n → Untouched (record { number = number; state = lent_after n after s; buffer = [] }) s []
on_state n number after s e = record { state = λ h. lent_same n after s (λ z. h (e ∙ z)); buffer = λ h. refl }

piece_untouched : (s p : List ℕ) → Untouched (check_piece_bytes s p) s []
unfolding check_piece_bytes
piece_untouched s p = go (is_state s) refl
  where
    go : (t : Bool) → is_state s ≡ t → Untouched (check_piece_bytes s p) s []
    go true e = simp e (taken (record { number = packed 0 0 0 0; state = state_bytes (piece_taken (state_at s) p); buffer = [] }) s [] (accepted 0 0 0))
    go false e = simp e (record { state = λ n. refl; buffer = λ n. refl })

pub all_untouched : AllUntouched
all_untouched =
    record {
      check_start = λ l. unfold check_start_bytes in start_untouched 495 (Ok tt) (state_bytes starting) l;
      check_piece = piece_untouched;
      write_record = λ k a b c d w l. record_untouched (record_by k a b c d w) l;
      print_plan = λ image l. unfold print_by in
          record {
            state = λ h. refl;
            buffer = λ h. (refusals.writers.print image l).buffer.untouched (λ z. h (same_numbers.print_plan image l ∙ z));
          };
      write_message = λ k a b e w l. message_untouched (message_by k a b e w) l;
      device_start = λ image l. unfold Device.start_bytes in start_untouched device_size (start_call image).answer (device_bytes (start_call image).device) l;
      device_turn = λ image s m. unfold Device.turn_bytes in on_state _ _ _ s (same_numbers.device_turn image s m);
      device_respond = λ image s m e. unfold Device.respond_bytes in on_state _ _ _ s (same_numbers.device_respond image s m e);
      device_tick = λ image s m f x. unfold Device.tick_bytes in on_state _ _ _ s (same_numbers.device_tick image s m f x);
      module_start = λ image m l. unfold Module.start_bytes in start_untouched module_size (module_start image m).answer (module_bytes (module_start image m).state) l;
      module_step = λ image s m l. unfold Module.step_bytes in
          record {
            state = λ h. lent_same (refused_number (module_step image m (module_of s) l).answer) _ s (λ z. h (same_numbers.module_step image s m l ∙ z));
            buffer = λ h. (refusals.modules.step image m (module_of s) l).buffer.untouched (λ z. h (same_numbers.module_step image s m l ∙ z));
          };
      module_deliver = λ image s m g. unfold Module.deliver_bytes in on_state _ _ _ s (same_numbers.module_deliver image s m g);
      module_respond = λ image s m e. unfold Module.respond_bytes in on_state _ _ _ s (same_numbers.module_respond image s m e);
      module_tick = λ image s m f x. unfold Module.tick_bytes in on_state _ _ _ s (same_numbers.module_tick image s m f x);
      supervisor_start = λ image v l. unfold Supervisor.start_bytes in start_untouched supervisor_size (supervisor_start image v).answer (supervisor_bytes (supervisor_start image v).state) l;
      supervisor_step = λ image s v l. unfold Supervisor.step_bytes in
          record {
            state = λ h. lent_same (refused_number (supervisor_step image v (supervisor_of s) l).answer) _ s (λ z. h (same_numbers.supervisor_step image s v l ∙ z));
            buffer = λ h. (refusals.supervisors.step image v (supervisor_of s) l).buffer.untouched (λ z. h (same_numbers.supervisor_step image s v l ∙ z));
          };
      supervisor_deliver = λ image s v g. unfold Supervisor.deliver_bytes in on_state _ _ _ s (same_numbers.supervisor_deliver image s v g);
      find_stuck = λ image l r after f.
          record {
            state = λ h. refl;
            buffer = λ h. (refusals.analyses.find_stuck image l f.answer after f.told).buffer.untouched (λ z. h (same_numbers.find_stuck image l f.answer r after f.told f ∙ z));
          };
      count_words = λ image m l r after f.
          record {
            state = λ h. refl;
            buffer = λ h. (refusals.analyses.count_words image m l f.answer after f.told).buffer.untouched (λ z. h (same_numbers.count_words image m l f.answer r after f.told f ∙ z));
          };
    }
