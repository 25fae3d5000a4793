-- What a refused writer leaves of the buffer.
use Rattle.std.specs.Prelude.{Result, Ok, Err, ⊤}
use Rattle.refusal.specs.Refusal.{refusal}
use Rattle.refusal.proofs.Laws.{length_read_off}
use Rattle.refusal.specs.declared.Refusal.{Refusal}
use Prim.Native.Nat.{ℕ}
use mathlib.Core.Path.{◌≡◌, refl}
use mathlib.Core.List.{List}
use mathlib.Core.Bool.{Bool, true, false, cond}
use lib.ListN.{length}
use lib.Dec.{ltb}
use borrow.Author.Tests.{ltb-false}
use Rattle.records.specs.Kinds.{size_of}
use Rattle.records.specs.Bytes.{bytes_of}
use Rattle.records.specs.Range.{in_range}
use Rattle.records.specs.declared.Record.{Record}
use Rattle.rules.specs.Check.{verdict_of}
use Rattle.writer.specs.Write.{answer_of}
use Rattle.writer.proofs.Writing.{length_bytes}
use Rattle.rewrite.specs.Rewrite.{plan_bytes, answer_by as rewrite_answer, buffer_by as rewrite_buffer}
use Rattle.paper.specs.Print.{plan_page_set, answer_by as print_answer, buffer_by as print_buffer}
use Rattle.messages.specs.Message.{message_bytes, fits_at, put_at}
use Rattle.messages.specs.declared.Message.{Message}
use Rattle.refusals.specs.Table as Table
use Rattle.refusals.specs.Table.{Gives}
use Rattle.refusals.specs.Refusals.{OffsetRight, CheckAnswer, Write, Rewrite, Print, Writers}
use Rattle.refusals.proofs.Table.{passed}
use Rattle.refusals.proofs.Cases.{either, at_zero, accepts, refuses, untouched, put}
use Rattle.refusals.proofs.Checked.{checked}

-- one record
write_refused : (n : ℕ) (r : Record) (b : List ℕ) → Gives Table.write_record n → Write r b (Err (refusal n 0))
write_refused n r b t =
    record {
      answer = refuses Table.write_record (refusal n 0) t (at_zero n);
      offset = refl;
      bytes = length_read_off _;
      buffer = untouched n b;
    }

write : (r : Record) (b : List ℕ) → Write r b (answer_of r b)
unfolding answer_of
write r b = either (Write r b) (in_range r) (go (ltb (length b) (size_of r)) refl) (write_refused 5 r b refl)
  where
    go : (q : Bool) → ltb (length b) (size_of r) ≡ q → Write r b (cond q (Err (refusal 15 0)) (Ok (size_of r)))
    go true e = write_refused 15 r b refl
    go false e =
        record {
          answer = accepts Table.write_record _;
          offset = refl;
          bytes = length_read_off _;
          buffer = put (size_of r) (bytes_of r) b (length_bytes r) (ltb-false _ _ e);
        }

-- an accepted plan
rewrite_refused : (n o : ℕ) (s b : List ℕ) → Gives Table.rewrite n → OffsetRight n o → Rewrite s b (Err (refusal n o))
unfolding rewrite_buffer
rewrite_refused n o s b t p =
    record { answer = refuses Table.rewrite (refusal n o) t p; bytes = length_read_off _; buffer = untouched n b }

rewrite : (s b : List ℕ) (v : Result ⊤ Refusal) → CheckAnswer v → Rewrite s b (rewrite_answer v s b)
unfolding rewrite_answer rewrite_buffer
rewrite s b (Err e) j = rewrite_refused e.number e.offset s b (passed Table.check Table.rewrite refl e.number (j.numbered e refl)) j.offset_right
rewrite s b (Ok u) j = go (ltb (length b) (length (plan_bytes s))) refl
  where
    go : (q : Bool) → ltb (length b) (length (plan_bytes s)) ≡ q → Rewrite s b (cond q (Err (refusal 15 0)) (Ok (length (plan_bytes s))))
    go true e = rewrite_refused 15 0 s b refl (at_zero 15)
    go false e =
        record {
          answer = accepts Table.rewrite _;
          bytes = length_read_off _;
          buffer = put (length (plan_bytes s)) (plan_bytes s) b refl (ltb-false _ _ e);
        }

-- a plan on paper
print_refused : (n o : ℕ) (s b : List ℕ) → Gives Table.print_plan n → OffsetRight n o → Print s b (Err (refusal n o))
unfolding print_buffer
print_refused n o s b t p =
    record { answer = refuses Table.print_plan (refusal n o) t p; bytes = length_read_off _; buffer = untouched n b }

print : (s b : List ℕ) (v : Result ⊤ Refusal) → CheckAnswer v → Print s b (print_answer v s b)
unfolding print_answer print_buffer
print s b (Err e) j = print_refused e.number e.offset s b (passed Table.check Table.print_plan refl e.number (j.numbered e refl)) j.offset_right
print s b (Ok u) j = go (ltb (length b) (length (plan_page_set s))) refl
  where
    go : (q : Bool) → ltb (length b) (length (plan_page_set s)) ≡ q → Print s b (cond q (Err (refusal 15 0)) (Ok (length (plan_page_set s))))
    go true h = print_refused 15 0 s b refl (at_zero 15)
    go false h =
        record {
          answer = accepts Table.print_plan _;
          bytes = length_read_off _;
          buffer = put (length (plan_page_set s)) (plan_page_set s) b refl (ltb-false _ _ h);
        }

message : (g : Message) (at : ℕ) (b : List ℕ) → fits_at (message_bytes g) at b ≡ false → put_at (message_bytes g) at b ≡ b
unfolding put_at
message g at b e = simp e

pub writers : Writers
writers = record { write = write; rewrite = λ s b. rewrite s b (verdict_of s) (checked s); print = λ s b. print s b (verdict_of s) (checked s); message = message }
