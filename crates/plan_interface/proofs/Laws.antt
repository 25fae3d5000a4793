-- Records, pages and messages over lent bytes, from what the code is told.
use Rattle.std.specs.Prelude.{Option, Some, None, Result, Ok, Err}
use Rattle.refusal.specs.declared.Refusal.{Refusal}
use mathlib.Core.Path.{◌≡◌, refl, sym, ap, ap₂, ◌∙◌}
use mathlib.Core.List.{List, []}
use mathlib.Core.Bool.{Bool, true, false, not}
use Prim.Native.Nat.{ℕ}
use lib.ListN.{length}
use Rattle.records.specs.Kinds.{kind_of, size_by}
use Rattle.records.specs.declared.Record.{Record}
use Rattle.reader.specs.Read.{stop_number, read_offset, read_at}
use Rattle.reader.specs.declared.NoRecord.{NoRecord}
use Rattle.writer.specs.Write.{Wrote, buffer_by}
use Rattle.messages.specs.Message.{message_bytes, parse, short}
use Rattle.messages.specs.Write.{Wrote as Put}
use Rattle.messages.specs.declared.Message.{Message}
use Rattle.messages.proofs.Writing.{start_fits, put_start, put_short}
use Rattle.paper.specs.Print.{buffer_by as pages_by, PagesAs}
use Rattle.packing.specs.Answer.{Answer, Answered, packed, length_answer}
use Rattle.plan_interface.specs.Records.{read_by, read_answer, record_by, write_by, write_bytes}
use Rattle.plan_interface.specs.Pages.{print_by, print_bytes}
use Rattle.plan_interface.specs.Messages.{message_kind, parsed_answer, read_message_answer, message_by, write_parsed, write_message_bytes}

-- ---- a record read

module _ (s : List ℕ) (at : ℕ) {x : Result (Record × ℕ) NoRecord} (e : x ≡ read_at s at) {r : ℕ} where
  by_case : {y : Result (Record × ℕ) NoRecord} → x ≡ y → r ≡ read_by s at y → r ≡ read_answer s at
  by_case f w = w ∙ ap (read_by s at) (sym f ∙ e)

  pub read_whole : {rec : Record} {n k z : ℕ} → x ≡ Ok (rec, n) → k ≡ kind_of rec → z ≡ size_by k → r ≡ packed 0 0 k z → r ≡ read_answer s at
  unfolding read_by
  read_whole f g h w = by_case f (w ∙ ap₂ (λ (a b : ℕ). packed 0 0 a b) g (h ∙ ap (λ (y : ℕ). size_by y) g))

  pub read_stop : {why is : NoRecord} → x ≡ Err why → why ≡ is → r ≡ packed (stop_number is) 0 0 (read_offset s at (Err is)) → r ≡ read_answer s at
  unfolding read_by
  read_stop f g w = by_case f (w ∙ ap (λ (y : NoRecord). read_by s at (Err y)) (sym g))

-- ---- a record written

module _ (k a b c d w : ℕ) (lent : List ℕ) {f : Option Record} (e : f ≡ record_by k a b c d w) where
  is_record : {g : Option Record} → f ≡ g → write_bytes k a b c d w lent ≡ write_by g lent
  is_record h = ap (λ (y : Option Record). write_by y lent) (sym e ∙ h)

  pub write_some : {r : ℕ} {rec : Record} {z : Result ℕ Refusal} {after : List ℕ} → f ≡ Some rec → Wrote rec lent z after → r ≡ length_answer z → Answered (write_bytes k a b c d w lent) r [] after
  unfolding write_by
  write_some {r} {rec} {z} h v x =
      let y : Answer = write_bytes k a b c d w lent in
      let is : y ≡ write_by (Some rec) lent = is_record h in
      record {
        answer = x ∙ ap length_answer v.answer ∙ sym (ap (λ (p : Answer). p.number) is);
        state = sym (ap (λ (p : Answer). p.state) is);
        buffer = v.buffer ∙ ap (λ (p : Result ℕ Refusal). buffer_by p rec lent) v.answer ∙ sym (ap (λ (p : Answer). p.buffer) is);
      }

  pub write_none : {r : ℕ} → f ≡ None → r ≡ packed 5 0 0 0 → Answered (write_bytes k a b c d w lent) r [] lent
  unfolding write_by
  write_none h x =
      let is : write_bytes k a b c d w lent ≡ write_by None lent = is_record h in
      record {
        answer = x ∙ sym (ap (λ (p : Answer). p.number) is);
        state = sym (ap (λ (p : Answer). p.state) is);
        buffer = sym (ap (λ (p : Answer). p.buffer) is);
      }

-- ---- a plan printed

pub print_by_lem : (s b : List ℕ) {r : ℕ} {p : Result ℕ Refusal} {after : List ℕ} → PagesAs s b p after → r ≡ length_answer p → Answered (print_bytes s b) r [] after
unfolding print_by
print_by_lem s b h e =
    record { answer = e ∙ ap length_answer h.answer; state = refl; buffer = h.buffer ∙ ap (λ (q : Result ℕ Refusal). pages_by q s b) h.answer }

-- ---- a message read

module _ (s : List ℕ) {x : Option Message} (e : x ≡ parse s) {r : ℕ} where
  pub message_whole : {g : Message} {k n : ℕ} → x ≡ Some g → k ≡ message_kind g → n ≡ length (message_bytes g) → r ≡ packed 0 0 k n → r ≡ read_message_answer s
  unfolding parsed_answer
  message_whole f h z w = w ∙ ap₂ (λ (a b : ℕ). packed 0 0 a b) h z ∙ ap parsed_answer (sym f ∙ e)

  pub message_misshapen : x ≡ None → r ≡ packed 10 0 0 0 → r ≡ read_message_answer s
  unfolding parsed_answer
  message_misshapen f w = w ∙ ap parsed_answer (sym f ∙ e)

-- ---- a message written

not_not : (b : Bool) {t : Bool} → t ≡ not b → not t ≡ b
not_not true h = ap not h
not_not false h = ap not h

module _ (kind first second event mask : ℕ) (lent : List ℕ) {x : Option Message} (e : x ≡ message_by kind first second event mask) where
  is_message : {g : Option Message} → x ≡ g → write_message_bytes kind first second event mask lent ≡ write_parsed g lent
  is_message h = ap (λ (y : Option Message). write_parsed y lent) (sym e ∙ h)

  by_message : {r : ℕ} {g : Option Message} {after : List ℕ} → x ≡ g → Answered (write_parsed g lent) r [] after → Answered (write_message_bytes kind first second event mask lent) r [] after
  by_message h a =
      let is = is_message h in
      record {
        answer = a.answer ∙ sym (ap (λ (p : Answer). p.number) is);
        state = a.state ∙ sym (ap (λ (p : Answer). p.state) is);
        buffer = a.buffer ∙ sym (ap (λ (p : Answer). p.buffer) is);
      }

  pub message_yes : {r : ℕ} {g : Message} {t : Bool} {n : ℕ} {after : List ℕ} → x ≡ Some g → Put g 0 lent t after → t ≡ true → n ≡ length (message_bytes g) → r ≡ packed 0 0 0 n
      → Answered (write_message_bytes kind first second event mask lent) r [] after
  unfolding write_parsed
  message_yes {r} {g} h v y z w =
      let fit : short (message_bytes g) lent ≡ false = sym (not_not (short (message_bytes g) lent) (v.answer ∙ start_fits (message_bytes g) lent)) ∙ ap not y in
      by_message h (simp fit (record { answer = w ∙ ap (λ (k : ℕ). packed 0 0 0 k) z; state = refl; buffer = v.buffer ∙ put_start (message_bytes g) lent fit }))

  pub message_no : {r : ℕ} {g : Message} {t : Bool} {after : List ℕ} → x ≡ Some g → Put g 0 lent t after → t ≡ false → r ≡ packed 15 0 0 0
      → Answered (write_message_bytes kind first second event mask lent) r [] after
  unfolding write_parsed
  message_no {r} {g} h v y w =
      let full : short (message_bytes g) lent ≡ true = sym (not_not (short (message_bytes g) lent) (v.answer ∙ start_fits (message_bytes g) lent)) ∙ ap not y in
      by_message h (simp full (record { answer = w; state = refl; buffer = v.buffer ∙ put_short (message_bytes g) lent full }))

  pub message_none : {r : ℕ} → x ≡ None → r ≡ packed 10 0 0 0 → Answered (write_message_bytes kind first second event mask lent) r [] lent
  unfolding write_parsed
  message_none h w = by_message h (record { answer = w; state = refl; buffer = refl })
