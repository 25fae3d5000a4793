-- The check of a plan, and the reader and the writer of one record, over lent bytes. The quotations are from include/pewterslug.h.
use Rattle.records.specs.declared.Record.{Record}
use Rattle.std.specs.Prelude.{ℕ, List, [], cond, eqb, Option, Some, None, Result, Ok, Err}
use Rattle.records.specs.Kinds.{kind_of, size_of}
use Rattle.records.specs.declared.Record.TheVariants.{Head, Event, Module, ModuleMove, Supervisor, SupervisorMove, Disabling, Step, Marking, End}
use Rattle.reader.specs.Read.{read_at, read_number, read_offset}
use Rattle.reader.specs.declared.NoRecord.{NoRecord}
use Rattle.rules.specs.Check.{verdict_of}
use Rattle.writer.specs.Write.{answer_of, buffer_by}
use Rattle.packing.specs.Answer.{Answer, refused, done, called_answer, length_answer}

abbrev pub check_answer : List ℕ → ℕ
check_answer image = called_answer (verdict_of image)

-- "Reads the record at an offset of an image, by shape alone: the value is its kind and the length that of the whole record"
unfoldable pub read_by : List ℕ → ℕ → Result (Record × ℕ) NoRecord → ℕ
read_by s at (Ok (r, next)) = done 0 (kind_of r) (size_of r)
read_by s at (Err why) = refused (read_number (Err why)) (read_offset s at (Err why))

abbrev pub read_answer : List ℕ → ℕ → ℕ
read_answer s at = read_by s at (read_at s at)

-- "Writes one record: the kind, the one-byte fields in the table's order, and the field of eight bytes; what the kind lacks is not looked at."
-- The field of eight bytes is w.
unfoldable pub word_record_by : ℕ → ℕ → ℕ → ℕ → ℕ → Option Record
word_record_by k a b c w =
    cond (eqb k 0x14) (Some (Supervisor a b c w))
    (cond (eqb k 0x16) (Some (Disabling a b w))
    (cond (eqb k 0x17) (Some (Step a b c w))
    (cond (eqb k 0x1f) (Some End) None)))

unfoldable pub record_by : ℕ → ℕ → ℕ → ℕ → ℕ → ℕ → Option Record
record_by k a b c d w =
    cond (eqb k 0x10) (Some (Head a b c))
    (cond (eqb k 0x11) (Some (Event a b c))
    (cond (eqb k 0x12) (Some (Module a b c))
    (cond (eqb k 0x13) (Some (ModuleMove a b c d))
    (cond (eqb k 0x15) (Some (SupervisorMove a b c d))
    (cond (eqb k 0x18) (Some (Marking a b)) (word_record_by k a b c w))))))

-- "A kind that is none is 5."
unfoldable pub write_by : Option Record → List ℕ → Answer
write_by (Some r) b = record { number = length_answer (answer_of r b); state = []; buffer = buffer_by (answer_of r b) r b }
write_by None b = record { number = refused 5 0; state = []; buffer = b }

abbrev pub write_bytes : ℕ → ℕ → ℕ → ℕ → ℕ → ℕ → List ℕ → Answer
write_bytes k a b c d w buffer = write_by (record_by k a b c d w) buffer
