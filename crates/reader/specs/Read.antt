-- What stands at an offset of an image: a whole record and the next offset, an unknown kind, a cut body, or nothing.
use Rattle.std.specs.Prelude.{ℕ, ◌+◌, ◌-◌, ◌≡◌, List, cond, length, get_or, drop, leb, eqb, Result, Ok, Err}
use Rattle.words.specs.Word.{word_at}
use Rattle.records.specs.Kinds.{body_len, no_len}
use Rattle.records.specs.declared.Record.{Record}
use Rattle.records.specs.declared.Record.TheVariants.{Head, Event, Module, ModuleMove, Supervisor, SupervisorMove, Disabling, Step, Marking, End}
use Rattle.reader.specs.declared.NoRecord.{NoRecord}
use Rattle.reader.specs.declared.NoRecord.TheVariants.{Unknown, Cut, Nothing}

-- the record of a kind of the table whose body begins the list
unfoldable pub record_of : ℕ → List ℕ → Record
record_of k b =
    cond (eqb k 0x10) (Head (get_or b 0 0) (get_or b 1 0) (get_or b 2 0))
    (cond (eqb k 0x11) (Event (get_or b 0 0) (get_or b 1 0) (get_or b 2 0))
    (cond (eqb k 0x12) (Module (get_or b 0 0) (get_or b 1 0) (get_or b 2 0))
    (cond (eqb k 0x13) (ModuleMove (get_or b 0 0) (get_or b 1 0) (get_or b 2 0) (get_or b 3 0))
    (cond (eqb k 0x14) (Supervisor (get_or b 0 0) (get_or b 1 0) (get_or b 2 0) (word_at b 3))
    (cond (eqb k 0x15) (SupervisorMove (get_or b 0 0) (get_or b 1 0) (get_or b 2 0) (get_or b 3 0))
    (cond (eqb k 0x16) (Disabling (get_or b 0 0) (get_or b 1 0) (word_at b 2))
    (cond (eqb k 0x17) (Step (get_or b 0 0) (get_or b 1 0) (get_or b 2 0) (word_at b 3))
    (cond (eqb k 0x18) (Marking (get_or b 0 0) (get_or b 1 0)) End))))))))

-- "A record is one byte of kind, then a body whose length the kind alone fixes."
unfoldable pub shape_at : List ℕ → ℕ → Result (ℕ × ℕ × ℕ) NoRecord
shape_at s at =
    cond (leb (length s) at) (Err Nothing)
    (cond (eqb (body_len (get_or s at 0)) no_len) (Err Unknown)
    (cond (leb (body_len (get_or s at 0)) (length s - (at + 1))) (Ok (get_or s at 0, at + 1, at + 1 + body_len (get_or s at 0))) (Err Cut)))

-- the record itself, where it is whole
abbrev pub read_by : List ℕ → Result (ℕ × ℕ × ℕ) NoRecord → Result (Record × ℕ) NoRecord
read_by s (Ok (k, b, n)) = Ok (record_of k (drop b s), n)
read_by s (Err e) = Err e

unfoldable pub read_at : List ℕ → ℕ → Result (Record × ℕ) NoRecord
read_at s at = read_by s (shape_at s at)

-- Document 01, "Numbers for what is turned down": 2 is "unknown kind", 3 is "body cut, or no end record"; 0 for a whole record
abbrev pub stop_number : NoRecord → ℕ
stop_number Unknown = 2
stop_number Cut = 3
stop_number Nothing = 3

abbrev pub read_number : Result (Record × ℕ) NoRecord → ℕ
read_number (Ok (r, n)) = 0
read_number (Err why) = stop_number why

-- the offset: "that of the faulty record's kind byte, the image length where no record is left"; 0 for a whole record
abbrev pub read_offset : List ℕ → ℕ → Result (Record × ℕ) NoRecord → ℕ
read_offset s at (Ok (r, n)) = 0
read_offset s at (Err Unknown) = at
read_offset s at (Err Cut) = at
read_offset s at (Err Nothing) = length s

-- the same two from the bytes alone: where no record is left, at a byte that is no kind, at a whole record, and at one whose body is cut
unfoldable pub number_at : List ℕ → ℕ → ℕ
number_at s at =
    cond (leb (length s) at) 3
    (cond (eqb (body_len (get_or s at 0)) no_len) 2
    (cond (leb (body_len (get_or s at 0)) (length s - (at + 1))) 0 3))

unfoldable pub offset_at : List ℕ → ℕ → ℕ
offset_at s at =
    cond (leb (length s) at) (length s)
    (cond (eqb (body_len (get_or s at 0)) no_len) at
    (cond (leb (body_len (get_or s at 0)) (length s - (at + 1))) 0 at))

-- "The answer is the number and a byte offset": the whole answer r of a read, its case with its values, and the number and offset of that case
pub record ReadsAs (s : List ℕ) (at : ℕ) (r : Result (Record × ℕ) NoRecord) : Type 0 where
  pub answer : r ≡ read_at s at
  pub number : read_number r ≡ number_at s at
  pub offset : read_offset s at r ≡ offset_at s at
