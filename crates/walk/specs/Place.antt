-- Document 01: "A reader over the plan image keeps its place between records."
use Rattle.records.specs.declared.Record.{Record}
use Rattle.std.specs.Prelude.{ℕ, ◌≡◌, List, Result, Ok, Err}
use Rattle.std.specs.Borrow.{Bor}
use Rattle.reader.specs.Read.{read_at, ReadsAs}
use Rattle.reader.specs.declared.NoRecord.{NoRecord}
use Rattle.walk.specs.declared.Reader.{Reader}
use Rattle.walk.specs.declared.PlacedRead.{PlacedRead}

-- a reader at the image's start
abbrev pub started : Bor (List ℕ) → Reader
started s = record { image = s; offset = 0 }

-- the place after a read at an offset: behind a whole record, else where it was
unfoldable pub place_after : ℕ → Result (Record × ℕ) NoRecord → ℕ
place_after i (Ok (r, n)) = n
place_after i (Err e) = i

-- what stands at an offset, and the place after it
abbrev pub read_on : List ℕ → ℕ → PlacedRead
read_on s i = record { read = read_at s i; place = place_after i (read_at s i) }

-- the whole answer of such a read: what stands there with its place, and the number and offset of what stands there
pub record ReadsOn (s : List ℕ) (i : ℕ) (y : PlacedRead) : Type 0 where
  pub answer : y ≡ read_on s i
  pub read : ReadsAs s i y.read

-- a reader gives what stands at its place, with its number and offset, and goes on to the place after it, over the same image
pub record Moved (r : Reader) (x : Result (Record × ℕ) NoRecord) (after : Reader) : Type 0 where
  pub read : ReadsAs r.image.now r.offset x
  pub moved : after ≡ record { image = r.image; offset = place_after r.offset x }
