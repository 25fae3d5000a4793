-- An image as a walk of records.
use Rattle.std.specs.Prelude.{ℕ, zero, suc, ◌≤◌, ◌≡◌, List, [], ◌∷◌, cond, length, drop, leb, eqb, Result, Ok, Err}
use Rattle.records.specs.Kinds.{body_len, no_len}
use Rattle.reader.specs.Read.{record_of, read_at, read_number, read_offset}
use Rattle.records.specs.declared.Record.{Record}
use Rattle.reader.specs.declared.NoRecord.{NoRecord}
use Rattle.reader.specs.declared.NoRecord.TheVariants.{Unknown, Cut, Nothing}

-- a whole record at an offset, and what follows it; or the number and the offset at which nothing more can be read: 2 for an unknown
-- kind, 3 for a cut body and where no record is left
pub data Walk : Type 0 where
  more : ℕ → Record → Walk → Walk
  stop : ℕ → ℕ → Walk

-- the bytes stand at offset o, and the first n of them are skipped
unfoldable pub walk_of : ℕ → ℕ → List ℕ → Walk
walk_of n o [] = stop (read_number (Err Nothing)) o
walk_of zero o (k ∷ bs) =
    cond (eqb (body_len k) no_len) (stop (read_number (Err Unknown)) o)
    (cond (leb (body_len k) (length bs)) (more o (record_of k bs) (walk_of (body_len k) (suc o) bs)) (stop (read_number (Err Cut)) o))
walk_of (suc n) o (b ∷ bs) = walk_of n (suc o) bs

-- the walk of an image from an offset on
abbrev pub walk_from : List ℕ → ℕ → Walk
walk_from s i = walk_of zero i (drop i s)

-- the records of a walk
unfoldable pub records_in : Walk → List Record
records_in (more o r w) = r ∷ records_in w
records_in (stop n o) = []

-- the offset at which nothing more can be read
unfoldable pub stop_of : Walk → ℕ
stop_of (more o r w) = stop_of w
stop_of (stop n o) = o

-- the records of an image
abbrev pub records_of : List ℕ → List Record
records_of s = records_in (walk_from s 0)

-- where a read r at an offset i is refused, the walk stops with its number and, at or before the image's end, its offset
pub record Stopped (s : List ℕ) (i : ℕ) (r : Result (Record × ℕ) NoRecord) : Type 0 where
  pub at : ℕ
  pub stops : walk_from s i ≡ stop (read_number r) at
  pub offset : i ≤ length s → at ≡ read_offset s i r

abbrev pub StopsAsRead : Type 0
StopsAsRead = (s : List ℕ) (i : ℕ) → (read_number (read_at s i) ≡ 0 → ⊥) → Stopped s i (read_at s i)

-- where it gives a record, the walk has that record and goes on behind it
abbrev pub GoesOnAsRead : Type 0
GoesOnAsRead = (s : List ℕ) (i : ℕ) (r : Record) (n : ℕ) → read_at s i ≡ Ok (r, n) → walk_from s i ≡ more i r (walk_from s n)
