-- Records and their bytes are the same thing. Demand 2: "An accepted plan, taken apart into records and written, yields its own
-- bytes, and a record written is read as itself."
use Rattle.std.specs.Prelude.{ℕ, ◌+◌, ◌-◌, ◌≡◌, List, ◌++◌, length, take, drop, Ok}
use Rattle.records.specs.Kinds.{size_of}
use Rattle.records.specs.Bytes.{bytes_of, bytes_of_all}
use Rattle.records.specs.declared.Record.{Record}
use Rattle.reader.specs.Read.{read_at}
use Rattle.reader.specs.Walk.{walk_from, stop_of, records_of}
use Rattle.writer.specs.Write.{Wrote}
use Rattle.roundtrip.specs.Fits.{Fits, Bytes}

-- a record stands at offset i of an image with its bytes, and the next one at n
pub record Stands (s : List ℕ) (i : ℕ) (r : Record) (n : ℕ) : Type 0 where
  pub size : n ≡ i + size_of r
  pub bytes : bytes_of r ≡ take (n - i) (drop i s)
  pub fits : Fits r

pub record RoundTrips : Type 0 where
  -- "a record written is read as itself": its bytes, wherever they stand, and what the writer leaves in a buffer
  pub read_written : (r : Record) (before after : List ℕ) → Fits r
      → read_at (before ++ bytes_of r ++ after) (length before) ≡ Ok (r, length before + size_of r)
  pub read_wrote : (r : Record) (b a : List ℕ) (n : ℕ) → Fits r → Wrote r b (Ok n) a → read_at a 0 ≡ Ok (r, n)
  -- "taken apart into records and written, yields its own bytes": one record that is read, all that can be read, and an image that is
  -- records to its end
  pub written_read : (s : List ℕ) (i : ℕ) (r : Record) (n : ℕ) → Bytes s → read_at s i ≡ Ok (r, n) → Stands s i r n
  pub taken_apart : (s : List ℕ) → Bytes s → bytes_of_all (records_of s) ≡ take (stop_of (walk_from s 0)) s
  pub taken_whole : (s : List ℕ) → Bytes s → stop_of (walk_from s 0) ≡ length s → bytes_of_all (records_of s) ≡ s
