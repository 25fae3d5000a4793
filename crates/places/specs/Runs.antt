-- The records of a kind as the look-up has them: where they begin, the bytes of each, and how many there are. Steps of its proof: they need not be
-- read (see Places).
use Rattle.std.specs.Prelude.{◌≡◌, ℕ, suc, ◌+◌, ◌-◌, ◌*◌, ◌/◌, ◌≤◌, ◌<◌, List, Bool, cond, ◌||◌, length, drop, eqb, leb}
use Rattle.records.specs.Kinds.{size_by}
use Rattle.records.specs.Key.{key_of, precedes}
use Rattle.records.specs.declared.RecordKey.{RecordKey}
use Rattle.reader.specs.Read.{record_of}
use Rattle.places.specs.Places.{begin_of, end_of}
use Rattle.places.specs.declared.Places.{Places}
use Rattle.places.specs.declared.Run.{Run}

-- those of a size between two offsets, and none where they would end past the image
unfoldable pub run_by : List ℕ → ℕ → ℕ → ℕ → Run
run_by s b e z = record { begin = b; size = z; count = cond (leb e (length s)) ((e - b) / z) 0 }

-- those of a kind
unfoldable pub run_of : List ℕ → Places → ℕ → Run
run_of s p k = run_by s (begin_of p k) (end_of p k) (size_by k)

-- records of a kind that lie within the image
pub record Inside (s : List ℕ) (r : Run) (k : ℕ) : Type 0 where
  pub size : r.size ≡ size_by k
  pub within : (i : ℕ) → i < r.count → r.begin + i * r.size + r.size ≤ length s

-- the kinds whose keys have several numbers: moves, with three, and disablings and steps, with two
unfoldable pub is_move : ℕ → Bool
is_move k = eqb k 0x13 || eqb k 0x15

unfoldable pub keyed : ℕ → Bool
keyed k = is_move k || (eqb k 0x16 || (eqb k 0x17 || eqb k 0x18))

-- the same as `is_before`, by the run that the code holds: whether the i-th of the key's kind precedes the key
unfoldable pub before : List ℕ → Run → RecordKey → ℕ → Bool
before s r q i = precedes (key_of (record_of q.kind (drop (suc (r.begin + i * r.size)) s))) q
