-- Where the records of each kind begin in an image, and which records a look-up by these places can find. How it looks need not be read: `AllFound` of
-- placed/specs says that in an accepted plan, by the places that its check notes, it finds every record, and the contracts of the calls are stated
-- over the plan's records, without places; those of their parts are over `records_by` (DECISIONS 55).
use Rattle.std.specs.Prelude.{ℕ, zero, suc, ◌+◌, ◌-◌, ◌*◌, ◌/◌, ◌%◌, List, [], ◌∷◌, ◌++◌, Bool, cond, ◌&&◌, ◌||◌, length, drop, eqb, leb, ltb}
use Rattle.bits.specs.Bit.{mask_of}
use Rattle.records.specs.Kinds.{kind_of, size_by}
use Rattle.records.specs.Key.{key_by, key_of, same_key, precedes}
use Rattle.records.specs.declared.Record.{Record}
use Rattle.records.specs.declared.RecordKey.{RecordKey}
use Rattle.reader.specs.Read.{record_of}
use Rattle.reader.specs.Walk.{Walk, more, stop, walk_from}
use Rattle.reader.specs.Find.{find_in, found}
use Rattle.places.specs.declared.Places.{Places}

-- ---- the places of an image

abbrev pub nowhere : Places
nowhere = record { k11 = 0; k12 = 0; k13 = 0; k14 = 0; k15 = 0; k16 = 0; k17 = 0; k18 = 0; k1f = 0 }

-- a record of kind k at an offset begins the records of each kind after the last record's, up to its own; of the offset the lower 16 bits, which is
-- all of it in an accepted image
unfoldable pub place_by : ℕ → ℕ → ℕ → ℕ → ℕ → ℕ
place_by last k at j x = cond (ltb last j && leb j k) (at % 65536) x

-- no kind stands between 18 and 1F, so that the end record is the first of 19 or above
unfoldable pub noted_at : Places → ℕ → ℕ → ℕ → Places
noted_at p last k at =
    record {
      k11 = place_by last k at 0x11 p.k11;
      k12 = place_by last k at 0x12 p.k12;
      k13 = place_by last k at 0x13 p.k13;
      k14 = place_by last k at 0x14 p.k14;
      k15 = place_by last k at 0x15 p.k15;
      k16 = place_by last k at 0x16 p.k16;
      k17 = place_by last k at 0x17 p.k17;
      k18 = place_by last k at 0x18 p.k18;
      k1f = place_by last k at 0x19 p.k1f;
    }

-- with the records of a walk, after one of kind `last`
unfoldable pub noted_in : Places → ℕ → Walk → Places
noted_in p last (stop n o) = p
noted_in p last (more o r w) = noted_in (noted_at p last (kind_of r) o) (kind_of r) w

abbrev pub places_of : List ℕ → Places
places_of s = noted_in nowhere 0 (walk_from s 0)

-- ---- the records of a kind

-- where they begin and end. The head begins at 0; a number that is no kind begins and ends at 0.
unfoldable pub begin_of : Places → ℕ → ℕ
begin_of p k =
    cond (eqb k 0x11) p.k11
    (cond (eqb k 0x12) p.k12
    (cond (eqb k 0x13) p.k13
    (cond (eqb k 0x14) p.k14
    (cond (eqb k 0x15) p.k15
    (cond (eqb k 0x16) p.k16
    (cond (eqb k 0x17) p.k17
    (cond (eqb k 0x18) p.k18
    (cond (eqb k 0x1f) p.k1f 0))))))))

unfoldable pub end_of : Places → ℕ → ℕ
end_of p k =
    cond (eqb k 0x10) p.k11
    (cond (eqb k 0x11) p.k12
    (cond (eqb k 0x12) p.k13
    (cond (eqb k 0x13) p.k14
    (cond (eqb k 0x14) p.k15
    (cond (eqb k 0x15) p.k16
    (cond (eqb k 0x16) p.k17
    (cond (eqb k 0x17) p.k18
    (cond (eqb k 0x18) p.k1f
    (cond (eqb k 0x1f) (p.k1f + size_by 0x1f) 0)))))))))

-- how many there are, and none where they would end past the image
unfoldable pub count_of : List ℕ → Places → ℕ → ℕ
count_of s p k = cond (leb (end_of p k) (length s)) ((end_of p k - begin_of p k) / size_by k) 0

-- the i-th of them, read as one of that kind whatever byte stands before it
unfoldable pub record_by : List ℕ → Places → ℕ → ℕ → Record
record_by s p k i = record_of k (drop (suc (begin_of p k + i * size_by k)) s)

-- ---- where a look-up goes

-- halving from lo to hi, of which n is at least the distance: the first number that does not pass the test, where those that pass it come first
unfoldable pub halved : (ℕ → Bool) → ℕ → ℕ → ℕ → ℕ
halved t zero lo hi = lo
halved t (suc n) lo hi =
    cond (ltb lo hi)
    (cond (t (lo + (hi - lo) / 2)) (halved t n (suc (lo + (hi - lo) / 2)) hi) (halved t n lo (lo + (hi - lo) / 2)))
    lo

-- the first number from i on, of the n next ones, that does not pass the test
unfoldable pub onward : (ℕ → Bool) → ℕ → ℕ → ℕ
onward t zero i = i
onward t (suc n) i = cond (t i) (onward t n (suc i)) i

-- an event, a module and a supervisor have the number of their place
unfoldable pub numbered : ℕ → Bool
numbered k = eqb k 0x11 || eqb k 0x12 || eqb k 0x14

-- the least key with the first two numbers of a key
abbrev pub least_key : RecordKey → RecordKey
least_key q = key_by q.kind q.first q.second 0

-- whether the i-th record of a key's kind precedes the key
abbrev pub is_before : List ℕ → Places → RecordKey → ℕ → Bool
is_before s p q i = precedes (key_of (record_by s p q.kind i)) q

-- where the records begin, if they ascend, that have the first two numbers of a key
unfoldable pub first_of : List ℕ → Places → RecordKey → ℕ
first_of s p q = halved (is_before s p (least_key q)) (count_of s p q.kind) 0 (count_of s p q.kind)

-- an event, a module or a supervisor stands at its number; a record of another kind is looked for one after the other, from the first on that has
-- the first two numbers of the key
unfoldable pub position_of : List ℕ → Places → RecordKey → ℕ
position_of s p q =
    cond (numbered q.kind) q.first
    (onward (is_before s p q) (count_of s p q.kind - first_of s p q) (first_of s p q))

-- where the body of the record with a key begins, and 0 if that record is not at its place
unfoldable pub spot_of : List ℕ → Places → RecordKey → ℕ
spot_of s p q =
    cond (ltb (position_of s p q) (count_of s p q.kind) && same_key (key_of (record_by s p q.kind (position_of s p q))) q)
    (suc (begin_of p q.kind + position_of s p q * size_by q.kind)) 0

-- ---- the records that a look-up can find

-- those of the n numbers from i on that pass the test
unfoldable pub picked : (ℕ → Bool) → (ℕ → Record) → ℕ → ℕ → List Record
picked t f i zero = []
picked t f i (suc n) = cond (t i) (f i ∷ picked t f (suc i) n) (picked t f (suc i) n)

-- the records of a kind to which the look-up of their own key leads
unfoldable pub records_of_kind : List ℕ → Places → ℕ → List Record
records_of_kind s p k = picked (λ i. eqb (position_of s p (key_of (record_by s p k i))) i) (record_by s p k) 0 (count_of s p k)

unfoldable pub records_of_kinds : List ℕ → Places → List ℕ → List Record
records_of_kinds s p [] = []
records_of_kinds s p (k ∷ ks) = records_of_kind s p k ++ records_of_kinds s p ks

-- the kinds in their order
abbrev pub kinds : List ℕ
kinds = 0x10 ∷ 0x11 ∷ 0x12 ∷ 0x13 ∷ 0x14 ∷ 0x15 ∷ 0x16 ∷ 0x17 ∷ 0x18 ∷ 0x1f ∷ []

unfoldable pub records_by : List ℕ → Places → List Record
records_by s p = records_of_kinds s p kinds

-- ---- the moves of a state

-- the events by which a module has a move from a state; no event of 64 or above is in a mask
abbrev pub moves_of : List Record → ℕ → ℕ → ℕ
moves_of rs m st = mask_of (λ e. found (find_in (key_by 0x13 m st e) rs)) 64
