-- Document 02, 2.3: "Let the check take the image in pieces, cut anywhere, each handed over once and in order, with the state that the last call left
-- and at most 4,096 bytes kept between them." The definitions take each byte by itself, in every state, also in one that no call left; that they say
-- document 01's check is `CutAnywhere`, below.
use Rattle.refusal.specs.Refusal.{refusal}
use Rattle.refusal.specs.declared.Refusal.{Refusal}
use Rattle.std.specs.Prelude.{ℕ, suc, ◌-◌, ◌≡◌, List, [], ◌∷◌, ◌++◌, cond, get_or, set, drop, replicate, eqb, leb, ltb, Result, Ok, Err, ⊤}
use Rattle.records.specs.Kinds.{body_len, no_len, kind_of}
use Rattle.records.specs.declared.Record.{Record}
use Rattle.reader.specs.Read.{record_of}
use Rattle.rules.specs.Check.{limit, verdict_of}
use Rattle.context.specs.Context.{with_record, start}
use Rattle.context.specs.declared.Context.{Context}
use Rattle.judge.specs.Judge.{judge_by}
use Rattle.pieces.specs.declared.Stage.{Stage}
use Rattle.pieces.specs.declared.Stage.TheVariants.{Open, Ended, Faulty}
use Rattle.pieces.specs.declared.CheckState.{CheckState}

-- after t bytes, with nothing of a record begun
abbrev pub between : Context → Stage → ℕ → CheckState
between c st t = record { context = c; cut = replicate 12 0; held = 0; taken = t; stage = st }

-- "From its starting state": before the first byte
abbrev pub starting : CheckState
starting = between start Open 0

-- 1, "image over 49,152 bytes": after one byte more than an image may have, nothing else need be known
abbrev pub overlong : CheckState
overlong = between start Open (suc limit)

-- after t bytes, a refusal with the number n at the offset o
abbrev pub faulty_at : CheckState → ℕ → ℕ → ℕ → CheckState
faulty_at k t n o = between k.context (Faulty n o) t

-- after t bytes, the last of which makes the record r whole; its kind byte stands at the offset o
unfoldable pub record_taken : CheckState → ℕ → ℕ → Record → CheckState
record_taken k t o r =
    cond (eqb (judge_by k.context r) 0) (between (with_record k.context r) (cond (eqb (kind_of r) 0x1f) Ended Open) t)
    (faulty_at k t (judge_by k.context r) o)

-- one byte more of a record that is not whole yet; `cut` has it
abbrev pub longer : CheckState → List ℕ → CheckState
longer k cut = record { context = k.context; cut = cut; held = suc k.held; taken = suc k.taken; stage = Open }

-- a byte of a record, its kind or one of its body, with which the bytes held are `cut`: 2, "unknown kind", is known at the kind byte, and a record is
-- judged when it is whole
unfoldable pub byte_open : CheckState → List ℕ → CheckState
byte_open k cut =
    cond (eqb (body_len (get_or cut 0 0)) no_len) (faulty_at k (suc k.taken) 2 (k.taken - k.held))
    (cond (leb (body_len (get_or cut 0 0)) k.held) (record_taken k (suc k.taken) (k.taken - k.held) (record_of (get_or cut 0 0) (drop 1 cut)))
    (longer k cut))

-- "A byte after the end record is 4 at its own offset"; after a refusal bytes are only counted
unfoldable pub byte_by : Stage → CheckState → ℕ → CheckState
byte_by Open k b = byte_open k (set k.cut k.held b)
byte_by Ended k b = faulty_at k (suc k.taken) 4 k.taken
byte_by (Faulty n o) k b = faulty_at k (suc k.taken) n o

-- one byte; 1 is found late, whatever stands in the bytes before
unfoldable pub byte_taken : CheckState → ℕ → CheckState
byte_taken k b = cond (ltb k.taken limit) (byte_by k.stage k b) overlong

-- a piece, and pieces one after another
unfoldable pub piece_taken : CheckState → List ℕ → CheckState
piece_taken k [] = k
piece_taken k (b ∷ bs) = piece_taken (byte_taken k b) bs

unfoldable pub pieces_taken : CheckState → List (List ℕ) → CheckState
pieces_taken k [] = k
pieces_taken k (p ∷ ps) = pieces_taken (piece_taken k p) ps

-- 3, "body cut, or no end record", is at the kind byte of a record that has begun, or at the image's length; a state that no call left has an answer by
-- its stage too, whatever number it holds
unfoldable pub stage_verdict : Stage → ℕ → Result ⊤ Refusal
stage_verdict Open o = Err (refusal 3 o)
stage_verdict Ended o = Ok tt
stage_verdict (Faulty n at) o = Err (refusal n at)

-- the answer for the bytes handed over so far; the offset is "0 for 1"
unfoldable pub verdict_by : CheckState → Result ⊤ Refusal
verdict_by k = cond (ltb limit k.taken) (Err (refusal 1 0)) (stage_verdict k.stage (k.taken - k.held))

-- pieces one behind the other
unfoldable pub joined : List (List ℕ) → List ℕ
joined [] = []
joined (p ∷ ps) = p ++ joined ps

-- however they are cut, they leave one and the same state, from every state
abbrev pub AnyCutting : Type 0
AnyCutting = (k : CheckState) (ps : List (List ℕ)) → pieces_taken k ps ≡ piece_taken k (joined ps)

-- "From its starting state, the answer after the last piece is that for the whole image." Of every list of pieces, empty ones too
abbrev pub CutAnywhere : Type 0
CutAnywhere = (ps : List (List ℕ)) → verdict_by (pieces_taken starting ps) ≡ verdict_of (joined ps)
