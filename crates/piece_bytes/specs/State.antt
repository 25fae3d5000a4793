-- include/pewterslug.h, the states by offset: "A check in pieces, 495 bytes: 0 its stage: 0 while records are read, 1 after a faultless end record, 2
-- after a refusal; 1 the refusal's number, else 0; 2..5 its offset, else 0; 6..9 bytes taken; past 49,152 it stays 49,153, and all else is as at the
-- start; 10 how many bytes are held of a record that has begun; 11..22 these bytes, the places past them 0"; from 23 on what is remembered of the
-- records before, as context_bytes/specs/Encoding has it
use Rattle.std.specs.Prelude.{ℕ, ◌^◌, ◌≤◌, ◌<◌, ◌≡◌, List, ◌∷◌, ◌++◌, Bool, true, cond, ◌&&◌, length, get_or, eqb, leb, ltb}
use Rattle.words.specs.Word.{quad_bytes, quad_at}
use Rattle.roundtrip.specs.Fits.{Byte, Bytes}
use Rattle.fields.specs.Fields.{bytes_from, is_flag}
use Rattle.context_bytes.specs.Encoding.{context_bytes, context_at, ContextEncodable}
use Rattle.pieces.specs.declared.Stage.{Stage}
use Rattle.pieces.specs.declared.Stage.TheVariants.{Open, Ended, Faulty}
use Rattle.pieces.specs.declared.CheckState.{CheckState}

-- ---- written

unfoldable pub stage_byte : Stage → ℕ
stage_byte Open = 0
stage_byte Ended = 1
stage_byte (Faulty n o) = 2

unfoldable pub stage_number : Stage → ℕ
stage_number Open = 0
stage_number Ended = 0
stage_number (Faulty n o) = n

unfoldable pub stage_offset : Stage → ℕ
stage_offset Open = 0
stage_offset Ended = 0
stage_offset (Faulty n o) = o

unfoldable pub stage_bytes : Stage → List ℕ
stage_bytes st = stage_byte st ∷ stage_number st ∷ quad_bytes (stage_offset st)

unfoldable pub state_bytes : CheckState → List ℕ
state_bytes k = stage_bytes k.stage ++ quad_bytes k.taken ++ (k.held ∷ k.cut) ++ context_bytes k.context

-- ---- read, by their places

unfoldable pub stage_of : ℕ → ℕ → ℕ → Stage
stage_of x n o = cond (eqb x 0) Open (cond (eqb x 1) Ended (Faulty n o))

unfoldable pub state_at : List ℕ → CheckState
state_at b =
    record {
      context = context_at b;
      cut = bytes_from b 11 12;
      held = get_or b 10 0;
      taken = quad_at b 6;
      stage = stage_of (get_or b 0 0) (get_or b 1 0) (quad_at b 2);
    }

-- the header: "Bytes of another length, a flag other than 0 and 1, .. a stage above 2, a number or an offset without a refusal and a refusal's number
-- other than 2 to 8 stand for no state"
unfoldable pub is_stage : ℕ → ℕ → ℕ → Bool
is_stage x n o = cond (ltb x 2) (eqb n 0 && eqb o 0) (eqb x 2 && (leb 2 n && leb n 8))

unfoldable pub is_state : List ℕ → Bool
is_state b = eqb (length b) 495 && (is_stage (get_or b 0 0) (get_or b 1 0) (quad_at b 2) && is_flag (get_or b 23 0))

-- ---- what is proved of them

-- a state as the code's types can hold it, with a number of the check
abbrev pub StageEncodable : Stage → Type 0
StageEncodable Open = Unit {0}
StageEncodable Ended = Unit {0}
StageEncodable (Faulty n o) = (2 ≤ n) × (n ≤ 8) × (o < 2 ^ 32)

pub record StateEncodable (k : CheckState) : Type 0 where
  pub context : ContextEncodable k.context
  pub places : length k.cut ≡ 12
  pub cut : Bytes k.cut
  pub held : Byte k.held
  pub taken : k.taken < 2 ^ 32
  pub stage : StageEncodable k.stage

pub record StateParts : Type 0 where
  -- decoding what was encoded gives it back
  pub stands : (k : CheckState) → StateEncodable k → is_state (state_bytes k) ≡ true
  pub back : (k : CheckState) → StateEncodable k → state_at (state_bytes k) ≡ k
  -- and bytes that stand for a state are those of that state, which can be encoded
  pub written : (b : List ℕ) → Bytes b → is_state b ≡ true → state_bytes (state_at b) ≡ b
  pub encodable : (b : List ℕ) → Bytes b → is_state b ≡ true → StateEncodable (state_at b)
  pub size : (k : CheckState) → StateEncodable k → length (state_bytes k) ≡ 495
  pub bytes : (k : CheckState) → StateEncodable k → Bytes (state_bytes k)
