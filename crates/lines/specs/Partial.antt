-- A line of any length that comes byte by byte. A good line has at most 9 bytes in a listing (`r 255 255`) and 11 in a simulation
-- (`k 255 65535`), so a twelfth tells that it is misshapen.
use Rattle.std.specs.Prelude.{ℕ, ◌+◌, ◌<◌, ◌≡◌, List, [], ◌∷◌, Bool, cond, length, take, set, replicate, ltb}
use Rattle.lines.specs.declared.Partial.{Partial}

-- no byte yet
abbrev pub begun : Partial
begun = record { bytes = replicate 12 0; length = 0 }

-- one byte more; after the twelfth further bytes are dropped
unfoldable pub with_byte : Partial → ℕ → Partial
with_byte p b = cond (ltb p.length 12) (record { bytes = set p.bytes p.length b; length = p.length + 1 }) p

-- whether there is a byte
abbrev pub has_byte : Partial → Bool
has_byte p = ltb 0 p.length

-- the line so far, as if it ended here: f says what bytes are, and bad that they are no line
unfoldable pub partly : {X : Type 0} → (List ℕ → X) → X → Partial → X
partly f bad p = cond (ltb p.length 12) (f (take p.length p.bytes)) bad

unfoldable pub with_bytes : Partial → List ℕ → Partial
with_bytes p [] = p
with_bytes p (b ∷ bs) = with_bytes (with_byte p b) bs

-- bytes taken one after the other and then parsed are the line, and an empty line is told from others
pub record Taken {X : Type 0} (f : List ℕ → X) (bad : X) (bs : List ℕ) : Type 0 where
  pub line : partly f bad (with_bytes begun bs) ≡ f bs
  pub some : has_byte (with_bytes begun bs) ≡ ltb 0 (length bs)

-- whatever the bytes of a line are
abbrev pub TakenWhole : {X : Type 0} → (List ℕ → X) → X → Type 0
TakenWhole f bad = (bs : List ℕ) → Taken f bad bs

-- no line has more than eleven bytes
abbrev pub Short : {X : Type 0} → (List ℕ → X) → X → Type 0
Short f bad = (bs : List ℕ) → 11 < length bs → f bs ≡ bad

-- then every line is taken whole
abbrev pub WholeLines : Type 1
WholeLines = (X : Type 0) (f : List ℕ → X) (bad : X) → Short f bad → TakenWhole f bad
