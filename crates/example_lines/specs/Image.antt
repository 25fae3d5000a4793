-- The image of an example: `-`, the empty one, or pieces joined by `+`. A piece is hexadecimal digits, two to a byte; `HEX*N` is N copies of it, and
-- `HEX^N` is N copies, of which each has its third byte one more than the one before. A byte or a copy for which there is no room is left out.
use Rattle.std.specs.Prelude.{◌≡◌, ℕ, zero, suc, ◌+◌, ◌-◌, ◌*◌, ◌%◌, ◌≤◌, cond, ◌||◌, List, [], ◌∷◌, ◌++◌, length, take, drop, ◌==◌, nat_le, nat_lt, slice_index, slice_set}
use Prim.Native.Char.{code}
use Rattle.lines.specs.Number.{space_in}
use Rattle.example_lines.specs.Words.{word_from, digit_of, longer}
use Rattle.example_lines.specs.declared.Piece.{Piece}

-- an image as far as it is read: its bytes, where its last piece starts, that piece's sign of copies, 0 before it, their number so far, and the first
-- digit of a byte whose second is to come, or 16
pub record Part : Type 0 where
  pub bytes : List ℕ
  pub start : ℕ
  pub sign : ℕ
  pub copies : ℕ
  pub high : ℕ

-- further bytes behind those of the image, if there is room for all
unfoldable pub grown : ℕ → List ℕ → List ℕ → List ℕ
grown room bs cs = cond (nat_le (length bs + length cs) room) (bs ++ cs) bs

-- what the next copy is
unfoldable pub copy_of : ℕ → List ℕ → List ℕ
copy_of sign cs = cond (sign == (code "^")) (slice_set cs 2 ((slice_index cs 2 + 1) % 256)) cs

-- k further copies of what stands from an offset of the image on, each made of the one before
unfoldable pub repeated : ℕ → ℕ → ℕ → ℕ → List ℕ → List ℕ
repeated room sign zero from bs = bs
repeated room sign (suc k) from bs = repeated room sign k (length bs) (grown room bs (copy_of sign (drop from bs)))

-- the image whose last piece is whole
unfoldable pub closed : ℕ → Part → List ℕ
closed room p = repeated room p.sign (p.copies - 1) p.start p.bytes

-- before a piece, behind the bytes of those before it
abbrev pub piece : List ℕ → Part
piece bs = record { bytes = bs; start = length bs; sign = 0; copies = 0; high = 16 }

abbrev pub signed : Part → ℕ → Part
signed p b = record { bytes = p.bytes; start = p.start; sign = b; copies = p.copies; high = p.high }

-- a digit is one of the number of copies, or the first or the second of a byte
unfoldable pub with_digit : ℕ → Part → ℕ → Part
with_digit room p d =
    cond (p.sign == 0)
    (cond (nat_lt 15 p.high)
    (record { bytes = p.bytes; start = p.start; sign = p.sign; copies = p.copies; high = d })
    (record { bytes = grown room p.bytes ((p.high * 16 + d % 16) ∷ []); start = p.start; sign = p.sign; copies = p.copies; high = 16 }))
    (record { bytes = p.bytes; start = p.start; sign = p.sign; copies = longer 10 p.copies d; high = p.high })

unfoldable pub with_byte : ℕ → Part → ℕ → Part
with_byte room p b =
    cond (b == (code "+")) (piece (closed room p))
    (cond (b == (code "*") || b == (code "^")) (signed p b) (cond (b == (code "-")) p (with_digit room p (digit_of b))))

-- the image that the bytes of a word make behind a part
unfoldable pub image_from : ℕ → Part → List ℕ → List ℕ
image_from room p [] = closed room p
image_from room p (b ∷ s) = image_from room (with_byte room p b) s

-- the image that stands behind k spaces of a line, up to the next
abbrev pub image_in : ℕ → ℕ → List ℕ → List ℕ
image_in room k s = image_from room (piece []) (take (space_in (word_from k s)) (word_from k s))

-- a buffer with bytes from its start, and how many they are
pub record Put (before bs : List ℕ) (n : ℕ) (after : List ℕ) : Type 0 where
  pub count : n ≡ length bs
  pub room : n ≤ length before
  pub buffer : after ≡ bs ++ drop n before

-- the part that the code holds: its bytes are the first of the buffer
unfoldable pub part_of : Piece → List ℕ → Part
part_of p b = record { bytes = take p.n b; start = p.start; sign = p.sign; copies = p.copies; high = p.high }

-- its offsets stand in the buffer
abbrev pub Stands : Piece → List ℕ → Type 0
Stands p b = (p.start ≤ p.n) × (p.n ≤ length b)

-- the part q in place of the piece p; behind it the buffer stays
pub record Kept (p : Piece) (before : List ℕ) (q : Part) (r : Piece) (after : List ℕ) : Type 0 where
  pub part : part_of r after ≡ q
  pub stands : Stands r before
  pub longer : p.n ≤ r.n
  pub rest : drop r.n after ≡ drop r.n before
