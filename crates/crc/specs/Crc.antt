-- Document 02, 2.6: "The CRC uses the reflected polynomial A001 (hexadecimal) and starts at FFFF."
use Rattle.std.specs.Prelude.{ℕ, zero, suc, ◌/◌, ◌%◌, List, [], ◌∷◌, cond, eqb}
use Rattle.std.specs.Int.Bits.{bit_xor}

-- "the reflected polynomial A001"
abbrev pub polynomial : ℕ
polynomial = 0xA001

-- one shift: the lowest bit goes out, and if it was 1 the polynomial is added, without carries
unfoldable pub shifted : ℕ → ℕ
shifted c = cond (eqb (c % 2) 1) (bit_xor (c / 2) polynomial) (c / 2)

unfoldable pub shifts : ℕ → ℕ → ℕ
shifts zero c = c
shifts (suc k) c = shifts k (shifted c)

-- the table's entry for a byte: "its rule is the eight-shift definition"
abbrev pub entry_of : ℕ → ℕ
entry_of b = shifts 8 b

-- with one byte more: it is added to the low bits, and eight shifts follow
unfoldable pub crc_byte : ℕ → ℕ → ℕ
crc_byte c b = shifts 8 (bit_xor c b)

unfoldable pub crc_from : ℕ → List ℕ → ℕ
crc_from c [] = c
crc_from c (b ∷ bs) = crc_from (crc_byte c b) bs

-- "starts at FFFF"
abbrev pub start : ℕ
start = 0xFFFF

abbrev pub crc_of : List ℕ → ℕ
crc_of bs = crc_from start bs
