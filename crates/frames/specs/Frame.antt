-- Document 02, 2.6: "Carry each message in an RTU frame: address 1–247, function 65 (decimal), the message, then CRC-16 low byte first."
use Rattle.std.specs.Prelude.{ℕ, ◌+◌, ◌-◌, ◌/◌, ◌%◌, List, [], ◌∷◌, ◌++◌, Bool, cond, ◌&&◌, length, get_or, take, drop, eqb, leb}
use Rattle.messages.specs.Message.{parse, parsed_number}
use Rattle.crc.specs.Crc.{crc_of}

-- "address 1–247"
unfoldable pub is_address : ℕ → Bool
is_address a = leb 1 a && leb a 247

-- "function 65 (decimal)"
abbrev pub function : ℕ
function = 65

-- what the CRC is of
abbrev pub body_of : ℕ → List ℕ → List ℕ
body_of a g = a ∷ function ∷ g

-- "CRC-16 low byte first"
unfoldable pub crc_bytes : List ℕ → List ℕ
crc_bytes bs = crc_of bs % 256 ∷ crc_of bs / 256 ∷ []

-- the frame of the message g to the address a
unfoldable pub frame_of : ℕ → List ℕ → List ℕ
frame_of a g = body_of a g ++ crc_bytes (body_of a g)

-- the number of a frame to be written: 18, "an address outside 1–247", then 10, "message .. misshapen"; 0 if there is none
unfoldable pub write_number : ℕ → List ℕ → ℕ
write_number a g = cond (is_address a) (parsed_number (parse g)) 18

-- ---- a frame to be read

abbrev pub address_in : List ℕ → ℕ
address_in f = get_or f 0 0

-- what stands between the function and the CRC
unfoldable pub message_in : List ℕ → List ℕ
message_in f = take (length f - 4) (drop 2 f)

-- 18: "a frame to be read under 5 or over 256 bytes, an address outside 1–247 or another function"
unfoldable pub is_frame : List ℕ → Bool
is_frame f = leb 5 (length f) && leb (length f) 256 && is_address (address_in f) && eqb (get_or f 1 0) function

-- the two bytes at e are the CRC of those before them
unfoldable pub crc_at : List ℕ → ℕ → Bool
crc_at f e = eqb (get_or f e 0) (crc_of (take e f) % 256) && eqb (get_or f (e + 1) 0) (crc_of (take e f) / 256)

-- 19: "wrong CRC"
abbrev pub is_intact : List ℕ → Bool
is_intact f = crc_at f (length f - 2)

-- the number of a frame to be read: "18, ..; 19, ..; both come before 10, 18 first"; 0 if there is none
unfoldable pub read_number : List ℕ → ℕ
read_number f = cond (is_frame f) (cond (is_intact f) (parsed_number (parse (message_in f))) 19) 18
