-- Document 02, 2.6: "the entry for 1 is C0C1". The last entry, and the CRC that this code is known by, that of the text "123456789".
use Rattle.std.specs.Prelude.{◌≡◌, [], ◌∷◌}
use Rattle.crc.specs.Crc.{entry_of, crc_of}

pub record Examples : Type 0 where
  pub entry_1 : entry_of 1 ≡ 0xC0C1
  pub entry_255 : entry_of 255 ≡ 0x4040
  pub nine_digits : crc_of (0x31 ∷ 0x32 ∷ 0x33 ∷ 0x34 ∷ 0x35 ∷ 0x36 ∷ 0x37 ∷ 0x38 ∷ 0x39 ∷ []) ≡ 0x4B37
