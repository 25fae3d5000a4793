-- `Examples` of specs/Examples.antt, by computation.
use mathlib.Core.Path.{refl}
use Rattle.crc.specs.Crc.{shifted, shifts, crc_byte, crc_from}
use Rattle.crc.specs.Examples.{Examples}

pub examples : Examples
unfolding shifted shifts crc_byte crc_from
examples = record { entry_1 = refl; entry_255 = refl; nine_digits = refl }
