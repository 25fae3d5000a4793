-- The notes of 16 modules: "a bid is noted", "removes that note".
use Rattle.std.specs.Prelude.{ℕ, Bool, cond, ltb}
use Rattle.bits.specs.Bit.{put_bit}

-- a module's note on or off; past the last module they stay
unfoldable pub put_note : ℕ → ℕ → Bool → ℕ
put_note noted m on = cond (ltb m 16) (put_bit noted m on) noted
