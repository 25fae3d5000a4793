-- A hexadecimal digit as it is printed.
use Rattle.std.specs.Prelude.{ℕ, ◌+◌, ◌-◌, cond, ltb}
use Prim.Native.Char.{code}

unfoldable pub hex_digit : ℕ → ℕ
hex_digit d = cond (ltb d 10) (code "0" + d) (code "A" + (d - 10))
