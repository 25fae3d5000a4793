-- A module's own part as the examples print it: `state S queue LENGTH PLACE.. procedure RUNNING EVENT INDEX COUNT water TARGET TOTAL outputs MASK`.
use Rattle.std.specs.Prelude.{ℕ, List, ◌++◌, cond, Float}
use Rattle.std.specs.Float.{binary64}
use Rattle.std.specs.Float.Ieee.{to_bits, nan_bits}
use Rattle.fields.specs.Fields.{flag_byte}
use Rattle.modules.specs.declared.Procedure.{Procedure}
use Rattle.modules.specs.declared.Own.{Own}
use Rattle.texts.specs.Ascii.{ascii}
use Rattle.texts.specs.Digits.{hex_digits}
use Rattle.texts.specs.Numbers.{spaced, spaced_all}

-- a space and sixteen digits, or ` nan` for the bits of a NaN
unfoldable pub bits_text : ℕ → List ℕ
bits_text b = cond (nan_bits binary64 b) (ascii " nan") (ascii " " ++ hex_digits 16 b)

-- a target or a total
abbrev pub float_text : Float → List ℕ
float_text x = bits_text (to_bits binary64 x)

-- a procedure, from the space before its word on
unfoldable pub procedure_text : Procedure → List ℕ
procedure_text p =
    ascii " procedure"
    ++ spaced (flag_byte p.running)
    ++ spaced p.event
    ++ spaced p.index
    ++ spaced p.count
    ++ ascii " water"
    ++ float_text p.water.target
    ++ float_text p.water.total

-- the whole, from its first word on
unfoldable pub own_text : Own → List ℕ
own_text own =
    ascii "state"
    ++ spaced own.state
    ++ ascii " queue"
    ++ spaced own.length
    ++ spaced_all own.queue
    ++ procedure_text own.procedure
    ++ ascii " outputs "
    ++ hex_digits 8 own.outputs
