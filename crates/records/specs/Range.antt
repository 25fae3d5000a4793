-- Document 01, "Plan records" and number 5: the ranges that a record alone can tell.
use Rattle.std.specs.Prelude.{ℕ, Bool, true, cond, not, ◌&&◌, ◌||◌, leb, eqb}
use Rattle.litres.specs.Eighths.{target_ok}
use Rattle.records.specs.declared.Record.{Record}
use Rattle.records.specs.declared.Record.TheVariants.{Head, Event, Module, ModuleMove, Supervisor, SupervisorMove, Disabling, Step, Marking, End}

-- from a to b
abbrev pub between : ℕ → ℕ → ℕ → Bool
between a b x = leb a x && leb x b

-- "Operations: 1 output on and 2 output off (operand 0–31); 3 wait ticks (1–65,535); 4 wait litres (f64 bits, a multiple of 1/8 from
-- 0.125 to 131,072); 5 respond (an uncontrollable event of the same module)." What respond names is judged by 6 and 7.
unfoldable pub operand_in_range : ℕ → ℕ → Bool
operand_in_range o x =
    cond (eqb o 1 || eqb o 2) (leb x 31)
    (cond (eqb o 3) (between 1 65535 x)
    (cond (eqb o 4) (target_ok x) (eqb o 5)))

-- head: "modules 1–16, supervisors 0–32, events 1–64"; event: "class (0 uncontrollable, 1 controllable)"; module: "states 1–32";
-- supervisor: "states 1–64"; disabling: "mask (8 bytes, not zero)"; procedure step: "index 0–63"; document 02 gives kind 18 no range
unfoldable pub in_range : Record → Bool
in_range (Head m v e) = between 1 16 m && leb v 32 && between 1 64 e
in_range (Event n o c) = leb c 1
in_range (Module n st i) = between 1 32 st
in_range (ModuleMove m f e t) = true
in_range (Supervisor n st i a) = between 1 64 st
in_range (SupervisorMove v f e t) = true
in_range (Disabling v st m) = not (eqb m 0)
in_range (Step e i o x) = leb i 63 && operand_in_range o x
in_range (Marking m st) = true
in_range End = true
