-- How a line of the examples gives a reading, and how it sets a field of a module's own part: `FIELD VALUE`, or `place K VALUE` for a cell of the
-- queue. The fields are `state`, `length`, `place`, `outputs`, and of the procedure `running`, `event`, `index`, `count`, `target` and `total`.
use Rattle.std.specs.Prelude.{ℕ, ◌+◌, ◌%◌, ◌^◌, List, Bool, cond, set, eqb, Float}
use Prim.Native.Char.{code}
use Rattle.std.specs.Float.{nan, binary64}
use Rattle.std.specs.Float.Ieee.{of_bits}
use Rattle.example_lines.specs.Words.{letter_in, number_in, bits_in}
use Rattle.water.specs.declared.Flow.{Flow}
use Rattle.water.specs.declared.Flow.TheVariants.{Litres, NoSensor}
use Rattle.water.specs.declared.Water.{Water}
use Rattle.modules.specs.declared.Procedure.{Procedure}
use Rattle.modules.specs.declared.Own.{Own}

-- the float whose bits stand behind k spaces of a line, or `nan`
unfoldable pub float_in : ℕ → List ℕ → Float
float_in k s = cond (eqb (letter_in k 0 s) (code "n")) nan (of_bits binary64 (bits_in k s))

-- litres, or `none` where no sensor is fitted
unfoldable pub flow_in : ℕ → List ℕ → Flow
flow_in k s = cond (eqb (letter_in k 1 s) (code "o")) NoSensor (Litres (float_in k s))

-- whether the field's name, which stands behind k spaces of a line, begins with a letter: each name has its own but `target` and `total`, which
-- differ in their second
abbrev pub has_letter : ℕ → List ℕ → ℕ → Bool
has_letter k s letter = eqb (letter_in k 0 s) letter

-- the water with its `target` or its `total` set
unfoldable pub with_water : ℕ → List ℕ → Water → Water
with_water k s w =
    cond (eqb (letter_in k 1 s) (code "a"))
    (record { target = float_in (k + 1) s; total = w.total })
    (record { target = w.target; total = float_in (k + 1) s })

-- the procedure with the field set that a line names, if it is one of its own
unfoldable pub with_procedure_field : ℕ → List ℕ → Procedure → Procedure
with_procedure_field k s p =
    record {
      running = cond (has_letter k s (code "r")) (eqb (number_in (k + 1) s) 1) p.running;
      event = cond (has_letter k s (code "e")) (number_in (k + 1) s % 256) p.event;
      index = cond (has_letter k s (code "i")) (number_in (k + 1) s % 256) p.index;
      count = cond (has_letter k s (code "c")) (number_in (k + 1) s % 65536) p.count;
      water = cond (has_letter k s (code "t")) (with_water k s p.water) p.water;
    }

-- the queue with a cell set; a cell past the last is none
abbrev pub with_queued : ℕ → List ℕ → List ℕ → List ℕ
with_queued k s queue = set queue (number_in (k + 1) s) (number_in (k + 2) s % 256)

-- the own part with the field set that a line names
unfoldable pub with_field : ℕ → List ℕ → Own → Own
with_field k s own =
    record {
      state = cond (has_letter k s (code "s")) (number_in (k + 1) s % 256) own.state;
      queue = cond (has_letter k s (code "p")) (with_queued k s own.queue) own.queue;
      length = cond (has_letter k s (code "l")) (number_in (k + 1) s % 256) own.length;
      procedure = with_procedure_field k s own.procedure;
      outputs = cond (has_letter k s (code "o")) (bits_in (k + 1) s % 2 ^ 32) own.outputs;
    }
