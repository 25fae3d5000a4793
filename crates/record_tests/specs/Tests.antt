-- The tests that the check makes of one record: by its fields, the head's counts, and masks and tables of what was declared before it. That they tell what
-- document 01's rules tell is proved where the check passes records by them.
use Rattle.std.specs.Prelude.{ℕ, ◌+◌, ◌-◌, List, Bool, false, cond, not, ◌&&◌, ◌||◌, length, get_or, eqb, leb, ltb}
use Rattle.bits.specs.Bit.{bit, all_below, every_event}
use Rattle.records.specs.Kinds.{size_by}
use Rattle.records.specs.Key.{key_by, precedes}
use Rattle.records.specs.Range.{in_range}
use Rattle.records.specs.declared.Record.TheVariants.{Supervisor, Step}
use Rattle.records.specs.declared.RecordKey.{RecordKey}
use Rattle.context.specs.declared.Counts.{Counts}
use Rattle.record_tests.specs.declared.Fields.{Fields}

-- a record of a kind, of n bytes, stands whole at an offset
unfoldable pub stands_at : List ℕ → ℕ → ℕ → ℕ → Bool
stands_at s i k n = cond (ltb i (length s)) (leb n (length s - i) && eqb (get_or s i 0) k) false

-- the first fields of the record at an offset
abbrev pub fields_at : List ℕ → ℕ → Fields
fields_at s i = record { first = get_or s (i + 1) 0; second = get_or s (i + 2) 0; third = get_or s (i + 3) 0; fourth = get_or s (i + 4) 0 }

-- a supervisor is in its ranges and has a number below the count, an initial state and an alphabet of declared events
abbrev pub supervisor_kept : Fields → ℕ → Counts → ℕ → Bool
supervisor_kept f x n events =
    in_range (Supervisor f.first f.second f.third x)
    && (ltb f.first n.supervisors && ltb f.third f.second && every_event x (bit events))

-- a move names an automaton of a mask, two of its states and an event of a mask
abbrev pub move_named : Fields → ℕ → ℕ → ℕ → Bool
move_named f known states named = bit known f.first && ltb f.second states && bit named f.third && ltb f.fourth states

-- a disabling names a declared supervisor, one of its states and declared events
abbrev pub disabling_named : Fields → ℕ → ℕ → ℕ → ℕ → ℕ → Bool
disabling_named f mask n known states named = (ltb f.first n && bit known f.first) && ltb f.second states && every_event mask (bit named)

-- a respond step names a declared, uncontrollable event, of the same module
abbrev pub respond_fits : ℕ → ℕ → ℕ → ℕ → Bool → Bool
respond_fits x events named controllable same = cond (ltb x 64) ((ltb x events && bit named x) && (not (bit controllable x) && same)) false

-- a step is in its ranges and one of a declared, controllable event, and a respond step fits
abbrev pub step_kept : Fields → ℕ → ℕ → ℕ → ℕ → Bool → Bool
step_kept f x events named controllable same =
    in_range (Step f.first f.second f.third x)
    && (ltb f.first events && bit named f.first) && bit controllable f.first && (not (eqb f.third 5) || respond_fits x events named controllable same)

-- an end record stands at an offset, after a record before it, and every number that the head promised is declared
abbrev pub end_kept : List ℕ → ℕ → RecordKey → Counts → ℕ → ℕ → ℕ → Bool
end_kept s i q n modules supervisors events =
    (stands_at s i 0x1f (size_by 0x1f) && precedes q (key_by 0x1f 0 0 0))
    && (all_below (bit modules) n.modules && all_below (bit supervisors) n.supervisors && all_below (bit events) n.events)
