-- Document 01, "Plan records": "A record is one byte of kind, then a body whose length the kind alone fixes."
use Rattle.std.specs.Prelude.{ℕ, suc, cond, eqb}
use Rattle.records.specs.declared.Record.{Record}
use Rattle.records.specs.declared.Record.TheVariants.{Head, Event, Module, ModuleMove, Supervisor, SupervisorMove, Disabling, Step, Marking, End}

-- no kind has a body of this length
abbrev pub no_len : ℕ
no_len = 255

-- the column "Body bytes" of the table of kinds, and document 02, 2.1: "record kind 18 (module, marked state)"; `no_len` for a kind that is not
-- there
unfoldable pub body_len : ℕ → ℕ
body_len k =
    cond (eqb k 0x10) 3
    (cond (eqb k 0x11) 3
    (cond (eqb k 0x12) 3
    (cond (eqb k 0x13) 4
    (cond (eqb k 0x14) 11
    (cond (eqb k 0x15) 4
    (cond (eqb k 0x16) 10
    (cond (eqb k 0x17) 11
    (cond (eqb k 0x18) 2
    (cond (eqb k 0x1f) 0 no_len)))))))))

-- the bytes of a whole record of a kind: the kind's byte and the body; 256 for a number that is no kind
abbrev pub size_by : ℕ → ℕ
size_by k = suc (body_len k)

-- the column "Kind"
unfoldable pub kind_of : Record → ℕ
kind_of (Head m v e) = 0x10
kind_of (Event n o c) = 0x11
kind_of (Module n st i) = 0x12
kind_of (ModuleMove m f e t) = 0x13
kind_of (Supervisor n st i a) = 0x14
kind_of (SupervisorMove v f e t) = 0x15
kind_of (Disabling v st m) = 0x16
kind_of (Step e i o x) = 0x17
kind_of (Marking m st) = 0x18
kind_of End = 0x1f

abbrev pub size_of : Record → ℕ
size_of r = size_by (kind_of r)
