-- Document 01, "Plan records": "Records ascend by kind, then strictly by key: the number (11, 12, 14), the first three fields (13, 15),
-- the first two (16, 17)."
use Rattle.std.specs.Prelude.{ℕ, ◌+◌, ◌*◌, Bool, ◌&&◌, ◌||◌, ltb, eqb}
use Rattle.records.specs.declared.Record.{Record}
use Rattle.records.specs.declared.Record.TheVariants.{Head, Event, Module, ModuleMove, Supervisor, SupervisorMove, Disabling, Step, Marking, End}
use Rattle.records.specs.declared.RecordKey.{RecordKey}

abbrev pub key_by : ℕ → ℕ → ℕ → ℕ → RecordKey
key_by k a b c = record { kind = k; first = a; second = b; third = c }

-- the head has no key
abbrev pub head_key : RecordKey
head_key = key_by 0x10 0 0 0

-- the kind and the key; what a key lacks counts as 0. Document 02, 2.1: kind 18 is "ordered after 17 by both fields"
unfoldable pub key_of : Record → RecordKey
key_of (Head m v e) = head_key
key_of (Event n o c) = key_by 0x11 n 0 0
key_of (Module n st i) = key_by 0x12 n 0 0
key_of (ModuleMove m f e t) = key_by 0x13 m f e
key_of (Supervisor n st i a) = key_by 0x14 n 0 0
key_of (SupervisorMove v f e t) = key_by 0x15 v f e
key_of (Disabling v st m) = key_by 0x16 v st 0
key_of (Step e i o x) = key_by 0x17 e i 0
key_of (Marking m st) = key_by 0x18 m st 0
key_of End = key_by 0x1f 0 0 0

-- the same kind and key
unfoldable pub same_key : RecordKey → RecordKey → Bool
same_key p q = eqb p.kind q.kind && eqb p.first q.first && eqb p.second q.second && eqb p.third q.third

-- ascending by kind, then strictly by key, the first field first
unfoldable pub precedes : RecordKey → RecordKey → Bool
precedes p q =
    ltb p.kind q.kind
    || (eqb p.kind q.kind
    && (ltb p.first q.first
    || (eqb p.first q.first && (ltb p.second q.second || (eqb p.second q.second && ltb p.third q.third)))))

-- the kind and the key as one number of four bytes, the kind's first
abbrev pub rank_of : RecordKey → ℕ
rank_of p = ((p.kind * 256 + p.first) * 256 + p.second) * 256 + p.third
