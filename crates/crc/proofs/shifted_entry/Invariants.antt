use Rattle.std.proofs.Common.{◌≡◌, ◌-◌}
use Rattle.crc.specs.Crc.{shifts, entry_of}
use Rattle.crc.proofs.shifted_entry.Given as goal

abbrev pub invariant-loop : goal.invariant-loop
invariant-loop l = shifts (8 - l.counter) l.c ≡ entry_of l.b
