use mathlib.Core.Path.{◌≡◌}
use lib.ListN.{take, drop}
use Rattle.wire.specs.Wire.{with_messages}
use Rattle.wire.proofs.copied.Given as goal

abbrev pub invariant-loop-i : goal.invariant-loop-i
invariant-loop-i l = with_messages l.next (drop l.i (take l.to l.w.messages)) ≡ with_messages l.initial.next (drop l.from (take l.to l.w.messages))
