use Rattle.std.proofs.Common.{◌≡◌, take}
use Rattle.std.specs.List.{fold}
use Rattle.length_input.specs.Input.{with_byte}
use Rattle.length_input.proofs.with_bytes.Given as goal

abbrev pub invariant-loop-b : goal.invariant-loop-b
invariant-loop-b l = l.longer ≡ fold with_byte l.initial.longer (take l.b-index l.s)
