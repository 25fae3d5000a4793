use mathlib.Core.Path.{◌≡◌}
use Rattle.bits.specs.Bit.{mask_of}
use Rattle.places.specs.Places.{records_by}
use Rattle.masks.proofs.Events.{is_command}
use Rattle.masks.proofs.commands.Given as goal

abbrev pub invariant-loop-e : goal.invariant-loop-e
invariant-loop-e l = l.mask ≡ mask_of (is_command (records_by l.image l.places) l.moves) l.e
