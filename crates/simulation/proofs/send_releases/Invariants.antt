use Prim.Native.Nat.{◌*◌}
use mathlib.Core.Path.{◌≡◌}
use lib.ListN.{drop}
use Rattle.messages.specs.Message.{release_size}
use Rattle.wire.specs.Wire.{with_messages}
use Rattle.simulation.specs.Play.{releases_of}
use Rattle.simulation.proofs.send_releases.Given as goal

abbrev pub invariant-loop-k : goal.invariant-loop-k
invariant-loop-k l = with_messages l.next (releases_of (drop (l.k * release_size) l.s)) ≡ with_messages l.initial.next (releases_of l.s)
