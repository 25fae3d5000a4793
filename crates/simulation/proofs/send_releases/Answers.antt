use Prim.Native.Nat.{ℕ, ◌+◌, ◌*◌}
use native.Mathlib.Omega.{arith}
use mathlib.Core.Path.{◌≡◌, refl, subst}
use lib.ListN.{drop}
use Rattle.messages.specs.Message.{release_size}
use Rattle.wire.specs.Wire.{with_messages}
use Rattle.simulation.specs.Play.{releases_of}
use Rattle.simulation.proofs.Sending.{releases_again, releases_end}
use Rattle.simulation.proofs.send_releases.Goals as goal

pub loop-k-init : goal.loop-k-init
loop-k-init c = refl

pub loop-k-preserved : goal.loop-k-preserved
loop-k-preserved c =
    let l = c.loop-k in
    let on : l.k * release_size + release_size ≡ (l.k + 1) * release_size = omega arith in
    subst (λ (e : ℕ). with_messages c.send-next.result (releases_of (drop e c.args.s.now)) ≡ with_messages c.args.w (releases_of c.args.s.now)) on
    (releases_again c.args.s.now (l.k * release_size) l.next l.invariant (l.k * release_size + release_size) refl (omega (arith, c.loop-k-test.true)) c.send-next.ensures)

pub returns : goal.returns
returns c =
    let l = c.loop-k in
    releases_end c.args.s.now (l.k * release_size) l.next l.invariant (omega arith)
