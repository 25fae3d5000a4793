use mathlib.Core.Path.{◌≡◌, refl, ◌∙◌}
use native.Mathlib.Omega.{arith}
use Rattle.places.proofs.Halving.{goes_on, goes_no_further, goes_to_the_end}
use Rattle.places.proofs.go_on.Goals as goal

pub loop-i-init : goal.loop-i-init
loop-i-init c = refl

pub loop-i-preserved : goal.loop-i-preserved
loop-i-preserved c = search goes_on

pub returns-then-not-precedes_at : goal.returns-then-not-precedes_at
returns-then-not-precedes_at c = search goes_no_further

pub returns : goal.returns
returns c =
    let n = c.args.run.count in
    let end : n ≡ c.loop-i.i = omega (arith, c.loop-i.auto.i-end c.requires.2) in
    end ∙ goes_to_the_end _ n c.loop-i.i c.loop-i.invariant c.loop-i-test.false
