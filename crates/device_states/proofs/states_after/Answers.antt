use mathlib.Core.Path.{refl}
use native.Mathlib.Omega.{arith}
use borrow.Author.Rules.{rules}
use Rattle.words.specs.Lists.{list_from}
use Rattle.device_states.proofs.Slots.{moved_on, moved_rest, moved_all, stays}
use Rattle.device_states.proofs.states_after.Goals as goal

pub loop-i-init : goal.loop-i-init
unfolding list_from
loop-i-init c = (search rules, refl)

pub returns-then-n-i : goal.returns-then-n-i
returns-then-n-i c =
    let l = c.loop-i in
    let a = c.args in
    let n = c.count-n.ensures in
    moved_rest _ a.states (search rules) a.e l.i l.invariant.1 l.invariant.0
    (λ v h k. stays _ _ a.states a.e v (omega (arith, n, c.if-n-i.true, h)))

pub loop-i-preserved : goal.loop-i-preserved
loop-i-preserved c =
    let l = c.loop-i in
    let a = c.args in
    (search rules, moved_on _ a.states (search rules) a.e _ l.invariant.1 _ refl c.supervisor_after.ensures c.loop-i-test.true)

pub returns : goal.returns
returns c =
    let l = c.loop-i in
    let a = c.args in
    moved_all _ a.states (search rules) a.e l.i l.invariant.1 c.loop-i-test.false l.invariant.0
