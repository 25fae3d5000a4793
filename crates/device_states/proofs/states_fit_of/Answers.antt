use mathlib.Core.Path.{refl}
use borrow.Author.Rules.{rules}
use Rattle.bits.specs.Bit.{all_below}
use Rattle.bits.proofs.Below.{all_done}
use Rattle.device_states.proofs.Slots.{state_on, state_fails, states_zero}
use Rattle.device_states.proofs.states_fit_of.Goals as goal

pub loop-v-init : goal.loop-v-init
unfolding all_below
loop-v-init c = (search rules, refl)

pub returns-then-n-v : goal.returns-then-n-v
returns-then-n-v c =
    let a = c.args in
    let e = c.wide-i.ensures in
    states_zero _ _ a.states (search rules) _ e c.loop-v-test.true c.if-n-v.true c.are_zeros.ensures c.loop-v.invariant.1

pub loop-v-preserved : goal.loop-v-preserved
loop-v-preserved c = (search rules, search (state_on, rules))

pub returns-then-not-supervisor_state : goal.returns-then-not-supervisor_state
returns-then-not-supervisor_state c =
    let a = c.args in
    let e = c.wide-i.ensures in
    state_fails _ _ a.states (search rules) _ e c.loop-v-test.true c.if-n-v.false c.supervisor_state.ensures c.if-not-supervisor_state.true

pub returns : goal.returns
returns c = search all_done
