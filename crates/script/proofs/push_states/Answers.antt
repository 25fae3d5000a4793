use mathlib.Core.Logic.{inl, inr}
use Rattle.script.proofs.States.{passed_first, states_again, states_done, states_short}
use Rattle.script.proofs.push_states.Goals as goal

pub loop-i-init : goal.loop-i-init
loop-i-init c = search passed_first

pub returns-then-i-ge16 : goal.returns-then-i-ge16
returns-then-i-ge16 c = (search (states_done, inl), search (states_short, inl))

pub loop-i-preserved : goal.loop-i-preserved
loop-i-preserved c = search states_again

pub returns : goal.returns
returns c = (search (states_done, inr), search (states_short, inr))
