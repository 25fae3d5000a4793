use lib.ListN.{take}
use Rattle.script.specs.Answers.{states_of}
use Rattle.script.proofs.States.{Passed}
use Rattle.script.proofs.push_states.Given as goal

abbrev pub invariant-loop-i : goal.invariant-loop-i
invariant-loop-i l = Passed l.initial.next (take l.n (states_of l.modules)) l.next l.i
