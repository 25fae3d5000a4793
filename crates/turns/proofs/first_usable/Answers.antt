use native.Mathlib.Omega.{arith}
use borrow.Author.Rules.{rules}
use Rattle.turns.proofs.Turns.{none_yet, past_responses, past_cells, first_found, not_this}
use Rattle.turns.proofs.first_usable.Goals as goal

pub loop-i-init : goal.loop-i-init
loop-i-init c = (search rules, omega arith, search none_yet)

pub returns-then-i-ge8 : goal.returns-then-i-ge8
returns-then-i-ge8 c = search past_cells

pub returns-then-has : goal.returns-then-has
returns-then-has c = search first_found

pub loop-i-preserved : goal.loop-i-preserved
loop-i-preserved c = (search rules, search rules, search not_this)

pub returns : goal.returns
returns c = search past_responses
