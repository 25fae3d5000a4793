use Rattle.module_steps.proofs.Choosing.{turn_by_lem, rest_by, stand_by, idle_by, bid_by, none_by}
use Rattle.module_steps.proofs.choose.Goals as goal

pub returns-then-x : goal.returns-then-x
returns-then-x c = search stand_by

pub returns-then-not-or_wish : goal.returns-then-not-or_wish
returns-then-not-or_wish c = search idle_by

pub returns-in_default : goal.returns-in_default
returns-in_default c = search none_by

pub returns-in-Some : goal.returns-in-Some
returns-in-Some c = search bid_by

pub returns-then-or_wish : goal.returns-then-or_wish
returns-then-or_wish c = search turn_by_lem

pub returns-else-or_wish : goal.returns-else-or_wish
returns-else-or_wish c = search rest_by
