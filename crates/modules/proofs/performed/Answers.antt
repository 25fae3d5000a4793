use Rattle.modules.proofs.Steps.{index_small, on_small, off_small, wait_small, respond_small}
use Rattle.modules.proofs.Ticks.{kept_small, performs_on, performs_off, performs_wait, performs_pour, performs_answer}
use Rattle.modules.proofs.performed.Goals as goal

pub switched-next-requires : goal.switched-next-requires
switched-next-requires c = search on_small

pub advanced-requires : goal.advanced-requires
advanced-requires c = search (kept_small, index_small)

pub switched-next-requires-in-2 : goal.switched-next-requires-in-2
switched-next-requires-in-2 c = search off_small

pub advanced-requires-in-2 : goal.advanced-requires-in-2
advanced-requires-in-2 c = search (kept_small, index_small)

pub waited-requires : goal.waited-requires
waited-requires c = search (index_small, wait_small)

pub metered-requires : goal.metered-requires
metered-requires c = search index_small

pub responded-requires : goal.responded-requires
responded-requires c = search (index_small, respond_small)

pub returns-in-1 : goal.returns-in-1
returns-in-1 c = search performs_on

pub returns-in-2 : goal.returns-in-2
returns-in-2 c = search performs_off

pub returns-in-3 : goal.returns-in-3
returns-in-3 c = search performs_wait

pub returns-in-4 : goal.returns-in-4
returns-in-4 c = search performs_pour

pub returns-in_default : goal.returns-in_default
returns-in_default c = search performs_answer
