use Rattle.module_steps.proofs.Stepping.{act_turn, act_bid, act_wait}
use Rattle.module_steps.proofs.act.Goals as goal

pub returns-in-Turn : goal.returns-in-Turn
returns-in-Turn c = search act_turn

pub returns-in-Bid : goal.returns-in-Bid
returns-in-Bid c = search act_bid

pub returns-in-Wait : goal.returns-in-Wait
returns-in-Wait c = search act_wait
