use Rattle.acts.proofs.Lines.{act_short, act_module, act_supervisor, act_delivery, act_response, act_tick, act_other, act_unspaced}
use Rattle.acts.proofs.act_of.Goals as goal

pub returns-then-s-lt2 : goal.returns-then-s-lt2
returns-then-s-lt2 c = search act_short

pub returns-in-109 : goal.returns-in-109
returns-in-109 c = search act_module

pub returns-in-115 : goal.returns-in-115
returns-in-115 c = search act_supervisor

pub returns-in-100 : goal.returns-in-100
returns-in-100 c = search act_delivery

pub returns-in-114 : goal.returns-in-114
returns-in-114 c = search act_response

pub returns-in-107 : goal.returns-in-107
returns-in-107 c = search act_tick

pub returns-in_default : goal.returns-in_default
returns-in_default c = search act_other

pub returns-else-s-eq32 : goal.returns-else-s-eq32
returns-else-s-eq32 c = search act_unspaced
