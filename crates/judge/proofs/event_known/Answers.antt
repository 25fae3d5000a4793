use Rattle.judge.proofs.event_known.Goals as goal

pub returns : goal.returns
returns c = cc
