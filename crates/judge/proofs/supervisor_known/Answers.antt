use Rattle.judge.proofs.supervisor_known.Goals as goal

pub returns : goal.returns
returns c = cc
