use Rattle.judge.proofs.module_known.Goals as goal

pub returns : goal.returns
returns c = cc
