use Rattle.checker.proofs.fields_at.Goals as goal

pub returns : goal.returns
returns c = cc
