use Rattle.fields.proofs.float_at.Goals as goal

pub returns : goal.returns
returns c = cc
