use Rattle.fields.proofs.is_float.Goals as goal

pub returns : goal.returns
returns c = cc
