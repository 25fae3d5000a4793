use Rattle.plan.proofs.in_alphabet.Goals as goal

pub returns : goal.returns
returns c = cc
