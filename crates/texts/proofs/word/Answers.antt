use Rattle.texts.proofs.word.Goals as goal

pub returns : goal.returns
returns c = cc
