use Rattle.acts.proofs.response_by.Goals as goal

pub returns-in-Response : goal.returns-in-Response
returns-in-Response c = cc
