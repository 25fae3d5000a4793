use Rattle.acts.proofs.module_by.Goals as goal

pub returns-in-Some : goal.returns-in-Some
returns-in-Some c = cc
