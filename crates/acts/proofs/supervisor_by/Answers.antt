use Rattle.acts.proofs.supervisor_by.Goals as goal

pub returns-in-Some : goal.returns-in-Some
returns-in-Some c = cc
