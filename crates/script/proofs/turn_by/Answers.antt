use Rattle.script.proofs.turn_by.Goals as goal

-- src/lib.rt:121:1
pub returns-in-Some : goal.returns-in-Some
returns-in-Some c = cc
