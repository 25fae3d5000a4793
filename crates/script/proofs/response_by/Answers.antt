use Rattle.script.proofs.response_by.Goals as goal

-- src/lib.rt:130:1
pub returns-in-Some-e : goal.returns-in-Some-e
returns-in-Some-e c = cc
