use Rattle.acts.proofs.tick_by.Goals as goal

pub returns-in-Eighths : goal.returns-in-Eighths
returns-in-Eighths c = cc

pub returns-in-NoSensor : goal.returns-in-NoSensor
returns-in-NoSensor c = cc
