use Rattle.records.specs.Kinds.{kind_of}
use borrow.Author.Rules.{rules}
use Rattle.records.proofs.kind_of.Goals as goal

pub returns-in-Head : goal.returns-in-Head
unfolding kind_of
returns-in-Head c = search rules

pub returns-in-Event : goal.returns-in-Event
unfolding kind_of
returns-in-Event c = search rules

pub returns-in-Module : goal.returns-in-Module
unfolding kind_of
returns-in-Module c = search rules

pub returns-in-ModuleMove : goal.returns-in-ModuleMove
unfolding kind_of
returns-in-ModuleMove c = search rules

pub returns-in-Supervisor : goal.returns-in-Supervisor
unfolding kind_of
returns-in-Supervisor c = search rules

pub returns-in-SupervisorMove : goal.returns-in-SupervisorMove
unfolding kind_of
returns-in-SupervisorMove c = search rules

pub returns-in-Disabling : goal.returns-in-Disabling
unfolding kind_of
returns-in-Disabling c = search rules

pub returns-in-Step : goal.returns-in-Step
unfolding kind_of
returns-in-Step c = search rules

pub returns-in-Marking : goal.returns-in-Marking
unfolding kind_of
returns-in-Marking c = search rules

pub returns-in-End : goal.returns-in-End
unfolding kind_of
returns-in-End c = search rules
