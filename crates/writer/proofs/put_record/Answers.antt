use Rattle.records.specs.Bytes.{bytes_of}
use Rattle.writer.proofs.Writing.{whole_put, supervisor_put, disabling_put, step_put}
use Rattle.writer.proofs.put_record.Goals as goal

pub returns-in-Head : goal.returns-in-Head
unfolding bytes_of
returns-in-Head c = search whole_put

pub returns-in-Event : goal.returns-in-Event
unfolding bytes_of
returns-in-Event c = search whole_put

pub returns-in-Module : goal.returns-in-Module
unfolding bytes_of
returns-in-Module c = search whole_put

pub returns-in-ModuleMove : goal.returns-in-ModuleMove
unfolding bytes_of
returns-in-ModuleMove c = search whole_put

pub returns-in-Supervisor : goal.returns-in-Supervisor
returns-in-Supervisor c = search supervisor_put

pub returns-in-SupervisorMove : goal.returns-in-SupervisorMove
unfolding bytes_of
returns-in-SupervisorMove c = search whole_put

pub returns-in-Disabling : goal.returns-in-Disabling
returns-in-Disabling c = search disabling_put

pub returns-in-Step : goal.returns-in-Step
returns-in-Step c = search step_put

pub returns-in-Marking : goal.returns-in-Marking
unfolding bytes_of
returns-in-Marking c = search whole_put

pub returns-in-End : goal.returns-in-End
unfolding bytes_of
returns-in-End c = search whole_put
