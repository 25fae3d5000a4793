use Rattle.answers.proofs.Printed.{line_module, line_supervisor, line_delivery, line_nothing, line_response, line_tick, line_misshapen, line_of}
use Rattle.answers.proofs.answer_line.Goals as goal

pub returns-in-Module : goal.returns-in-Module
returns-in-Module c = line_of _ (search line_module)

pub returns-in-Supervisor : goal.returns-in-Supervisor
returns-in-Supervisor c = line_of _ (search line_supervisor)

pub returns-in-Delivery : goal.returns-in-Delivery
returns-in-Delivery c = line_of _ (search line_delivery)

pub returns-in-NoMessage : goal.returns-in-NoMessage
returns-in-NoMessage c = line_of _ (search line_nothing)

pub returns-in-Response : goal.returns-in-Response
returns-in-Response c = line_of _ (search line_response)

pub returns-in-Tick : goal.returns-in-Tick
returns-in-Tick c = line_of _ (search line_tick)

pub returns-in-Misshapen : goal.returns-in-Misshapen
returns-in-Misshapen c = line_of _ (search line_misshapen)
