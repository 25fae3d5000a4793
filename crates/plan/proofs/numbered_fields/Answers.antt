use Rattle.plan.proofs.Answers.{fields_none, fields_it}
use Rattle.plan.proofs.numbered_fields.Goals as goal

pub returns-in_default : goal.returns-in_default
returns-in_default c = search fields_none

pub returns : goal.returns
returns c = search fields_it
