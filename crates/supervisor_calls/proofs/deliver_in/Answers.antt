use mathlib.Core.Path.{sym, ◌∙◌}
use Rattle.supervisor_calls.proofs.Delivering.{misshapen_by, named_by, unnamed_by}
use Rattle.supervisor_calls.proofs.deliver_in.Goals as goal

pub returns-in_default : goal.returns-in_default
returns-in_default c = search misshapen_by

pub take-requires : goal.take-requires
take-requires c = (c.requires.0, sym c.is_named.ensures ∙ c.if-is_named.true)

pub returns-then-is_named : goal.returns-then-is_named
returns-then-is_named c = search named_by

pub returns-else-is_named : goal.returns-else-is_named
returns-else-is_named c = search unnamed_by
