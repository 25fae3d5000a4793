use mathlib.Core.Path.{◌≡◌}
use lib.ListN.{length}
use Rattle.device.proofs.Calls.{after_event, after_none}
use borrow.Author.Rules.{rules}
use Rattle.device.proofs.after_turn.Goals as goal

pub returns-in_default : goal.returns-in_default
returns-in_default c = let h : length c.args.d.supervisors ≡ 32 = search rules in search after_none

pub returns : goal.returns
returns c = search after_event
