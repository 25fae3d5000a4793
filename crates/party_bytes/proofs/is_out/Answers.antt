use Rattle.party_bytes.specs.Supervisor.{is_out}
use Rattle.party_bytes.proofs.is_out.Goals as goal

pub returns-in-Home : goal.returns-in-Home
unfolding is_out
returns-in-Home c = cc

pub returns-in-Out : goal.returns-in-Out
unfolding is_out
returns-in-Out c = cc
