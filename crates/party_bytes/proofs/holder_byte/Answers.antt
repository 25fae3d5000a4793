use Rattle.party_bytes.specs.Supervisor.{holder_byte}
use Rattle.party_bytes.proofs.holder_byte.Goals as goal

pub returns-in-Home : goal.returns-in-Home
unfolding holder_byte
returns-in-Home c = cc

pub returns-in-Out : goal.returns-in-Out
unfolding holder_byte
returns-in-Out c = cc
