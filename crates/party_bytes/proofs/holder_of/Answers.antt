use Rattle.party_bytes.specs.Supervisor.{holder_of}
use Rattle.party_bytes.proofs.holder_of.Goals as goal

pub returns-then-out : goal.returns-then-out
unfolding holder_of
returns-then-out c = cc

pub returns-else-out : goal.returns-else-out
unfolding holder_of
returns-else-out c = cc
