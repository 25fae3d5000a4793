use Rattle.permits.proofs.event_named.Goals as goal

pub returns : goal.returns
returns c = cc
