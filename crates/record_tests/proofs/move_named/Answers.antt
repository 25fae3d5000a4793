use Rattle.record_tests.proofs.move_named.Goals as goal

pub returns : goal.returns
returns c = cc
