use Rattle.record_tests.proofs.disabling_named.Goals as goal

pub returns : goal.returns
returns c = cc
