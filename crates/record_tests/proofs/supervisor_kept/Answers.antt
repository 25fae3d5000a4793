use Rattle.record_tests.proofs.supervisor_kept.Goals as goal

pub returns : goal.returns
returns c = cc
