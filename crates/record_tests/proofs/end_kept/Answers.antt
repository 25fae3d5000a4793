use Rattle.record_tests.proofs.end_kept.Goals as goal

pub returns : goal.returns
returns c = cc
