use Rattle.record_tests.proofs.step_kept.Goals as goal

pub returns : goal.returns
returns c = cc
