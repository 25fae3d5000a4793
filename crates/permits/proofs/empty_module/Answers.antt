use Rattle.permits.proofs.empty_module.Goals as goal

pub returns : goal.returns
returns c = simp c.empty-own.ensures
