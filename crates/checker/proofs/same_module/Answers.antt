use Rattle.checker.proofs.same_module.Goals as goal

pub returns : goal.returns
returns c = simp c.wide-k.ensures
