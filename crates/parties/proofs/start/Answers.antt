use Rattle.parties.proofs.start.Goals as goal

pub returns : goal.returns
returns c =
    simp (c.start.ensures, c.empty.ensures, c.start_supervisors.ensures, c.start_modules.ensures)
