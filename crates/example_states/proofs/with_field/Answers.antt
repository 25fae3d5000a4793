use Rattle.example_states.proofs.with_field.Goals as goal

pub returns : goal.returns
returns c = cc
