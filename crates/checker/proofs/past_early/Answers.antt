use Rattle.checker.proofs.InPlace.{begun_on, past_then}
use Rattle.checker.proofs.past_early.Goals as goal

pub past_modules-m-requires : goal.past_modules-m-requires
past_modules-m-requires c =
    begun_on _ _ _ _ _ c.requires c.past_events-e.ensures

pub past_module_moves-requires : goal.past_module_moves-requires
past_module_moves-requires c =
    begun_on _ _ _ _ _ (begun_on _ _ _ _ _ c.requires c.past_events-e.ensures) c.past_modules-m.ensures

pub returns : goal.returns
returns c =
    past_then _ _ _ _ _ _ _ c.past_module_moves.ensures (past_then _ _ _ _ _ _ _ c.past_modules-m.ensures c.past_events-e.ensures)
