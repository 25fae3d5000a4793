use Rattle.checker.proofs.Answering.{stops_at, goes_on}
use Rattle.checker.proofs.InPlace.{begun_on, past_then}
use Rattle.checker.proofs.past_after.Goals as goal

pub past_late-i-requires : goal.past_late-i-requires
past_late-i-requires c =
    begun_on _ _ _ _ _ c.requires c.past_early-m.ensures

pub returns-in-Err : goal.returns-in-Err
returns-in-Err c =
    stops_at _ _ _ _ _ c.requires (past_then _ _ _ _ _ _ _ c.past_late-i.ensures c.past_early-m.ensures) _ (λ j. (c.slice_known-3-1.given j).fits) c.read_at.ensures.answer c.in-Err.is

pub returns-in-Ok : goal.returns-in-Ok
returns-in-Ok c =
    goes_on _ _ _ _ _ c.requires (past_then _ _ _ _ _ _ _ c.past_late-i.ensures c.past_early-m.ensures) (λ j. (c.shared_slice_known-1.given j).fits) (λ j. (c.slice_known-3-1.given j).fits) c.past_by_value.ensures
