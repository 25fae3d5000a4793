use Rattle.checker.proofs.InPlace.{begun_on, past_then}
use Rattle.checker.proofs.past_late.Goals as goal

pub past_supervisor_moves-m-requires : goal.past_supervisor_moves-m-requires
past_supervisor_moves-m-requires c =
    begun_on _ _ _ _ _ c.requires c.past_supervisors-v.ensures

pub past_disablings-d-requires : goal.past_disablings-d-requires
past_disablings-d-requires c =
    begun_on _ _ _ _ _ (begun_on _ _ _ _ _ c.requires c.past_supervisors-v.ensures) c.past_supervisor_moves-m.ensures

pub past_steps-s-requires : goal.past_steps-s-requires
past_steps-s-requires c =
    begun_on _ _ _ _ _ (begun_on _ _ _ _ _ (begun_on _ _ _ _ _ c.requires c.past_supervisors-v.ensures) c.past_supervisor_moves-m.ensures) c.past_disablings-d.ensures

pub past_markings-requires : goal.past_markings-requires
past_markings-requires c =
    begun_on _ _ _ _ _ (begun_on _ _ _ _ _ (begun_on _ _ _ _ _ (begun_on _ _ _ _ _ c.requires c.past_supervisors-v.ensures) c.past_supervisor_moves-m.ensures) c.past_disablings-d.ensures) c.past_steps-s.ensures

pub returns : goal.returns
returns c =
    past_then _ _ _ _ _ _ _ c.past_markings.ensures (past_then _ _ _ _ _ _ _ c.past_steps-s.ensures (past_then _ _ _ _ _ _ _ c.past_disablings-d.ensures (past_then _ _ _ _ _ _ _ c.past_supervisor_moves-m.ensures c.past_supervisors-v.ensures)))
