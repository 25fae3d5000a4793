use Rattle.checker.proofs.Loop.{over, after_three, noted_from}
use Rattle.checker.proofs.after_head.Goals as goal

pub after_modules-requires : goal.after_modules-requires
after_modules-requires c =
    over _
    (after_three _ _ _ _ _ _ _ _ _ _ _ _ _ _ _ _ _ _ _ _ _ _ c.events-e.ensures (noted_from _ _ _ _ _ c.noted_past-ep.ensures c.nowhere.ensures)
    c.modules-m.ensures c.noted_past-mp.ensures c.module_moves-v.ensures c.noted_past-vp.ensures)
    c.requires
