use Rattle.std.proofs.Common.{sym}
use Rattle.checker.proofs.Loop.{over, after_eight, end_inside, end_by, with_alphabets, no_alphabets}
use Rattle.checker.proofs.after_modules.Goals as goal

pub end_at-requires : goal.end_at-requires
end_at-requires c = end_inside _ _ _ _ _ _ _ c.end_kept.ensures c.if-end_kept.true

pub returns-then-end_kept : goal.returns-then-end_kept
returns-then-end_kept c =
    end_by _ _ _ _ _ _ _ c.end_kept.ensures c.if-end_kept.true
    (over _
    (after_eight _ _ _ _ _ _ _ _ _ _ _ _ _ _ _ _ _ _ _ _ _ _ _ _ _ _ _ c.supervisors-v.ensures c.noted_past-vp.ensures
    c.supervisor_moves-m.ensures c.noted_past-mp.ensures c.disablings-d.ensures c.noted_past-dp.ensures
    c.steps-s.ensures c.noted_past-sp.ensures c.markings-t.ensures c.noted_past-tp.ensures)
    (with_alphabets _ _ _ _ _ _ _ _ _ no_alphabets c.requires))
    c.noted-p.ensures c.end_at.ensures

pub slice_bounds-alphabets_of-end : goal.slice_bounds-alphabets_of-end
slice_bounds-alphabets_of-end c =
    sym c.supervisors-v.auto.alphabet

pub judged-requires : goal.judged-requires
judged-requires c =
    with_alphabets _ _ _ _ _ _ _ _ _ c.alphabets_of-own.ensures
    (over _
    (after_eight _ _ _ _ _ _ _ _ _ _ _ _ _ _ _ _ _ _ _ _ _ _ _ _ _ _ _ c.supervisors-v.ensures c.noted_past-vp.ensures
    c.supervisor_moves-m.ensures c.noted_past-mp.ensures c.disablings-d.ensures c.noted_past-dp.ensures
    c.steps-s.ensures c.noted_past-sp.ensures c.markings-t.ensures c.noted_past-tp.ensures)
    (with_alphabets _ _ _ _ _ _ _ _ _ no_alphabets c.requires))
