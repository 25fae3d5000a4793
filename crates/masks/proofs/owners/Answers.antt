use Rattle.places.specs.Places.{records_by}
use Rattle.masks.proofs.Near.{no_owners, owners_small, owners_more, owners_all, owners_rest}
use Rattle.masks.proofs.owners.Goals.{else-loop-e-test, then-loop-e-test+then-none_from}
use Rattle.masks.proofs.owners.Goals as goal

pub loop-e-init : goal.loop-e-init
loop-e-init c = no_owners _ _

pub loop-e-preserved : goal.loop-e-preserved
loop-e-preserved c = search owners_more

pub overflow_cast-result : goal.overflow_cast-result
overflow_cast-result c = search owners_small

pub returns : goal.returns
returns c =
    let rs = records_by c.args.image.now c.args.places in
    elim c.loop-e-test.branch [
      | else-loop-e-test w ↦ owners_all rs _ _ c.loop-e.invariant c.events_of-n.ensures c.loop-e.auto.e-end w.loop-e-test.false
      | then-loop-e-test+then-none_from w ↦ owners_rest rs _ _ c.loop-e.invariant c.events_of-n.ensures c.loop-e.auto.e-end w.none_from.ensures w.if-none_from.true
    ]
