use Rattle.masks.proofs.Near.{near_of, near_none}
use Rattle.masks.proofs.modules_near.Goals as goal

pub returns-then-v-supervisors_of : goal.returns-then-v-supervisors_of
returns-then-v-supervisors_of c =
    near_of _ _ c.supervisors_of.ensures c.if-v-supervisors_of.true c.alphabet_of.ensures c.owners.ensures

pub returns-else-v-supervisors_of : goal.returns-else-v-supervisors_of
returns-else-v-supervisors_of c = search near_none
