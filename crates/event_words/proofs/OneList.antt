-- A system has no two lists of its reachable states in ascending order.
use Rattle.event_words.specs.Listed.{OneList}
use Rattle.event_words.proofs.Ascending.{same_ascending}

pub one_list : OneList
one_list Y l r A B = same_ascending l r A.ascends B.ascends (λ k h. B.all _ (A.reached k h)) (λ k h. A.all _ (B.reached k h))
