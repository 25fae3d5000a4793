use Rattle.places.specs.Places.{records_by}
use Rattle.releasing.proofs.Releasing.{Going}
use Rattle.releasing.proofs.release_all.Given as goal

abbrev pub invariant-loop-v : goal.invariant-loop-v
invariant-loop-v l = Going (records_by l.image l.places) l.m l.mask l.t l.initial.buffer l.buffer l.at l.v
