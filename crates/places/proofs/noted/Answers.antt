use Rattle.places.specs.Places.{noted_at}
use Rattle.places.proofs.noted.Goals as goal

pub returns : goal.returns
unfolding noted_at
returns c = simp (c.place_by-9.ensures, c.place_by-8.ensures, c.place_by-7.ensures, c.place_by-6.ensures, c.place_by-5.ensures, c.place_by-4.ensures, c.place_by-3.ensures, c.place_by-2.ensures, c.place_by.ensures)
