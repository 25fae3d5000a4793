-- What the places of an accepted plan are good for.
use Rattle.std.specs.Prelude.{ℕ, ◌≡◌, List}
use Rattle.places.specs.Places.{places_of, records_by}
use Rattle.reader.specs.Walk.{records_of}
use Rattle.rules.specs.Check.{IsPlan}

-- by its own places, a look-up finds every record of an accepted plan, and no other
abbrev pub AllFound : Type 0
AllFound = (s : List ℕ) → IsPlan s → records_by s (places_of s) ≡ records_of s
