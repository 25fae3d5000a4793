-- What a check of a plan gives.
use Rattle.refusal.specs.Refusal.{refused_number, refused_offset}
use Rattle.refusal.specs.declared.Refusal.{Refusal}
use Rattle.std.specs.Prelude.{◌≡◌, ℕ, List, Result, Ok, Err, ⊤}
use Rattle.places.specs.Places.{places_of}
use Rattle.places.specs.declared.Places.{Places}
use Rattle.rules.specs.Check.{verdict_of}

-- the places of an accepted plan's records, or the number and the offset
unfoldable pub examined_by : Places → Result ⊤ Refusal → Result Places Refusal
examined_by p (Ok u) = Ok p
examined_by p (Err e) = Err e

unfoldable pub examined_of : List ℕ → Result Places Refusal
examined_of s = examined_by (places_of s) (verdict_of s)

-- the whole answer x of the check of an image: its case with its values, and the number and offset of that case, which are the verdict's
pub record ExaminedAs (s : List ℕ) (x : Result Places Refusal) : Type 0 where
  pub answer : x ≡ examined_of s
  pub number : refused_number x ≡ refused_number (verdict_of s)
  pub offset : refused_offset x ≡ refused_offset (verdict_of s)
