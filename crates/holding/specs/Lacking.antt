-- Document 01, "Permits and messages": "The count of neighbours is the number of ones in the neighbour mask."
use Rattle.std.specs.Prelude.{ℕ, ◌≡◌, Bool, true, not, eqb, is_some}
use Rattle.std.specs.Int.Count.{ones}
use Rattle.plan.specs.Plan.{neighbour_count}
use Rattle.permits.specs.Module.{missing_in, held_in}

-- r tells whether the number of permits held differs from the count of neighbours, and where those held fit that is whether one is missing
pub record Lacking (adjacent held : ℕ) (r : Bool) : Type 0 where
  pub counted : r ≡ not (eqb (ones held) (neighbour_count adjacent))
  pub is : held_in adjacent held ≡ true → r ≡ is_some (missing_in adjacent held)
