-- The lines of scripts, and the listing of an image that is no plan, by computation. The sheet itself, with plan P, is computed in crate runs.
use Rattle.std.specs.Prelude.{◌≡◌, refl, [], ◌∷◌}
use Rattle.reader.specs.Walk.{walk_of, records_in}
use Rattle.rules.specs.Check.{check_walk, verdict_of}
use Rattle.device.specs.Device.{start_by}
use Rattle.texts.specs.Ascii.{ascii, digits}
use Rattle.script.specs.Answers.{plan_refused_line}
use Rattle.sheet.specs.Listing.{on_first, lines_of, listed_by, listed}

pub record Examples : Type 0 where
  -- "a line feed (the last may lack it)"
  pub ended : lines_of (ascii "t 0\nt 1\n") ≡ ascii "t 0" ∷ ascii "t 1" ∷ []
  pub lacking : lines_of (ascii "t 0\nt 1") ≡ ascii "t 0" ∷ ascii "t 1" ∷ []
  pub blank : lines_of (ascii "t 0\n\n") ≡ ascii "t 0" ∷ [] ∷ []
  pub none : lines_of [] ≡ []
  -- "empty image 3 at 0"; "and, alone, `plan refused N at B`"
  pub refused : listed [] (ascii "t 0\n") ≡ ascii "plan refused 3 at 0\n"

pub examples : Examples
unfolding ascii digits walk_of records_in check_walk verdict_of start_by plan_refused_line on_first lines_of listed_by
examples = record { ended = refl; lacking = refl; blank = refl; none = refl; refused = refl }
