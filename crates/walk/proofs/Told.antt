-- What a caller of `read_on` is told, by what its answer holds.
use Rattle.std.specs.Prelude.{Ok}
use mathlib.Core.Path.{◌≡◌, ap, ◌∙◌, sym}
use mathlib.Core.List.{List}
use Prim.Native.Nat.{ℕ}
use Rattle.records.specs.declared.Record.{Record}
use Rattle.reader.specs.Read.{read_at}
use Rattle.walk.specs.Place.{place_after, read_on}
use Rattle.walk.specs.declared.PlacedRead.{PlacedRead}

module _ (s : List ℕ) (i : ℕ) {y : PlacedRead} (e : y ≡ read_on s i) where
  pub read_by_lem : y.read ≡ read_at s i
  read_by_lem = ap (λ (z : PlacedRead). z.read) e

  pub place_by : {r : Record} {n : ℕ} → y.read ≡ Ok (r, n) → y.place ≡ n
  unfolding place_after
  place_by f = ap (λ (z : PlacedRead). z.place) e ∙ ap (place_after i) (sym read_by_lem ∙ f)
