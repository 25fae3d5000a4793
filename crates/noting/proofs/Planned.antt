-- What a call is told of the plan first: the count k of supervisors.
use mathlib.Core.Path.{◌≡◌, sym, ap, ◌∙◌}
use mathlib.Core.List.{List}
use mathlib.Core.Bool.{true, false}
use Prim.Native.Nat.{ℕ, ◌≤◌, ◌<◌}
use lib.Dec.{ltb}
use borrow.Author.Tests.{lt-ltb, le-ltb}
use Rattle.records.specs.declared.Record.{Record}
use Rattle.rules.specs.LookUp.{supervisors_of}

-- a supervisor that the plan has, or lacks
module _ (rs : List Record) (v : ℕ) {k : ℕ} (c : k ≡ supervisors_of rs) where
  pub present : v < k → ltb v (supervisors_of rs) ≡ true
  present l = ap (ltb v) (sym c) ∙ lt-ltb v k l

  pub lacking : k ≤ v → ltb v (supervisors_of rs) ≡ false
  lacking l = ap (ltb v) (sym c) ∙ le-ltb v k l
