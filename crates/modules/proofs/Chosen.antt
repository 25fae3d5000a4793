-- The choice of the response and of the command, known above by these laws.
use Rattle.std.specs.Prelude.{Some, None}
use Prim.Native.Nat.{ℕ, ◌<◌}
use mathlib.Core.Path.{◌≡◌}
use mathlib.Core.List.{List}
use mathlib.Core.Bool.{false}
use lib.ListN.{length}
use Rattle.bits.proofs.Least.{Lowest, least_none, least_some, least_same}
use Rattle.records.specs.declared.Record.{Record}
use Rattle.modules.specs.declared.Own.{Own}
use Rattle.modules.specs.Queue.{queue_of, response_at}
use Rattle.modules.specs.Turn.{has_move, first_usable, enabled, chosen}

-- the index of the response is the lowest in the queue by whose response the module has a move
abbrev pub FirstUsable : List Record → ℕ → Own → ℕ → Type 0
FirstUsable rs m own i = Lowest (λ j. has_move rs m own.state (response_at own j)) (length (queue_of own)) i

pub usable_first : (rs : List Record) (m : ℕ) (own : Own) (i : ℕ) → first_usable rs m own ≡ Some i → FirstUsable rs m own i
unfolding first_usable
usable_first rs m own i = least_some (λ j. has_move rs m own.state (response_at own j)) (length (queue_of own)) i

pub usable_none : (rs : List Record) (m : ℕ) (own : Own) → first_usable rs m own ≡ None → (j : ℕ) → j < length (queue_of own) → has_move rs m own.state (response_at own j) ≡ false
unfolding first_usable
usable_none rs m own = least_none (λ j. has_move rs m own.state (response_at own j)) (length (queue_of own))

module _ (rs : List Record) (m k : ℕ) (own : Own) where
  -- the command is the lowest enabled event
  pub chosen_lowest : (e : ℕ) → chosen rs m k own ≡ Some e → Lowest (enabled rs m k own.state) 64 e
  unfolding chosen
  chosen_lowest e = least_some (enabled rs m k own.state) 64 e

  -- masks that enable the same events lead to the same choice
  pub chosen_same : (k' : ℕ) → ((e : ℕ) → e < 64 → enabled rs m k own.state e ≡ enabled rs m k' own.state e) → chosen rs m k own ≡ chosen rs m k' own
  unfolding chosen
  chosen_same k' = least_same (enabled rs m k own.state) (enabled rs m k' own.state) 64
