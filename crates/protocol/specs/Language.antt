-- The language of the modules under their supervisors, in the terms of source document 004, chapter 2, from a position on. `Besides` of crate
-- agreement names `Supervised`; demand 3 itself does not ask for it.
use Rattle.std.specs.Prelude.{ℕ, ◌<◌, ◌≡◌, Bool, true, false, cond, eqb, Option, Some, None, unwrap_or, is_some}
use mathlib.Core.List.{List, [], ◌∷◌, ◌++◌, Memᴰ}
use Rattle.bits.specs.Bit.{bit}
use Rattle.protocol.specs.Plan.{Plan}
use Rattle.protocol.specs.System.{Position}

-- 004, 2.1.1, (2.2): the natural projection of a word on an alphabet
unfoldable pub project : (ℕ → Bool) → List ℕ → List ℕ
project a [] = []
project a (e ∷ w) = cond (a e) (e ∷ project a w) (project a w)

-- 004, 2.1.2, (2.6) to (2.8): a partial transition function along a word
abbrev pub move_from : (ℕ → ℕ → Option ℕ) → Option ℕ → ℕ → Option ℕ
move_from move None e = None
move_from move (Some x) e = move x e

unfoldable pub along : (ℕ → ℕ → Option ℕ) → Option ℕ → List ℕ → Option ℕ
along move o [] = o
along move o (e ∷ w) = along move (move_from move o e) w

-- 004, 2.1.2, (2.9): the word is generated from the state x
abbrev pub Generates : (ℕ → ℕ → Option ℕ) → ℕ → List ℕ → Type 0
Generates move x w = is_some (along move (Some x) w) ≡ true

-- a supervisor's automaton; document 01: "a supervisor without a listed move stays"
unfoldable pub staying : Plan → ℕ → ℕ → ℕ → Option ℕ
staying P s x e = Some (unwrap_or (P.supervisor_move s x e) x)

pub record Supervised (P : Plan) (p : Position) (w : List ℕ) : Type 0 where
  pub letters : (e : ℕ) → Memᴰ e w → e < P.events
  -- 004, 2.2, (2.12), by (2.5) and (2.11): the plant is the synchronous product of the modules
  pub plant : (m : ℕ) → m < P.modules → Generates (P.move m) (p.module_states m) (project (λ e. eqb (P.owner e) m) w)
  -- 004, 2.3 and 2.4.2: no event is disabled by a supervisor, led along the word before it by the events of its own alphabet
  pub enabled : (s : ℕ) → s < P.supervisors → (u v : List ℕ) (e x : ℕ) → w ≡ u ++ (e ∷ v)
      → along (staying P s) (Some (p.supervisor_states s)) (project (P.alphabet s) u) ≡ Some x → bit (P.shown s x) e ≡ false
