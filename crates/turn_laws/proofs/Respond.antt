-- A response keeps the state, the fit and the queue's eight cells.
use Prim.Native.Nat.{ℕ, ◌≤◌, ◌<◌}
use native.Mathlib.Omega.{arith}
use mathlib.Core.Path.{◌≡◌, refl}
use mathlib.Core.List.{List, [], ◌∷◌, ◌++◌}
use mathlib.Core.Bool.{Bool, true, false, cond}
use lib.Dec.{T}
use borrow.Author.Tests.{leb-false}
use denote.Floats.{passes as holds}
use Rattle.records.specs.declared.Record.{Record}
use Rattle.plan.specs.Plan.{own_uncontrollable}
use Rattle.modules.specs.declared.Own.{Own}
use Rattle.modules.specs.Queue.{queue_of, full, queued}
use Rattle.modules.specs.Procedure.{taken, refused, respond_of}
use Rattle.modules.specs.Fits.{own_fits}
use Rattle.turn_laws.specs.Laws.{EightCells}
use Rattle.modules.proofs.Queue.{cells_length}
use Rattle.turn_laws.proofs.Queue.{short, more_fits, one_more, at_most}
use Rattle.turn_laws.proofs.Procedure.{Parts, parts, whole}

-- ---- one response more in a queue that is not full

module _ (own : Own) (e : ℕ) (room : full own ≡ false) where
  pub queued_cells : own.length ≤ 8 → EightCells (queued own e)
  queued_cells h = cells_length (queue_of own ++ (e ∷ [])) (omega (arith, one_more (queue_of own) e, at_most own, leb-false 8 own.length room))

  pub queued_parts : (rs : List Record) (m : ℕ) → T (own_uncontrollable rs m e) → Parts rs m own → Parts rs m (queued own e)
  queued_parts rs m u a =
      let h : own.length < 8 = omega (arith, short rs m own a.queue, leb-false 8 own.length room) in
      record { state = a.state; queue = more_fits rs m own e h u a.queue; procedure = a.procedure }

-- ---- a response

module _ (rs : List Record) (m e : ℕ) (own : Own) where
  -- what holds of the own part as it was, and with the response queued, holds after the call
  respond_cases : (P : Own → Type 0) → P own → (own_uncontrollable rs m e ≡ true → full own ≡ false → P (queued own e)) → P (respond_of rs m e own).own
  unfolding respond_of
  respond_cases P stay more = go (own_uncontrollable rs m e) (full own) refl refl
    where
      go : (a b : Bool) → own_uncontrollable rs m e ≡ a → full own ≡ b → P (cond a (cond b (refused 13 own) (taken (queued own e))) (refused 11 own)).own
      go true true u q = stay
      go true false u q = more u q
      go false b u q = stay

  pub respond_state : (respond_of rs m e own).own.state ≡ own.state
  respond_state = respond_cases (λ a. a.state ≡ own.state) refl (λ u q. refl)

  pub respond_cells : own.length ≤ 8 → EightCells own → EightCells (respond_of rs m e own).own
  respond_cells h p = respond_cases EightCells p (λ u q. queued_cells own e q h)

  pub respond_fits : T (own_fits rs m own) → T (own_fits rs m (respond_of rs m e own).own)
  respond_fits t = respond_cases (λ a. T (own_fits rs m a)) t (λ u q. whole rs m (queued own e) (queued_parts own e q rs m (holds _ u) (parts rs m own t)))
