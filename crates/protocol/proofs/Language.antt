-- A legal record is a word of the supervised plant.
use Rattle.std.specs.Prelude.{Option, Some, unwrap_or, is_some}
use Prim.Native.Nat.{ℕ, ◌<◌}
use native.Mathlib.Decide.{ℕ_discrete}
use mathlib.Core.Path.{◌≡◌, refl, ap, ◌∙◌}
use mathlib.Core.Logic.{◌⊎◌, inl, inr}
use mathlib.Core.Bool.{Bool, true, false}
use mathlib.Core.List.Memᴰ
use mathlib.Core.List.{List, [], ◌∷◌, ◌++◌, Memᴰ, head-eq_of_cons-eq, tail-eq_of_cons-eq, nil≢cons}
use lib.Dec.{eqb}
use borrow.Author.Tests.{ne_eqb}
use Rattle.bits.specs.Bit.{bit}
use Rattle.protocol.specs.Generic.{update}
use Rattle.protocol.specs.Plan.{Plan, Laws}
use Rattle.protocol.specs.Rules.{state_after}
use Rattle.protocol.specs.System.{Position, after_event, Legal, none_left, next}
use Rattle.protocol.specs.Language.{project, along, Generates, staying, Supervised}
use Rattle.protocol.proofs.Tools.{either_way, eqb_self, is_some_is, update_same, update_other}

-- the natural projection, event by event
project_in : (a : ℕ → Bool) (e : ℕ) (w : List ℕ) → a e ≡ true → project a (e ∷ w) ≡ e ∷ project a w
unfolding project
project_in a e w h = rw h

project_out : (a : ℕ → Bool) (e : ℕ) (w : List ℕ) → a e ≡ false → project a (e ∷ w) ≡ project a w
unfolding project
project_out a e w h = rw h

module _ (P : Plan) (A : Laws P) where
  letters_in : (p : Position) (w : List ℕ) → Legal P p w → (e : ℕ) → Memᴰ e w → e < P.events
  letters_in p [] none_left e h = absurd (Memᴰ.not-nil h)
  letters_in p (a ∷ w) (next l t) e h = go (letters_in (after_event P p a) w t e) (Memᴰ.cases_cons h)
    where
      go : (Memᴰ e w → e < P.events) → (e ≡ a) ⊎ Memᴰ e w → e < P.events
      go ih (inl q) =
          let y = is_some_is (P.move (P.owner a) (p.module_states (P.owner a)) a) l.listed in
          rw q (A.move_event (P.owner a) (p.module_states (P.owner a)) a y.0 y.1)
      go ih (inr q) = ih q

  -- ---- the modules
  abbrev own_events : ℕ → ℕ → Bool
  own_events m e = eqb (P.owner e) m

  moved : (p : Position) (a : ℕ) (w : List ℕ) → is_some (P.move (P.owner a) (p.module_states (P.owner a)) a) ≡ true
      → Generates (P.move (P.owner a)) ((after_event P p a).module_states (P.owner a)) w → Generates (P.move (P.owner a)) (p.module_states (P.owner a)) (a ∷ w)
  unfolding along after_event
  moved p a w l ih =
      let x : ℕ = p.module_states (P.owner a) in
      let y = is_some_is (P.move (P.owner a) x a) l in
      let f : update p.module_states (P.owner a) (unwrap_or (P.move (P.owner a) x a) x) (P.owner a) ≡ y.0 =
      update_same p.module_states (P.owner a) (unwrap_or (P.move (P.owner a) x a) x) ∙ ap (λ (o : Option ℕ). unwrap_or o x) y.1 in
      rw y.1 (rw f at ih)

  plant_in : (p : Position) (w : List ℕ) → Legal P p w → (m : ℕ) → Generates (P.move m) (p.module_states m) (project (own_events m) w)
  plant_in p [] none_left m = unfold along project in refl
  plant_in p (a ∷ w) (next l t) m = go (plant_in (after_event P p a) w t) (ℕ_discrete (P.owner a) m)
    where
      go : ((n : ℕ) → Generates (P.move n) ((after_event P p a).module_states n) (project (own_events n) w)) → Dec (P.owner a ≡ m)
          → Generates (P.move m) (p.module_states m) (project (own_events m) (a ∷ w))
      go ih (yes q) = rw (← q) (rw (project_in (own_events (P.owner a)) a w (eqb_self (P.owner a))) (moved p a (project (own_events (P.owner a)) w) l.listed (ih (P.owner a))))
      go ih (no q) =
          let kept : (after_event P p a).module_states m ≡ p.module_states m = unfold after_event in (update_other p.module_states (P.owner a) _ m q) in
          rw (project_out (own_events m) a w (ne_eqb (P.owner a) m q)) (let i = ih m in rw kept at i)

  -- ---- the supervisors
  led : (p : Position) (s a x : ℕ) (u : List ℕ) → along (staying P s) (Some (p.supervisor_states s)) (project (P.alphabet s) (a ∷ u)) ≡ Some x
      → along (staying P s) (Some ((after_event P p a).supervisor_states s)) (project (P.alphabet s) u) ≡ Some x
  unfolding along project after_event state_after staying
  led p s a x u h = go (either_way (P.alphabet s a))
    where
      go : (P.alphabet s a ≡ true) ⊎ (P.alphabet s a ≡ false) → along (staying P s) (Some ((after_event P p a).supervisor_states s)) (project (P.alphabet s) u) ≡ Some x
      go (inl q) = rw q (rw q at h)
      go (inr q) = rw q (rw q at h)

  enabled_in : (p : Position) (w : List ℕ) → Legal P p w → (s : ℕ) → s < P.supervisors → (u v : List ℕ) (e x : ℕ) → w ≡ u ++ (e ∷ v)
      → along (staying P s) (Some (p.supervisor_states s)) (project (P.alphabet s) u) ≡ Some x → bit (P.shown s x) e ≡ false
  enabled_in p [] none_left s b [] v e x q h = absurd (nil≢cons q)
  enabled_in p [] none_left s b (c ∷ u) v e x q h = absurd (nil≢cons q)
  enabled_in p (a ∷ w) (next l t) s b [] v e x q h =
      let now : p.supervisor_states s ≡ x = unfold along project in cc in
      rw (← head-eq_of_cons-eq q, ← now) (l.disabled_by_none s b)
  enabled_in p (a ∷ w) (next l t) s b (c ∷ u) v e x q h =
      enabled_in (after_event P p a) w t s b u v e x (tail-eq_of_cons-eq q) (led p s a x u (rw (head-eq_of_cons-eq q) h))

  pub legal_supervised : (p : Position) (w : List ℕ) → Legal P p w → Supervised P p w
  legal_supervised p w l = record { letters = letters_in p w l; plant = λ m b. plant_in p w l m; enabled = enabled_in p w l }
