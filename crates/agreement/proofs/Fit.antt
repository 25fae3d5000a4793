-- The states of the calls and of the rules: what makes them the same, and that they fit.
use Rattle.std.specs.Prelude.{Option, Some, None, is_some}
use mathlib.Core.Path.{◌≡◌, refl, sym, ap, ◌∙◌, subst}
use mathlib.Core.Bool.{Bool, true, false, not, ◌&&◌, ◌||◌, false≢true}
use mathlib.Core.List.{List}
use Prim.Native.Nat.{ℕ, ◌≤◌, ◌<◌}
use lib.Dec.{eqb}
use borrow.Author.Tests.{lt-ltb, eq-eqb, eqb-true}
use Rattle.bits.specs.Bit.{bit, all_below}
use denote.Floats.{is_true, passes as holds}
use Rattle.bits.proofs.Laws.{all_of}
use Rattle.records.specs.declared.Record.{Record}
use Rattle.rules.specs.LookUp.{modules_of, supervisors_of, supervisor_state}
use Rattle.plan.specs.Plan.{in_alphabet, neighbours}
use Rattle.modules.specs.Fits.{own_fits}
use Rattle.permits.specs.declared.Module.{Module}
use Rattle.permits.specs.declared.Supervisor.{Supervisor}
use Rattle.permits.specs.declared.Holder.{Holder}
use Rattle.permits.specs.declared.Holder.TheVariants.{Home, Out}
use Rattle.permits.specs.Names.{neighbours?}
use Rattle.permits.specs.Module as M
use Rattle.permits.specs.Supervisor as S
use Rattle.protocol.specs.Plan.{Laws}
use Rattle.protocol.specs.Rules as R
use Rattle.protocol.specs.System.{System}
use Rattle.protocol.proofs.Tools.{and_intro}
use Rattle.protocol.proofs.Neighbours.{neighbour_below, neighbour_module}
use Rattle.protocol.proofs.Invariant.{Inv, noted_neighbour, holder_neighbour}
use Rattle.agreement.specs.PlanOf.{plan_of}
use Rattle.agreement.specs.Compared.{out_to}
use Rattle.agreement.proofs.Names.{neighbour_same, neighbour_bit, missing_same}

pub record SameModule (x : Module) (y : R.ModuleState) : Type 0 where
  pub own : x.own ≡ y.own
  pub held : x.held ≡ y.held
  pub received : x.received ≡ y.received
  pub bid : x.bid ≡ is_some y.outstanding

pub record SameSupervisor (x : Supervisor) (y : R.SupervisorState) : Type 0 where
  pub state : x.state ≡ y.state
  pub noted : x.noted ≡ y.noted
  pub holder : out_to x.holder ≡ y.holder
  pub last : x.last ≡ y.last_served

-- where a test implies another
implies : (a b : Bool) → (a ≡ true → b ≡ true) → (not a || b) ≡ true
implies true b h = h refl
implies false b h = refl

module _ (rs : List Record) (L : Laws (plan_of rs)) where
  pub few_modules : modules_of rs ≤ 16
  few_modules = unfold plan_of in L.few_modules

  pub few : supervisors_of rs ≤ 32
  few = unfold plan_of in L.few_supervisors

  pub watched : (v e : ℕ) → in_alphabet rs v e ≡ true → v < supervisors_of rs
  watched v e h = unfold plan_of in (L.alphabet_supervisor v e h)

  -- neighbours are of the plan
  pub near_module : (m v : ℕ) → R.neighbour (plan_of rs) m v ≡ true → m < modules_of rs
  near_module m v n = unfold plan_of in (neighbour_module (plan_of rs) L m v n)

  pub near_supervisor : (m v : ℕ) → R.neighbour (plan_of rs) m v ≡ true → v < supervisors_of rs
  near_supervisor m v n = unfold plan_of in (neighbour_below (plan_of rs) L m v n)

  pub both_named : (m v : ℕ) → R.neighbour (plan_of rs) m v ≡ true → neighbours? rs m v ≡ true
  both_named m v n = and_intro (and_intro (lt-ltb m (modules_of rs) (near_module m v n)) (lt-ltb v (supervisors_of rs) (near_supervisor m v n))) (neighbour_same rs few watched m v ∙ n)

  module _ (D : System) (O : R.OneDevice) (I : Inv (plan_of rs) D O) where
    near : (m v : ℕ) → R.neighbour (plan_of rs) m v ≡ true → bit (neighbours rs m) v ≡ true
    near m v h = neighbour_bit rs few watched m v ∙ h

    held_fits_lem : (m : ℕ) → M.held_fits rs m (D.module_at m).held ≡ true
    unfolding M.held_in
    held_fits_lem m =
        is_true _ (all_of (λ v. not (bit (D.module_at m).held v) || (bit (neighbours rs m) v && all_below (λ w. not (bit (neighbours rs m) w) || bit (D.module_at m).held w) v)) 32
        (λ v l. holds _ (implies (bit (D.module_at m).held v) _ (λ h. and_intro (near m v ((I.modules m).neighbours v h))
        (is_true _ (all_of (λ w. not (bit (neighbours rs m) w) || bit (D.module_at m).held w) v (λ w k. holds _ (implies (bit (neighbours rs m) w) (bit (D.module_at m).held w)
        (λ n. (I.modules m).lowest v w h k (sym (neighbour_bit rs few watched m w) ∙ n))))))))))

    missing_some : (m : ℕ) (o : Option ℕ) → (D.module_at m).outstanding ≡ o → is_some o ≡ true → is_some (M.missing rs m (D.module_at m).held) ≡ true
    missing_some m None e h = absurd (false≢true h)
    missing_some m (Some v) e h = ap is_some (missing_same rs few watched m (D.module_at m).held ∙ (I.modules m).bid_lowest v e)

    pub module_fits_lem : (m : ℕ) (x : Module) → m < modules_of rs → SameModule x (D.module_at m) → M.module_fits rs m x ≡ true
    unfolding M.fits_in
    module_fits_lem m x l s =
        and_intro (and_intro (and_intro
        (ap (M.held_fits rs m) s.held ∙ held_fits_lem m)
        empty)
        bids)
        own
      where
        own : own_fits rs m x.own ≡ true
        own = ap (own_fits rs m) s.own ∙ (unfold plan_of in ((I.modules m).fits l))

        empty : (not (eqb x.held 0) || eqb x.received 0) ≡ true
        empty = implies (eqb x.held 0) (eqb x.received 0) (λ h. eq-eqb x.received 0 (s.received ∙ (I.modules m).none_received (sym s.held ∙ eqb-true x.held 0 h)))

        bids : (not x.bid || is_some (M.missing rs m x.held)) ≡ true
        bids = implies x.bid _ (λ b. ap (λ (h : ℕ). is_some (M.missing rs m h)) s.held ∙ missing_some m (D.module_at m).outstanding refl (sym s.bid ∙ b))

    holder_fits_lem : (v : ℕ) (h : Holder) → out_to h ≡ (D.supervisor_at v).holder → S.holder_fits rs v h ≡ true
    unfolding S.holder_fits out_to
    holder_fits_lem v Home e = refl
    holder_fits_lem v (Out m) e = both_named m v (holder_neighbour (plan_of rs) D O I m v (sym e))

    pub supervisor_fits_lem : (v : ℕ) (y : Supervisor) → v < supervisors_of rs → SameSupervisor y (D.supervisor_at v) → S.supervisor_fits rs v y ≡ true
    unfolding S.supervisor_fits
    supervisor_fits_lem v y l s =
        and_intro (and_intro (and_intro
        (ap (supervisor_state rs v) s.state ∙ (unfold plan_of in ((I.supervisors v).fits l)))
        (is_true _ (all_of (λ m. not (bit y.noted m) || neighbours? rs m v) 16 (λ m k. holds _ (implies (bit y.noted m) (neighbours? rs m v)
        (λ h. both_named m v (noted_neighbour (plan_of rs) D O I m v (ap (λ (n : ℕ). bit n m) (sym s.noted) ∙ h))))))))
        (holder_fits_lem v y.holder s.holder))
        (lt-ltb y.last 16 (subst (λ (n : ℕ). n < 16) (sym s.last) (I.supervisors v).last_below))
