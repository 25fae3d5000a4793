-- The fit of a state, from what the code is told.
use mathlib.Core.Path.{◌≡◌, refl, sym, ap, ap₂, ◌∙◌, subst}
use mathlib.Core.List.{List}
use mathlib.Core.Bool.{Bool, true, false, not, ◌&&◌, ◌||◌, and_assoc, and-true}
use Prim.Native.Nat.{ℕ, ◌^◌, ◌<◌}
use native.Mathlib.Omega.{arith}
use lib.Dec.{T, ltb}
use borrow.Author.Tests.{ltb-true, ltb-false}
use denote.Floats.{passes as holds, is_true}
use Rattle.bits.specs.Bit.{bit, all_below, every_event}
use Rattle.bits.proofs.Laws.{all_at, all_of, bit_none, bit_above, same_test}
use Rattle.records.specs.declared.Record.{Record}
use Rattle.plan.specs.Plan.{modules_near}
use Rattle.masks.proofs.Near.{near_bit}
use Rattle.permits.specs.Names.{neighbours?}
use Rattle.permits.specs.Supervisor.{holder_fits}
use Rattle.permits.specs.declared.Holder.{Holder}
use Rattle.permits.specs.declared.Holder.TheVariants.{Home, Out}

-- a noted module is a neighbour
abbrev note_fits : List Record → ℕ → ℕ → ℕ → Bool
note_fits rs v noted m = not (bit noted m) || neighbours? rs m v

-- the mask of the modules near has those that are neighbours
module _ (rs : List Record) (v : ℕ) {near : ℕ} (f : near ≡ modules_near rs v) where
  near_is : (m : ℕ) → m < 16 → bit near m ≡ neighbours? rs m v
  near_is m l = ap (λ (x : ℕ). bit x m) f ∙ near_bit rs v m l

  pub by_near : (m : ℕ) {b : Bool} → m < 16 → b ≡ bit near m → b ≡ neighbours? rs m v
  by_near m l e = e ∙ near_is m l

  -- every noted module is one of them where each is a neighbour
  noted_is : (noted : ℕ) → noted < 2 ^ 16 → every_event noted (bit near) ≡ all_below (note_fits rs v noted) 16
  noted_is noted h =
      same_test (every_event noted (bit near)) (all_below (note_fits rs v noted) 16)
      (λ t. all_of (note_fits rs v noted) 16 (λ m l. subst T (at m l) (all_at (λ e. not (bit noted e) || bit near e) 64 t m (omega arith))))
      (λ t. all_of (λ e. not (bit noted e) || bit near e) 64 (λ e l. go t e (ltb e 16) refl))
    where
      at : (m : ℕ) → m < 16 → (not (bit noted m) || bit near m) ≡ note_fits rs v noted m
      at m l = ap (λ (b : Bool). not (bit noted m) || b) (near_is m l)

      go : T (all_below (note_fits rs v noted) 16) → (e : ℕ) (b : Bool) → ltb e 16 ≡ b → T (not (bit noted e) || bit near e)
      go t e true q = subst T (sym (at e (ltb-true e 16 q))) (all_at (note_fits rs v noted) 16 t e (ltb-true e 16 q))
      go t e false q = holds _ (ap (λ (b : Bool). not b || bit near e) (bit_above 16 noted e h (ltb-false e 16 q)))

none_noted : (rs : List Record) (v noted : ℕ) → noted ≡ 0 → all_below (note_fits rs v noted) 16 ≡ true
none_noted rs v noted e =
    is_true _ (all_of (note_fits rs v noted) 16 (λ m l. holds _ (ap (λ (b : Bool). not b || neighbours? rs m v) (ap (λ (x : ℕ). bit x m) e ∙ bit_none m))))

-- ---- the arms of `modules_fit`

module _ (rs : List Record) (v noted : ℕ) (h : Holder) where
  abbrev modules_fit : Bool
  modules_fit = all_below (note_fits rs v noted) 16 && holder_fits rs v h

  arm : {x : Holder} {a b : Bool} → h ≡ x → a ≡ all_below (note_fits rs v noted) 16 → b ≡ holder_fits rs v x → (a && b) ≡ modules_fit
  arm e p q = ap₂ ◌&&◌ p (q ∙ ap (holder_fits rs v) (sym e))

  pub home_unnoted : h ≡ Home → noted ≡ 0 → true ≡ modules_fit
  unfolding holder_fits
  home_unnoted e z = arm e (sym (none_noted rs v noted z)) refl

  module _ {near : ℕ} (f : near ≡ modules_near rs v) (l : noted < 2 ^ 16) {a : Bool} (p : a ≡ every_event noted (bit near)) where
    pub home_noted : h ≡ Home → a ≡ modules_fit
    unfolding holder_fits
    home_noted e = sym (and-true a) ∙ arm e (p ∙ noted_is rs v f noted l) refl

    pub out_noted : {m : ℕ} {b : Bool} → h ≡ Out m → b ≡ neighbours? rs m v → (a && b) ≡ modules_fit
    unfolding holder_fits
    out_noted e q = arm e (p ∙ noted_is rs v f noted l) q

-- the fit of a whole state, its modules judged together
pub fits_by : (s a h l : Bool) {x y : Bool} → x ≡ s → y ≡ (a && h) → (x && y && l) ≡ (s && a && h && l)
fits_by s a h l p q = ap₂ (λ (x y : Bool). x && y && l) p q ∙ ap (λ (b : Bool). b && l) (sym (and_assoc s a h))
