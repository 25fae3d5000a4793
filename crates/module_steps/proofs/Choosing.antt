-- The choice of a step, from what the code is told: adjacent are the neighbours, l says whether a permit is missing.
use Rattle.std.specs.Prelude.{Option, Some, None, is_some}
use mathlib.Core.Path.{◌≡◌, refl, sym, ap, ap₂, ◌∙◌}
use mathlib.Core.List.{List}
use mathlib.Core.Bool.{Bool, true, false, not, ◌||◌, true≢false}
use Prim.Native.Nat.{ℕ}
use lib.Dec.{eqb}
use borrow.Author.Tests.{not-true, not-false}
use Rattle.records.specs.declared.Record.{Record}
use Rattle.plan.specs.Plan.{neighbours}
use Rattle.modules.specs.declared.Own.{Own}
use Rattle.modules.specs.Turn.{wish}
use Rattle.permits.specs.Module.{missing_in, missing, held_in, held_fits, Choice, takes_turn, waits, bids_to, choice_on, choice}
use Rattle.permits.specs.declared.Module.{Module}
use Rattle.holding.specs.Lacking.{Lacking}
use Rattle.holding.proofs.Held.{missing_is}

-- ---- a wish, or another reason

module _ (rs : List Record) (m : ℕ) (sure : Bool) (own : Own) where
  pub sure_by : sure ≡ true → true ≡ (sure || wish rs m own)
  sure_by p = ap (λ (b : Bool). b || wish rs m own) (sym p)

  pub wish_by : {w : Bool} → sure ≡ false → w ≡ wish rs m own → w ≡ (sure || wish rs m own)
  wish_by p e = e ∙ ap (λ (b : Bool). b || wish rs m own) (sym p)

-- ---- the choice

turns : (o : Option ℕ) (n b h w : Bool) → is_some o ≡ false → (n || w) ≡ true → takes_turn ≡ choice_on o n b h w
unfolding choice_on
turns None true b h w p q = refl
turns None false b h true p q = refl
turns None false b h false p q = absurd (true≢false (sym q))
turns (Some v) n b h w p q = absurd (true≢false p)

rests : (o : Option ℕ) (n b h w : Bool) → is_some o ≡ false → (n || w) ≡ false → waits ≡ choice_on o n b h w
unfolding choice_on
rests None true b h w p q = absurd (true≢false q)
rests None false b h true p q = absurd (true≢false q)
rests None false b h false p q = refl
rests (Some v) n b h w p q = absurd (true≢false p)

stands : (o : Option ℕ) (n h w : Bool) → is_some o ≡ true → waits ≡ choice_on o n true h w
unfolding choice_on
stands None n h w p = absurd (true≢false (sym p))
stands (Some v) n h w p = refl

idles : (o : Option ℕ) (n b h w : Bool) → is_some o ≡ true → (h || w) ≡ false → waits ≡ choice_on o n b h w
unfolding choice_on
idles None n b h w p q = absurd (true≢false (sym p))
idles (Some v) n true h w p q = refl
idles (Some v) n false true w p q = absurd (true≢false q)
idles (Some v) n false false true p q = absurd (true≢false q)
idles (Some v) n false false false p q = refl

bids : (v : ℕ) (n h w : Bool) → (h || w) ≡ true → bids_to v ≡ choice_on (Some v) n false h w
unfolding choice_on
bids v n true w q = refl
bids v n false true q = refl
bids v n false false q = absurd (true≢false (sym q))

module _ (rs : List Record) (m adjacent : ℕ) (x : Module) (e : adjacent ≡ neighbours rs m) where
  abbrev lowest : Option ℕ
  lowest = missing rs m x.held

  abbrev wishes : Bool
  wishes = wish rs m x.own

  -- the choice by the code's numbers, with a bid outstanding or not
  abbrev by : Option ℕ → Bool → Choice
  by o b = choice_on o (not (eqb adjacent 0)) b (not (eqb x.held 0)) wishes

  by_is : by lowest x.bid ≡ choice rs m x
  unfolding choice
  by_is = ap (λ (n : ℕ). choice_on lowest (not (eqb n 0)) x.bid (not (eqb x.held 0)) wishes) e

  -- w is whether a permit is held or there is a wish
  pub bid_by : {w : Bool} {r : Option ℕ} {v : ℕ} → x.bid ≡ false → w ≡ (not (eqb x.held 0) || wish rs m x.own) → not w ≡ false
      → r ≡ missing_in adjacent x.held → r ≡ Some v → bids_to v ≡ choice rs m x
  bid_by {w} {v = v} p g q h t =
      bids v (not (eqb adjacent 0)) (not (eqb x.held 0)) wishes (sym g ∙ not-false w q)
      ∙ ap₂ by ((sym t) ∙ h ∙ missing_is adjacent x.held rs m e) (sym p) ∙ by_is

  module _ {l : Bool} (u : held_fits rs m x.held ≡ true) (f : Lacking adjacent x.held l) where
    is : is_some lowest ≡ l
    is = sym (f.is (ap (λ (n : ℕ). held_in n x.held) e ∙ u) ∙ ap is_some (missing_is adjacent x.held rs m e))

    -- here w is whether there are neighbours or a wish
    pub turn_by_lem : {w : Bool} → l ≡ false → w ≡ (not (eqb adjacent 0) || wish rs m x.own) → w ≡ true → takes_turn ≡ choice rs m x
    turn_by_lem p g q = turns lowest (not (eqb adjacent 0)) x.bid (not (eqb x.held 0)) wishes (is ∙ p) (sym g ∙ q) ∙ by_is

    pub rest_by : {w : Bool} → l ≡ false → w ≡ (not (eqb adjacent 0) || wish rs m x.own) → w ≡ false → waits ≡ choice rs m x
    rest_by p g q = rests lowest (not (eqb adjacent 0)) x.bid (not (eqb x.held 0)) wishes (is ∙ p) (sym g ∙ q) ∙ by_is

    pub stand_by : l ≡ true → x.bid ≡ true → waits ≡ choice rs m x
    stand_by p q = stands lowest (not (eqb adjacent 0)) (not (eqb x.held 0)) wishes (is ∙ p) ∙ ap (by lowest) (sym q) ∙ by_is

    pub idle_by : {w : Bool} → l ≡ true → w ≡ (not (eqb x.held 0) || wish rs m x.own) → not w ≡ true → waits ≡ choice rs m x
    idle_by {w} p g q = idles lowest (not (eqb adjacent 0)) x.bid (not (eqb x.held 0)) wishes (is ∙ p) (sym g ∙ not-true w q) ∙ by_is

    -- where a permit is missing there is a lowest
    pub none_by : {r : Option ℕ} → l ≡ true → r ≡ missing_in adjacent x.held → r ≡ None → waits ≡ choice rs m x
    none_by p h t =
        absurd (true≢false (sym p ∙ sym is ∙ ap is_some (sym (h ∙ missing_is adjacent x.held rs m e)) ∙ ap (λ (y : Option ℕ). is_some y) t))
