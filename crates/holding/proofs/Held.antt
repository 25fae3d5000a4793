-- The permits held, by the mask n of a module's neighbours and the mask h of those held.
use Rattle.std.specs.Prelude.{Option, is_some}
use mathlib.Core.Path.{◌≡◌, refl, sym, ap, ap₂, ◌∙◌, subst}
use mathlib.Core.List.{List}
use mathlib.Core.Bool.{Bool, true, false, cond, not, ◌&&◌, ◌||◌, true≢false}
use Prim.Native.Nat.{ℕ, zero, suc, ◌+◌, ◌-◌, ◌/◌, ◌%◌, ◌^◌, ◌≤◌, ◌<◌}
use native.Mathlib.Nat.{mod-lt, zero-lt-suc, add_assoc, lt_of_le_of_lt}
use native.Mathlib.Numerals.{add-one}
use native.Mathlib.Omega.{arith}
use lib.Bits.{bit_and, and_le_l}
use lib.Count.{ones, ones_in}
use lib.Dec.{T, eqb, ltb}
use lib.Ieee.Fits.{and_l}
use borrow.Author.Tests.{eq-eqb, ne_eqb, ltb-true, ltb-false}
use denote.Floats.{passes as holds, is_true}
use Rattle.bits.specs.Bit.{bit, all_below, least, some_below}
use Rattle.bits.proofs.Laws.{bit_low, bit_up, bit_and_lem, bit_not, bit_above, shr_none, ones_in_lem, all_at, all_of, same_test}
use Rattle.bits.proofs.Least.{least_same, least_more, some_least}
use Rattle.records.specs.declared.Record.{Record}
use Rattle.plan.specs.Plan.{neighbours}
use Rattle.modules.specs.Fits.{own_fits}
use Rattle.permits.specs.Module.{missing_in, missing, held_in, held_fits, fits_in}
use Rattle.permits.specs.declared.Module.{Module}
use Rattle.holding.specs.Lacking.{Lacking}

-- ---- the lowest that is missing

-- a neighbour whose permit is not held
abbrev pub lack_at : ℕ → ℕ → ℕ → Bool
lack_at n h v = bit n v && not (bit h v)

pub missing_by : (n h : ℕ) (r : Option ℕ) → n < 2 ^ 32 → h < 2 ^ 64 → r ≡ least (bit (bit_and n (2 ^ 64 - 1 - h))) 64 → r ≡ missing_in n h
unfolding missing_in
missing_by n h r p q e =
    e ∙ least_more (bit x) 32 32 (λ j l. bit_above 32 x j (lt_of_le_of_lt (and_le_l n (2 ^ 64 - 1 - h)) p) l)
    ∙ least_same (bit x) (lack_at n h) 32 (λ j l. bit_and_lem n (2 ^ 64 - 1 - h) j ∙ ap (λ (b : Bool). bit n j && b) (bit_not 64 h j q (omega arith)))
  where
    x : ℕ
    x = bit_and n (2 ^ 64 - 1 - h)

pub missing_is : (adjacent held : ℕ) (rs : List Record) (m : ℕ) → adjacent ≡ neighbours rs m → missing_in adjacent held ≡ missing rs m held
missing_is adjacent held rs m e = ap (λ (n : ℕ). missing_in n held) e

-- ---- counts: those held are neighbours, so that none is missing where there are as many

digit : (d : ℕ) → d < 2 → d ≡ cond (eqb d 1) 1 0
digit zero h = refl
digit (suc zero) h = refl
digit (suc (suc d)) h = absurd (omega arith)

-- one digit more
pub ones_top : (k m : ℕ) → ones_in (suc k) m ≡ ones_in k m + cond (bit m k) 1 0
unfolding ones_in
ones_top zero m =
    (let e : m % 2 + 0 ≡ 0 + m % 2 = omega arith in e)
    ∙ ap (λ (x : ℕ). 0 + x) (digit (m % 2) (mod-lt m (zero-lt-suc 1)) ∙ ap (λ (b : Bool). cond b 1 0) (sym (bit_low m)))
ones_top (suc k) m =
    ap (λ (x : ℕ). m % 2 + x) (ones_top k (m / 2) ∙ ap (λ (b : Bool). ones_in k (m / 2) + cond b 1 0) (sym (bit_up m k)))
    ∙ sym (add_assoc (m % 2) (ones_in k (m / 2)) (cond (bit m (suc k)) 1 0))

-- fewer are held where one is missing, else as many
abbrev Counted : Bool → ℕ → ℕ → Type 0
Counted true x y = x < y
Counted false x y = x ≡ y

counted_on : (a b s : Bool) (x y : ℕ) → (a ≡ true → b ≡ true) → Counted s x y → Counted ((b && not a) || s) (x + cond a 1 0) (y + cond b 1 0)
counted_on true true true x y f c = omega arith
counted_on true true false x y f c = omega arith
counted_on true false s x y f c = absurd (true≢false (sym (f refl)))
counted_on false true true x y f c = omega arith
counted_on false true false x y f c = omega arith
counted_on false false true x y f c = omega arith
counted_on false false false x y f c = omega arith

counted : (n h k : ℕ) → ((v : ℕ) → v < k → bit h v ≡ true → bit n v ≡ true) → Counted (some_below (lack_at n h) k) (ones_in k h) (ones_in k n)
unfolding some_below
counted n h zero f = unfold ones_in in refl
counted n h (suc k) f =
    rw (ones_top k h, ones_top k n) (counted_on (bit h k) (bit n k) (some_below (lack_at n h) k) (ones_in k h) (ones_in k n) (f k (omega arith)) (counted n h k (λ v l. f v (omega arith))))

counted_is : (s : Bool) (x y : ℕ) → Counted s x y → not (eqb x y) ≡ s
counted_is true x y c = ap not (ne_eqb x y (λ e. omega arith))
counted_is false x y c = ap not (eq-eqb x y c)

-- ---- those held are the lowest

-- a neighbour's permit is held, and a permit held is of a neighbour with all those of lower ones
abbrev pub kept_at : ℕ → ℕ → ℕ → Bool
kept_at n h v = not (bit n v) || bit h v

abbrev pub held_fits_at : ℕ → ℕ → ℕ → Bool
held_fits_at n h v = not (bit h v) || (bit n v && all_below (kept_at n h) v)

other : (a b : Bool) → (not a || b) ≡ not (a && not b)
other true true = refl
other true false = refl
other false b = refl

-- the loop of `held_fits_lem`, from what it is told at v
module _ (adjacent held v : ℕ) {next have whole : Bool} (e : next ≡ bit adjacent v) (f : have ≡ bit held v) (g : whole ≡ all_below (kept_at adjacent held) v) where
  tested : held_fits_at adjacent held v ≡ not (have && not (next && whole))
  tested = sym (ap₂ (λ (a b : Bool). not a || b) f (ap₂ ◌&&◌ e g)) ∙ other have (next && whole)

  pub held_out : v < 32 → (have && not (next && whole)) ≡ true → false ≡ held_in adjacent held
  unfolding held_in
  held_out h t =
      same_test false (all_below (held_fits_at adjacent held) 32) (λ x. absurd x)
      (λ x. holds false (sym (tested ∙ ap not t) ∙ is_true _ (all_at (held_fits_at adjacent held) 32 x v h)))

  pub held_more : (have && not (next && whole)) ≡ false → all_below (held_fits_at adjacent held) v ≡ true → all_below (held_fits_at adjacent held) (v + 1) ≡ true
  held_more t s = ap (all_below (held_fits_at adjacent held)) (add-one v) ∙ (unfold all_below in ap₂ ◌&&◌ (tested ∙ ap not t) s)

  pub whole_more : ((not next || have) && whole) ≡ all_below (kept_at adjacent held) (v + 1)
  whole_more = ap₂ ◌&&◌ (ap₂ (λ (a b : Bool). not a || b) e f) g ∙ sym (ap (all_below (kept_at adjacent held)) (add-one v) ∙ (unfold all_below in refl))

pub held_in_lem : (adjacent held v : ℕ) → v ≤ 32 → 32 ≤ v → all_below (held_fits_at adjacent held) v ≡ true → true ≡ held_in adjacent held
unfolding held_in
held_in_lem adjacent held v l h s = sym s ∙ ap (all_below (held_fits_at adjacent held)) (let w : v ≡ 32 = omega arith in w)

-- past the last that is held
pub held_rest : (adjacent held v : ℕ) → v ≤ 32 → held / 2 ^ v ≡ 0 → all_below (held_fits_at adjacent held) v ≡ true → true ≡ held_in adjacent held
unfolding held_in
held_rest adjacent held v l z s = sym (is_true _ (all_of (held_fits_at adjacent held) 32 each))
  where
    go : (k : ℕ) (b : Bool) → ltb k v ≡ b → T (held_fits_at adjacent held k)
    go k true q = all_at (held_fits_at adjacent held) v (holds _ s) k (ltb-true k v q)
    go k false q = holds _ (ap (λ (b : Bool). not b || (bit adjacent k && all_below (kept_at adjacent held) k)) (bit_above v held k (shr_none held v z) (ltb-false k v q)))

    each : (k : ℕ) → k < 32 → T (held_fits_at adjacent held k)
    each k h = go k (ltb k v) refl

pub held_none : (adjacent held : ℕ) → held ≡ 0 → true ≡ held_in adjacent held
held_none adjacent held z = held_rest adjacent held 0 (omega arith) (omega arith) (unfold all_below in refl)

-- ---- from what the code is told

module _ (adjacent held : ℕ) (p : adjacent < 2 ^ 32) (q : held < 2 ^ 32) where
  -- what fits is of neighbours only
  within : held_in adjacent held ≡ true → (v : ℕ) → v < 32 → bit held v ≡ true → bit adjacent v ≡ true
  unfolding held_in
  within f v l t =
      let a : T (held_fits_at adjacent held v) = all_at (held_fits_at adjacent held) 32 (holds _ f) v l in
      is_true (bit adjacent v) (and_l (bit adjacent v) (all_below (kept_at adjacent held) v) (subst (λ (b : Bool). T (not b || (bit adjacent v && all_below (kept_at adjacent held) v))) t a))

  pub lacks_by : Lacking adjacent held (not (eqb (ones held) (ones adjacent)))
  unfolding missing_in
  lacks_by =
      record {
        counted = refl;
        is =
            λ f.
            ap₂ (λ (x y : ℕ). not (eqb x y)) (sym (ones_in_lem 32 held q)) (sym (ones_in_lem 32 adjacent p))
            ∙ counted_is (some_below (lack_at adjacent held) 32) (ones_in 32 held) (ones_in 32 adjacent) (counted adjacent held 32 (within f))
            ∙ some_least (lack_at adjacent held) 32;
      }

-- ---- the fit

module _ (rs : List Record) (m adjacent : ℕ) (x : Module) {a : Bool} (e : a ≡ held_in adjacent x.held) where
  pub fits_in_lem : {l o : Bool} → a ≡ true → Lacking adjacent x.held l → o ≡ own_fits rs m x.own
      → ((not (eqb x.held 0) || eqb x.received 0) && (not x.bid || l) && o) ≡ fits_in rs m adjacent x
  unfolding fits_in
  fits_in_lem t f g = let h : held_in adjacent x.held ≡ true = sym e ∙ t in simp (h, f.is h, g)

  pub fits_out : a ≡ false → false ≡ fits_in rs m adjacent x
  unfolding fits_in
  fits_out t = let h : held_in adjacent x.held ≡ false = sym e ∙ t in simp h

-- a state that fits has its permits right
pub fits_held : (rs : List Record) (m adjacent : ℕ) (x : Module) {t : Bool} → adjacent ≡ neighbours rs m → t ≡ fits_in rs m adjacent x → t ≡ true → held_fits rs m x.held ≡ true
unfolding fits_in
fits_held rs m adjacent x n e f =
    let h : Bool = held_in adjacent x.held in
    let u : Bool = not (eqb x.held 0) || eqb x.received 0 in
    let w : Bool = not x.bid || is_some (missing_in adjacent x.held) in
    ap (λ (k : ℕ). held_in k x.held) (sym n)
    ∙ is_true h (and_l h u (and_l (h && u) w (and_l (h && u && w) (own_fits rs m x.own) (holds _ (sym e ∙ f)))))
