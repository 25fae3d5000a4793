-- The modules near a supervisor: the owners of its alphabet's events, event by event.
use Rattle.std.specs.Prelude.{is_some}
use mathlib.Core.Path.{◌≡◌, refl, sym, ap, ap₂, ◌∙◌, subst}
use mathlib.Core.List.{List}
use mathlib.Core.Bool.{Bool, true, false, cond, ◌&&◌, ◌||◌, and-true, and-false, or-false}
use Prim.Native.Nat.{ℕ, suc, ◌+◌, ◌-◌, ◌/◌, ◌^◌, ◌≤◌, ◌<◌}
use native.Mathlib.Nat.{lt_of_lt_of_le, div-eq_of_lt}
use native.Mathlib.Numerals.{add-one}
use native.Mathlib.Omega.{arith}
use lib.Dec.{eqb, ltb}
use lib.Bits.{bit_or, or_lt}
use lib.Pow.{pow_pos, pow_mono, pow-lt}
use borrow.Author.Tests.{lt-ltb, le-ltb, ltb-true, eqb-true, eqb-false, eq-eqb, ne_eqb}
use Rattle.bits.specs.Bit.{bit, some_below, mask_of}
use Rattle.bits.proofs.Laws.{bit_or_lem, bit_pow, bit_none, bit_above, shr_none}
use Rattle.bits.proofs.Least.{least_more, some_least}
use Rattle.bits.proofs.Mask.{mask_bit, mask_small, mask_is}
use Rattle.records.specs.declared.Record.{Record}
use Rattle.rules.specs.LookUp.{modules_of, supervisors_of, events_of, owner_of, alphabet_of}
use Rattle.plan.specs.Plan.{neighbour, modules_near}
use Rattle.masks.proofs.Events.{mask_same}

-- nothing is left of a mask from 64 on
pub shifted_out : (x e : ℕ) → x < 2 ^ 64 → 64 ≤ e → true ≡ eqb (x / 2 ^ e) 0
shifted_out x e h l = sym (eq-eqb (x / 2 ^ e) 0 (div-eq_of_lt (lt_of_lt_of_le h (pow_mono l))))

-- a test that fails from n on passes somewhere if it does so below n
some_more : (p : ℕ → Bool) (n k : ℕ) → ((j : ℕ) → n ≤ j → p j ≡ false) → some_below p (k + n) ≡ some_below p n
some_more p n k f = some_least p (k + n) ∙ ap is_some (least_more p n k f) ∙ sym (some_least p n)

-- ---- the mask with the owner of one event

module _ (a e x modules : ℕ) {t : Bool} (p : t ≡ bit a e) where
  abbrev with : ℕ → ℕ
  with o = cond (bit a e && ltb o 16 && ltb o modules) (bit_or x (2 ^ o)) x

  pub owner_in : (w : ℕ) {m y : ℕ} → t ≡ true → m ≡ w → m < 16 → y ≡ cond (ltb m modules) (bit_or x (2 ^ m)) x → (o : ℕ) → o ≡ w → y ≡ with o
  owner_in w {m} s g l q o h =
      q ∙ ap (λ (b : Bool). cond (b && ltb m modules) (bit_or x (2 ^ m)) x) (sym (ap₂ ◌&&◌ (sym p ∙ s) (lt-ltb m 16 l))) ∙ ap with (g ∙ sym h)

  pub owner_past : (w : ℕ) {m : ℕ} → m ≡ w → 16 ≤ m → (o : ℕ) → o ≡ w → x ≡ with o
  owner_past w {m} g l o h =
      ap (λ (b : Bool). cond (b && ltb m modules) (bit_or x (2 ^ m)) x) (sym (ap (λ (b : Bool). bit a e && b) (le-ltb m 16 l) ∙ and-false (bit a e)))
      ∙ ap with (g ∙ sym h)

  pub owner_out : (w : ℕ) → t ≡ false → (o : ℕ) → o ≡ w → x ≡ with o
  owner_out w s o h = ap (λ (b : Bool). cond (b && ltb o 16 && ltb o modules) (bit_or x (2 ^ o)) x) (sym s ∙ p)

-- ---- the owners of the events below n

-- a module of the plan has an event below n in the alphabet a
abbrev owns : List Record → ℕ → ℕ → ℕ → Bool
owns rs a n m = ltb m (modules_of rs) && some_below (λ e. eqb (owner_of rs e) m && bit a e) n

abbrev pub owners_below : List Record → ℕ → ℕ → ℕ
owners_below rs a n = mask_of (owns rs a n) 16

pub no_owners : (rs : List Record) (a : ℕ) → 0 ≡ owners_below rs a 0
unfolding some_below
no_owners rs a = mask_is (owns rs a 0) 16 0 (pow_pos 16) (λ j l. bit_none j ∙ sym (and-false (ltb j (modules_of rs))))

module _ (rs : List Record) (a e : ℕ) {x : ℕ} (f : x ≡ owners_below rs a e) where
  pub owners_small : x < 2 ^ 16
  owners_small = subst (λ (z : ℕ). z < 2 ^ 16) (sym f) (mask_small (owns rs a e) 16 16 (omega arith))

  -- one event more
  pub owners_more : {n y : ℕ} → n ≡ modules_of rs → ((o : ℕ) → o ≡ owner_of rs e → y ≡ cond (bit a e && ltb o 16 && ltb o n) (bit_or x (2 ^ o)) x) → y ≡ owners_below rs a (e + 1)
  unfolding some_below
  owners_more k g =
      g w refl ∙ ap (λ (z : ℕ). cond (bit a e && ltb w 16 && ltb w z) (bit_or x (2 ^ w)) x) k
      ∙ mask_is (owns rs a (suc e)) 16 (cond on (bit_or x (2 ^ w)) x) (small (bit a e) (ltb w 16) (ltb w (modules_of rs)) refl)
      (λ j l. bits j on ∙ ap (λ (b : Bool). b || (on && eqb j w)) (has j l) ∙ same j l (eqb j w) refl)
      ∙ ap (owners_below rs a) (sym (add-one e))
    where
      w : ℕ
      w = owner_of rs e

      on : Bool
      on = bit a e && ltb w 16 && ltb w (modules_of rs)

      small : (s t u : Bool) → ltb w 16 ≡ t → cond (s && t && u) (bit_or x (2 ^ w)) x < 2 ^ 16
      small false t u q = owners_small
      small true false u q = owners_small
      small true true false q = owners_small
      small true true true q = or_lt 16 x (2 ^ w) owners_small (pow-lt (ltb-true w 16 q))

      bits : (j : ℕ) (b : Bool) → bit (cond b (bit_or x (2 ^ w)) x) j ≡ (bit x j || (b && eqb j w))
      bits j true = bit_or_lem x (2 ^ w) j ∙ ap (λ (b : Bool). bit x j || b) (bit_pow w j)
      bits j false = sym (or-false (bit x j))

      has : (j : ℕ) → j < 16 → bit x j ≡ owns rs a e j
      has j l = ap (λ (z : ℕ). bit z j) f ∙ mask_bit (owns rs a e) 16 j ∙ ap (λ (b : Bool). b && owns rs a e j) (lt-ltb j 16 l)

      here : (m s b : Bool) → ((m && s) || (b && true && m && true)) ≡ (m && ((true && b) || s))
      here false s true = refl
      here false s false = refl
      here true true true = refl
      here true true false = refl
      here true false true = refl
      here true false false = refl

      there : (m s b : Bool) → ((m && s) || (b && false)) ≡ (m && s)
      there m s b = ap (λ (c : Bool). (m && s) || c) (and-false b) ∙ or-false (m && s)

      same : (j : ℕ) → j < 16 → (b : Bool) → eqb j w ≡ b → (owns rs a e j || (on && eqb j w)) ≡ owns rs a (suc e) j
      same j l true q =
          let i : w ≡ j = sym (eqb-true j w q) in
          ap (λ (z : ℕ). owns rs a e j || (bit a e && ltb z 16 && ltb z (modules_of rs) && eqb j w)) i
          ∙ ap₂ (λ (b c : Bool). owns rs a e j || (bit a e && b && ltb j (modules_of rs) && c)) (lt-ltb j 16 l) q
          ∙ here (ltb j (modules_of rs)) (some_below (λ i. eqb (owner_of rs i) j && bit a i) e) (bit a e)
          ∙ ap (λ (b : Bool). ltb j (modules_of rs) && ((b && bit a e) || some_below (λ i. eqb (owner_of rs i) j && bit a i) e)) (sym (eq-eqb w j i))
      same j l false q =
          ap (λ (b : Bool). owns rs a e j || (on && b)) q ∙ there (ltb j (modules_of rs)) (some_below (λ i. eqb (owner_of rs i) j && bit a i) e) on
          ∙ ap (λ (b : Bool). ltb j (modules_of rs) && ((b && bit a e) || some_below (λ i. eqb (owner_of rs i) j && bit a i) e)) (sym (ne_eqb w j (λ z. eqb-false j w q (sym z))))

  module _ {n : ℕ} (k : n ≡ events_of rs) (l : e ≤ n) where
    pub owners_all : n ≤ e → x ≡ owners_below rs a (events_of rs)
    owners_all h = f ∙ ap (owners_below rs a) (let q : e ≡ events_of rs = omega arith in q)

    -- past the alphabet's last event
    pub owners_rest : {t : Bool} → t ≡ eqb (a / 2 ^ e) 0 → t ≡ true → x ≡ owners_below rs a (events_of rs)
    owners_rest p s =
        f
        ∙ mask_same (owns rs a e) (owns rs a (events_of rs)) 16
        (λ j h. ap (λ (b : Bool). ltb j (modules_of rs) && b)
        (sym (some_more (λ i. eqb (owner_of rs i) j && bit a i) e (events_of rs - e) (λ i g. ap (λ (b : Bool). eqb (owner_of rs i) j && b) (past i g) ∙ and-false (eqb (owner_of rs i) j)))
        ∙ ap (some_below (λ i. eqb (owner_of rs i) j && bit a i)) (let q : events_of rs - e + e ≡ events_of rs = omega arith in q)))
      where
        past : (i : ℕ) → e ≤ i → bit a i ≡ false
        past i = bit_above e a i (shr_none a e (eqb-true (a / 2 ^ e) 0 (sym p ∙ s)))

-- ---- the modules near a supervisor

abbrev is_near : List Record → ℕ → ℕ → Bool
is_near rs v m = ltb m (modules_of rs) && ltb v (supervisors_of rs) && neighbour rs m v

pub near_bit : (rs : List Record) (v m : ℕ) → m < 16 → bit (modules_near rs v) m ≡ is_near rs v m
near_bit rs v m l = mask_bit (is_near rs v) 16 m ∙ ap (λ (b : Bool). b && is_near rs v m) (lt-ltb m 16 l)

module _ (rs : List Record) (v : ℕ) {k : ℕ} (c : k ≡ supervisors_of rs) where
  pub near_of : {a r : ℕ} → v < k → a ≡ alphabet_of rs v → r ≡ owners_below rs a (events_of rs) → r ≡ modules_near rs v
  near_of l g q =
      q ∙ ap (λ (z : ℕ). owners_below rs z (events_of rs)) g
      ∙ mask_same (owns rs (alphabet_of rs v) (events_of rs)) (is_near rs v) 16
      (λ j h. ap (λ (b : Bool). b && neighbour rs j v)
      (sym (ap (λ (b : Bool). ltb j (modules_of rs) && b) (lt-ltb v (supervisors_of rs) (subst (λ (z : ℕ). v < z) c l)) ∙ and-true (ltb j (modules_of rs)))))

  pub near_none : k ≤ v → 0 ≡ modules_near rs v
  near_none l =
      mask_is (is_near rs v) 16 0 (pow_pos 16)
      (λ j h. bit_none j
      ∙ ap (λ (b : Bool). b && neighbour rs j v)
      (sym (ap (λ (b : Bool). ltb j (modules_of rs) && b) (le-ltb v (supervisors_of rs) (subst (λ (z : ℕ). z ≤ v) c l)) ∙ and-false (ltb j (modules_of rs)))))
