-- Laws of the simulation's lines.
use Rattle.std.specs.Prelude.{Option, Some, None}
use mathlib.Core.Path.{◌≡◌, refl, ap, ◌∙◌}
use mathlib.Core.List.{List}
use mathlib.Core.Bool.{Bool, true, false, cond, ◌&&◌, ◌||◌, and-false}
use Prim.Native.Nat.{ℕ, ◌+◌, ◌≤◌, ◌<◌}
use native.Mathlib.Omega.{arith}
use lib.ListN.{length, get_or, take, drop, drop_of_length-le, get_or-eq_default}
use lib.Dec.{eqb, ltb}
use borrow.Author.Tests.{eq-eqb, ne_eqb, lt-ltb, le-ltb}
use Rattle.lines.specs.declared.Partial.{Partial}
use Rattle.lines.specs.Number.{begins, number_up_to, number_of, space_in, starts}
use Rattle.lines.specs.Partial.{partly}
use Rattle.script.specs.declared.Line.{Line}
use Rattle.script.specs.Line.{pair_of, given, is_pair}
use Rattle.script.specs.Line as L
use Rattle.script.proofs.Parts.{tail, tail_is}
use Rattle.acts.specs.declared.Act.{Act}
use Rattle.acts.specs.declared.Act.TheVariants.{Misshapen}
use Rattle.acts.specs.declared.Reading.{Reading}
use Rattle.acts.specs.declared.Reading.TheVariants.{Eighths, NoSensor, Misshapen as NoReading}
use Rattle.acts.specs.Act.{reading_by, reading_of, module_by, supervisor_by, delivery_by, response_by, tick_by, tick_of, act_of, parsed_act, act_number, has_reading, is_tick, is_act, ActAs}

-- a reading, by whether it is the sign alone
module _ (s : List ℕ) {b : ℕ} (e : b ≡ get_or s 0 0) where
  pub reading_sign : eqb (length s) 1 && eqb b 45 ≡ true → NoSensor ≡ reading_of s
  unfolding reading_of
  reading_sign h = simp (rw e at h)

  pub reading_number : {n : Option ℕ} {r : Reading} → eqb (length s) 1 && eqb b 45 ≡ false → n ≡ number_up_to 65535 s → r ≡ reading_by n → r ≡ reading_of s
  unfolding reading_of
  reading_number h f g = simp (rw e at h) (cc)

-- a module and a reading
pub no_reading : (m : Option ℕ) → Misshapen ≡ tick_by m NoReading
no_reading (Some m) = refl
no_reading None = refl

pub tick_none : (s : List ℕ) {k : ℕ} → k ≡ space_in s → length s ≤ k → Misshapen ≡ tick_of s
unfolding tick_of reading_of number_up_to begins
tick_none s {k} e h =
    let z : length s ≤ space_in s + 1 = omega arith in
    rw (drop_of_length-le s z) (no_reading (number_of (take (space_in s) s)))

pub tick_some : (s : List ℕ) {k : ℕ} {m : Option ℕ} {n : Reading} {r : Act} → k ≡ space_in s → m ≡ number_of (take k s) → n ≡ reading_of (tail s (k + 1)) → r ≡ tick_by m n → r ≡ tick_of s
unfolding tick_of
tick_some s p m n r = simp (← p) (let w = tail_is s (space_in s + 1) in cc)

-- a line by its letter
module _ (s : List ℕ) where
  pub act_short : length s < 2 → Misshapen ≡ act_of s
  unfolding act_of
  act_short h = let z : length s ≤ 1 = omega arith in simp (get_or-eq_default s 0 z, and-false)

  pub act_unspaced : (get_or s 1 0 ≡ 32 → ⊥) → Misshapen ≡ act_of s
  unfolding act_of
  act_unspaced h = simp (ne_eqb _ _ h, and-false)

  module _ (h : get_or s 1 0 ≡ 32) where
    pub act_module : {m : Option ℕ} {r : Act} → get_or s 0 0 ≡ 109 → m ≡ number_of (tail s 2) → r ≡ module_by m → r ≡ act_of s
    unfolding act_of
    act_module e f g = rw e (simp (eq-eqb _ _ h) (g ∙ ap module_by (f ∙ ap number_of (tail_is s 2))))

    pub act_supervisor : {m : Option ℕ} {r : Act} → get_or s 0 0 ≡ 115 → m ≡ number_of (tail s 2) → r ≡ supervisor_by m → r ≡ act_of s
    unfolding act_of
    act_supervisor e f g = rw e (simp (eq-eqb _ _ h) (g ∙ ap supervisor_by (f ∙ ap number_of (tail_is s 2))))

    pub act_delivery : {m : Option ℕ} {r : Act} → get_or s 0 0 ≡ 100 → m ≡ number_of (tail s 2) → r ≡ delivery_by m → r ≡ act_of s
    unfolding act_of
    act_delivery e f g = rw e (simp (eq-eqb _ _ h) (g ∙ ap delivery_by (f ∙ ap number_of (tail_is s 2))))

    pub act_response : {l : Line} {r : Act} → get_or s 0 0 ≡ 114 → l ≡ pair_of (tail s 2) → r ≡ response_by l → r ≡ act_of s
    unfolding act_of
    act_response e f g = rw e (simp (eq-eqb _ _ h) (g ∙ ap response_by (f ∙ ap pair_of (tail_is s 2))))

    pub act_tick : {r : Act} → get_or s 0 0 ≡ 107 → r ≡ tick_of (tail s 2) → r ≡ act_of s
    unfolding act_of
    act_tick e f = rw e (simp (eq-eqb _ _ h) (f ∙ ap tick_of (tail_is s 2)))

    pub act_other : (get_or s 0 0 ≡ 109 → ⊥) → (get_or s 0 0 ≡ 115 → ⊥) → (get_or s 0 0 ≡ 100 → ⊥) → (get_or s 0 0 ≡ 114 → ⊥) → (get_or s 0 0 ≡ 107 → ⊥) → Misshapen ≡ act_of s
    unfolding act_of
    act_other a b c d e = simp (ne_eqb _ _ a, ne_eqb _ _ b, ne_eqb _ _ c, ne_eqb _ _ d, ne_eqb _ _ e)

-- the number of the case is that of the bytes
pair_number : (s : List ℕ) → act_number (response_by (pair_of s)) ≡ cond (is_pair s) 0 10
unfolding pair_of is_pair
pair_number s = go (number_of (take (space_in s) s)) (number_of (drop (space_in s + 1) s))
  where
    go : (m e : Option ℕ) → act_number (response_by (L.response_by m e)) ≡ cond (given m && given e) 0 10
    go (Some m) (Some e) = refl
    go (Some m) None = refl
    go None e = refl

tick_number : (s : List ℕ) → act_number (tick_of s) ≡ cond (is_tick s) 0 10
unfolding tick_of is_tick
tick_number s = go (number_of (take (space_in s) s)) (reading_of (drop (space_in s + 1) s))
  where
    go : (m : Option ℕ) (n : Reading) → act_number (tick_by m n) ≡ cond (given m && has_reading n) 0 10
    go (Some m) (Eighths n) = refl
    go (Some m) NoSensor = refl
    go (Some m) NoReading = refl
    go None n = refl

act_number_lem : (s : List ℕ) → act_number (act_of s) ≡ cond (is_act s) 0 10
unfolding act_of is_act
act_number_lem s = go (starts 109 s) (starts 115 s) (starts 100 s) (starts 114 s) (starts 107 s) (number_of (drop 2 s))
  where
    go : (m v d r k : Bool) (n : Option ℕ)
        → act_number (cond m (module_by n) (cond v (supervisor_by n) (cond d (delivery_by n) (cond r (response_by (pair_of (drop 2 s))) (cond k (tick_of (drop 2 s)) Misshapen)))))
        ≡ cond (cond (m || (v || d)) (given n) (cond r (is_pair (drop 2 s)) (k && is_tick (drop 2 s)))) 0 10
    go true v d r k (Some n) = refl
    go true v d r k None = refl
    go false true d r k (Some n) = refl
    go false true d r k None = refl
    go false false true r k (Some n) = refl
    go false false true r k None = refl
    go false false false true k n = pair_number (drop 2 s)
    go false false false false true n = tick_number (drop 2 s)
    go false false false false false n = refl

module _ (p : Partial) where
  act_as : {r : Act} → r ≡ parsed_act p → ActAs p r
  unfolding partly
  act_as e = record { answer = e; number = ap act_number e ∙ go (ltb p.length 12) }
    where
      go : (b : Bool) → act_number (cond b (act_of (take p.length p.bytes)) Misshapen) ≡ cond (cond b (is_act (take p.length p.bytes)) false) 0 10
      go true = act_number_lem (take p.length p.bytes)
      go false = refl

  pub act_within : {r : Act} → p.length < 12 → r ≡ act_of (take p.length p.bytes) → ActAs p r
  unfolding partly
  act_within h e = act_as (simp (lt-ltb p.length 12 h) e)

  pub act_past : 12 ≤ p.length → ActAs p Misshapen
  unfolding partly
  act_past h = act_as (simp (le-ltb p.length 12 h))
