-- Laws of the listing's lines.
use Rattle.std.specs.Prelude.{Option, Some, None}
use mathlib.Core.Path.{◌≡◌, refl, ap, ◌∙◌}
use mathlib.Core.List.{List}
use mathlib.Core.Bool.{Bool, true, false, cond, ◌&&◌, and-false}
use Prim.Native.Nat.{ℕ, ◌+◌, ◌≤◌, ◌<◌}
use native.Mathlib.Omega.{arith}
use lib.ListN.{length, get_or, take, drop, drop_of_length-le, get_or-eq_default}
use lib.Dec.{ltb}
use borrow.Author.Tests.{eq-eqb, ne_eqb, lt-ltb, le-ltb}
use Rattle.lines.specs.declared.Partial.{Partial}
use Rattle.lines.specs.Number.{begins, number_up_to, number_of, space_in, starts}
use Rattle.lines.specs.Partial.{partly}
use Rattle.script.specs.declared.Line.{Line}
use Rattle.script.specs.declared.Line.TheVariants.{Misshapen}
use Rattle.script.specs.Line.{turn_by, response_by, pair_of, line_of, parsed_of, line_number, given, is_pair, is_line, LineAs}
use Rattle.script.proofs.Parts.{tail, tail_is}

-- two numbers, and a line
pub nothing_right : (m : Option ℕ) → Misshapen ≡ response_by m None
nothing_right (Some m) = refl
nothing_right None = refl

pub pair_none : (s : List ℕ) {k : ℕ} → k ≡ space_in s → length s ≤ k → Misshapen ≡ pair_of s
unfolding pair_of number_of number_up_to begins
pair_none s {k} e h =
    let z : length s ≤ space_in s + 1 = omega arith in
    rw (drop_of_length-le s z) (nothing_right (number_of (take (space_in s) s)))

pub pair_by : (s : List ℕ) {k : ℕ} {m e : Option ℕ} {r : Line} → k ≡ space_in s → m ≡ number_of (take k s) → e ≡ number_of (tail s (k + 1)) → r ≡ response_by m e → r ≡ pair_of s
unfolding pair_of
pair_by s p m e r = simp (← p) (let w = tail_is s (space_in s + 1) in cc)

module _ (s : List ℕ) where
  pub line_short : length s < 2 → Misshapen ≡ line_of s
  unfolding line_of
  line_short h = let z : length s ≤ 1 = omega arith in simp (get_or-eq_default s 0 z, and-false)

  pub line_unspaced : (get_or s 1 0 ≡ 32 → ⊥) → Misshapen ≡ line_of s
  unfolding line_of
  line_unspaced h = simp (ne_eqb _ _ h, and-false)

  module _ (h : get_or s 1 0 ≡ 32) where
    pub line_turn : {m : Option ℕ} {r : Line} → get_or s 0 0 ≡ 116 → m ≡ number_of (tail s 2) → r ≡ turn_by m → r ≡ line_of s
    unfolding line_of
    line_turn e f g = simp (eq-eqb _ _ h, eq-eqb _ _ e) (let w = tail_is s 2 in cc)

    pub line_response : {r : Line} → get_or s 0 0 ≡ 114 → r ≡ pair_of (tail s 2) → r ≡ line_of s
    unfolding line_of
    line_response e f = rw e (simp (eq-eqb _ _ h) (f ∙ ap pair_of (tail_is s 2)))

    pub line_other : (get_or s 0 0 ≡ 116 → ⊥) → (get_or s 0 0 ≡ 114 → ⊥) → Misshapen ≡ line_of s
    unfolding line_of
    line_other f g = simp (ne_eqb _ _ f, ne_eqb _ _ g)

-- the number of the case is that of the bytes
pair_number : (s : List ℕ) → line_number (pair_of s) ≡ cond (is_pair s) 0 10
unfolding pair_of is_pair
pair_number s = go (number_of (take (space_in s) s)) (number_of (drop (space_in s + 1) s))
  where
    go : (m e : Option ℕ) → line_number (response_by m e) ≡ cond (given m && given e) 0 10
    go (Some m) (Some e) = refl
    go (Some m) None = refl
    go None e = refl

line_number_lem : (s : List ℕ) → line_number (line_of s) ≡ cond (is_line s) 0 10
unfolding line_of is_line
line_number_lem s = go (starts 116 s) (starts 114 s)
  where
    turn : (m : Option ℕ) → line_number (turn_by m) ≡ cond (given m) 0 10
    turn (Some m) = refl
    turn None = refl

    go : (t r : Bool) → line_number (cond t (turn_by (number_of (drop 2 s))) (cond r (pair_of (drop 2 s)) Misshapen)) ≡ cond (cond t (given (number_of (drop 2 s))) (r && is_pair (drop 2 s))) 0 10
    go true r = turn (number_of (drop 2 s))
    go false true = pair_number (drop 2 s)
    go false false = refl

pub pair_as : (s : List ℕ) {r : Line} → r ≡ pair_of s → LineAs (pair_of s) (is_pair s) r
pair_as s e = record { answer = e; number = ap line_number e ∙ pair_number s }

module _ (p : Partial) where
  line_as : {r : Line} → r ≡ parsed_of p → LineAs (parsed_of p) (partly is_line false p) r
  unfolding partly
  line_as e = record { answer = e; number = ap line_number e ∙ go (ltb p.length 12) }
    where
      go : (b : Bool) → line_number (cond b (line_of (take p.length p.bytes)) Misshapen) ≡ cond (cond b (is_line (take p.length p.bytes)) false) 0 10
      go true = line_number_lem (take p.length p.bytes)
      go false = refl

  pub line_within : {r : Line} → p.length < 12 → r ≡ line_of (take p.length p.bytes) → LineAs (parsed_of p) (partly is_line false p) r
  unfolding partly
  line_within h e = line_as (simp (lt-ltb p.length 12 h) e)

  pub line_past : 12 ≤ p.length → LineAs (parsed_of p) (partly is_line false p) Misshapen
  unfolding partly
  line_past h = line_as (simp (le-ltb p.length 12 h))
