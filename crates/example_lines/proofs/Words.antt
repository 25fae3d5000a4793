-- Laws of words and numbers.
use Rattle.std.proofs.Common.{◌≡◌, ℕ, not, suc, ◌+◌, ◌-◌, ◌*◌, ◌/◌, ◌<◌, ◌≤◌, Bool, true, false, cond, eqb, ltb, List, [], ◌∷◌, length, get_or, take, drop, sym, refl, ap, ◌∙◌, add-zero, add_assoc, div-lt_iff_lt-mul, add-one, arith, length-drop, drop_of_length-le, length-take-le, take_all, drop-cons, ltb-false, ltb-true, le-ltb, lt-ltb, eq-eqb, ne_eqb, le-leb}
use borrow.Author.Tests.{lt-leb}
use Rattle.std.specs.List.{position, position_or_len}
use Rattle.std.specs.Prelude.{Option, Some, None, MatchOption}
use Rattle.std.proofs.lemmas.List.Sums.{prefix_len-le-length}
use lib.Seq.{drop-length}
use Rattle.lines.specs.Number.{space_in}
use Rattle.example_lines.specs.Words.{line_end, space_of, spaces_in, word_from, digit_of, longer, number_from}

-- ---- the end of a line

-- what the search for a line feed behind an offset tells of the line's end
pub end_found : (s : List ℕ) (from : ℕ) {r : Option ℕ} → from ≤ length s → r ≡ position (λ b. eqb b 10) (take (length s - from) (drop from s))
    → MatchOption r (length s ≡ line_end s from) (λ n. from + n ≡ line_end s from)
end_found s from h e = rw (e, take_all (length s - from) (drop from s) (simp length-drop (omega arith))) (go (ltb (position_or_len (λ b. eqb b 10) (drop from s)) (length (drop from s))) refl)
  where
    go : (t : Bool) → ltb (position_or_len (λ b. eqb b 10) (drop from s)) (length (drop from s)) ≡ t
        → MatchOption (cond t (Some (position_or_len (λ b. eqb b 10) (drop from s))) None) (length s ≡ line_end s from) (λ n. from + n ≡ line_end s from)
    go true g = refl
    go false g = let f = ltb-false _ _ g in let k = prefix_len-le-length (λ b. not (eqb b 10)) (drop from s) in omega (arith, length-drop from s)

-- a line stands in the text
pub end_within : (s : List ℕ) (from : ℕ) {r : ℕ} → r ≡ line_end s from → from ≤ length s → r ≤ length s
end_within s from e h = let g = prefix_len-le-length (λ b. not (eqb b 10)) (drop from s) in omega (arith, length-drop from s)

-- ---- spaces and words

pub space_one : (b : ℕ) → b ≡ 32 → 1 ≡ space_of b
unfolding space_of
space_one b e = simp (eq-eqb b 32 e)

pub space_none : (b : ℕ) → (b ≡ 32 → ⊥) → 0 ≡ space_of b
unfolding space_of
space_none b e = simp (ne_eqb b 32 e)

module _ (s : List ℕ) (i n : ℕ) {x : ℕ} (f : n + spaces_in (drop i s) ≡ x) where
  pub spaces_done : length s ≤ i → n ≡ x
  unfolding spaces_in
  spaces_done h = simp (drop_of_length-le s h, add-zero) at f

  pub spaces_again : {r : ℕ} → i < length s → r ≡ space_of (get_or s i 0) → n + r + spaces_in (drop (i + 1) s) ≡ x
  unfolding spaces_in
  spaces_again h e = rw (e, add-one, add_assoc) (rw (drop-cons s i 0 h) at f)

module _ (s : List ℕ) (i k : ℕ) {x : List ℕ} (f : word_from k (drop i s) ≡ x) where
  pub word_done : length s ≤ i → drop (length s) s ≡ x
  unfolding word_from
  word_done h = rw (drop-length s) (rw (drop_of_length-le s h) at f)

  module _ (h : i < length s) where
    pub word_here : k ≡ 0 → drop i s ≡ x
    unfolding word_from
    word_here e = rw (drop-cons s i 0 h) (simp (drop-cons s i 0 h, eq-eqb k 0 e) at f)

    pub word_again : {r : ℕ} → (k ≡ 0 → ⊥) → r ≡ space_of (get_or s i 0) → word_from (k - r) (drop (i + 1) s) ≡ x
    unfolding word_from
    word_again z e = rw (e, add-one) (simp (drop-cons s i 0 h, ne_eqb k 0 z) at f)

space_within : (s : List ℕ) → space_in s ≤ length s
unfolding space_in
space_within [] = omega arith
space_within (b ∷ s) = go (eqb b 32) (space_within s)
  where
    go : (t : Bool) → space_in s ≤ length s → cond t 0 (suc (space_in s)) ≤ suc (length s)
    go true h = omega arith
    go false h = omega arith

pub space_count : (s : List ℕ) {r : ℕ} → r ≡ space_in s → r ≡ length (take r s)
space_count s {r} e = let h = space_within s in let g : r ≤ length s = omega arith in sym (length-take-le r s g)

-- the part of a line that a call is lent
module _ (s : List ℕ) (at k : ℕ) (e : drop at s ≡ word_from k s) where
  pub lent : take (length s - at) (drop at s) ≡ word_from k s
  lent = take_all (length s - at) (drop at s) (simp length-drop (omega arith)) ∙ e

  pub number_by : (base : ℕ) {r : ℕ} → r ≡ number_from base 0 (take (length s - at) (drop at s)) → r ≡ number_from base 0 (word_from k s)
  number_by base q = q ∙ ap (number_from base 0) lent

  pub letter_by : (j : ℕ) {r : ℕ} → r ≡ get_or (take (length s - at) (drop at s)) j 0 → r ≡ get_or (word_from k s) j 0
  letter_by j q = q ∙ ap (λ (w : List ℕ). get_or w j 0) lent

-- ---- digits and numbers

module _ (b : ℕ) where
  pub digit_low : b < 48 → 16 ≡ digit_of b
  unfolding digit_of
  digit_low h = let g : b < 65 = omega arith in simp (lt-leb 48 b h, lt-leb 65 b g)

  pub digit_decimal : {r : ℕ} → 48 ≤ b → b ≤ 57 → r ≡ b - 48 → r ≡ digit_of b
  unfolding digit_of
  digit_decimal h g e = simp (le-leb 48 b h, le-leb b 57 g) e

  pub digit_between : 57 < b → b < 65 → 16 ≡ digit_of b
  unfolding digit_of
  digit_between h g = let f : 48 ≤ b = omega arith in simp (le-leb 48 b f, lt-leb b 57 h, lt-leb 65 b g)

  pub digit_letter : {r : ℕ} → 57 < b → 65 ≤ b → b ≤ 70 → r ≡ b - 65 + 10 → r ≡ digit_of b
  unfolding digit_of
  digit_letter h g k e = let f : 48 ≤ b = omega arith in simp (le-leb 48 b f, lt-leb b 57 h, le-leb 65 b g, le-leb b 70 k) e

  pub digit_high : 70 < b → 16 ≡ digit_of b
  unfolding digit_of
  digit_high h = let f : 48 ≤ b = omega arith in let g : 57 < b = omega arith in let k : 65 ≤ b = omega arith in simp (le-leb 48 b f, lt-leb b 57 g, le-leb 65 b k, lt-leb b 70 h)

-- a number with one digit more, by the greatest to which it can be put; max is the largest of 64 bits
module _ (base n d m max : ℕ) (z : 0 < base) (small : d ≤ max) (most : m ≡ (max - d) / base) where
  room_by : n ≤ m → n * base + d ≤ max
  room_by h = go (ltb (max - d) (n * base)) refl
    where
      go : (t : Bool) → ltb (max - d) (n * base) ≡ t → n * base + d ≤ max
      go true e = let g : (max - d) / base < n = (div-lt_iff_lt-mul z).1 (ltb-true _ _ e) in absurd (omega arith)
      go false e = let g : n * base ≤ max - d = ltb-false _ _ e in omega arith

  over_by : m < n → max < n * base + d
  over_by h = let g : (max - d) / base < n = omega arith in let f : max - d < n * base = (div-lt_iff_lt-mul z).0 g in omega arith

pub mul_by : (base n d m : ℕ) → 0 < base → d < 256 → m ≡ (18446744073709551615 - d) / base → n ≤ m → n * base < 18446744073709551616
mul_by base n d m z s e h = let s' : d ≤ 18446744073709551615 = omega arith in let g = room_by base n d m 18446744073709551615 z s' e h in omega arith

pub add_by : (base n d m : ℕ) → 0 < base → d < 256 → m ≡ (18446744073709551615 - d) / base → n ≤ m → n * base + d < 18446744073709551616
add_by base n d m z s e h = let s' : d ≤ 18446744073709551615 = omega arith in let g = room_by base n d m 18446744073709551615 z s' e h in omega arith

pub longer_by : (base n d : ℕ) {r : ℕ} → r < 18446744073709551616 → r ≡ n * base + d → r ≡ longer base n d
unfolding longer
longer_by base n d {r} h e = let g : n * base + d < 18446744073709551616 = omega arith in simp (lt-ltb (n * base + d) 18446744073709551616 g) e

pub longer_over : (base n d m : ℕ) → 0 < base → d < 256 → m ≡ (18446744073709551615 - d) / base → m < n → n ≡ longer base n d
unfolding longer
longer_over base n d m z s e h =
    let s' : d ≤ 18446744073709551615 = omega arith in
    let f = over_by base n d m 18446744073709551615 z s' e h in
    let g : 18446744073709551616 ≤ n * base + d = omega arith in
    simp (le-ltb (n * base + d) 18446744073709551616 g)

-- the loop over digits
module _ (base : ℕ) (s : List ℕ) (i n : ℕ) {x : ℕ} (f : number_from base n (drop i s) ≡ x) where
  pub number_done : length s ≤ i → n ≡ x
  unfolding number_from
  number_done h = rw (drop_of_length-le s h) at f

  module _ (h : i < length s) {d : ℕ} (e : d ≡ digit_of (get_or s i 0)) where
    pub number_other : base ≤ d → n ≡ x
    unfolding number_from
    number_other g = simp (drop-cons s i 0 h, ← e, le-ltb d base g) at f

    pub number_again : {r : ℕ} → d < base → r ≡ longer base n d → number_from base r (drop (i + 1) s) ≡ x
    unfolding number_from
    number_again g m = rw (m, add-one) (simp (drop-cons s i 0 h, ← e, lt-ltb d base g) at f)
