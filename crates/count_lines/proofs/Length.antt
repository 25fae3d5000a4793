-- How long the lines are: at most 21 bytes each, and as the code finds it.
use Rattle.std.specs.Prelude.{Option, Some, None}
use Prim.Native.Nat.{ℕ, suc, ◌+◌, ◌-◌, ◌*◌, ◌/◌, ◌%◌, ◌≤◌, ◌<◌, zero-le}
use mathlib.Core.Path.{◌≡◌, sym, ap, ◌∙◌}
use mathlib.Core.List.{List, [], ◌∷◌, ◌++◌}
use mathlib.Core.Bool.{Bool, true, false, cond}
use native.Mathlib.Nat.{le_refl, zero-add}
use native.Mathlib.Omega.{arith}
use lib.ListN.{length, get_or, drop, length-append, drop_of_length-le}
use lib.Seq.{drop-cons}
use lib.Dec.{ltb}
use mir.Syntax.{w64}
use mir.Val.{Fits}
use Rattle.words.proofs.Lists.{from_length, from_at}
use Rattle.words.specs.Word.{written}
use Rattle.texts.specs.Ascii.{digits, decimal}
use Rattle.texts.proofs.Texts.{decimal_small, decimal_longer, digits_most}
use Rattle.count_lines.specs.Lines.{number_line, number_lines, lines_with_sum, by_numbers, Prints, short, printed}
use Rattle.count_lines.specs.Post.{Measures, too_long, fitting}

-- ---- at most

pub some_digit : (n : ℕ) → 0 < length (decimal n)
unfolding digits
some_digit n = go (ltb n 10)
  where
    go : (b : Bool) → 0 < length (cond b ((48 + n) ∷ []) (digits 19 (n / 10) ++ ((48 + n % 10) ∷ [])))
    go true = omega arith
    go false = simp length-append (omega arith)

pub line_is : (x : ℕ) → length (number_line x) ≡ length (decimal x) + 1
line_is x = length-append (decimal x) _

line_most : (x : ℕ) → length (number_line x) ≤ 21
line_most x = let h = digits_most 20 x in let e = line_is x in omega arith

lines_is : (x : ℕ) (l : List ℕ) → length (number_lines (x ∷ l)) ≡ length (number_line x) + length (number_lines l)
unfolding number_lines
lines_is x l = length-append (number_line x) (number_lines l)

lines_most : (l : List ℕ) → length (number_lines l) ≤ length l * 21
lines_most [] = unfold number_lines in zero-le
lines_most (x ∷ l) = let h = lines_most l in let g = line_most x in let e = lines_is x l in omega arith

pub text_is : (l : List ℕ) (x : ℕ) → length (lines_with_sum l x) ≡ length (number_lines l) + length (number_line x)
text_is l x = simp length-append (omega arith)

-- the sum's line is within the text
pub last_within : (l : List ℕ) (x : ℕ) {n : ℕ} → n ≡ length (lines_with_sum l x) → length (number_line x) ≤ n
last_within l x e = let t = text_is l x in omega arith

pub text_most : (l : List ℕ) (x : ℕ) → length (lines_with_sum l x) ≤ (length l + 1) * 21
text_most l x = let h = lines_most l in let g = line_most x in let e = text_is l x in omega arith

-- ---- the loop over a number's digits

pub record LengthSoFar (x rest n : ℕ) : Type 0 where
  pub low : rest ≤ x
  pub digit_sum : n + length (decimal rest) ≡ length (decimal x) + 2

pub length_first : (x : ℕ) → LengthSoFar x x 2
length_first x = record { low = le_refl x; digit_sum = omega arith }

module _ (x rest n : ℕ) (L : LengthSoFar x rest n) where
  pub length_few : n ≤ 22
  length_few = let h = digits_most 20 x in let e = L.digit_sum in omega arith

  pub length_on : Fits w64 x → 10 ≤ rest → LengthSoFar x (rest / 10) (n + 1)
  length_on f h =
      let l = L.low in
      let e = L.digit_sum in
      let d = ap length (decimal_longer rest h (record { fits = omega arith })) ∙ length-append (decimal (rest / 10)) _ in
      record { low = omega arith; digit_sum = omega arith }

  pub length_done : rest < 10 → n ≡ length (number_line x)
  length_done h =
      let e = L.digit_sum in
      let d = ap length (decimal_small rest h) in
      let g = line_is x in
      omega arith

-- ---- the counts in their order

module _ (counts numbers : List ℕ) where
  pub order_length : length (by_numbers counts numbers) ≡ length numbers
  order_length = from_length _ 0 (length numbers)

  pub order_at : (j : ℕ) {x : ℕ} → j < length numbers → x ≡ get_or counts (get_or numbers j 0) 0 → x ≡ get_or (by_numbers counts numbers) j 0
  order_at j h e = e ∙ ap (λ (i : ℕ). get_or counts (get_or numbers i 0) 0) (sym (zero-add j)) ∙ sym (from_at (λ i. get_or counts (get_or numbers i 0) 0) 0 (length numbers) j 0 h)

-- ---- the loop over the counts: what is left of the room

module _ (counts numbers : List ℕ) (sum room : ℕ) where
  abbrev l : List ℕ
  l = by_numbers counts numbers

  pub record Left (left j : ℕ) : Type 0 where
    pub within : j ≤ length numbers
    pub less : left ≤ room
    pub balance : room + length (number_lines (drop j l)) ≡ left + length (lines_with_sum l sum)

  module _ {last : ℕ} (e : last ≡ length (number_line sum)) where
    pub left_none : room < last → Measures (lines_with_sum l sum) room None
    left_none h = let t = text_is l sum in too_long (omega arith)

    pub left_first : last ≤ room → Left (room - last) 0
    left_first h = let t = text_is l sum in record { within = zero-le; less = omega arith; balance = omega arith }

  module _ (left j : ℕ) (L : Left left j) where
    module _ {x n : ℕ} (h : j < length numbers) (e : x ≡ get_or counts (get_or numbers j 0) 0) (f : n ≡ length (number_line x)) where
      here : length (number_lines (drop j l)) ≡ n + length (number_lines (drop (j + 1) l))
      here =
          let k = order_length counts numbers in
          let i : suc j ≡ j + 1 = omega arith in
          ap (λ (k : List ℕ). length (number_lines k)) (drop-cons l j 0 (omega arith) ∙ ap (λ (y : ℕ). y ∷ drop (suc j) l) (sym (order_at counts numbers j h e)))
          ∙ lines_is x (drop (suc j) l)
          ∙ ap (λ (y : ℕ). y + length (number_lines (drop (suc j) l))) (sym f) ∙ ap (λ (y : ℕ). n + length (number_lines (drop y l))) i

      pub left_over : left < n → Measures (lines_with_sum l sum) room None
      left_over g = let b = L.balance in let z = here in too_long (omega arith)

      pub left_on : n ≤ left → Left (left - n) (j + 1)
      left_on g = let b = L.balance in let z = here in let m = L.less in record { less = omega arith; within = omega arith; balance = omega arith }

    pub left_done : length numbers ≤ j → Measures (lines_with_sum l sum) room (Some (room - left))
    unfolding number_lines
    left_done h =
        let b = L.balance in
        let m = L.less in
        let k = order_length counts numbers in
        let z : length (number_lines (drop j l)) ≡ 0 = ap (λ (k : List ℕ). length (number_lines k)) (drop_of_length-le l {i = j} (omega arith)) in
        fitting {n = room - left} (omega arith) (omega arith)

-- ---- the answer by what was measured

module _ (text b : List ℕ) {x : Option ℕ} (M : Measures text (length b) x) where
  module _ {n : ℕ} (e : x ≡ Some n) where
    measured : (n ≡ length text) × (length text ≤ length b)
    measured = go M e
      where
        go : {y : Option ℕ} → Measures text (length b) y → y ≡ Some n → (n ≡ length text) × (length text ≤ length b)
        go (too_long h) e = let z : ◌≡◌ {A = ℕ} 0 1 = cc in absurd (omega arith)
        go (fitting {n = m} h f) e = let z : m ≡ n = cc in (omega arith, h)

    pub measured_length : n ≡ length text
    measured_length = measured.0

    pub measured_room : n ≤ length b
    measured_room = let z = measured.0 in let y = measured.1 in omega arith

    pub printed_by : {b' : List ℕ} → b' ≡ written text b → Prints text b (Some n) b'
    printed_by w = printed measured.1 measured.0 w

  pub short_by : x ≡ None → Prints text b None b
  short_by e = go M e
    where
      go : {y : Option ℕ} → Measures text (length b) y → y ≡ None → Prints text b None b
      go (too_long h) e = short h
      go (fitting h f) e = let z : ◌≡◌ {A = ℕ} 0 1 = cc in absurd (omega arith)
