-- Lines written from the last byte to the first.
use Prim.Native.Nat.{ℕ, suc, ◌+◌, ◌-◌, ◌/◌, ◌%◌, ◌≤◌, ◌<◌}
use mathlib.Core.Path.{◌≡◌, refl, sym, ap, ◌∙◌}
use mathlib.Core.List.{List, [], ◌∷◌, ◌++◌, append_assoc, append-nil}
use native.Mathlib.Nat.{le_refl}
use native.Mathlib.Omega.{arith}
use lib.ListN.{length, get_or, set, take, drop, length-append, length-set, drop_of_length-le}
use lib.Seq.{drop-cons, drop-set-lt, get_or-set_same, take-suc, take_all}
use mir.Syntax.{w64}
use mir.Val.{Fits}
use Rattle.words.specs.Word.{written}
use Rattle.texts.specs.Ascii.{decimal}
use Rattle.texts.proofs.Texts.{decimal_small, decimal_longer}
use Rattle.count_lines.specs.Lines.{number_line, number_lines, lines_with_sum, by_numbers}
use Rattle.count_lines.specs.Post.{Puts}
use Rattle.count_lines.proofs.Length.{line_is, text_is, some_digit, order_length, order_at}

-- one byte written before those that stand
set_before : (b : List ℕ) (at y : ℕ) → 0 < at → at ≤ length b → drop (at - 1) (set b (at - 1) y) ≡ y ∷ drop at b
set_before b at y h k =
    let s : length (set b (at - 1) y) ≡ length b = length-set b (at - 1) y in
    let n : suc (at - 1) ≡ at = omega arith in
    drop-cons (set b (at - 1) y) (at - 1) 0 (omega arith)
    ∙ ap (λ (z : ℕ). z ∷ drop (suc (at - 1)) (set b (at - 1) y)) (get_or-set_same b (at - 1) y 0 (omega arith))
    ∙ ap (λ (t : List ℕ). y ∷ t) (drop-set-lt (suc (at - 1)) b (at - 1) y (omega arith) ∙ ap (λ (m : ℕ). drop m b) n)

-- ---- the loop over a number's digits: those of the rest are still to be written before `at`

pub record Digits (x end : ℕ) (b₀ b : List ℕ) (at rest : ℕ) : Type 0 where
  pub low : rest ≤ x
  pub before : at ≤ end
  pub place : at + length (decimal x) ≡ end + length (decimal rest)
  pub long : length (decimal x) ≤ end
  pub fits : end ≤ length b₀
  pub size : length b ≡ length b₀
  pub written_so : decimal rest ++ drop at b ≡ decimal x ++ drop end b₀

-- behind them stands the line feed
pub digits_first : (x end : ℕ) (b : List ℕ) → length (number_line x) ≤ end → end ≤ length b → Digits x (end - 1) (set b (end - 1) 10) (set b (end - 1) 10) (end - 1) x
digits_first x end b h k =
    let e = line_is x in
    let n = length-set b (end - 1) 10 in
    record { low = le_refl x; before = le_refl _; place = refl; long = omega arith; fits = omega arith; size = refl; written_so = refl }

module _ (x end : ℕ) (b₀ b : List ℕ) (at rest : ℕ) (D : Digits x end b₀ b at rest) where
  pub digits_low : 1 ≤ at
  digits_low = let p = D.place in let l = D.long in let o = some_digit rest in omega arith

  pub digits_high : at - 1 < length b
  digits_high = let n = digits_low in let k = D.before in let f = D.fits in let s = D.size in omega arith

  step : (y : ℕ) (r : List ℕ) → decimal rest ≡ r ++ (y ∷ []) → r ++ drop (at - 1) (set b (at - 1) y) ≡ decimal x ++ drop end b₀
  step y r e =
      let l = digits_low in
      let h = digits_high in
      ap (λ (t : List ℕ). r ++ t) (set_before b at y (omega arith) (omega arith))
      ∙ sym (append_assoc r (y ∷ []) (drop at b)) ∙ ap (λ (t : List ℕ). t ++ drop at b) (sym e) ∙ D.written_so

  pub digits_on : Fits w64 x → 10 ≤ rest → Digits x end b₀ (set b (at - 1) (48 + rest % 10)) (at - 1) (rest / 10)
  digits_on g h =
      let m = D.low in
      let k = D.before in
      let p = D.place in
      let o = digits_low in
      let d = decimal_longer rest h (record { fits = omega arith }) in
      let n = ap length d ∙ length-append (decimal (rest / 10)) _ in
      record {
        low = omega arith;
        before = omega arith;
        place = omega arith;
        long = D.long;
        fits = D.fits;
        size = length-set b (at - 1) _ ∙ D.size;
        written_so = step (48 + rest % 10) (decimal (rest / 10)) d;
      }

pub digits_size : (x end : ℕ) (b₀ b : List ℕ) (at rest y : ℕ) → Digits x (end - 1) (set b₀ (end - 1) 10) b at rest → length (set b (at - 1) y) ≡ length b₀
digits_size x end b₀ b at rest y D = length-set b (at - 1) y ∙ D.size ∙ length-set b₀ (end - 1) 10

pub digits_done : (x end : ℕ) (b₀ b : List ℕ) (at rest : ℕ) → length (number_line x) ≤ end → end ≤ length b₀ → Digits x (end - 1) (set b₀ (end - 1) 10) b at rest → rest < 10
    → Puts x end b₀ (at - 1) (set b (at - 1) (48 + rest))
digits_done x end b₀ b at rest l f D h =
    let p = D.place in
    let e = line_is x in
    let o = digits_low x (end - 1) _ b at rest D in
    let d = decimal_small rest h in
    let n = ap length d in
    record {
      start = omega arith;
      line =
          step x (end - 1) _ b at rest D (48 + rest) [] d ∙ ap (λ (t : List ℕ). decimal x ++ t) (set_before b₀ end 10 (omega arith) f)
          ∙ sym (append_assoc (decimal x) (10 ∷ []) (drop end b₀));
      size = digits_size x end b₀ b at rest (48 + rest) D;
    }

-- ---- the loop over the counts: the lines of the first j are still to be written before `at`

lines_append : (k l : List ℕ) → number_lines (k ++ l) ≡ number_lines k ++ number_lines l
unfolding number_lines
lines_append [] l = refl
lines_append (x ∷ k) l = ap (λ (t : List ℕ). number_line x ++ t) (lines_append k l) ∙ sym (append_assoc (number_line x) (number_lines k) (number_lines l))

module _ (counts numbers : List ℕ) where
  abbrev l : List ℕ
  l = by_numbers counts numbers

  pub record LinesWritten (end : ℕ) (b₀ b : List ℕ) (at j : ℕ) : Type 0 where
    pub within : j ≤ length numbers
    pub place : at ≡ length (number_lines (take j l))
    pub before : at ≤ end
    pub fits : end ≤ length b₀
    pub size : length b ≡ length b₀
    pub rest : drop at b ≡ number_lines (drop j l) ++ drop end b₀

  module _ (sum n : ℕ) (b₀ b : List ℕ) (at : ℕ) (e : n ≡ length (lines_with_sum l sum)) (P : Puts sum n b₀ at b) where
    pub written_first : n ≤ length b₀ → LinesWritten at b b at (length numbers)
    unfolding number_lines
    written_first f =
        let t = text_is l sum in
        let s = P.start in
        let z = P.size in
        let o = order_length counts numbers in
        let k : take (length numbers) l ≡ l = take_all (length numbers) l (omega arith) in
        let d : drop (length numbers) l ≡ [] = drop_of_length-le l {i = length numbers} (omega arith) in
        let m : length (number_lines (take (length numbers) l)) ≡ length (number_lines l) = ap (λ (a : List ℕ). length (number_lines a)) k in
        record {
          within = le_refl _;
          place = omega arith;
          before = le_refl _;
          fits = omega arith;
          size = refl;
          rest = sym (ap (λ (a : List ℕ). number_lines a ++ drop at b) d);
        }

    pub written_done : (b' : List ℕ) (at' j : ℕ) → LinesWritten at b b' at' j → j ≤ 0 → b' ≡ written (lines_with_sum l sum) b₀
    unfolding number_lines
    written_done b' at' j W h =
        let i : j ≡ 0 = omega arith in
        let p : at' ≡ 0 = W.place ∙ ap (λ (m : ℕ). length (number_lines (take m l))) i in
        sym (ap (λ (m : ℕ). drop m b') p) ∙ W.rest
        ∙ ap (λ (m : ℕ). number_lines (drop m l) ++ drop at b) i ∙ ap (λ (t : List ℕ). number_lines l ++ t) P.line
        ∙ sym (append_assoc (number_lines l) (number_line sum) (drop n b₀)) ∙ ap (λ (m : ℕ). lines_with_sum l sum ++ drop m b₀) e

  module _ (end : ℕ) (b₀ b : List ℕ) (at j : ℕ) (W : LinesWritten end b₀ b at j) {x : ℕ} (h : 0 < j) (e : x ≡ get_or counts (get_or numbers (j - 1) 0) 0) where
    there : x ≡ get_or l (j - 1) 0
    there = let w = W.within in order_at counts numbers (j - 1) (omega arith) e

    earlier : length (number_lines (take j l)) ≡ length (number_lines (take (j - 1) l)) + length (number_line x)
    unfolding number_lines
    earlier =
        let w = W.within in
        let o = order_length counts numbers in
        let i : j ≡ suc (j - 1) = omega arith in
        ap (λ (m : ℕ). length (number_lines (take m l))) i
        ∙ ap (λ (a : List ℕ). length (number_lines a)) (take-suc l (j - 1) 0 (omega arith) ∙ ap (λ (y : ℕ). take (j - 1) l ++ (y ∷ [])) (sym there))
        ∙ ap length (lines_append (take (j - 1) l) (x ∷ []) ∙ ap (λ (a : List ℕ). number_lines (take (j - 1) l) ++ a) (append-nil (number_line x)))
        ∙ length-append (number_lines (take (j - 1) l)) (number_line x)

    pub written_room : length (number_line x) ≤ at
    written_room = let z = earlier in let p = W.place in omega arith

    pub written_on : {b' : List ℕ} {r : ℕ} → Puts x at b r b' → LinesWritten end b₀ b' r (j - 1)
    unfolding number_lines
    written_on {b'} {r} P =
        let z = earlier in
        let p = W.place in
        let k = W.before in
        let w = W.within in
        let s = P.start in
        let o = order_length counts numbers in
        let i : suc (j - 1) ≡ j = omega arith in
        let d : drop (j - 1) l ≡ x ∷ drop j l =
        drop-cons l (j - 1) 0 (omega arith) ∙ ap (λ (y : ℕ). y ∷ drop (suc (j - 1)) l) (sym there) ∙ ap (λ (m : ℕ). x ∷ drop m l) i in
        record {
          within = omega arith;
          place = omega arith;
          before = omega arith;
          fits = W.fits;
          size = P.size ∙ W.size;
          rest =
              P.line ∙ ap (λ (a : List ℕ). number_line x ++ a) W.rest ∙ sym (append_assoc (number_line x) (number_lines (drop j l)) (drop end b₀))
              ∙ sym (ap (λ (a : List ℕ). number_lines a ++ drop end b₀) d);
        }
