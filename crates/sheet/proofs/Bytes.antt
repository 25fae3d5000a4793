-- A script taken byte by byte is answered line by line.
use mathlib.Core.Path.{◌≡◌, refl, sym, ap, ap₂, ◌∙◌}
use mathlib.Core.List.{List, [], ◌∷◌, ◌++◌}
use mathlib.Core.Bool.{Bool, true, false, cond}
use Prim.Native.Nat.{ℕ, suc}
use native.Mathlib.Omega.{arith}
use lib.ListN.{length}
use lib.Dec.{eqb}
use borrow.Author.Tests.{lt-ltb}
use Rattle.device_states.specs.declared.Device.{Device}
use Rattle.lines.specs.declared.Partial.{Partial}
use Rattle.lines.specs.Partial.{begun, with_byte, with_bytes}
use Rattle.script.specs.declared.Line.{Line}
use Rattle.script.specs.Line.{line_of, parsed_of}
use Rattle.script.proofs.Takes.{line_taken}
use Rattle.sheet.specs.Listing.{device_after, answer_to, on_first, lines_of, last_line, answers_to, answers_from, Bytewise}

-- a line so far, and one byte more
behind : (p : Partial) (xs : List ℕ) (b : ℕ) → with_byte (with_bytes p xs) b ≡ with_bytes p (xs ++ (b ∷ []))
unfolding with_bytes
behind p [] b = refl
behind p (x ∷ xs) b = behind (with_byte p x) xs b

-- bytes before the first of some lines
unfoldable before : List ℕ → List (List ℕ) → List (List ℕ)
before [] ls = ls
before (x ∷ xs) ls = on_first x (before xs ls)

before_none : (x : ℕ) (xs : List ℕ) → before (x ∷ xs) [] ≡ (x ∷ xs) ∷ []
unfolding before on_first
before_none x [] = refl
before_none x (y ∷ ys) = ap (on_first x) (before_none y ys)

before_line : (xs : List ℕ) (ls : List (List ℕ)) → before xs ([] ∷ ls) ≡ xs ∷ ls
unfolding before on_first
before_line [] ls = refl
before_line (x ∷ xs) ls = ap (on_first x) (before_line xs ls)

before_byte : (xs : List ℕ) (b : ℕ) (ls : List (List ℕ)) → before xs (on_first b ls) ≡ before (xs ++ (b ∷ [])) ls
unfolding before
before_byte [] b ls = refl
before_byte (x ∷ xs) b ls = ap (on_first x) (before_byte xs b ls)

module _ (image : List ℕ) where
  -- the bytes bs are still to come behind those of a line so far
  abbrev From : List ℕ → Type 0
  From bs = (d : Device) (xs : List ℕ) → answers_from image d (with_bytes begun xs) bs ≡ answers_to image d (before xs (lines_of bs))

  at_end : From []
  unfolding answers_from answers_to before with_bytes lines_of
  at_end d [] = refl
  at_end d (x ∷ xs) =
      let t = line_taken (x ∷ xs) in
      ap₂ (λ (c : Bool) (l : Line). cond c (answer_to image d l ++ last_line image (device_after image d l)) (last_line image d))
      (t.some ∙ lt-ltb 0 (suc (length xs)) (omega arith)) t.line
      ∙ sym (ap (answers_to image d) (before_none x xs))

  at_byte : (b : ℕ) (bs : List ℕ) → From bs → From (b ∷ bs)
  unfolding answers_from answers_to before with_bytes lines_of
  at_byte b bs ih d xs = go (eqb b 10)
    where
      p : Partial
      p = with_bytes begun xs

      go : (c : Bool)
          → cond c (answer_to image d (parsed_of p) ++ answers_from image (device_after image d (parsed_of p)) begun bs) (answers_from image d (with_byte p b) bs)
          ≡ answers_to image d (before xs (cond c ([] ∷ lines_of bs) (on_first b (lines_of bs))))
      go true =
          ap (λ (l : Line). answer_to image d l ++ answers_from image (device_after image d l) begun bs) (line_taken xs).line
          ∙ ap (λ (r : List ℕ). answer_to image d (line_of xs) ++ r) (ih (device_after image d (line_of xs)) [])
          ∙ sym (ap (answers_to image d) (before_line xs (lines_of bs)))
      go false =
          ap (λ (q : Partial). answers_from image d q bs) (behind begun xs b)
          ∙ ih d (xs ++ (b ∷ []))
          ∙ sym (ap (answers_to image d) (before_byte xs b (lines_of bs)))

  from : (bs : List ℕ) → From bs
  from [] = at_end
  from (b ∷ bs) = at_byte b bs (from bs)

pub bytewise : Bytewise
unfolding with_bytes before
bytewise image d script = from image script d []
