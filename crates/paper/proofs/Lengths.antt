-- How long columns, lines and pages are.
use mathlib.Core.Path.{◌≡◌, refl}
use mathlib.Core.List.Memᴰ
use mathlib.Core.List.{List, [], ◌∷◌}
use mathlib.Core.Bool.{Bool, true, false}
use Prim.Native.Nat.{ℕ, zero, suc, ◌+◌, ◌*◌, ◌/◌, ◌%◌, ◌≤◌, ◌<◌}
use native.Mathlib.Omega.{arith}
use lib.ListN.{length, length-append}
use lib.Dec.{ltb}
use borrow.Author.Tests.{lt-ltb, le-ltb, ltb-true, ltb-false}
use Rattle.texts.specs.Ascii.{ascii, digits}
use Rattle.texts.specs.Digits.{hex_digits}
use Rattle.records.specs.Kinds.{kind_of}
use Rattle.records.specs.declared.Record.{Record}
use Rattle.records.specs.declared.Record.TheVariants.{Head, Event, Module, ModuleMove, Supervisor, SupervisorMove, Disabling, Step, Marking, End}
use Rattle.roundtrip.specs.Fits.{Byte, Fits, AllFit}
use Rattle.paper.specs.Paper.{left, right, name_of, fields_of, words_of, byte_column, byte_columns, word_column, line_of, lines_of, blank_lines, lacking, page_set_of}

-- ---- a byte in its column, by how many digits it has

pub one_digit : (n : ℕ) → n < 10 → byte_column (n ∷ []) ≡ 32 ∷ 32 ∷ 32 ∷ 32 ∷ 32 ∷ (48 + n) ∷ []
unfolding byte_column right digits
one_digit n h = simp (lt-ltb n 10 h)

pub two_digits : (n : ℕ) → 10 ≤ n → n < 100 → byte_column (n ∷ []) ≡ 32 ∷ 32 ∷ 32 ∷ 32 ∷ (48 + n / 10) ∷ (48 + n % 10) ∷ []
unfolding byte_column right digits
two_digits n h k = simp (le-ltb n 10 h, lt-ltb (n / 10) 10 (omega arith))

pub three_digits : (n : ℕ) → 100 ≤ n → n < 256 → byte_column (n ∷ []) ≡ 32 ∷ 32 ∷ 32 ∷ (48 + n / 10 / 10) ∷ (48 + n / 10 % 10) ∷ (48 + n % 10) ∷ []
unfolding byte_column right digits
three_digits n h k = simp (le-ltb n 10 (omega arith), le-ltb (n / 10) 10 (omega arith), lt-ltb (n / 10 / 10) 10 (omega arith))

-- what holds of the three shapes holds of the column
pub by_digits : (P : List ℕ → Type 0) (n : ℕ) → Byte n
    → (n < 10 → P (32 ∷ 32 ∷ 32 ∷ 32 ∷ 32 ∷ (48 + n) ∷ []))
    → (10 ≤ n → n < 100 → P (32 ∷ 32 ∷ 32 ∷ 32 ∷ (48 + n / 10) ∷ (48 + n % 10) ∷ []))
    → (100 ≤ n → P (32 ∷ 32 ∷ 32 ∷ (48 + n / 10 / 10) ∷ (48 + n / 10 % 10) ∷ (48 + n % 10) ∷ []))
    → P (byte_column (n ∷ []))
by_digits P n h a b c = go (ltb n 10) (ltb n 100) refl refl
  where
    go : (u v : Bool) → ltb n 10 ≡ u → ltb n 100 ≡ v → P (byte_column (n ∷ []))
    go true v p q = let l = ltb-true n 10 p in rw (one_digit n l) (a l)
    go false true p q =
        let l = ltb-false n 10 p in
        let m = ltb-true n 100 q in
        rw (two_digits n l m) (b l m)
    go false false p q = let l = ltb-false n 100 q in rw (three_digits n l h) (c l)

-- ---- lengths

pub byte_column_length : (n : ℕ) → Byte n → length (byte_column (n ∷ [])) ≡ 6
byte_column_length n h = by_digits (λ l. length l ≡ 6) n h (λ a. refl) (λ a b. refl) (λ a. refl)

-- every field is a byte
abbrev pub Small : List ℕ → Type 0
Small [] = Unit {0}
Small (f ∷ fs) = Byte f × Small fs

pub small : (r : Record) → Fits r → Small (fields_of r)
unfolding fields_of
small (Head m v e) h = (h.0, (h.1, (h.2, tt)))
small (Event n o c) h = (h.0, (h.1, (h.2, tt)))
small (Module n st i) h = (h.0, (h.1, (h.2, tt)))
small (ModuleMove m f e t) h = (h.0, (h.1, (h.2, (h.3, tt))))
small (Supervisor n st i a) h = (h.0, (h.1, (h.2, tt)))
small (SupervisorMove v f e t) h = (h.0, (h.1, (h.2, (h.3, tt))))
small (Disabling v st m) h = (h.0, (h.1, tt))
small (Step e i o x) h = (h.0, (h.1, (h.2, tt)))
small (Marking m st) h = (h.0, (h.1, tt))
small End h = tt

pub byte_columns_length : (n : ℕ) (fs : List ℕ) → Small fs → length (byte_columns n fs) ≡ 6 * n
unfolding byte_columns byte_column
byte_columns_length zero fs h = refl
byte_columns_length (suc n) [] h = let i = byte_columns_length n [] tt in omega arith
byte_columns_length (suc n) (f ∷ fs) h =
    let i = byte_columns_length n fs h.1 in
    let j = byte_column_length f h.0 in
    simp length-append (omega arith)

pub name_length : (r : Record) → length (left 16 (name_of (kind_of r))) ≡ 16
unfolding left name_of kind_of ascii
name_length (Head m v e) = refl
name_length (Event n o c) = refl
name_length (Module n st i) = refl
name_length (ModuleMove m f e t) = refl
name_length (Supervisor n st i a) = refl
name_length (SupervisorMove v f e t) = refl
name_length (Disabling v st m) = refl
name_length (Step e i o x) = refl
name_length (Marking m st) = refl
name_length End = refl

pub word_column_length : (xs : List ℕ) → length (word_column xs) ≡ 32
unfolding word_column right hex_digits
word_column_length [] = refl
word_column_length (x ∷ xs) = refl

-- "lines of exactly 72 characters and a line feed"
pub line_length : (r : Record) → Fits r → length (line_of r) ≡ 73
unfolding line_of
line_length r h =
    let a = name_length r in
    let b = byte_columns_length 4 (fields_of r) (small r h) in
    let c = word_column_length (words_of r) in
    simp length-append (omega arith)

pub lines_length : (rs : List Record) → AllFit rs → length (lines_of rs) ≡ 73 * length rs
unfolding lines_of
lines_length [] f = refl
lines_length (r ∷ rs) f =
    let a = line_length r (f r (Memᴰ.head refl)) in
    let b = lines_length rs (λ t m. f t (Memᴰ.tail m)) in
    simp length-append (omega arith)

pub blank_length : (n : ℕ) → length (blank_lines n) ≡ 73 * n
unfolding blank_lines
blank_length zero = refl
blank_length (suc n) = let a = blank_length n in omega arith

module _ (rs : List Record) (f : AllFit rs) where
  pub page_set_length : length (page_set_of rs) ≡ 73 * (length rs + lacking (length rs))
  unfolding page_set_of
  page_set_length =
      let a = lines_length rs f in
      let b = blank_length (lacking (length rs)) in
      simp length-append (omega arith)

  -- "60 lines to a page"
  pub size : length (page_set_of rs) ≡ 4380 * ((length rs + 59) / 60)
  unfolding lacking
  size = let a = page_set_length in omega arith
