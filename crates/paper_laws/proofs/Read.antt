-- What is read from the columns of a line that was printed.
use Rattle.std.specs.Prelude.{Some}
use mathlib.Core.Path.{◌≡◌, refl, sym, ap, ◌∙◌}
use mathlib.Core.List.Memᴰ
use mathlib.Core.List.{List, [], ◌∷◌, ◌++◌, append_assoc, append-nil}
use mathlib.Core.Bool.{cond, Bool, true, false}
use Prim.Native.Nat.{ℕ, zero, suc, ◌+◌, ◌*◌, ◌-◌, ◌/◌, ◌%◌, ◌^◌, ◌≤◌, ◌<◌}
use native.Mathlib.Nat.{suc-add, zero-add, pow-suc}
use native.Mathlib.Omega.{arith}
use lib.ListN.{length, drop}
use lib.Seq.{take_at, drop_at, drop-drop}
use lib.Dec.{eqb, ltb}
use borrow.Author.Tests.{lt-ltb, le-ltb, ltb-true, ltb-false, ne_eqb}
use Rattle.words.specs.Word.{word_bytes}
use Rattle.systems.specs.Order.{same_list}
use Rattle.lines.specs.Hex.{hex_digit}
use Rattle.texts.specs.Ascii.{ascii}
use Rattle.texts.specs.Digits.{hex_digits}
use Rattle.records.specs.Kinds.{kind_of}
use Rattle.records.specs.Bytes.{bytes_of}
use Rattle.records.specs.declared.Record.{Record}
use Rattle.records.specs.declared.Record.TheVariants.{Head, Event, Module, ModuleMove, Supervisor, SupervisorMove, Disabling, Step, Marking, End}
use Rattle.reader.specs.Read.{record_of}
use Rattle.roundtrip.specs.Fits.{Byte, Word, Fits, AllFit}
use Rattle.roundtrip.proofs.Shape.{body_read_lem}
use Rattle.paper.specs.Paper.{left, right, name_of, fields_of, words_of, byte_column, byte_columns, word_column, line_of, lines_of, blank_lines, lacking, page_set_of}
use Rattle.paper_laws.specs.Columns.{is_blank, digit_of, number_in, kind_named, kinds, byte_column_read, word_column_read, byte_columns_read, body_read, record_read, line_read, lines_read, page_set_read}
use Rattle.paper.proofs.Lengths.{by_digits, byte_column_length, Small, small, byte_columns_length, name_length, word_column_length, line_length, page_set_length}

-- ---- the name

named : (r : Record) → kind_named kinds (left 16 (name_of (kind_of r))) ≡ Some (kind_of r)
unfolding kind_named same_list left name_of kind_of ascii
named (Head m v e) = refl
named (Event n o c) = refl
named (Module n st i) = refl
named (ModuleMove m f e t) = refl
named (Supervisor n st i a) = refl
named (SupervisorMove v f e t) = refl
named (Disabling v st m) = refl
named (Step e i o x) = refl
named (Marking m st) = refl
named End = refl

-- ---- a byte's column

digit_value : (d : ℕ) → d < 10 → digit_of (48 + d) ≡ d
unfolding digit_of
digit_value d h = simp (lt-ltb (48 + d) 65 (omega arith)) (omega arith)

digit_shown : (d : ℕ) → eqb (48 + d) 32 ≡ false
digit_shown d = ne_eqb (48 + d) 32 (λ e. omega arith)

byte_column_read_lem : (n : ℕ) → Byte n → byte_column_read (byte_column (n ∷ [])) ≡ n ∷ []
unfolding byte_column_read is_blank number_in
byte_column_read_lem n h =
    by_digits (λ l. byte_column_read l ≡ n ∷ []) n h
    (λ a.
    let e : 0 * 10 + n ≡ n = omega arith in
    simp (digit_shown n, digit_value n a) (ap (λ (x : ℕ). x ∷ []) e))
    (λ a b.
    let e : (0 * 10 + n / 10) * 10 + n % 10 ≡ n = omega arith in
    simp (digit_shown (n / 10), digit_shown (n % 10), digit_value (n / 10) (omega arith), digit_value (n % 10) (omega arith)) (ap (λ (x : ℕ). x ∷ []) e))
    (λ a.
    let e : ((0 * 10 + n / 10 / 10) * 10 + n / 10 % 10) * 10 + n % 10 ≡ n = omega arith in
    simp (digit_shown (n / 10 / 10), digit_shown (n / 10 % 10), digit_shown (n % 10), digit_value (n / 10 / 10) (omega arith), digit_value (n / 10 % 10) (omega arith), digit_value (n % 10) (omega arith))
    (ap (λ (x : ℕ). x ∷ []) e))

byte_columns_read_lem : (n : ℕ) (fs t : List ℕ) → length fs ≤ n → Small fs → byte_columns_read n (byte_columns n fs ++ t) ≡ fs
unfolding byte_columns_read byte_columns byte_column byte_column_read is_blank
byte_columns_read_lem zero [] t h s = refl
byte_columns_read_lem zero (f ∷ fs) t h s = absurd (omega arith)
byte_columns_read_lem (suc n) [] t h s = byte_columns_read_lem n [] t (omega arith) tt
byte_columns_read_lem (suc n) (f ∷ fs) t h s =
    let l = byte_column_length f s.0 in
    ap (byte_columns_read (suc n)) (append_assoc (byte_column (f ∷ [])) (byte_columns n fs) t)
    ∙ ap (λ (c : List ℕ). byte_column_read c ++ byte_columns_read n (drop 6 (byte_column (f ∷ []) ++ (byte_columns n fs ++ t)))) (take_at (byte_column (f ∷ [])) (byte_columns n fs ++ t) 6 l)
    ∙ ap (λ (c : List ℕ). byte_column_read (byte_column (f ∷ [])) ++ byte_columns_read n c) (drop_at (byte_column (f ∷ [])) (byte_columns n fs ++ t) 6 l)
    ∙ ap (λ (c : List ℕ). c ++ byte_columns_read n (byte_columns n fs ++ t)) (byte_column_read_lem f s.0)
    ∙ ap (λ (c : List ℕ). f ∷ c) (byte_columns_read_lem n fs t (omega arith) s.1)

-- ---- the column of a word

hex_value : (d : ℕ) → d < 16 → digit_of (hex_digit d) ≡ d
unfolding digit_of hex_digit
hex_value d h = go (ltb d 10) refl
  where
    go : (b : Bool) → ltb d 10 ≡ b → digit_of (hex_digit d) ≡ d
    go true e = let l = ltb-true d 10 e in simp (e, lt-ltb (48 + d) 65 (omega arith)) (omega arith)
    go false e = let l = ltb-false d 10 e in simp (e, le-ltb (65 + (d - 10)) 65 (omega arith)) (omega arith)

hex_shown : (d : ℕ) → eqb (hex_digit d) 32 ≡ false
unfolding hex_digit
hex_shown d = go (ltb d 10) refl
  where
    go : (b : Bool) → ltb d 10 ≡ b → eqb (hex_digit d) 32 ≡ false
    go true e = simp e (digit_shown d)
    go false e = simp e (ne_eqb (65 + (d - 10)) 32 (λ z. omega arith))

number_append : (base n : ℕ) (p q : List ℕ) → number_in base n (p ++ q) ≡ number_in base (number_in base n p) q
unfolding number_in
number_append base n [] q = refl
number_append base n (c ∷ p) q = number_append base (cond (eqb c 32) n (n * base + digit_of c)) p q

hex_number : (k x : ℕ) → x < 16 ^ k → number_in 16 0 (hex_digits k x) ≡ x
unfolding hex_digits number_in
hex_number zero x h = omega arith
hex_number (suc k) x h =
    let g : x < 16 ^ k * 16 = rw (← pow-suc) h in
    let i = hex_number k (x / 16) (omega arith) in
    let e : x / 16 * 16 + x % 16 ≡ x = omega arith in
    number_append 16 0 (hex_digits k (x / 16)) (hex_digit (x % 16) ∷ [])
    ∙ simp (i, hex_shown (x % 16), hex_value (x % 16) (omega arith)) e

word_shown : (x : ℕ) → is_blank (right 32 (hex_digits 16 x)) ≡ false
unfolding is_blank right hex_digits
word_shown x = simp hex_shown

sixteen : (x : ℕ) → length (hex_digits 16 x) ≡ 16
unfolding hex_digits
sixteen x = refl

word_value : (x : ℕ) → Word x → number_in 16 0 (right 32 (hex_digits 16 x)) ≡ x
unfolding number_in right
word_value x h = rw (sixteen x) (hex_number 16 x h)

word_read : (x : ℕ) (xs : List ℕ) → Word x → word_column_read (word_column (x ∷ xs)) ≡ word_bytes x
unfolding word_column_read word_column
word_read x xs h = simp (word_shown x, word_value x h)

-- ---- a line

body_back : (r : Record) → Fits r → fields_of r ++ word_column_read (word_column (words_of r)) ≡ drop 1 (bytes_of r)
unfolding fields_of words_of bytes_of word_column_read word_column is_blank
body_back (Head m v e) h = refl
body_back (Event n o c) h = refl
body_back (Module n st i) h = refl
body_back (ModuleMove m f e t) h = refl
body_back (Supervisor n st i a) h = ap (λ (w : List ℕ). n ∷ st ∷ i ∷ w) (word_read a [] h.3)
body_back (SupervisorMove v f e t) h = refl
body_back (Disabling v st m) h = ap (λ (w : List ℕ). v ∷ st ∷ w) (word_read m [] h.2)
body_back (Step e i o x) h = ap (λ (w : List ℕ). e ∷ i ∷ o ∷ w) (word_read x [] h.3)
body_back (Marking m st) h = refl
body_back End h = refl

record_back : (r : Record) → Fits r → record_of (kind_of r) (fields_of r ++ word_column_read (word_column (words_of r))) ≡ r
record_back r h = ap (record_of (kind_of r)) (body_back r h ∙ sym (append-nil (drop 1 (bytes_of r)))) ∙ body_read_lem [] r h

few : (r : Record) → length (fields_of r) ≤ 4
unfolding fields_of
few (Head m v e) = omega arith
few (Event n o c) = omega arith
few (Module n st i) = omega arith
few (ModuleMove m f e t) = omega arith
few (Supervisor n st i a) = omega arith
few (SupervisorMove v f e t) = omega arith
few (Disabling v st m) = omega arith
few (Step e i o x) = omega arith
few (Marking m st) = omega arith
few End = omega arith

line_read_lem : (r : Record) (t : List ℕ) → Fits r → line_read (line_of r ++ t) ≡ r ∷ []
unfolding line_read line_of body_read record_read
line_read_lem r t h =
    let name : List ℕ = left 16 (name_of (kind_of r)) in
    let mid : List ℕ = byte_columns 4 (fields_of r) in
    let last : List ℕ = word_column (words_of r) in
    let rest : List ℕ = (10 ∷ []) ++ t in
    let all : line_of r ++ t ≡ name ++ (mid ++ (last ++ rest)) = simp append_assoc in
    let cut : drop 16 (name ++ (mid ++ (last ++ rest))) ≡ mid ++ (last ++ rest) = drop_at name (mid ++ (last ++ rest)) 16 (name_length r) in
    let past : drop 40 (name ++ (mid ++ (last ++ rest))) ≡ last ++ rest =
    sym (drop-drop 24 16 (name ++ (mid ++ (last ++ rest)))) ∙ ap (drop 24) cut ∙ drop_at mid (last ++ rest) 24 (byte_columns_length 4 (fields_of r) (small r h)) in
    ap line_read all
    ∙ rw (take_at name (mid ++ (last ++ rest)) 16 (name_length r), cut, past, take_at last rest 32 (word_column_length (words_of r)), named r, byte_columns_read_lem 4 (fields_of r) (last ++ rest) (few r) (small r h))
    (ap (λ (x : Record). x ∷ []) (record_back r h))

-- ---- lines

lines_read_lem : (rs : List Record) (m : ℕ) (t : List ℕ) → AllFit rs → lines_read (length rs + m) (lines_of rs ++ t) ≡ rs ++ lines_read m t
unfolding lines_of lines_read
lines_read_lem [] m t f = rw zero-add
lines_read_lem (r ∷ rs) m t f =
    let h = f r (Memᴰ.head refl) in
    let i = lines_read_lem rs m t (λ q k. f q (Memᴰ.tail k)) in
    ap (λ (l : List ℕ). lines_read (length (r ∷ rs) + m) l) (append_assoc (line_of r) (lines_of rs) t)
    ∙ ap (λ (n : ℕ). lines_read n (line_of r ++ (lines_of rs ++ t))) (suc-add (length rs) m)
    ∙ rw (line_read_lem r (lines_of rs ++ t) h, drop_at (line_of r) (lines_of rs ++ t) 73 (line_length r h), i)

blank_read : (n : ℕ) → lines_read n (blank_lines n) ≡ []
unfolding lines_read blank_lines line_read record_read kind_named same_list left name_of ascii
blank_read zero = refl
blank_read (suc n) = blank_read n

pub read_back : (rs : List Record) → AllFit rs → page_set_read (page_set_of rs) ≡ rs
unfolding page_set_read page_set_of
read_back rs f =
    let k : ℕ = lacking (length rs) in
    let l = page_set_length rs f in
    let n : length (page_set_of rs) / 73 ≡ length rs + k = omega arith in
    ap (λ (m : ℕ). lines_read m (page_set_of rs)) n ∙ lines_read_lem rs k (blank_lines k) f ∙ rw (blank_read k, append-nil)
