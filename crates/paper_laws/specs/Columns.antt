-- Document 02, 2.4: "A page set read by its columns determines the plan." The reader: a line's first 16 characters are a name, the next four times
-- six its one-byte fields, the last 32 its 8-byte field.
use Rattle.std.specs.Prelude.{ℕ, zero, suc, ◌+◌, ◌*◌, ◌-◌, ◌/◌, List, [], ◌∷◌, ◌++◌, Bool, true, cond, ◌&&◌, length, take, drop, eqb, ltb, Option, Some, None}
use Prim.Native.Char.{code}
use Rattle.words.specs.Word.{word_bytes}
use Rattle.systems.specs.Order.{same_list}
use Rattle.records.specs.declared.Record.{Record}
use Rattle.reader.specs.Read.{record_of}
use Rattle.paper.specs.Paper.{left, name_of}

-- ---- a column

unfoldable pub is_blank : List ℕ → Bool
is_blank [] = true
is_blank (c ∷ cs) = eqb c (code " ") && is_blank cs

-- the value of a digit, a hexadecimal one too
unfoldable pub digit_of : ℕ → ℕ
digit_of c = cond (ltb c (code "A")) (c - code "0") (c - code "A" + 10)

-- the number that digits to a base make behind those of n; blanks count for nothing
unfoldable pub number_in : ℕ → ℕ → List ℕ → ℕ
number_in base n [] = n
number_in base n (c ∷ cs) = number_in base (cond (eqb c (code " ")) n (n * base + digit_of c)) cs

-- the byte that a column has, or none
unfoldable pub byte_column_read : List ℕ → List ℕ
byte_column_read column = cond (is_blank column) [] (number_in 10 0 column ∷ [])

-- the eight bytes of a number, or none
unfoldable pub word_column_read : List ℕ → List ℕ
word_column_read column = cond (is_blank column) [] (word_bytes (number_in 16 0 column))

-- so many columns of one byte
unfoldable pub byte_columns_read : ℕ → List ℕ → List ℕ
byte_columns_read zero text = []
byte_columns_read (suc n) text = byte_column_read (take 6 text) ++ byte_columns_read n (drop 6 text)

-- the first of some kinds whose name a column has
unfoldable pub kind_named : List ℕ → List ℕ → Option ℕ
kind_named [] column = None
kind_named (k ∷ ks) column = cond (same_list (left 16 (name_of k)) column) (Some k) (kind_named ks column)

abbrev pub kinds : List ℕ
kinds = 0x10 ∷ 0x11 ∷ 0x12 ∷ 0x13 ∷ 0x14 ∷ 0x15 ∷ 0x16 ∷ 0x17 ∷ 0x18 ∷ 0x1f ∷ []

-- ---- a line

-- the body of its record: the bytes of its fields
unfoldable pub body_read : List ℕ → List ℕ
body_read text = byte_columns_read 4 (drop 16 text) ++ word_column_read (take 32 (drop 40 text))

-- a line without the name of a kind, as a blank one, has no record
unfoldable pub record_read : Option ℕ → List ℕ → List Record
record_read None body = []
record_read (Some k) body = record_of k body ∷ []

unfoldable pub line_read : List ℕ → List Record
line_read text = record_read (kind_named kinds (take 16 text)) (body_read text)

-- ---- a page set

-- so many lines of 72 characters and a line feed
unfoldable pub lines_read : ℕ → List ℕ → List Record
lines_read zero text = []
lines_read (suc n) text = line_read text ++ lines_read n (drop 73 text)

unfoldable pub page_set_read : List ℕ → List Record
page_set_read text = lines_read (length text / 73) text
