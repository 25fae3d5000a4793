-- Document 02, 2.4: the page set of a list of records. "Print it as lines of exactly 72 characters and a line feed, 60 lines to a page, padded
-- with blank lines at the end."
use Rattle.std.specs.Prelude.{ℕ, zero, suc, ◌-◌, ◌%◌, List, [], ◌∷◌, ◌++◌, cond, length, replicate, eqb}
use Prim.Native.Char.{code}
use Rattle.texts.specs.Ascii.{ascii, decimal}
use Rattle.texts.specs.Digits.{hex_digits}
use Rattle.records.specs.Kinds.{kind_of}
use Rattle.records.specs.declared.Record.{Record}
use Rattle.records.specs.declared.Record.TheVariants.{Head, Event, Module, ModuleMove, Supervisor, SupervisorMove, Disabling, Step, Marking, End}

-- ---- a column

abbrev pub blanks : ℕ → List ℕ
blanks n = replicate n (code " ")

-- a text at the left and at the right of a column of w characters
unfoldable pub left : ℕ → List ℕ → List ℕ
left w text = text ++ blanks (w - length text)

unfoldable pub right : ℕ → List ℕ → List ℕ
right w text = blanks (w - length text) ++ text

-- ---- what stands in the columns of a record

-- "Names are document 01's; 18 is `marking`."
unfoldable pub name_of : ℕ → List ℕ
name_of k =
    cond (eqb k 0x10) (ascii "head")
    (cond (eqb k 0x11) (ascii "event")
    (cond (eqb k 0x12) (ascii "module")
    (cond (eqb k 0x13) (ascii "module move")
    (cond (eqb k 0x14) (ascii "supervisor")
    (cond (eqb k 0x15) (ascii "supervisor move")
    (cond (eqb k 0x16) (ascii "disabling")
    (cond (eqb k 0x17) (ascii "procedure step")
    (cond (eqb k 0x18) (ascii "marking")
    (cond (eqb k 0x1f) (ascii "end") [])))))))))

-- the one-byte fields of a record, in the order of the table of kinds
unfoldable pub fields_of : Record → List ℕ
fields_of (Head m v e) = m ∷ v ∷ e ∷ []
fields_of (Event n o c) = n ∷ o ∷ c ∷ []
fields_of (Module n st i) = n ∷ st ∷ i ∷ []
fields_of (ModuleMove m f e t) = m ∷ f ∷ e ∷ t ∷ []
fields_of (Supervisor n st i a) = n ∷ st ∷ i ∷ []
fields_of (SupervisorMove v f e t) = v ∷ f ∷ e ∷ t ∷ []
fields_of (Disabling v st m) = v ∷ st ∷ []
fields_of (Step e i o x) = e ∷ i ∷ o ∷ []
fields_of (Marking m st) = m ∷ st ∷ []
fields_of End = []

-- its 8-byte field, or none
unfoldable pub words_of : Record → List ℕ
words_of (Head m v e) = []
words_of (Event n o c) = []
words_of (Module n st i) = []
words_of (ModuleMove m f e t) = []
words_of (Supervisor n st i a) = a ∷ []
words_of (SupervisorMove v f e t) = []
words_of (Disabling v st m) = m ∷ []
words_of (Step e i o x) = x ∷ []
words_of (Marking m st) = []
words_of End = []

-- ---- a line. "Columns: record name 16, left; up to four one-byte fields, decimal, right, 6 each; an 8-byte field as 16 upper-case hexadecimal
-- digits, right, 32. Fields that a record lacks are blank."

-- the column of the first of some fields, blank where there is none
unfoldable pub byte_column : List ℕ → List ℕ
byte_column [] = blanks 6
byte_column (f ∷ fs) = right 6 (decimal f)

-- so many columns, one field in each
unfoldable pub byte_columns : ℕ → List ℕ → List ℕ
byte_columns zero fs = []
byte_columns (suc n) [] = byte_column [] ++ byte_columns n []
byte_columns (suc n) (f ∷ fs) = byte_column (f ∷ []) ++ byte_columns n fs

unfoldable pub word_column : List ℕ → List ℕ
word_column [] = blanks 32
word_column (x ∷ xs) = right 32 (hex_digits 16 x)

unfoldable pub line_of : Record → List ℕ
line_of r = left 16 (name_of (kind_of r)) ++ (byte_columns 4 (fields_of r) ++ (word_column (words_of r) ++ (code "\n" ∷ [])))

-- ---- pages

abbrev pub blank_line : List ℕ
blank_line = blanks 72 ++ (code "\n" ∷ [])

-- a line for each record, the end record too
unfoldable pub lines_of : List Record → List ℕ
lines_of [] = []
lines_of (r ∷ rs) = line_of r ++ lines_of rs

unfoldable pub blank_lines : ℕ → List ℕ
blank_lines zero = []
blank_lines (suc n) = blank_line ++ blank_lines n

-- "60 lines to a page": how many lines the last page lacks behind n lines
unfoldable pub lacking : ℕ → ℕ
lacking n = (60 - n % 60) % 60

-- "padded with blank lines at the end"
unfoldable pub page_set_of : List Record → List ℕ
page_set_of rs = lines_of rs ++ blank_lines (lacking (length rs))
