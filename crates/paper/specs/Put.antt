-- What the code makes a line of: the body of a record, by its length. Steps of the proof: they need not be read.
use Rattle.std.specs.Prelude.{ℕ, ◌-◌, ◌≡◌, List, [], ◌∷◌, Bool, cond, get_or, take, leb}
use Rattle.words.specs.Word.{word_at}
use Rattle.records.specs.Kinds.{body_len, no_len}
use Rattle.paper.specs.declared.Fields.{Fields}

-- a field that a record may lack
abbrev pub given : Bool → ℕ → List ℕ
given has x = cond has (x ∷ []) []

-- the one-byte fields, of which the first `count` are there
abbrev pub listed : Fields → List ℕ
listed f = take f.count (f.first ∷ f.second ∷ f.third ∷ f.fourth ∷ [])

-- the fields of a body of n bytes: one of 8 or more ends in a word
abbrev pub byte_count : ℕ → ℕ
byte_count n = cond (leb 8 n) (n - 8) n

abbrev pub bytes_in : ℕ → List ℕ → List ℕ
bytes_in n body = take (byte_count n) (get_or body 0 0 ∷ get_or body 1 0 ∷ get_or body 2 0 ∷ get_or body 3 0 ∷ [])

abbrev pub words_in : ℕ → List ℕ → List ℕ
words_in n body = given (leb 8 n) (word_at body (n - 8))

pub record Taken (n : ℕ) (body : List ℕ) (f : Fields) : Type 0 where
  pub fields : listed f ≡ bytes_in n body
  pub words : given f.wide f.word ≡ words_in n body

-- a kind of the table, and the length of its body
pub record Known (k n : ℕ) : Type 0 where
  pub known : body_len k ≡ no_len → ⊥
  pub size : n ≡ body_len k
