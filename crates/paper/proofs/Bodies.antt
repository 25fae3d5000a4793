-- The columns of a record of the table, by the length of its body.
use mathlib.Core.Path.{◌≡◌, refl, ap, ◌∙◌, sym}
use mathlib.Core.List.{List}
use Prim.Native.Nat.{ℕ, ◌+◌, ◌-◌, ◌≤◌, ◌<◌}
use native.Mathlib.Nat.{add-zero}
use lib.ListN.{get_or, drop}
use lib.Seq.{get_or-drop}
use lib.Dec.{leb}
use borrow.Author.Tests.{le-leb, lt-leb}
use Rattle.words.specs.Word.{word_at}
use Rattle.words.proofs.Laws.{word_drop}
use Rattle.records.specs.Kinds.{body_len, no_len, kind_of}
use Rattle.records.proofs.Table.{kinds}
use Rattle.reader.specs.Read.{record_of}
use Rattle.paper.specs.Paper.{fields_of, words_of}
use Rattle.paper.specs.Put.{given, byte_count, bytes_in, words_in, Taken}
use Rattle.paper.specs.declared.Fields.{Fields}

pub record Columns (k : ℕ) (body : List ℕ) : Type 0 where
  pub kind : kind_of (record_of k body) ≡ k
  pub fields : fields_of (record_of k body) ≡ bytes_in (body_len k) body
  pub words : words_of (record_of k body) ≡ words_in (body_len k) body

pub columns : (k : ℕ) (body : List ℕ) → (body_len k ≡ no_len → ⊥) → Columns k body
unfolding record_of kind_of fields_of words_of body_len
columns k body u =
    kinds (λ j. Columns j body) k u (record { kind = refl; fields = refl; words = refl }) (record { kind = refl; fields = refl; words = refl })
    (record { kind = refl; fields = refl; words = refl }) (record { kind = refl; fields = refl; words = refl })
    (record { kind = refl; fields = refl; words = refl }) (record { kind = refl; fields = refl; words = refl })
    (record { kind = refl; fields = refl; words = refl }) (record { kind = refl; fields = refl; words = refl })
    (record { kind = refl; fields = refl; words = refl }) (record { kind = refl; fields = refl; words = refl })

-- from what the code is told
pub count_wide : (n : ℕ) → 8 ≤ n → n - 8 ≡ byte_count n
count_wide n h = simp (le-leb 8 n h)

pub count_narrow : (n : ℕ) → n < 8 → n ≡ byte_count n
count_narrow n h = simp (lt-leb 8 n h)

pub word_wide : (n : ℕ) (s : List ℕ) (b : ℕ) {x : ℕ} → 8 ≤ n → x ≡ word_at s (b + (n - 8)) → given (leb 8 n) x ≡ words_in n (drop b s)
word_wide n s b h e = ap (given (leb 8 n)) (e ∙ sym (word_drop b s (n - 8)))

pub word_narrow : (n : ℕ) (s : List ℕ) (b x : ℕ) → n < 8 → given (leb 8 n) x ≡ words_in n (drop b s)
word_narrow n s b x h = simp (lt-leb 8 n h)

pub taken_by : (n : ℕ) (s : List ℕ) (b : ℕ) {f : Fields} → f.count ≡ byte_count n
    → f.first ≡ get_or s b 0 → f.second ≡ get_or s (b + 1) 0 → f.third ≡ get_or s (b + 2) 0 → f.fourth ≡ get_or s (b + 3) 0
    → given f.wide f.word ≡ words_in n (drop b s) → Taken n (drop b s) f
taken_by n s b p u v w z q =
    record { fields = rw (p, u, v, w, z) (simp (get_or-drop, add-zero)); words = q }
