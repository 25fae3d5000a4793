-- Columns and lines put into a buffer, one behind the other.
use mathlib.Core.Path.{◌≡◌, refl, sym, ap, ◌∙◌}
use mathlib.Core.List.{List, [], ◌∷◌, ◌++◌, append_assoc, append-nil}
use mathlib.Core.Bool.{Bool, true, false}
use Prim.Native.Nat.{ℕ, zero, suc, ◌+◌, ◌*◌, ◌-◌, ◌/◌, ◌%◌, ◌≤◌, ◌<◌}
use native.Mathlib.Omega.{arith}
use lib.ListN.{length, take, drop, set, length-append, length-set, take-append-drop}
use lib.Seq.{sets, length-sets, take-set-le, drop-cons, drop-set-lt, get_or-set_same}
use lib.Dec.{ltb}
use borrow.Author.Tests.{lt-ltb, ne_eqb}
use Rattle.words.specs.Word.{put_at}
use Rattle.words.proofs.Laws.{put_sets}
use Rattle.words.proofs.Lists.{sets_append}
use Rattle.lines.specs.Hex.{hex_digit}
use Rattle.texts.specs.Digits.{hex_digits}
use Rattle.records.specs.declared.Record.{Record}
use Rattle.reader.specs.Read.{record_of}
use Rattle.roundtrip.specs.Fits.{Byte}
use Rattle.paper.specs.Paper.{blanks, left, right, name_of, fields_of, words_of, byte_column, byte_columns, word_column, line_of, blank_line, blank_lines}
use Rattle.paper.specs.Put.{given, listed, bytes_in, words_in, Taken, Known}
use Rattle.paper.specs.declared.Fields.{Fields}
use Rattle.paper.proofs.Bodies.{columns}
use Rattle.paper.proofs.Lengths.{byte_column_length, name_length, word_column_length}

-- ---- stores one behind the other

-- p is put, and then q behind it
pub behind : (l : List ℕ) (i n j : ℕ) (p q : List ℕ) {a b : List ℕ} → length p ≡ n → i + n ≡ j → a ≡ sets l i p → b ≡ sets a j q → b ≡ sets l i (p ++ q)
behind l i n j p q {a} {b} h k e f =
    let m : j ≡ i + length p = omega arith in
    f ∙ ap (λ (x : List ℕ). sets x j q) e ∙ ap (λ (y : ℕ). sets (sets l i p) y q) m ∙ sym (sets_append l i p q)

-- bytes p of a known length, for which there is room
pub put_by : (p b : List ℕ) (o n : ℕ) {x q : List ℕ} → length p ≡ n → o + n ≤ length b → q ≡ p → x ≡ put_at q o b → x ≡ sets b o p
put_by p b o n h room e f =
    f ∙ ap (λ (y : List ℕ). put_at y o b) e ∙ put_sets p o b (omega arith)

-- ---- the name

-- a kind j, which the code knows as k
pub name_by : (j k : ℕ) (b : List ℕ) (o : ℕ) {x : List ℕ} → o + 16 ≤ length b → j ≡ k → length (left 16 (name_of k)) ≡ 16 → x ≡ put_at (left 16 (name_of k)) o b
    → x ≡ sets b o (left 16 (name_of j))
name_by j k b o room e l f = rw e (put_by (left 16 (name_of k)) b o 16 l room refl f)

-- a number that is no kind of the table has no name
pub no_name : (j : ℕ) → (j ≡ 0x10 → ⊥) → (j ≡ 0x11 → ⊥) → (j ≡ 0x12 → ⊥) → (j ≡ 0x13 → ⊥) → (j ≡ 0x14 → ⊥) → (j ≡ 0x15 → ⊥) → (j ≡ 0x16 → ⊥) → (j ≡ 0x17 → ⊥) → (j ≡ 0x18 → ⊥) → (j ≡ 0x1f → ⊥) → name_of j ≡ []
unfolding name_of
no_name j a b c d e f g h m n = simp (ne_eqb j 0x10 a, ne_eqb j 0x11 b, ne_eqb j 0x12 c, ne_eqb j 0x13 d, ne_eqb j 0x14 e, ne_eqb j 0x15 f, ne_eqb j 0x16 g, ne_eqb j 0x17 h, ne_eqb j 0x18 m, ne_eqb j 0x1f n)

pub no_name_by : (j : ℕ) (b : List ℕ) (o : ℕ) {x : List ℕ} → o + 16 ≤ length b → name_of j ≡ [] → x ≡ put_at (blanks 16) o b → x ≡ sets b o (left 16 (name_of j))
unfolding left
no_name_by j b o room e f = rw e (put_by (blanks 16) b o 16 refl room refl f)

-- ---- a byte's column

given_length : (has : Bool) (n : ℕ) → Byte n → length (byte_column (given has n)) ≡ 6
unfolding byte_column
given_length true n h = byte_column_length n h
given_length false n h = refl

module _ (n : ℕ) (b : List ℕ) (o : ℕ) {has : Bool} {x : List ℕ} (room : o + 6 ≤ length b) where
  pub byte_column_by : {q : List ℕ} → Byte n → has ≡ true → q ≡ byte_column (n ∷ []) → x ≡ put_at q o b → x ≡ sets b o (byte_column (given has n))
  byte_column_by h t e f = rw t (put_by (byte_column (n ∷ [])) b o 6 (byte_column_length n h) room e f)

  pub no_byte_column_by : has ≡ false → x ≡ put_at (blanks 6) o b → x ≡ sets b o (byte_column (given has n))
  unfolding byte_column
  no_byte_column_by t f = rw t (put_by (blanks 6) b o 6 refl room refl f)

-- ---- four columns

four : (k a b c d : ℕ)
    → byte_columns 4 (take k (a ∷ b ∷ c ∷ d ∷ [])) ≡ byte_column (given (ltb 0 k) a) ++ (byte_column (given (ltb 1 k) b) ++ (byte_column (given (ltb 2 k) c) ++ byte_column (given (ltb 3 k) d)))
unfolding byte_columns
four zero a b c d = rw append-nil
four (suc zero) a b c d = rw append-nil
four (suc (suc zero)) a b c d = rw append-nil
four (suc (suc (suc zero))) a b c d = rw append-nil
four (suc (suc (suc (suc k)))) a b c d =
    let n : ℕ = suc (suc (suc (suc k))) in
    simp (append-nil, lt-ltb 0 n (omega arith), lt-ltb 1 n (omega arith), lt-ltb 2 n (omega arith), lt-ltb 3 n (omega arith))

module _ (f : Fields) (ha : Byte f.first) (hb : Byte f.second) (hc : Byte f.third) where
  pub byte_columns_by : (l : List ℕ) (o : ℕ) {p q r s : List ℕ}
      → p ≡ sets l o (byte_column (given (ltb 0 f.count) f.first))
      → q ≡ sets p (o + 6) (byte_column (given (ltb 1 f.count) f.second))
      → r ≡ sets q (o + 12) (byte_column (given (ltb 2 f.count) f.third))
      → s ≡ sets r (o + 18) (byte_column (given (ltb 3 f.count) f.fourth))
      → s ≡ sets l o (byte_columns 4 (listed f))
  byte_columns_by l o {p} {q} {r} {s} u v w z =
      let ca : List ℕ = byte_column (given (ltb 0 f.count) f.first) in
      let cb : List ℕ = byte_column (given (ltb 1 f.count) f.second) in
      let ct : List ℕ = byte_column (given (ltb 2 f.count) f.third) in
      let cd : List ℕ = byte_column (given (ltb 3 f.count) f.fourth) in
      let three : s ≡ sets q (o + 12) (ct ++ cd) = behind q (o + 12) 6 (o + 18) ct cd (given_length (ltb 2 f.count) f.third hc) (omega arith) w z in
      let two : s ≡ sets p (o + 6) (cb ++ (ct ++ cd)) = behind p (o + 6) 6 (o + 12) cb (ct ++ cd) (given_length (ltb 1 f.count) f.second hb) (omega arith) v three in
      behind l o 6 (o + 6) ca (cb ++ (ct ++ cd)) (given_length (ltb 0 f.count) f.first ha) refl u two
      ∙ ap (sets l o) (sym (four f.count f.first f.second f.third f.fourth))

  pub four_length : Byte f.fourth → length (byte_columns 4 (listed f)) ≡ 24
  four_length hd =
      let a = given_length (ltb 0 f.count) f.first ha in
      let b = given_length (ltb 1 f.count) f.second hb in
      let c = given_length (ltb 2 f.count) f.third hc in
      let d = given_length (ltb 3 f.count) f.fourth hd in
      rw (four f.count f.first f.second f.third f.fourth) (simp length-append (omega arith))

-- ---- the last column

-- the digits that are still to come, and those that stand from i on
pub record Filled (x : ℕ) (column : List ℕ) (rest i : ℕ) : Type 0 where
  pub digits : hex_digits (i - 16) rest ++ drop i column ≡ hex_digits 16 x
  pub front : take 16 column ≡ blanks 16
  pub long : length column ≡ 32
  pub least : 16 ≤ i
  pub most : i ≤ 32

pub filled_first : (x : ℕ) → Filled x (blanks 32) x 32
filled_first x = record { digits = append-nil (hex_digits 16 x); front = refl; long = refl; least = omega arith; most = omega arith }

pub filled_on : (x : ℕ) (column : List ℕ) (rest i : ℕ) {d : ℕ} → Filled x column rest i → 16 < i → d ≡ hex_digit (rest % 16 % 16) → Filled x (set column (i - 1) d) (rest / 16) (i - 1)
unfolding hex_digits
filled_on x column rest i {d} v h e =
    let n : ℕ = i - 1 in
    let k : ℕ = n - 16 in
    let l : length (set column n d) ≡ 32 = length-set column n d ∙ v.long in
    let mm : rest % 16 % 16 ≡ rest % 16 = omega arith in
    let dd : d ≡ hex_digit (rest % 16) = e ∙ ap hex_digit mm in
    let up : suc n ≡ i = omega arith in
    let more : i - 16 ≡ suc k = omega arith in
    let here : drop n (set column n d) ≡ d ∷ drop i column =
    drop-cons (set column n d) n 0 (omega arith)
    ∙ rw (get_or-set_same column n d 0 (omega arith), drop-set-lt (suc n) column n d (omega arith), up) in
    record {
      digits =
          rw (here, dd, ← append_assoc (hex_digits k (rest / 16)) (hex_digit (rest % 16) ∷ []) (drop i column)) (ap (λ (j : ℕ). hex_digits j rest ++ drop i column) (sym more) ∙ v.digits);
      front = take-set-le 16 column n d (omega arith) ∙ v.front;
      long = l;
      least = omega arith;
      most = omega arith;
    }

pub filled_done : (x : ℕ) (column : List ℕ) (rest i : ℕ) → Filled x column rest i → i ≤ 16 → column ≡ word_column (x ∷ [])
unfolding word_column right hex_digits
filled_done x column rest i v h =
    let z : i ≡ 16 = omega arith in
    let d : drop 16 column ≡ hex_digits 16 x = sym (ap (λ (k : ℕ). hex_digits (k - 16) rest ++ drop k column) z) ∙ v.digits in
    sym (take-append-drop 16 column) ∙ rw (v.front, d)

module _ (n : ℕ) (b : List ℕ) (o : ℕ) {has : Bool} {x : List ℕ} (room : o + 32 ≤ length b) where
  pub word_column_by : {q : List ℕ} → has ≡ true → q ≡ word_column (n ∷ []) → x ≡ put_at q o b → x ≡ sets b o (word_column (given has n))
  word_column_by t e f = rw t (put_by (word_column (n ∷ [])) b o 32 (word_column_length (n ∷ [])) room e f)

  pub no_word_column_by : has ≡ false → x ≡ put_at (blanks 32) o b → x ≡ sets b o (word_column (given has n))
  unfolding word_column
  no_word_column_by t f = rw t (put_by (blanks 32) b o 32 refl room refl f)

-- ---- blank lines

-- the first i of n lines stand
pub record Blanked (l : List ℕ) (from n : ℕ) (b : List ℕ) (i : ℕ) : Type 0 where
  pub rest : sets b (from + 73 * i) (blank_lines (n - i)) ≡ sets l from (blank_lines n)
  pub long : length b ≡ length l
  pub room : from + 73 * n ≤ length b

pub blanked_on : (l : List ℕ) (from n : ℕ) (b : List ℕ) (i : ℕ) {a p : List ℕ} → Blanked l from n b i → i < n → p ≡ blank_line → a ≡ put_at p (from + 73 * i) b → Blanked l from n a (i + 1)
unfolding blank_lines
blanked_on l from n b i {a} {p} v h e f =
    let o : ℕ = from + 73 * i in
    let k : ℕ = n - (i + 1) in
    let up : suc k ≡ n - i = omega arith in
    let next : from + 73 * (i + 1) ≡ o + 73 = omega arith in
    let g : a ≡ sets b o blank_line = put_by blank_line b o 73 refl (omega (arith, v.room)) e f in
    let m : length a ≡ length b = ap length g ∙ length-sets b o blank_line in
    record {
      rest =
          ap (λ (j : ℕ). sets a j (blank_lines k)) next
          ∙ behind b o 73 (o + 73) blank_line (blank_lines k) refl refl g refl ∙ ap (λ (j : ℕ). sets b o (blank_lines j)) up ∙ v.rest;
      long = m ∙ v.long;
      room = omega (arith, v.room);
    }

pub blanked_done : (l : List ℕ) (from n : ℕ) (b : List ℕ) (i : ℕ) → Blanked l from n b i → n ≤ i → b ≡ sets l from (blank_lines n)
unfolding blank_lines
blanked_done l from n b i v h =
    let z : n - i ≡ 0 = omega arith in
    sym (ap (λ (k : ℕ). sets b (from + 73 * i) (blank_lines k)) z) ∙ v.rest

-- ---- a line

pub line_by : (k n : ℕ) (body l : List ℕ) {f : Fields} {a b c : List ℕ} → Known k n → Taken n body f
    → a ≡ sets l 0 (left 16 (name_of k))
    → b ≡ sets a 16 (byte_columns 4 (listed f))
    → c ≡ sets b 40 (word_column (given f.wide f.word))
    → length (byte_columns 4 (listed f)) ≡ 24
    → set c 72 10 ≡ sets l 0 (line_of (record_of k body))
unfolding line_of
line_by k n body l {f} {a} {b} {c} is t u v w h =
    let r : Record = record_of k body in
    let m = columns k body is.known in
    let name : List ℕ = left 16 (name_of k) in
    let mid : List ℕ = byte_columns 4 (listed f) in
    let last : List ℕ = word_column (given f.wide f.word) in
    let long : length name ≡ 16 = sym (ap (λ (j : ℕ). length (left 16 (name_of j))) m.kind) ∙ name_length r in
    let fs : listed f ≡ fields_of r = t.fields ∙ ap (λ (j : ℕ). bytes_in j body) is.size ∙ sym m.fields in
    let ws : given f.wide f.word ≡ words_of r = t.words ∙ ap (λ (j : ℕ). words_in j body) is.size ∙ sym m.words in
    let three : set c 72 10 ≡ sets b 40 (last ++ (10 ∷ [])) = behind b 40 32 72 last (10 ∷ []) (word_column_length (given f.wide f.word)) refl w refl in
    let two : set c 72 10 ≡ sets a 16 (mid ++ (last ++ (10 ∷ []))) = behind a 16 24 40 mid (last ++ (10 ∷ [])) h refl v three in
    behind l 0 16 16 name (mid ++ (last ++ (10 ∷ []))) long refl u two ∙ rw (m.kind, fs, ws)
