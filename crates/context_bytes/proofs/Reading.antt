-- What is remembered read from its bytes, from what the code is told.
use mathlib.Core.Path.{◌≡◌, refl, sym, ap, ap₂, ◌∙◌}
use mathlib.Core.List.{List, [], ◌∷◌, ◌++◌, append-nil}
use Prim.Native.Nat.{ℕ, zero, suc, ◌+◌, ◌*◌, ◌≤◌, ◌<◌}
use native.Mathlib.Nat.{zero-add}
use native.Mathlib.Omega.{arith}
use lib.ListN.{length, get_or, take, drop, replicate, length-take, length-drop, length-replicate}
use lib.Seq.{drop-cons, drop-length, get_or-take}
use lib.Dec.{lit<, lit≤}
use Rattle.words.specs.Word.{put_at, word_at}
use Rattle.words.proofs.Laws.{fits, word_drop}
use Rattle.words.specs.Lists.{list_from}
use Rattle.fields.specs.Fields.{bytes_from}
use Rattle.context.specs.declared.Context.{Context}
use Rattle.context_bytes.specs.Encoding.{key_at, counts_at, events_at, modules_at, words_from, alphabets, supervisors_at, context_at}

-- ---- arrays

-- bytes put at the start of an array of zeros
module _ (s : List ℕ) (n : ℕ) where
  pub put_padded : length s ≤ n → put_at s 0 (replicate n 0) ≡ s ++ drop (length s) (replicate n 0)
  unfolding put_at
  put_padded h =
      let m : length (replicate {A = ℕ} n 0) ≡ n = length-replicate {A = ℕ} n 0 in
      simp (fits s 0 (replicate n 0) (omega arith)) (ap (λ (k : ℕ). s ++ drop k (replicate n 0)) (zero-add (length s)))

-- numbers of eight bytes, one after the other
module _ (s : List ℕ) where
  abbrev pub word_of : ℕ → ℕ
  word_of j = word_at s (j * 8)

  from_words : (i n : ℕ) → list_from word_of i n ≡ words_from s (i * 8) n
  unfolding list_from words_from
  from_words i zero = refl
  from_words i (suc n) =
      let next : suc i * 8 ≡ i * 8 + 8 = omega arith in
      ap (λ (l : List ℕ). word_at s (i * 8) ∷ l) (from_words (suc i) n ∙ ap (λ (k : ℕ). words_from s k n) next)

  pub words_made : (n : ℕ) {l : List ℕ} → l ≡ list_from word_of 0 n → l ≡ words_from s 0 n
  words_made n e = e ∙ from_words 0 n

-- those of a part of the bytes
part_word : (s : List ℕ) (o m i : ℕ) → i + 8 ≤ m → word_at (take m (drop o s)) i ≡ word_at s (o + i)
unfolding word_at
part_word s o m i h =
    let at : (k : ℕ) → k < 8 → get_or (take m (drop o s)) (i + k) 0 ≡ get_or (drop o s) (i + k) 0 = λ k l. get_or-take m (drop o s) (i + k) 0 (omega arith) in
    let zero : get_or (take m (drop o s)) i 0 ≡ get_or (drop o s) i 0 = get_or-take m (drop o s) i 0 (omega arith) in
    simp (zero, at 1 (lit< tt), at 2 (lit< tt), at 3 (lit< tt), at 4 (lit< tt), at 5 (lit< tt), at 6 (lit< tt), at 7 (lit< tt)) (word_drop o s i)

pub part_words : (s : List ℕ) (o m i n : ℕ) → i + n * 8 ≤ m → words_from (take m (drop o s)) i n ≡ words_from s (o + i) n
unfolding words_from
part_words s o m i zero h = refl
part_words s o m i (suc n) h =
    let at : o + (i + 8) ≡ o + i + 8 = omega arith in
    ap₂ ◌∷◌ (part_word s o m i (omega arith)) (part_words s o m (i + 8) n (omega arith) ∙ ap (λ (x : ℕ). words_from s x n) at)

-- bytes that are those of an offset on, one by one
pub from_each : (s r : List ℕ) (o n : ℕ) → length r ≡ n → ((i : ℕ) → i < n → get_or r i 0 ≡ get_or s (o + i) 0) → r ≡ bytes_from s o n
unfolding bytes_from
from_each s [] o zero l h = refl
from_each s (x ∷ r) o zero l h = absurd (omega (arith, l))
from_each s [] o (suc n) l h = absurd (omega (arith, l))
from_each s (x ∷ r) o (suc n) l h =
    let p : o + 0 ≡ o = omega arith in
    let k : length r ≡ n = omega (arith, l) in
    ap₂ (λ (y : ℕ) (ys : List ℕ). y ∷ ys) (h 0 (omega arith) ∙ ap (λ (j : ℕ). get_or s j 0) p)
    (from_each s r (suc o) n k (λ i b. h (suc i) (omega (arith, b)) ∙ ap (λ (j : ℕ). get_or s j 0) (let q : o + suc i ≡ suc o + i = omega arith in q)))

-- a part of the bytes put into an array that has just room for it
pub part_of : (s : List ℕ) (o n : ℕ) → o + n ≤ length s → take n (drop o s) ≡ bytes_from s o n
unfolding bytes_from
part_of s o zero h = refl
part_of s o (suc n) h = ap (take (suc n)) (drop-cons s o 0 (omega arith)) ∙ ap (λ (l : List ℕ). get_or s o 0 ∷ l) (part_of s (suc o) n (omega arith))

pub part_put : (s : List ℕ) (o n : ℕ) {l : List ℕ} → o + n ≤ length s → l ≡ put_at (take n (drop o s)) 0 (replicate n 0) → l ≡ bytes_from s o n
part_put s o n h e =
    let size : length (take n (drop o s)) ≡ n = omega (arith, length-take n (drop o s), length-drop o s) in
    let zeros : length (replicate {A = ℕ} n 0) ≡ n = length-replicate {A = ℕ} n 0 in
    e ∙ put_padded (take n (drop o s)) n (omega arith) ∙ ap (λ (k : ℕ). take n (drop o s) ++ drop k (replicate n 0)) (size ∙ sym zeros)
    ∙ ap (λ (r : List ℕ). take n (drop o s) ++ r) (drop-length (replicate n 0)) ∙ append-nil (take n (drop o s)) ∙ part_of s o n h

pub supervisors_read : (s : List ℕ) {known : ℕ} {states alphabet : List ℕ} → known ≡ word_at s 199 → states ≡ bytes_from s 207 32
    → alphabet ≡ alphabets (take 256 (drop 239 s)) → record { known = known; states = states; alphabet = alphabet } ≡ supervisors_at s
unfolding supervisors_at
supervisors_read s k t a = simp (k, t, a ∙ part_words s 239 256 0 32 (lit≤ tt))

-- ---- bytes past the end count as 0

module _ (b c : List ℕ) (same : (i : ℕ) → get_or b i 0 ≡ get_or c i 0) where
  pub bytes_same : (o n : ℕ) → bytes_from b o n ≡ bytes_from c o n
  unfolding bytes_from
  bytes_same o zero = refl
  bytes_same o (suc n) = ap₂ ◌∷◌ (same o) (bytes_same (suc o) n)

  word_same : (o : ℕ) → word_at b o ≡ word_at c o
  unfolding word_at
  word_same o = simp same

  words_same : (o n : ℕ) → words_from b o n ≡ words_from c o n
  unfolding words_from
  words_same o zero = refl
  words_same o (suc n) = ap₂ ◌∷◌ (word_same o) (words_same (o + 8) n)

  pub context_same : context_at b ≡ context_at c
  unfolding context_at key_at counts_at events_at modules_at supervisors_at
  context_same = simp (same, word_same, bytes_same, words_same)

zeros_at : (n i : ℕ) → get_or {A = ℕ} (replicate n 0) i 0 ≡ 0
zeros_at zero i = refl
zeros_at (suc n) zero = refl
zeros_at (suc n) (suc i) = zeros_at n i

pub padded : (s : List ℕ) (n : ℕ) → length s ≤ n → (i : ℕ) → get_or (s ++ drop (length s) (replicate n 0)) i 0 ≡ get_or s i 0
padded [] n h i = zeros_at n i
padded (x ∷ s) zero h i = absurd (omega arith)
padded (x ∷ s) (suc n) h zero = refl
padded (x ∷ s) (suc n) h (suc i) = padded s n (omega arith) i

module _ (s : List ℕ) (n : ℕ) where
  pub context_padded : {c : Context} {z : List ℕ} → length s ≤ n → z ≡ put_at s 0 (replicate n 0) → c ≡ context_at z → c ≡ context_at s
  context_padded {c} {z} h e w = w ∙ context_same z s (λ i. ap (λ (l : List ℕ). get_or l i 0) (e ∙ put_padded s n h) ∙ padded s n h i)
