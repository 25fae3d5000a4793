-- Parts of bytes, of which some are set anew: what is read elsewhere stays, and there it is what was set.
use mathlib.Core.Path.{◌≡◌, refl, sym, ap, ap₂, ◌∙◌}
use mathlib.Core.Logic.{◌⊎◌, inl, inr}
use mathlib.Core.List.{List, [], ◌∷◌, ◌++◌, append_assoc}
use Prim.Native.Nat.{ℕ, zero, suc, ◌+◌, ◌*◌, ◌^◌, ◌≤◌, ◌<◌}
use native.Mathlib.Nat.{add-zero, le_refl}
use native.Mathlib.Omega.{arith}
use lib.ListN.{length, get_or, set, take, drop, length-set}
use lib.Dec.{lit<}
use lib.Seq.{sets, sets-eq, get_or-set_same, get_or-set_other, length-take-le, drop_at}
use Rattle.words.specs.Word.{word_at, word_bytes}
use Rattle.words.proofs.Laws.{length_word}
use Rattle.fields.specs.Fields.{bytes_from}
use Rattle.context_bytes.specs.Encoding.{words_from}
use Rattle.context_bytes.proofs.Encoded.{word_there}

-- ---- lists that are the same from o up to e

abbrev pub Same : List ℕ → List ℕ → ℕ → ℕ → Type 0
Same a b o e = (i : ℕ) → o ≤ i → i < e → get_or a i 0 ≡ get_or b i 0

module _ (a b : List ℕ) (o e : ℕ) (h : Same a b o e) where
  pub same_bytes : (p n : ℕ) → o ≤ p → p + n ≤ e → bytes_from a p n ≡ bytes_from b p n
  unfolding bytes_from
  same_bytes p zero l r = refl
  same_bytes p (suc n) l r = ap₂ ◌∷◌ (h p l (omega arith)) (same_bytes (suc p) n (omega arith) (omega arith))

  pub same_word : (p : ℕ) → o ≤ p → p + 8 ≤ e → word_at a p ≡ word_at b p
  unfolding word_at
  same_word p l r =
      let at : (k : ℕ) → k < 8 → get_or a (p + k) 0 ≡ get_or b (p + k) 0 = λ k m. h (p + k) (omega arith) (omega arith) in
      simp (h p l (omega arith), at 1 (lit< tt), at 2 (lit< tt), at 3 (lit< tt), at 4 (lit< tt), at 5 (lit< tt), at 6 (lit< tt), at 7 (lit< tt))

  pub same_words : (p n : ℕ) → o ≤ p → p + n * 8 ≤ e → words_from a p n ≡ words_from b p n
  unfolding words_from
  same_words p zero l r = refl
  same_words p (suc n) l r = ap₂ ◌∷◌ (same_word p l (omega arith)) (same_words (p + 8) n (omega arith) (omega arith))

-- ---- some set anew

pub sets_apart : (l : List ℕ) (o : ℕ) (xs : List ℕ) (i : ℕ) → (i < o) ⊎ (o + length xs ≤ i) → get_or (sets l o xs) i 0 ≡ get_or l i 0
sets_apart l o [] i h = refl
sets_apart l o (x ∷ xs) i (inl h) = sets_apart (set l o x) (suc o) xs i (inl (omega arith)) ∙ get_or-set_other l o i x 0 (λ z. absurd (omega (arith, z)))
sets_apart l o (x ∷ xs) i (inr h) = sets_apart (set l o x) (suc o) xs i (inr (omega arith)) ∙ get_or-set_other l o i x 0 (λ z. absurd (omega (arith, z)))

pub sets_there : (l : List ℕ) (o : ℕ) (xs : List ℕ) → o + length xs ≤ length l → bytes_from (sets l o xs) o (length xs) ≡ xs
unfolding bytes_from
sets_there l o [] h = refl
sets_there l o (x ∷ xs) h =
    ap₂ ◌∷◌ (sets_apart (set l o x) (suc o) xs o (inl (omega arith)) ∙ get_or-set_same l o x 0 (omega arith))
    (sets_there (set l o x) (suc o) xs (omega (arith, length-set l o x)))

-- ---- numbers of eight bytes, one after the other

pub words_at : (b : List ℕ) (o n k : ℕ) → k < n → get_or (words_from b o n) k 0 ≡ word_at b (o + k * 8)
unfolding words_from
words_at b o zero k h = absurd (omega arith)
words_at b o (suc n) zero h = ap (word_at b) (sym (add-zero o))
words_at b o (suc n) (suc k) h = words_at b (o + 8) n k (omega arith) ∙ ap (word_at b) (let z : o + 8 + k * 8 ≡ o + suc k * 8 = omega arith in z)

-- one of them set anew
module _ (b : List ℕ) (x : ℕ) (w : x < 2 ^ 64) where
  pub word_set : (o : ℕ) → o + 8 ≤ length b → word_at (sets b o (word_bytes x)) o ≡ x
  word_set o r =
      let m : length (word_bytes x) ≡ 8 = length_word x in
      let rest : List ℕ = drop (o + length (word_bytes x)) b in
      let n : length (take o b) ≡ o = length-take-le o b (omega arith) in
      let e : drop o (sets b o (word_bytes x)) ≡ word_bytes x ++ rest =
      ap (drop o) (sets-eq (word_bytes x) b o (omega (arith, m)) ∙ append_assoc (take o b) (word_bytes x) rest) ∙ drop_at (take o b) (word_bytes x ++ rest) o n
      in
      word_there (sets b o (word_bytes x)) o x rest e w

  pub words_set : (o n k : ℕ) → k < n → o + n * 8 ≤ length b → words_from (sets b (o + k * 8) (word_bytes x)) o n ≡ set (words_from b o n) k x
  unfolding words_from
  words_set o zero k h r = absurd (omega arith)
  words_set o (suc n) zero h r =
      let z : o + 0 * 8 ≡ o = omega arith in
      let m : length (word_bytes x) ≡ 8 = length_word x in
      let here : word_at (sets b o (word_bytes x)) o ≡ x = word_set o (omega arith) in
      let rest : words_from (sets b o (word_bytes x)) (o + 8) n ≡ words_from b (o + 8) n =
      same_words (sets b o (word_bytes x)) b (o + 8) (o + 8 + n * 8) (λ i l u. sets_apart b o (word_bytes x) i (inr (omega (arith, m)))) (o + 8) n (le_refl (o + 8)) (le_refl (o + 8 + n * 8))
      in
      ap (λ (p : ℕ). words_from (sets b p (word_bytes x)) o (suc n)) z ∙ ap₂ ◌∷◌ here rest
  words_set o (suc n) (suc k) h r =
      let z : o + suc k * 8 ≡ o + 8 + k * 8 = omega arith in
      let m : length (word_bytes x) ≡ 8 = length_word x in
      let first : word_at (sets b (o + suc k * 8) (word_bytes x)) o ≡ word_at b o =
      same_word (sets b (o + suc k * 8) (word_bytes x)) b o (o + 8) (λ i l u. sets_apart b (o + suc k * 8) (word_bytes x) i (inl (omega arith))) o (le_refl o) (le_refl (o + 8))
      in
      ap₂ ◌∷◌ first (ap (λ (p : ℕ). words_from (sets b p (word_bytes x)) (o + 8) n) z ∙ words_set (o + 8) n k (omega arith) (omega arith))
