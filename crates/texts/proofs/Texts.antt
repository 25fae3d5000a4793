-- Laws of texts: pushing appends, and what fits is the text of its bytes.
use mathlib.Core.Path.{◌≡◌, refl, sym, ap, ◌∙◌}
use mathlib.Core.List.{List, [], ◌∷◌, ◌++◌, append_assoc, append-nil}
use mathlib.Core.Bool.{Bool, true, false, cond}
use Prim.Native.Nat.{ℕ, zero, suc, ◌+◌, ◌-◌, ◌/◌, ◌%◌, ◌*◌, ◌^◌, ◌≤◌, ◌<◌, zero-le}
use native.Mathlib.Nat.{le_refl, pow-suc}
use native.Mathlib.Numerals.{add-one}
use native.Mathlib.Omega.{arith}
use lib.ListN.{length, get_or, drop, set, replicate, length-append, drop_of_length-le}
use lib.Seq.{drop-cons, set-append_seam}
use lib.Dec.{ltb}
use mir.Syntax.{w8, w64}
use mir.Val.{Fits}
use borrow.Author.Tests.{lt-ltb, le-ltb}
use Rattle.std.specs.List.{fold}
use Rattle.lines.specs.Hex.{hex_digit}
use Rattle.texts.specs.declared.Text.{Text}
use Rattle.texts.specs.Ascii.{digits, decimal}
use Rattle.texts.specs.Text.{text_of, pushed, appended, cut}
use Rattle.texts.specs.Digits.{hex_digits, hexes, buffer_text}
use Rattle.texts.specs.Numbers.{spaced, spaced_all}

pub appended_append : (t : Text) (xs bs : List ℕ) → appended t (xs ++ bs) ≡ appended (appended t xs) bs
unfolding appended
appended_append t [] bs = refl
appended_append t (a ∷ xs) bs = appended_append (pushed t a) xs bs

-- bytes pushed one after the other
pub pushed_all : (t : Text) (s : List ℕ) → fold pushed t s ≡ appended t s
unfolding appended
pushed_all t [] = refl
pushed_all t (b ∷ s) = pushed_all (pushed t b) s

-- and what each member of a list appends
module _ (f : ℕ → List ℕ) (all : List ℕ → List ℕ) where
  pub appended_each : all [] ≡ [] → ((b : ℕ) (s : List ℕ) → all (b ∷ s) ≡ f b ++ all s) → (t : Text) (s : List ℕ) → fold (λ u b. appended u (f b)) t s ≡ appended t (all s)
  unfolding appended
  appended_each h g t [] = sym (ap (appended t) h)
  appended_each h g t (b ∷ s) = appended_each h g (appended t (f b)) s ∙ sym (ap (appended t) (g b s) ∙ appended_append t (f b) (all s))

-- a number below 10
pub decimal_small : (n : ℕ) → n < 10 → decimal n ≡ (48 + n) ∷ []
unfolding digits
decimal_small n h = simp (lt-ltb n 10 h)

-- fuel that is not needed
enough : (k n : ℕ) → n < 10 ^ suc k → digits (suc (suc k)) n ≡ digits (suc k) n
unfolding digits
enough zero n h = simp (lt-ltb n 10 h)
enough (suc k) n h =
    ap (λ (l : List ℕ). cond (ltb n 10) ((48 + n) ∷ []) (l ++ ((48 + n % 10) ∷ [])))
    (enough k (n / 10) (let g : n < 10 ^ suc k * 10 = rw (← pow-suc) h in omega arith))

one_more : (k n : ℕ) → 10 ≤ n → digits (suc k) n ≡ digits k (n / 10) ++ ((48 + n % 10) ∷ [])
unfolding digits
one_more k n h = simp (le-ltb n 10 h)

-- one digit more
pub decimal_longer : (n : ℕ) → 10 ≤ n → Fits w64 n → decimal n ≡ decimal (n / 10) ++ ((48 + n % 10) ∷ [])
decimal_longer n h f = one_more 19 n h ∙ ap (λ (l : List ℕ). l ++ ((48 + n % 10) ∷ [])) (sym (enough 18 (n / 10) (omega arith)))

-- numbers behind a text
pub number_small : (t : Text) {r : Text} (n : ℕ) → n < 10 → r ≡ pushed t (48 + n) → r ≡ appended t (decimal n)
unfolding appended
number_small t n h e = e ∙ sym (ap (appended t) (decimal_small n h))

pub number_longer : (t : Text) {u r : Text} (n : ℕ) → 10 ≤ n → Fits w64 n → u ≡ appended t (decimal (n / 10)) → r ≡ pushed u (48 + n % 10) → r ≡ appended t (decimal n)
unfolding appended
number_longer t n h f e g =
    g ∙ ap (λ (u : Text). pushed u (48 + n % 10)) e
    ∙ sym (ap (appended t) (decimal_longer n h f) ∙ appended_append t (decimal (n / 10)) ((48 + n % 10) ∷ []))

-- how long a number is
pub digits_most : (k n : ℕ) → length (digits k n) ≤ k
unfolding digits
digits_most zero n = zero-le
digits_most (suc k) n = go (ltb n 10) (digits_most k (n / 10))
  where
    go : (b : Bool) → length (digits k (n / 10)) ≤ k → length (cond b ((48 + n) ∷ []) (digits k (n / 10) ++ ((48 + n % 10) ∷ []))) ≤ suc k
    go true g = omega arith
    go false g = simp length-append (omega arith)

digits_length : (k j n : ℕ) → n < 10 ^ suc j → length (digits k n) ≤ suc j
unfolding digits
digits_length zero j n h = zero-le
digits_length (suc k) zero n h = simp (lt-ltb n 10 h) (le_refl 1)
digits_length (suc k) (suc j) n h = go (ltb n 10) (digits_length k j (n / 10) (let g : n < 10 ^ suc j * 10 = rw (← pow-suc) h in omega arith))
  where
    go : (b : Bool) → length (digits k (n / 10)) ≤ suc j → length (cond b ((48 + n) ∷ []) (digits k (n / 10) ++ ((48 + n % 10) ∷ []))) ≤ suc (suc j)
    go true g = omega arith
    go false g = simp length-append (omega arith)

spaced_short : (n : ℕ) → Fits w8 n → length (spaced n) ≤ 4
spaced_short n h = let g = digits_length 20 2 n (omega arith) in omega arith

spaced_wide : (n : ℕ) → length (spaced n) ≤ 21
spaced_wide n = let g = digits_most 20 n in omega arith

-- and how long numbers of a byte each are
pub spaced_all_short : (xs : List ℕ) → ((i : ℕ) → i < length xs → Fits w8 (get_or xs i 0)) → length (spaced_all xs) ≤ 4 * length xs
unfolding spaced_all
spaced_all_short [] f = zero-le
spaced_all_short (x ∷ xs) f =
    let g = spaced_all_short xs (λ i h. f (suc i) (omega arith)) in
    let o = spaced_short x (f 0 (omega arith)) in
    simp length-append (omega arith)

pub listed : (t : Text) (xs : List ℕ) → fold (λ u n. appended u (spaced n)) t xs ≡ appended t (spaced_all xs)
unfolding spaced_all
listed = appended_each spaced spaced_all refl (λ n xs. refl)

-- the loops over numbers: the text t holds the first i of the numbers behind the text t₀
pub record Listed (t₀ : Text) (xs : List ℕ) (t : Text) (i : ℕ) : Type 0 where
  pub within : i ≤ length xs
  pub rest : appended t (spaced_all (drop i xs)) ≡ appended t₀ (spaced_all xs)

pub listed_first : (t : Text) (xs : List ℕ) → Listed t xs t 0
listed_first t xs = record { within = zero-le; rest = refl }

module _ {t₀ : Text} (xs : List ℕ) (t : Text) (i : ℕ) (l : Listed t₀ xs t i) where
  pub listed_again : {r : Text} (n : ℕ) → i < length xs → r ≡ appended t (spaced n) → n ≡ get_or xs i 0 → Listed t₀ xs r (i + 1)
  unfolding spaced_all
  listed_again n h g e =
      let d : drop i xs ≡ n ∷ drop (i + 1) xs = rw (add-one, e) (drop-cons xs i 0 h) in
      record {
        within = omega arith;
        rest =
            ap (λ (u : Text). appended u (spaced_all (drop (i + 1) xs))) g
            ∙ sym (ap (λ (ys : List ℕ). appended t (spaced_all ys)) d ∙ appended_append t (spaced n) _) ∙ l.rest;
      }

  pub listed_done : length xs ≤ i → t ≡ appended t₀ (spaced_all xs)
  unfolding appended spaced_all
  listed_done h = sym (ap (λ (ys : List ℕ). appended t (spaced_all ys)) (drop_of_length-le xs h)) ∙ l.rest

-- a text that fits is the text of its bytes
pushed_text : (xs : List ℕ) (b : ℕ) → length xs < 328 → pushed (text_of xs) b ≡ text_of (xs ++ (b ∷ []))
unfolding pushed text_of
pushed_text xs b h = simp (lt-ltb (length xs) 328 h) (λ i. record { bytes = bytes i; length = (sym longer) i })
  where
    longer : length (xs ++ (b ∷ [])) ≡ length xs + 1
    longer = length-append xs (b ∷ [])

    room : 328 - length xs ≡ suc (328 - length (xs ++ (b ∷ [])))
    room = rw longer (omega arith)

    bytes : set (xs ++ replicate (328 - length xs) 0) (length xs) b ≡ (xs ++ (b ∷ [])) ++ replicate (328 - length (xs ++ (b ∷ []))) 0
    bytes = rw (room, append_assoc) (set-append_seam xs 0 (replicate (328 - length (xs ++ (b ∷ []))) 0) b)

pub appended_text : (xs bs : List ℕ) → length xs + length bs ≤ 328 → appended (text_of xs) bs ≡ text_of (xs ++ bs)
unfolding appended
appended_text xs [] h = ap text_of (sym (append-nil xs))
appended_text xs (b ∷ bs) h =
    ap (λ (t : Text). appended t bs) (pushed_text xs b (omega arith))
    ∙ appended_text (xs ++ (b ∷ [])) bs (omega (arith, length-append xs (b ∷ [])))
    ∙ ap text_of (append_assoc xs (b ∷ []) bs)

-- the building blocks, by what their code is told
pub spaced_by : (t : Text) {u r : Text} (n : ℕ) → u ≡ pushed t 32 → r ≡ appended u (decimal n) → r ≡ appended t (spaced n)
unfolding appended
spaced_by t n e f = cc

pub field_by : (t : Text) {r : Text} (n : ℕ) {w : ℕ} → w ≡ n → r ≡ appended t (spaced w) → r ≡ appended t (spaced n)
field_by t n e f = cc

-- what a text says so far, and how long that is at most
pub record So (t : Text) (bs : List ℕ) (k : ℕ) : Type 0 where
  pub is : t ≡ text_of bs
  pub short : length bs ≤ k

pub so_word : {t : Text} (cs : List ℕ) (j : ℕ) → length cs ≤ j → j ≤ 328 → t ≡ cut cs → So t cs j
so_word cs j g h e = record { is = e ∙ appended_text [] cs (omega arith); short = g }

module _ {t : Text} {bs : List ℕ} {k : ℕ} (s : So t bs k) {r : Text} where
  pub so_all : (cs : List ℕ) (j : ℕ) → length cs ≤ j → k + j ≤ 328 → r ≡ appended t cs → So r (bs ++ cs) (k + j)
  so_all cs j g h e =
      let l : length bs ≤ k = s.short in
      record {
        is = e ∙ ap (λ (u : Text). appended u cs) s.is ∙ appended_text bs cs (omega arith);
        short = simp length-append (omega arith);
      }

  pub so_field : (n : ℕ) → Fits w8 n → k + 4 ≤ 328 → r ≡ appended t (spaced n) → So r (bs ++ spaced n) (k + 4)
  so_field n f h e = so_all (spaced n) 4 (spaced_short n f) h e

  pub so_wide : (n : ℕ) → k + 21 ≤ 328 → r ≡ appended t (spaced n) → So r (bs ++ spaced n) (k + 21)
  so_wide n h e = so_all (spaced n) 21 (spaced_wide n) h e

  pub so_push : (b : ℕ) → k + 1 ≤ 328 → r ≡ pushed t b → So r (bs ++ (b ∷ [])) (k + 1)
  unfolding appended
  so_push b h e = so_all (b ∷ []) 1 (le_refl 1) h e

-- bytes by two digits each
pub two_digits : (t : Text) (n : ℕ) {a b : ℕ} {u r : Text} → a ≡ hex_digit (n / 16 % 16) → u ≡ pushed t a → b ≡ hex_digit (n % 16) → r ≡ pushed u b → r ≡ appended t (hex_digits 2 n)
unfolding appended hex_digits
two_digits t n p q o e = rw (e, q, p, o)

pub hexed : (t : Text) (s : List ℕ) → fold (λ u b. appended u (hex_digits 2 b)) t s ≡ appended t (hexes s)
unfolding hexes
hexed = appended_each (hex_digits 2) hexes refl (λ b s. refl)

-- one hexadecimal digit more
pub digits_none : (t : Text) (x : ℕ) {k : ℕ} → k ≡ 0 → t ≡ appended t (hex_digits k x)
unfolding appended hex_digits
digits_none t x e = rw e

pub digits_longer : (t : Text) {u r : Text} (k x : ℕ) {d : ℕ} → (k ≡ 0 → ⊥) → u ≡ appended t (hex_digits (k - 1) (x / 16))
    → d ≡ hex_digit (x % 16 % 16) → r ≡ pushed u d → r ≡ appended t (hex_digits k x)
unfolding appended hex_digits
digits_longer t {u} {r} k x {d} n e f g =
    let o : k ≡ suc (k - 1) = omega arith in
    let m : x % 16 % 16 ≡ x % 16 = omega arith in
    g
    ∙ ap (λ (v : Text). pushed v d) e
    ∙ ap (pushed (appended t (hex_digits (k - 1) (x / 16)))) (f ∙ ap hex_digit m)
    ∙ sym (ap (λ (j : ℕ). appended t (hex_digits j x)) o ∙ appended_append t (hex_digits (k - 1) (x / 16)) (hex_digit (x % 16) ∷ []))

-- a buffer
module _ (t : Text) {r : Text} where
  pub buffer_none : (s : List ℕ) → length s ≡ 0 → r ≡ pushed t 45 → r ≡ appended t (buffer_text s)
  unfolding appended buffer_text
  buffer_none [] h e = e
  buffer_none (b ∷ s) h e = absurd (omega arith)

  pub buffer_some : (s : List ℕ) → (length s ≡ 0 → ⊥) → r ≡ appended t (hexes s) → r ≡ appended t (buffer_text s)
  unfolding buffer_text
  buffer_some [] h e = absurd (h refl)
  buffer_some (b ∷ s) h e = e
