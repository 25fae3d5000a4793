-- Laws of a list of a function's values, and of a list filled slot by slot, as loops go through them.
use Prim.Native.Nat.{ℕ, zero, suc, ◌+◌, ◌-◌, ◌≤◌, ◌<◌}
use native.Mathlib.Nat.{add-zero, add-suc, suc-add, zero-add}
use native.Mathlib.Numerals.{add-one}
use native.Mathlib.Omega.{arith}
use mathlib.Core.Path.{◌≡◌, refl, sym, ap, ap₂, ◌∙◌}
use mathlib.Core.List.{List, [], ◌∷◌, ◌++◌, append_assoc, append-nil}
use lib.ListN.{length, get_or, set, take, drop, replicate, length-set, length-append, length-drop, get_or-append}
use lib.Seq.{sets, set-append_seam, take_at, drop_at, drop-cons, drop-drop, get_or-drop}
use Rattle.words.specs.Word.{written}
use Rattle.words.specs.Lists.{list_from, front}

-- a list filled from its start: f 0, f 1, .. up to i, and d in the other slots
module _ {A : Type 0} (f : ℕ → A) where
  pub from_length : (i n : ℕ) → length (list_from f i n) ≡ n
  unfolding list_from
  from_length i zero = refl
  from_length i (suc n) = ap suc (from_length (suc i) n)

  from_join : (i n k : ℕ) → list_from f i n ++ list_from f (i + n) k ≡ list_from f i (n + k)
  unfolding list_from
  from_join i zero k = ap₂ (list_from f) (add-zero i) (sym (zero-add k))
  from_join i (suc n) k =
      ap (λ (l : List A). f i ∷ l) (ap (λ (j : ℕ). list_from f (suc i) n ++ list_from f j k) (add-suc i n ∙ sym (suc-add i n)) ∙ from_join (suc i) n k)
      ∙ ap (list_from f i) (sym (suc-add n k))

  pub from_at : (i n k : ℕ) (d : A) → k < n → get_or (list_from f i n) k d ≡ f (i + k)
  unfolding list_from
  from_at i zero k d h = absurd (omega arith)
  from_at i (suc n) zero d h = ap f (sym (add-zero i))
  from_at i (suc n) (suc k) d h = from_at (suc i) n k d (omega arith) ∙ ap f (suc-add i k ∙ sym (add-suc i k))

  -- a list that begins with them, and the slot behind them set
  seam_on : (i : ℕ) (y : A) (z : List A) {x : A} {l : List A} → l ≡ list_from f 0 i ++ y ∷ z → x ≡ f i → set l i x ≡ list_from f 0 (i + 1) ++ z
  unfolding list_from
  seam_on i y z e g =
      ap₂ (λ (k : List A) (w : A). set k i w) e g
      ∙ ap (λ (k : ℕ). set (list_from f 0 i ++ y ∷ z) k (f i)) (sym (from_length 0 i))
      ∙ set-append_seam (list_from f 0 i) y z (f i)
      ∙ sym (append_assoc (list_from f 0 i) (f i ∷ []) z)
      ∙ ap (λ (k : ℕ). (list_from f 0 i ++ (f k ∷ [])) ++ z) (sym (zero-add i)) ∙ ap (λ (k : List A). k ++ z) (from_join 0 i 1)

  module _ (d : A) (n : ℕ) where
    abbrev pub filled : ℕ → List A
    filled i = list_from f 0 i ++ replicate (n - i) d

    pub fill_on : (i : ℕ) {x : A} {l : List A} → l ≡ filled i → x ≡ f i → i < n → set l i x ≡ filled (i + 1)
    fill_on i e g h =
        let one : n - i ≡ suc (n - (i + 1)) = omega arith in
        seam_on i d (replicate (n - (i + 1)) d) (e ∙ ap (λ (k : ℕ). list_from f 0 i ++ replicate k d) one) g

    pub fill_done : (i : ℕ) {l : List A} → l ≡ filled i → n ≤ i → i ≤ n → l ≡ list_from f 0 n
    fill_done i e h k =
        let last : n - i ≡ 0 = omega arith in
        let is : i ≡ n = omega arith in
        e ∙ ap (λ (j : ℕ). list_from f 0 i ++ replicate j d) last ∙ append-nil (list_from f 0 i) ∙ ap (list_from f 0) is

  rest_is : (d : A) (i : ℕ) (r : List A) → ((v : ℕ) → v < length r → f (i + v) ≡ get_or r v d) → list_from f i (length r) ≡ r
  unfolding list_from
  rest_is d i [] h = refl
  rest_is d i (x ∷ r) h =
      ap₂ (λ (y : A) (k : List A). y ∷ k) (ap f (sym (add-zero i)) ∙ h 0 (omega arith))
      (rest_is d (suc i) r (λ v k. ap f (suc-add i v ∙ sym (add-suc i v)) ∙ h (suc v) (omega arith)))

  module _ (n : ℕ) (l : List A) where
    pub front_first : take n (front f n l) ≡ list_from f 0 n
    front_first = take_at (list_from f 0 n) (drop n l) n (from_length 0 n)

    pub front_behind : drop n (front f n l) ≡ drop n l
    front_behind = drop_at (list_from f 0 n) (drop n l) n (from_length 0 n)

    pub front_size : n ≤ length l → length (front f n l) ≡ length l
    front_size h = let x = from_length 0 n in let y = length-append (list_from f 0 n) (drop n l) in let z = length-drop n l in omega arith

    pub front_at : (j : ℕ) (d : A) → j < n → get_or (front f n l) j d ≡ f j
    front_at j d h = let z = from_length 0 n in get_or-append (list_from f 0 n) (drop n l) d j (omega arith) ∙ from_at 0 n j d h ∙ ap f (zero-add j)

    -- one member more
    pub front_on : {x : A} {k : List A} → k ≡ front f n l → x ≡ f n → n < length l → set k n x ≡ front f (n + 1) l
    front_on {x} e g h =
        seam_on n (get_or l n x) (drop (suc n) l) (e ∙ ap (λ (r : List A). list_from f 0 n ++ r) (drop-cons l n x h)) g
        ∙ ap (λ (j : ℕ). list_from f 0 (n + 1) ++ drop j l) (sym (add-one n))

    -- the others are the function's too
    pub front_rest : (d : A) {k : List A} → k ≡ front f n l → n ≤ length l → ((v : ℕ) → n ≤ v → v < length l → f v ≡ get_or l v d) → k ≡ list_from f 0 (length l)
    front_rest d e h same =
        let m : length (drop n l) ≡ length l - n = length-drop n l in
        let all : n + length (drop n l) ≡ length l = omega arith in
        let kept : list_from f n (length (drop n l)) ≡ drop n l =
        rest_is d n (drop n l) (λ v w. same (n + v) (omega arith) (omega arith) ∙ sym (get_or-drop n l v d)) in
        e ∙ ap (λ (r : List A). list_from f 0 n ++ r) (sym kept)
        ∙ ap (λ (j : ℕ). list_from f 0 n ++ list_from f j (length (drop n l))) (sym (zero-add n))
        ∙ from_join 0 n (length (drop n l)) ∙ ap (list_from f 0) all

pub front_written : (f : ℕ → ℕ) (n : ℕ) (l : List ℕ) → front f n l ≡ written (list_from f 0 n) l
front_written f n l = ap (λ (m : ℕ). list_from f 0 n ++ drop m l) (sym (from_length f 0 n))

-- ---- a loop that writes the first n members of l, before the i-th of them
pub record Writing {A : Type 0} (f : ℕ → A) (n : ℕ) (l k : List A) (i : ℕ) : Type 0 where
  pub within : i ≤ n
  pub room : n ≤ length l
  pub size : length k ≡ length l
  pub is : k ≡ front f i l

module _ {A : Type 0} (f : ℕ → A) (n : ℕ) (l : List A) where
  pub writes_begin : n ≤ length l → Writing f n l l 0
  unfolding list_from
  writes_begin h = record { within = omega arith; room = h; size = refl; is = refl }

  pub writes_go : (k : List A) (i : ℕ) {x : A} → Writing f n l k i → i < n → x ≡ f i → Writing f n l (set k i x) (i + 1)
  writes_go k i {x} W h e = let r = W.room in record { within = omega arith; room = r; size = length-set k i x ∙ W.size; is = front_on f i l W.is e (omega arith) }

  pub writes_end : (k : List A) (i : ℕ) → Writing f n l k i → n ≤ i → k ≡ front f n l
  writes_end k i W h = let w = W.within in let z : i ≡ n = omega arith in W.is ∙ ap (λ (j : ℕ). front f j l) z

module _ {A : Type 0} (d : A) where
  -- the slots of a list, one after the other
  pub same_slots : (l : List A) → list_from (λ v. get_or l v d) 0 (length l) ≡ l
  unfolding list_from
  same_slots l = sym (front_rest (λ v. get_or l v d) 0 l d refl (omega arith) (λ v h k. refl))

  -- a slot, whatever stands for what is not there
  pub any_slot : (b : A) (l : List A) (i j : ℕ) → i ≡ j → j < length l → get_or l i d ≡ get_or l j b
  any_slot b [] i j e h = absurd (omega arith)
  any_slot b (x ∷ l) zero zero e h = refl
  any_slot b (x ∷ l) zero (suc j) e h = absurd (omega arith)
  any_slot b (x ∷ l) (suc i) zero e h = absurd (omega arith)
  any_slot b (x ∷ l) (suc i) (suc j) e h = any_slot b l i j (omega arith) (omega arith)

-- one value more
pub from_snoc : {A : Type 0} (f : ℕ → A) (n : ℕ) → list_from f 0 (n + 1) ≡ list_from f 0 n ++ (f n ∷ [])
unfolding list_from
from_snoc f n = sym (from_join f 0 n 1) ∙ ap (λ (k : ℕ). list_from f 0 n ++ (f k ∷ [])) (zero-add n)

same_from : {A : Type 0} (f g : ℕ → A) (i n : ℕ) → ((j : ℕ) → i ≤ j → j < i + n → f j ≡ g j) → list_from f i n ≡ list_from g i n
unfolding list_from
same_from f g i zero h = refl
same_from f g i (suc n) h = ap₂ (λ x l. x ∷ l) (h i (omega arith) (omega arith)) (same_from f g (suc i) n (λ j p q. h j (omega arith) (omega arith)))

-- the same values
pub from_same : {A : Type 0} (f g : ℕ → A) (n : ℕ) → ((j : ℕ) → j < n → f j ≡ g j) → list_from f 0 n ≡ list_from g 0 n
from_same f g n h = same_from f g 0 n (λ j p q. h j (omega arith))

-- lists that are the same from one place on are so from every later one
pub drop_more : (m n : ℕ) (a l : List ℕ) → m ≤ n → drop m a ≡ drop m l → drop n a ≡ drop n l
drop_more m n a l h e = let z : m + (n - m) ≡ n = omega arith in
    ap (λ (k : ℕ). drop k a) (sym z) ∙ sym (drop-drop (n - m) m a) ∙ ap (drop (n - m)) e ∙ drop-drop (n - m) m l ∙ ap (λ (k : ℕ). drop k l) z

-- numbers set one behind the other
pub sets_append : (l : List ℕ) (o : ℕ) (a b : List ℕ) → sets l o (a ++ b) ≡ sets (sets l o a) (o + length a) b
sets_append l o [] b = let z : o + 0 ≡ o = omega arith in sym (ap (λ (x : ℕ). sets l x b) z)
sets_append l o (v ∷ a) b = let z : suc o + length a ≡ o + suc (length a) = omega arith in sets_append (set l o v) (suc o) a b ∙ ap (λ (x : ℕ). sets (sets (set l o v) (suc o) a) x b) z
