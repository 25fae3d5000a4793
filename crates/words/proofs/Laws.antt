-- Laws of bytes put into a list, and of the number that four or eight bytes are.
use mathlib.Core.Path.{◌≡◌, refl, sym, ap, ◌∙◌}
use mathlib.Core.List.{List, ◌∷◌, ◌++◌, map, append_assoc}
use mathlib.Core.Bool.{true, false}
use Prim.Native.Nat.{ℕ, suc, ◌+◌, ◌-◌, ◌*◌, ◌/◌, ◌%◌, ◌^◌, ◌≤◌, ◌<◌}
use native.Mathlib.Nat.{add-zero, add_assoc, div-div-eq-div-mul, div-add-mod'}
use native.Mathlib.Omega.{arith}
use lib.ListN.{length, get_or, set, drop, length-map}
use lib.Seq.{sets, sets-eq, get_or-drop, drop-cons, drop-length, drop-drop}
use borrow.Author.Tests.{le-leb, lt-leb}
use borrow.Rule.Slice.PartMut.{put_mid}
use Rattle.std.specs.Int.{w32, w64, from_be_bytes}
use Rattle.words.specs.Word.{fits_at, put_at, quad_at, quad_bytes, word_at, word_bytes, append_byte}

-- ---- bytes put

module _ (bytes : List ℕ) (at : ℕ) (b : List ℕ) where
  pub fits : at + length bytes ≤ length b → fits_at bytes at b ≡ true
  unfolding fits_at
  fits h = le-leb (at + length bytes) (length b) h

  pub fits_not : length b < at + length bytes → fits_at bytes at b ≡ false
  unfolding fits_at
  fits_not h = lt-leb (at + length bytes) (length b) h

  pub put_sets : at + length bytes ≤ length b → put_at bytes at b ≡ sets b at bytes
  unfolding put_at
  put_sets h = simp (fits h) (sym (sets-eq bytes b at h))

  pub put_not : length b < at + length bytes → put_at bytes at b ≡ b
  unfolding put_at
  put_not h = simp (fits_not h)

  -- as `copy_from_slice` puts them
  pub put_copied : {n k : ℕ} {l : List ℕ} → n ≡ length bytes → k ≡ n → at + length bytes ≤ length b → l ≡ bytes → put_mid at k b l ≡ put_at bytes at b
  unfolding put_at
  put_copied {n} {k} {l} e i h w = simp (fits h, w, i, e, drop-drop, append_assoc)

-- room for n bytes at an offset, as the code tests it
module _ (bytes l : List ℕ) (o : ℕ) {n : ℕ} (e : length bytes ≡ n) where
  pub room : {s : List ℕ} → n ≤ length l → o ≤ length l - n → s ≡ sets l o bytes → s ≡ put_at bytes o l
  room h k w = w ∙ sym (put_sets bytes o l (omega arith))

  pub far : n ≤ length l → length l - n < o → l ≡ put_at bytes o l
  far h k = sym (put_not bytes o l (omega arith))

  pub narrow : length l < n → l ≡ put_at bytes o l
  narrow h = sym (put_not bytes o l (omega arith))

-- a loop that puts the members of a list, the first i of which stand there
module _ (o : ℕ) (q l : List ℕ) where
  pub put_on : (s : List ℕ) (i : ℕ) {x : ℕ} → i < length q → x ≡ get_or q i 0 → sets s (o + i) (drop i q) ≡ sets l o q → sets (set s (o + i) x) (o + (i + 1)) (drop (i + 1) q) ≡ sets l o q
  put_on s i {x} h e w =
      let n : o + (i + 1) ≡ suc (o + i) = omega arith in
      let m : i + 1 ≡ suc i = omega arith in
      ap (λ (k : ℕ). sets (set s (o + i) x) k (drop (i + 1) q)) n
      ∙ ap (λ (k : ℕ). sets (set s (o + i) x) (suc (o + i)) (drop k q)) m
      ∙ ap (λ (y : ℕ). sets s (o + i) (y ∷ drop (suc i) q)) e
      ∙ ap (sets s (o + i)) (sym (drop-cons q i 0 h)) ∙ w

  pub put_done : (s : List ℕ) (i : ℕ) → length q ≡ i → sets s (o + i) (drop i q) ≡ sets l o q → s ≡ sets l o q
  put_done s i e w = sym (ap (λ (r : List ℕ). sets s (o + i) r) (ap (λ (k : ℕ). drop k q) (sym e) ∙ drop-length q)) ∙ w

-- ---- numbers of four and of eight bytes

-- by their bytes
module _ (bytes s : List ℕ) (o : ℕ) {r : ℕ} where
  pub quad_from : r ≡ from_be_bytes w32 bytes → ((i : ℕ) → i < 4 → get_or bytes i 0 ≡ get_or s (o + i) 0) → r ≡ quad_at s o
  unfolding quad_at
  quad_from e h =
      let e0 : get_or bytes 0 0 ≡ get_or s o 0 = h 0 (omega arith) ∙ ap (λ (k : ℕ). get_or s k 0) (add-zero o) in
      omega (arith, e, e0, h 1 (omega arith), h 2 (omega arith), h 3 (omega arith))

  pub word_from : r ≡ from_be_bytes w64 bytes → ((i : ℕ) → i < 8 → get_or bytes i 0 ≡ get_or s (o + i) 0) → r ≡ word_at s o
  unfolding word_at
  word_from e h =
      let e0 : get_or bytes 0 0 ≡ get_or s o 0 = h 0 (omega arith) ∙ ap (λ (k : ℕ). get_or s k 0) (add-zero o) in
      omega (arith, e, e0, h 1 (omega arith), h 2 (omega arith), h 3 (omega arith), h 4 (omega arith), h 5 (omega arith), h 6 (omega arith), h 7 (omega arith))

-- in a list without its first b bytes
pub word_drop : (b : ℕ) (s : List ℕ) (o : ℕ) → word_at (drop b s) o ≡ word_at s (b + o)
unfolding word_at
word_drop b s o = simp (get_or-drop, add_assoc)

pub quad_drop : (b : ℕ) (s : List ℕ) (o : ℕ) → quad_at (drop b s) o ≡ quad_at s (b + o)
unfolding quad_at
quad_drop b s o = simp (get_or-drop, add_assoc)

-- the bytes of a number put, if there is room for them
pub put_room : (s : List ℕ) (o x : ℕ) → o + 8 ≤ length s → put_at (word_bytes x) o s ≡ sets s o (word_bytes x)
unfolding word_bytes
put_room s o x h = put_sets (word_bytes x) o s h

-- one digit more
up : (x c : ℕ) → append_byte (x / (c * 256)) (x / c % 256) ≡ x / c
up x c = ap (λ (k : ℕ). k * 256 + x / c % 256) (sym (div-div-eq-div-mul x c 256)) ∙ div-add-mod' (x / c) 256

digits : (x : ℕ) → x < 2 ^ 64
    → append_byte (append_byte (append_byte (append_byte (append_byte (append_byte (append_byte (x / 0x100000000000000 % 256) (x / 0x1000000000000 % 256)) (x / 0x10000000000 % 256)) (x / 0x100000000 % 256)) (x / 0x1000000 % 256)) (x / 0x10000 % 256)) (x / 0x100 % 256)) (x % 256) ≡ x
digits x h =
    let t : x / 0x100000000000000 % 256 ≡ x / 0x100000000000000 = omega arith in
    simp (t, up x 0x1000000000000, up x 0x10000000000, up x 0x100000000, up x 0x1000000, up x 0x10000, up x 0x100) (div-add-mod' x 256)

-- the bytes of a number are read as that number, whatever follows them
pub word_read : (x : ℕ) (t : List ℕ) → x < 2 ^ 64 → word_at (word_bytes x ++ t) 0 ≡ x
unfolding word_at word_bytes
word_read x t h = digits x h

pub quad_read : (x : ℕ) (t : List ℕ) → x < 2 ^ 32 → quad_at (quad_bytes x ++ t) 0 ≡ x
unfolding quad_at quad_bytes
quad_read x t h =
    let a : x / 0x1000000 % 256 ≡ x / 0x1000000 = omega arith in
    let b : x / 0x1000000 * 256 + x / 0x10000 % 256 ≡ x / 0x10000 = omega arith in
    let c : x / 0x10000 * 256 + x / 0x100 % 256 ≡ x / 0x100 = omega arith in
    let d : x / 0x100 * 256 + x % 256 ≡ x = omega arith in
    simp (a, b, c) d

pub length_quad : (x : ℕ) → length (quad_bytes x) ≡ 4
unfolding quad_bytes
length_quad x = refl

pub length_word : (x : ℕ) → length (word_bytes x) ≡ 8
unfolding word_bytes
length_word x = refl

-- the length of an array of structs, from what a function is handed of it
pub mapped : {X Y : Type 0} (f : X → Y) (l : List X) (n : ℕ) → length (map f l) ≡ n → length l ≡ n
mapped f l n e = sym (length-map l f) ∙ e
