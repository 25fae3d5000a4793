-- A frame put into a buffer, and the tests of one that is read, from what the code is told.
use Rattle.std.specs.Prelude.{Option, Some, None}
use mathlib.Core.Path.{◌≡◌, refl, sym, ap, subst, ◌∙◌}
use mathlib.Core.List.{List, [], ◌∷◌, ◌++◌}
use mathlib.Core.Bool.{Bool, true, false, cond, not, ◌&&◌, and-false}
use Prim.Native.Nat.{ℕ, suc, ◌+◌, ◌-◌, ◌/◌, ◌%◌, ◌≤◌, ◌<◌}
use native.Mathlib.Nat.{zero-add}
use native.Mathlib.Omega.{arith}
use lib.ListN.{length, get_or, take, drop, length-append}
use lib.Seq.{sets, sets-eq, length-sets}
use lib.Dec.{T, eqb, leb, leb→le, eqb→eq}
use lib.Ieee.Fits.{and_l, and_r}
use lib.Ieee.Bits.{is_true}
use borrow.Author.Tests.{not-true, not-false}
use Rattle.words.specs.Word.{put_at, written}
use Rattle.words.proofs.Laws.{put_sets}
use Rattle.words.proofs.Lists.{sets_append}
use Rattle.messages.specs.Message.{parse, parsed_number, ParsedAs}
use Rattle.messages.specs.declared.Message.{Message}
use Rattle.crc.specs.Crc.{crc_from, crc_of}
use Rattle.frames.specs.Frame.{is_address, function, body_of, crc_bytes, frame_of, write_number, address_in, message_in, is_frame, crc_at, is_intact, read_number}

pub length_frame : (a : ℕ) (g : List ℕ) → length (frame_of a g) ≡ length g + 4
unfolding frame_of crc_bytes
length_frame a g = simp length-append (omega arith)

-- ---- a frame written

pub frame_put : (a : ℕ) (g b : List ℕ) {c : ℕ} {s t u : List ℕ} → c ≡ crc_of (body_of a g) → length g + 4 ≤ length b → s ≡ put_at (a ∷ function ∷ []) 0 b
    → t ≡ put_at g 2 s → u ≡ put_at (c % 256 ∷ c / 256 ∷ []) (length g + 2) t → u ≡ written (frame_of a g) b
unfolding frame_of crc_bytes
frame_put a g b {c} {s} {t} {u} e room p q r =
    let h : List ℕ = a ∷ function ∷ [] in
    let k : List ℕ = c % 256 ∷ c / 256 ∷ [] in
    let s_is : s ≡ sets b 0 h = p ∙ put_sets h 0 b (omega arith) in
    let s_long : length s ≡ length b = ap length s_is ∙ length-sets b 0 h in
    let t_is : t ≡ sets s 2 g = q ∙ put_sets g 2 s (omega arith) in
    let t_long : length t ≡ length s = ap length t_is ∙ length-sets s 2 g in
    let u_is : u ≡ sets t (length g + 2) k = r ∙ put_sets k (length g + 2) t (omega arith) in
    let n : length g + 2 ≡ 2 + length g = omega arith in
    let f_is : frame_of a g ≡ h ++ (g ++ k) = ap (λ (x : ℕ). a ∷ function ∷ (g ++ (x % 256 ∷ x / 256 ∷ []))) (sym e) in
    let l : 0 + length (frame_of a g) ≤ length b = omega (arith, length_frame a g) in
    u_is
    ∙ ap (λ (j : ℕ). sets t j k) n
    ∙ ap (λ (x : List ℕ). sets x (2 + length g) k) t_is
    ∙ sym (sets_append s 2 g k)
    ∙ ap (λ (x : List ℕ). sets x 2 (g ++ k)) s_is
    ∙ sym (sets_append b 0 h (g ++ k))
    ∙ ap (sets b 0) (sym f_is)
    ∙ sets-eq (frame_of a g) b 0 l
    ∙ ap (λ (j : ℕ). frame_of a g ++ drop j b) (zero-add (length (frame_of a g)))

-- from what `messages::read` answers
module _ (g : List ℕ) {x : Option Message} (e : ParsedAs g x) where
  pub message_by : {m : Message} → x ≡ Some m → 0 ≡ parsed_number (parse g)
  message_by h = ap parsed_number (sym h ∙ e.answer)

  pub misshapen_by : x ≡ None → 10 ≡ parsed_number (parse g)
  misshapen_by h = ap parsed_number (sym h ∙ e.answer)

module _ (a : ℕ) (g : List ℕ) {t : Bool} (e : t ≡ is_address a) where
  pub addressed_by : {n : ℕ} → t ≡ true → n ≡ parsed_number (parse g) → n ≡ write_number a g
  unfolding write_number
  addressed_by h w = simp (sym e ∙ h) w

  pub no_address_by : t ≡ false → 18 ≡ write_number a g
  unfolding write_number
  no_address_by h = simp (sym e ∙ h)

-- ---- a frame read

-- what passes the test of 18
pub record Framing (f : List ℕ) : Type 0 where
  pub least : 5 ≤ length f
  pub most : length f ≤ 256
  pub address : is_address (address_in f) ≡ true
  pub function_is : get_or f 1 0 ≡ function

pub framing : (f : List ℕ) → is_frame f ≡ true → Framing f
unfolding is_frame
framing f h =
    let l : Bool = leb 5 (length f) in
    let m : Bool = leb (length f) 256 in
    let a : Bool = is_address (address_in f) in
    let k : Bool = eqb (get_or f 1 0) function in
    let w : T (l && m && a && k) = subst T (sym h) tt in
    let u : T (l && m && a) = and_l (l && m && a) k w in
    let v : T (l && m) = and_l (l && m) a u in
    record {
      least = leb→le 5 (length f) (and_l l m v);
      most = leb→le (length f) 256 (and_r l m v);
      address = is_true a (and_r (l && m) a u);
      function_is = eqb→eq (get_or f 1 0) function (and_r (l && m && a) k w);
    }

pub part_by : (f : List ℕ) → take (length f - 2 - 2) (drop 2 f) ≡ message_in f
unfolding message_in
part_by f = let n : length f - 2 - 2 ≡ length f - 4 = omega arith in ap (λ (k : ℕ). take k (drop 2 f)) n

pub intact_by : (f : List ℕ) {c : ℕ} → c ≡ crc_of (take (length f - 2) f) → (eqb (get_or f (length f - 2) 0) (c % 256) && eqb (get_or f (length f - 2 + 1) 0) (c / 256)) ≡ is_intact f
unfolding crc_at
intact_by f e = rw e

-- the CRC of nothing is FFFF, and what stands past the end is 0
pub too_short : (f : List ℕ) → length f < 2 → false ≡ is_intact f
unfolding crc_at crc_from
too_short [] l = refl
too_short (x ∷ []) l = sym (and-false (eqb x 255))
too_short (x ∷ y ∷ f) l = absurd (omega arith)

module _ (f : List ℕ) {t : Bool} (e : t ≡ is_frame f) where
  pub no_frame_by : not t ≡ true → 18 ≡ read_number f
  unfolding read_number
  no_frame_by h = simp (sym e ∙ not-true t h)

  module _ (h : not t ≡ false) where
    frame_is : is_frame f ≡ true
    frame_is = sym e ∙ not-false t h

    pub room_4 : 4 ≤ length f
    room_4 = let l : 5 ≤ length f = (framing f frame_is).least in omega arith

    module _ {u : Bool} (i : u ≡ is_intact f) where
      pub damaged_by : not u ≡ true → 19 ≡ read_number f
      unfolding read_number
      damaged_by k = simp (frame_is, sym i ∙ not-true u k)

      pub intact_message : {n : ℕ} {g : List ℕ} → not u ≡ false → g ≡ message_in f → n ≡ parsed_number (parse g) → n ≡ read_number f
      unfolding read_number
      intact_message k m w = simp (frame_is, sym i ∙ not-false u k) (w ∙ ap (λ (x : List ℕ). parsed_number (parse x)) m)

-- a number that is 0 is not the other one
no_number : (t : Bool) (x k : ℕ) → cond t x (suc k) ≡ 0 → (t ≡ true) × (x ≡ 0)
no_number true x k h = (refl, h)
no_number false x k h = absurd (omega arith)

-- what a frame that is read has passed, in the order of the numbers
pub record Passed (f : List ℕ) : Type 0 where
  pub frame : is_frame f ≡ true
  pub intact : is_intact f ≡ true
  pub message : parsed_number (parse (message_in f)) ≡ 0

pub passed : (f : List ℕ) → read_number f ≡ 0 → Passed f
unfolding read_number
passed f h =
    let a = no_number (is_frame f) (cond (is_intact f) (parsed_number (parse (message_in f))) 19) 17 h in
    let b = no_number (is_intact f) (parsed_number (parse (message_in f))) 18 a.1 in
    record { frame = a.0; intact = b.0; message = b.1 }

pub write_passed : (a : ℕ) (g : List ℕ) → write_number a g ≡ 0 → (is_address a ≡ true) × (parsed_number (parse g) ≡ 0)
unfolding write_number
write_passed a g h = no_number (is_address a) (parsed_number (parse g)) 17 h

pub read_room : (f : List ℕ) {n : ℕ} → n ≡ read_number f → n ≡ 0 → 4 ≤ length f
read_room f e h = let l : 5 ≤ length f = (framing f (passed f (sym e ∙ h)).frame).least in omega arith
