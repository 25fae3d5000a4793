-- `InPieces` and `TakenWhole`: bytes taken one after the other, in any pieces, and then read are the length that they are.
use Rattle.std.specs.Prelude.{Option, None}
use Prim.Native.Nat.{ℕ, ◌+◌, ◌*◌, ◌-◌, ◌^◌, ◌≤◌, ◌<◌}
use mathlib.Core.Path.{◌≡◌, refl, sym, ap, ◌∙◌}
use mathlib.Core.Bool.{Bool, true, false, cond}
use mathlib.Core.List.{List, [], ◌∷◌}
use native.Mathlib.Omega.{arith}
use Rattle.std.specs.List.{fold}
use lib.Dec.{eqb, leb, ltb}
use borrow.Author.Tests.{ltb-true, ltb-false, leb-true, leb-false, eqb-true, eqb-false, eq-eqb, ne_eqb}
use Rattle.lines.specs.Number.{digit, begins, number_from}
use Rattle.length_input.specs.declared.Input.{Input}
use Rattle.length_input.specs.declared.Input.TheVariants.{Digits, Ended, Misshapen}
use Rattle.length_input.specs.Length.{line_in, capped, length_by, length_in}
use Rattle.length_input.specs.Input.{first_byte, next_byte, with_byte, with_bytes, length_of, InPieces, TakenWhole}
use Rattle.length_input.proofs.Bytes.{capped_low, capped_high, is_digit, digit_low, digit_high, first_none, first_digit, next_feed, next_zero, next_none, next_digit}

pub in_pieces : InPieces
unfolding with_bytes
in_pieces i [] cs = refl
in_pieces i (b ∷ bs) cs = in_pieces (with_byte i b) bs cs

-- a fold over a piece
pub piece : (i : Input) (s : List ℕ) → fold with_byte i s ≡ with_bytes i s
unfolding with_bytes
piece i [] = refl
piece i (b ∷ s) = piece (with_byte i b) s

-- a byte is a digit, or not
by_digit : (b : ℕ) {P : Type 0} → (48 ≤ b → b ≤ 57 → P) → (digit b ≡ false → P) → P
by_digit b {P} is none = go (leb 48 b) refl
  where
    go : (x : Bool) → leb 48 b ≡ x → P
    go false q = none (digit_low b (leb-false 48 b q))
    go true q = further (leb b 57) refl
      where
        further : (y : Bool) → leb b 57 ≡ y → P
        further true r = is (leb-true 48 b q) (leb-true b 57 r)
        further false r = none (digit_high b (leb-false b 57 r))

by_equal : (a b : ℕ) {P : Type 0} → (a ≡ b → P) → ((a ≡ b → ⊥) → P) → P
by_equal a b {P} same other = go (eqb a b) refl
  where
    go : (x : Bool) → eqb a b ≡ x → P
    go true q = same (eqb-true a b q)
    go false q = other (eqb-false a b q)

-- a number that is held as the largest stays so
capped_on : (v d : ℕ) → capped (capped v * 10 + d) ≡ capped (v * 10 + d)
capped_on v d = go (ltb v (2 ^ 64)) refl
  where
    go : (x : Bool) → ltb v (2 ^ 64) ≡ x → capped (capped v * 10 + d) ≡ capped (v * 10 + d)
    go true q = ap (λ (y : ℕ). capped (y * 10 + d)) (capped_low v (ltb-true v (2 ^ 64) q))
    go false q =
        let h : 2 ^ 64 ≤ v = ltb-false v (2 ^ 64) q in
        ap (λ (y : ℕ). capped (y * 10 + d)) (capped_high v h) ∙ capped_high (18446744073709551615 * 10 + d) (omega arith) ∙ sym (capped_high (v * 10 + d) (omega arith))

capped_some : (v : ℕ) → 0 < v → capped v ≡ 0 → ⊥
capped_some v h e = go (ltb v (2 ^ 64)) refl
  where
    go : (x : Bool) → ltb v (2 ^ 64) ≡ x → ⊥
    go true q = let z = capped_low v (ltb-true v (2 ^ 64) q) in omega arith
    go false q = let z = capped_high v (ltb-false v (2 ^ 64) q) in omega arith

-- what is no length stays none
misshapen : (bs : List ℕ) → length_of (with_bytes Misshapen bs) ≡ None
unfolding with_bytes with_byte length_of
misshapen [] = refl
misshapen (b ∷ bs) = misshapen bs

-- only a last line feed is left out of the line
kept : (b : ℕ) (bs : List ℕ) → (b ≡ 10 → ⊥) → line_in (b ∷ bs) ≡ b ∷ line_in bs
unfolding line_in
kept b [] n = simp (ne_eqb b 10 n)
kept b (c ∷ bs) n = refl

by_none : (v b : ℕ) (bs : List ℕ) → digit b ≡ false → length_by (number_from v (b ∷ bs)) ≡ None
unfolding number_from length_by
by_none v b bs e = simp e

by_one : (v b : ℕ) (bs : List ℕ) → 48 ≤ b → b ≤ 57 → length_by (number_from v (b ∷ bs)) ≡ length_by (number_from (v * 10 + (b - 48)) bs)
unfolding number_from
by_one v b bs h k = simp (is_digit b h k)

-- the state i, and the bytes that are still to come
abbrev reads : Input → List ℕ → Option ℕ
reads i bs = length_of (with_bytes i bs)

-- behind the line feed there is nothing
ended : (n b : ℕ) (bs : List ℕ) → reads (Ended n) (b ∷ bs) ≡ None
unfolding with_bytes with_byte
ended n b bs = misshapen bs

-- behind digits that do not begin with 0
abbrev Behind : List ℕ → Type 0
Behind bs = (v : ℕ) → 0 < v → reads (Digits (capped v)) bs ≡ length_by (number_from v (line_in bs))

behind_feed : (v b : ℕ) (bs : List ℕ) → b ≡ 10 → reads (Ended (capped v)) bs ≡ length_by (number_from v (line_in (b ∷ bs)))
unfolding with_bytes length_of number_from length_by line_in
behind_feed v b [] e = simp (eq-eqb b 10 e)
behind_feed v b (c ∷ bs) e = ended (capped v) c bs ∙ sym (by_none v b (line_in (c ∷ bs)) (digit_low b (omega arith)))

behind_other : (v b : ℕ) (bs : List ℕ) → Behind bs → 0 < v → (b ≡ 10 → ⊥) → reads (next_byte (capped v) b) bs ≡ length_by (number_from v (b ∷ line_in bs))
behind_other v b bs ih h n = by_digit b one none
  where
    one : 48 ≤ b → b ≤ 57 → reads (next_byte (capped v) b) bs ≡ length_by (number_from v (b ∷ line_in bs))
    one p q =
        ap (λ (i : Input). reads i bs) (sym (next_digit b (capped v) n (capped_some v h) (is_digit b p q) refl refl) ∙ ap Digits (capped_on v (b - 48)))
        ∙ ih (v * 10 + (b - 48)) (omega arith) ∙ sym (by_one v b (line_in bs) p q)

    none : digit b ≡ false → reads (next_byte (capped v) b) bs ≡ length_by (number_from v (b ∷ line_in bs))
    none e = ap (λ (i : Input). reads i bs) (sym (next_none b (capped v) n (capped_some v h) e)) ∙ misshapen bs ∙ sym (by_none v b (line_in bs) e)

behind_next : (v b : ℕ) (bs : List ℕ) → Behind bs → 0 < v → reads (next_byte (capped v) b) bs ≡ length_by (number_from v (line_in (b ∷ bs)))
behind_next v b bs ih h =
    by_equal b 10 (λ e. ap (λ (i : Input). reads i bs) (sym (next_feed b (capped v) e)) ∙ behind_feed v b bs e)
    (λ n. behind_other v b bs ih h n ∙ sym (ap (λ (l : List ℕ). length_by (number_from v l)) (kept b bs n)))

behind : (bs : List ℕ) → Behind bs
unfolding with_bytes with_byte length_of number_from length_by line_in
behind [] v h = refl
behind (b ∷ bs) v h = behind_next v b bs (behind bs) h

-- a line, its first byte looked at
abbrev length_begun : List ℕ → Option ℕ
length_begun l = cond (begins l) (length_by (number_from 0 l)) None

-- behind 0
alone_feed : (b : ℕ) (bs : List ℕ) → b ≡ 10 → reads (Ended 0) bs ≡ length_begun (48 ∷ line_in (b ∷ bs))
unfolding with_bytes length_of number_from length_by line_in begins capped
alone_feed b [] e = simp (eq-eqb b 10 e)
alone_feed b (c ∷ bs) e = ended 0 c bs

alone_other : (b : ℕ) (bs : List ℕ) → (b ≡ 10 → ⊥) → reads (next_byte 0 b) bs ≡ length_begun (48 ∷ line_in (b ∷ bs))
unfolding begins
alone_other b bs n = ap (λ (i : Input). reads i bs) (sym (next_zero b 0 n refl)) ∙ misshapen bs ∙ sym (ap (λ (l : List ℕ). length_begun (48 ∷ l)) (kept b bs n))

alone : (bs : List ℕ) → reads (Digits 0) bs ≡ length_begun (48 ∷ line_in bs)
unfolding with_bytes with_byte length_of number_from length_by line_in begins capped
alone [] = refl
alone (b ∷ bs) = by_equal b 10 (λ e. ap (λ (i : Input). reads i bs) (sym (next_feed b 0 e)) ∙ alone_feed b bs e) (alone_other b bs)

-- the first byte is no digit
none_begins : (b : ℕ) (l : List ℕ) → digit b ≡ false → length_begun (b ∷ l) ≡ None
none_begins b l e = ap (λ (x : Option ℕ). cond (begins (b ∷ l)) x None) (by_none 0 b l e) ∙ go (begins (b ∷ l))
  where
    go : (x : Bool) → ◌≡◌ {A = Option ℕ} (cond x None None) None
    go true = refl
    go false = refl

none_first : (b : ℕ) (bs : List ℕ) → digit b ≡ false → length_begun (line_in (b ∷ bs)) ≡ None
unfolding line_in begins
none_first b [] e = by_equal b 10 (λ f. simp (eq-eqb b 10 f)) (λ n. simp (ne_eqb b 10 n) (none_begins b [] e))
none_first b (c ∷ bs) e = none_begins b (line_in (c ∷ bs)) e

-- or one other than 0
begins_so : (b : ℕ) (l : List ℕ) → (b ≡ 48 → ⊥) → begins (b ∷ l) ≡ true
unfolding begins
begins_so b [] n = refl
begins_so b (c ∷ l) n = simp (ne_eqb b 48 n)

digit_first : (b : ℕ) (bs : List ℕ) → 48 ≤ b → b ≤ 57 → (b ≡ 48 → ⊥) → reads (Digits (b - 48)) bs ≡ length_begun (b ∷ line_in bs)
digit_first b bs h k n =
    let z : 0 * 10 + (b - 48) ≡ b - 48 = omega arith in
    ap (λ (v : ℕ). reads (Digits v) bs) (sym (capped_low (b - 48) (omega arith)))
    ∙ behind bs (b - 48) (omega arith) ∙ ap (λ (v : ℕ). length_by (number_from v (line_in bs))) (sym z) ∙ sym (by_one 0 b (line_in bs) h k)
    ∙ sym (ap (λ (x : Bool). cond x (length_by (number_from 0 (b ∷ line_in bs))) None) (begins_so b (line_in bs) n))

first : (b : ℕ) (bs : List ℕ) → reads (first_byte b) bs ≡ length_begun (line_in (b ∷ bs))
first b bs = by_digit b one (λ e. ap (λ (i : Input). reads i bs) (sym (first_none b e)) ∙ misshapen bs ∙ sym (none_first b bs e))
  where
    one : 48 ≤ b → b ≤ 57 → reads (first_byte b) bs ≡ length_begun (line_in (b ∷ bs))
    one h k =
        ap (λ (i : Input). reads i bs) (sym (first_digit b (is_digit b h k) refl))
        ∙ by_equal b 48 (λ e. ap (λ (x : ℕ). reads (Digits (x - 48)) bs) e ∙ alone bs ∙ sym (ap (λ (x : ℕ). length_begun (x ∷ line_in bs)) e)) (digit_first b bs h k)
        ∙ sym (ap length_begun (kept b bs (λ e. omega arith)))

pub taken_whole : TakenWhole
unfolding with_bytes with_byte length_of length_in line_in begins
taken_whole [] = refl
taken_whole (b ∷ bs) = first b bs
