-- How the bytes of a record are its key, and which keys stand alone.
use mathlib.Core.Path.{◌≡◌, refl, sym, ap, ◌∙◌, subst}
use mathlib.Core.List.{List}
use mathlib.Core.Bool.{Bool, true, false, cond, ◌||◌, true≢false}
use Prim.Native.Nat.{ℕ, suc, ◌+◌, ◌*◌, ◌≤◌, ◌<◌}
use native.Mathlib.Nat.{add-zero}
use native.Mathlib.Omega.{arith}
use lib.ListN.{length, drop, get_or}
use lib.Seq.{get_or-drop}
use lib.Dec.{eqb}
use borrow.Author.Tests.{ne_eqb, eqb-true}
use Rattle.records.specs.Kinds.{body_len, size_by}
use Rattle.records.specs.Key.{key_by, key_of}
use Rattle.reader.specs.Read.{record_of}
use Rattle.places.specs.Places.{begin_of, end_of, numbered}
use Rattle.places.specs.Runs.{run_by, run_of, Inside, is_move, keyed}
use Rattle.places.specs.declared.Places.{Places}
use Rattle.places.specs.declared.Run.{Run}

-- a kind that is none of those whose keys have numbers
record Others (k : ℕ) : Type 0 where
  k11 : eqb k 0x11 ≡ false
  k12 : eqb k 0x12 ≡ false
  k13 : eqb k 0x13 ≡ false
  k14 : eqb k 0x14 ≡ false
  k15 : eqb k 0x15 ≡ false
  k16 : eqb k 0x16 ≡ false
  k17 : eqb k 0x17 ≡ false
  k18 : eqb k 0x18 ≡ false

others : (k : ℕ) → numbered k ≡ false → keyed k ≡ false → Others k
unfolding numbered keyed is_move
others k n m =
    let a = neither (eqb k 0x11 || eqb k 0x12) (eqb k 0x14) n in
    let b = neither (eqb k 0x11) (eqb k 0x12) a.0 in
    let c = neither (eqb k 0x13 || eqb k 0x15) (eqb k 0x16 || (eqb k 0x17 || eqb k 0x18)) m in
    let d = neither (eqb k 0x13) (eqb k 0x15) c.0 in
    let e = neither (eqb k 0x16) (eqb k 0x17 || eqb k 0x18) c.1 in
    let f = neither (eqb k 0x17) (eqb k 0x18) e.1 in
    record { k11 = b.0; k12 = b.1; k13 = d.0; k14 = a.1; k15 = d.1; k16 = e.0; k17 = f.0; k18 = f.1 }
  where
    neither : (a b : Bool) → (a || b) ≡ false → (a ≡ false) × (b ≡ false)
    neither true b e = absurd (true≢false e)
    neither false b e = (refl, e)

-- what holds of the kinds whose records have the number of their place holds of a kind that is one of them
pub of_numbered : (P : ℕ → Type 0) (k : ℕ) → numbered k ≡ true → P 0x11 → P 0x12 → P 0x14 → P k
unfolding numbered
of_numbered P k e p1 p2 p4 = go (eqb k 0x11) (eqb k 0x12) refl refl e
  where
    go : (a b : Bool) → eqb k 0x11 ≡ a → eqb k 0x12 ≡ b → (a || b || eqb k 0x14) ≡ true → P k
    go true b f g h = subst P (sym (eqb-true k 0x11 f)) p1
    go false true f g h = subst P (sym (eqb-true k 0x12 g)) p2
    go false false f g h = subst P (sym (eqb-true k 0x14 h)) p4

-- of moves, and of disablings and steps
pub of_moves : (P : ℕ → Type 0) (k : ℕ) → is_move k ≡ true → P 0x13 → P 0x15 → P k
unfolding is_move
of_moves P k e p3 p5 = go (eqb k 0x13) refl e
  where
    go : (b : Bool) → eqb k 0x13 ≡ b → (b || eqb k 0x15) ≡ true → P k
    go true f g = subst P (sym (eqb-true k 0x13 f)) p3
    go false f g = subst P (sym (eqb-true k 0x15 g)) p5

of_pairs : (P : ℕ → Type 0) (k : ℕ) → keyed k ≡ true → is_move k ≡ false → P 0x16 → P 0x17 → P 0x18 → P k
unfolding keyed
of_pairs P k e m p6 p7 p8 = go (is_move k) (eqb k 0x16) (eqb k 0x17) refl refl e m
  where
    go : (a b d : Bool) → eqb k 0x16 ≡ b → eqb k 0x17 ≡ d → (a || (b || (d || eqb k 0x18))) ≡ true → a ≡ false → P k
    go true b d f q g h = let z : ◌≡◌ {A = ℕ} 0 1 = cc in absurd (omega arith)
    go false true d f q g h = subst P (sym (eqb-true k 0x16 f)) p6
    go false false true f q g h = subst P (sym (eqb-true k 0x17 q)) p7
    go false false false f q g h = subst P (sym (eqb-true k 0x18 g)) p8

pub of_keyed : (P : ℕ → Type 0) (k : ℕ) → keyed k ≡ true → P 0x13 → P 0x15 → P 0x16 → P 0x17 → P 0x18 → P k
of_keyed P k e p3 p5 p6 p7 p8 = go (is_move k) refl
  where
    go : (b : Bool) → is_move k ≡ b → P k
    go true f = of_moves P k f p3 p5
    go false f = of_pairs P k e f p6 p7 p8

-- the last of these kinds, where the code has ruled out the others
pub last_numbered : (k : ℕ) → numbered k ≡ true → (k ≡ 0x11 → ⊥) → (k ≡ 0x12 → ⊥) → k ≡ 0x14
last_numbered k n =
    of_numbered (λ (m : ℕ). (m ≡ 0x11 → ⊥) → (m ≡ 0x12 → ⊥) → m ≡ 0x14) k n (λ a b. absurd (a refl)) (λ a b. absurd (b refl)) (λ a b. refl)

last_keyed : (k : ℕ) → keyed k ≡ true → (k ≡ 0x13 → ⊥) → (k ≡ 0x15 → ⊥) → (k ≡ 0x16 → ⊥) → (k ≡ 0x17 → ⊥) → k ≡ 0x18
last_keyed k n =
    of_keyed (λ (m : ℕ). (m ≡ 0x13 → ⊥) → (m ≡ 0x15 → ⊥) → (m ≡ 0x16 → ⊥) → (m ≡ 0x17 → ⊥) → m ≡ 0x18) k n
    (λ a b c d. absurd (a refl)) (λ a b c d. absurd (b refl)) (λ a b c d. absurd (c refl)) (λ a b c d. absurd (d refl)) (λ a b c d. refl)

-- the records of a kind that is known, and of a kind that is none
module _ (s : List ℕ) (p : Places) (k : ℕ) {r : Run} where
  pub run_by_kind : (j : ℕ) → k ≡ j → r ≡ run_of s p j → r ≡ run_of s p k
  run_by_kind j e f = f ∙ sym (ap (run_of s p) e)

  pub run_numbered : numbered k ≡ true → (k ≡ 0x11 → ⊥) → (k ≡ 0x12 → ⊥) → r ≡ run_of s p 0x14 → r ≡ run_of s p k
  run_numbered n a b f = run_by_kind 0x14 (last_numbered k n a b) f

  pub run_keyed : keyed k ≡ true → (k ≡ 0x13 → ⊥) → (k ≡ 0x15 → ⊥) → (k ≡ 0x16 → ⊥) → (k ≡ 0x17 → ⊥) → r ≡ run_of s p 0x18 → r ≡ run_of s p k
  run_keyed n a b c d f = run_by_kind 0x18 (last_keyed k n a b c d) f

  -- z is the size that the code has read off the table
  pub run_end : {z : ℕ} → k ≡ 0x1f → z ≡ size_by 0x1f → r ≡ run_by s p.k1f (p.k1f + z) (size_by 0x1f) → r ≡ run_of s p k
  unfolding run_of begin_of end_of
  run_end e f h = run_by_kind 0x1f e (h ∙ ap (λ (x : ℕ). run_by s p.k1f (p.k1f + x) (size_by 0x1f)) f)

  pub run_of_none : numbered k ≡ false → keyed k ≡ false → (k ≡ 0x10 → ⊥) → (k ≡ 0x1f → ⊥) → r ≡ run_by s 0 0 (size_by k) → r ≡ run_of s p k
  unfolding run_of begin_of end_of
  run_of_none n m a b f =
      let o = others k n m in
      simp (ne_eqb k 0x10 a, ne_eqb k 0x1f b, o.k11, o.k12, o.k13, o.k14, o.k15, o.k16, o.k17, o.k18) f

pub keyed_other : (k : ℕ) → keyed k ≡ true → numbered k ≡ false
unfolding numbered
keyed_other k e = of_keyed (λ (j : ℕ). numbered j ≡ false) k e refl refl refl refl refl

module _ (s : List ℕ) (k a : ℕ) where
  pub move_key : is_move k ≡ true → key_by k (get_or s a 0) (get_or s (a + 1) 0) (get_or s (a + 2) 0) ≡ key_of (record_of k (drop a s))
  unfolding record_of key_of
  move_key e =
      of_moves (λ (j : ℕ). key_by j (get_or s a 0) (get_or s (a + 1) 0) (get_or s (a + 2) 0) ≡ key_of (record_of j (drop a s))) k e
      (simp (get_or-drop, add-zero)) (simp (get_or-drop, add-zero))

  pub pair_key : keyed k ≡ true → is_move k ≡ false → key_by k (get_or s a 0) (get_or s (a + 1) 0) 0 ≡ key_of (record_of k (drop a s))
  unfolding record_of key_of
  pair_key e f =
      of_pairs (λ (j : ℕ). key_by j (get_or s a 0) (get_or s (a + 1) 0) 0 ≡ key_of (record_of j (drop a s))) k e f
      (simp (get_or-drop, add-zero)) (simp (get_or-drop, add-zero)) (simp (get_or-drop, add-zero))

-- the bytes of the key lie within the image
pub key_room : (s : List ℕ) (r : Run) (k i : ℕ) {a : ℕ} → keyed k ≡ true → Inside s r k → i < r.count → a ≡ suc (r.begin + i * r.size) → a + 2 ≤ length s
unfolding body_len
key_room s r k i e n l g =
    let w : 2 ≤ body_len k = of_keyed (λ (j : ℕ). 2 ≤ body_len j) k e (omega arith) (omega arith) (omega arith) (omega arith) (omega arith) in
    omega (arith, n.size, n.within i l)

-- and of a move a third one
pub move_room : (s : List ℕ) (r : Run) (k i : ℕ) {a : ℕ} → Inside s r k → i < r.count → a ≡ suc (r.begin + i * r.size) → is_move k ≡ true → a + 3 ≤ length s
unfolding body_len
move_room s r k i n l g e =
    let w : 4 ≤ body_len k = of_moves (λ (j : ℕ). 4 ≤ body_len j) k e (omega arith) (omega arith) in
    omega (arith, n.size, n.within i l)

-- the records of any other kind that has no numbers all have one key, without numbers
pub alone : (k : ℕ) → numbered k ≡ false → keyed k ≡ false → (b : List ℕ) → key_of (record_of k b) ≡ key_by (cond (eqb k 0x10) 0x10 0x1f) 0 0 0
unfolding record_of key_of
alone k n m b =
    go (eqb k 0x10) refl (others k n m)
  where
    go : (t : Bool) → eqb k 0x10 ≡ t → Others k → key_of (record_of k b) ≡ key_by (cond (eqb k 0x10) 0x10 0x1f) 0 0 0
    go true e o = simp e
    go false e o = simp (e, o.k11, o.k12, o.k13, o.k14, o.k15, o.k16, o.k17, o.k18)

-- what the code of `key_in` is told of a move
pub third_in : (s : List ℕ) (k a : ℕ) → (is_move k ≡ true → a + 3 ≤ length s) → is_move k ≡ true → a + 2 < length s
third_in s k a f e = let h = f e in omega arith
