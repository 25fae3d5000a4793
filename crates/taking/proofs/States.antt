-- Bytes that stand for a state, with parts of them put anew.
use mathlib.Core.Path.{◌≡◌, refl, sym, ap, ap₂, ◌∙◌, subst}
use mathlib.Core.List.{List, [], ◌∷◌, ◌++◌, append_assoc, append-nil}
use mathlib.Core.Bool.{true}
use Prim.Native.Nat.{ℕ, zero, suc, ◌+◌, ◌^◌, ◌<◌}
use native.Mathlib.Omega.{arith}
use lib.ListN.{length, set, take, drop, length-append, take-append-drop}
use lib.Seq.{sets, sets-eq, take_at, drop_at, get_or-drop}
use lib.Dec.{eqb, lit<}
use borrow.Author.Tests.{eqb-true}
use Rattle.words.specs.Word.{put_at, quad_bytes}
use Rattle.words.proofs.Laws.{length_quad, put_sets}
use Rattle.roundtrip.specs.Fits.{Byte, Bytes}
use Rattle.fields.proofs.Back.{and_left}
use Rattle.fields.proofs.Writing.{next}
use Rattle.context.specs.declared.Context.{Context}
use Rattle.context_bytes.specs.Encoding.{context_bytes, context_at, ContextEncodable}
use Rattle.context_bytes.proofs.Encoded.{context_length}
use Rattle.context_bytes.proofs.Lists.{every_set}
use Rattle.context_bytes.proofs.Decoded.{context_encodable}
use Rattle.checker.specs.InPlace.{past_in, past_bytes}
use Rattle.checker.proofs.Encodable.{past_encodable}
use Rattle.pieces.specs.declared.CheckState.{CheckState}
use Rattle.piece_bytes.specs.State.{stage_bytes, state_bytes, state_at, is_state, StateEncodable}
use Rattle.piece_bytes.proofs.Writing.{length_stage}
use Rattle.piece_bytes.proofs.Parts.{parts}
use Rattle.taking.specs.TakingIn.{Stands, progressed, remembering}

-- ---- lists

-- a part between two others put anew
sets_middle : (x y z w : List ℕ) (n : ℕ) → length x ≡ n → length w ≡ length y → sets (x ++ y ++ z) n w ≡ x ++ w ++ z
sets_middle x y z w n e f =
    let l : length (x ++ y ++ z) ≡ length x + length y + length z = length-append (x ++ y) z ∙ ap (λ (k : ℕ). k + length z) (length-append x y) in
    let m : length (x ++ y) ≡ n + length w = length-append x y ∙ omega arith in
    sets-eq w (x ++ y ++ z) n (omega arith)
    ∙ ap₂ (λ (a b : List ℕ). a ++ w ++ b) (ap (take n) (append_assoc x y z) ∙ take_at x (y ++ z) n e) (drop_at (x ++ y) z (n + length w) m)

-- all of them put anew
pub put_over : (bytes s : List ℕ) → length bytes ≡ length s → put_at bytes 0 s ≡ bytes
put_over bytes s e =
    put_sets bytes 0 s (omega (arith, e)) ∙ ap (λ (l : List ℕ). sets l 0 bytes) (sym (append-nil s)) ∙ sets_middle [] s [] bytes 0 refl e ∙ append-nil bytes

bytes_left : (x y : List ℕ) → Bytes (x ++ y) → Bytes x
bytes_left [] y g j = lit< tt
bytes_left (a ∷ x) y g zero = g 0
bytes_left (a ∷ x) y g (suc j) = bytes_left x y (λ i. g (suc i)) j

pub bytes_take : (n : ℕ) (x : List ℕ) → Bytes x → Bytes (take n x)
bytes_take n x g = bytes_left (take n x) (drop n x) (subst Bytes (sym (take-append-drop n x)) g)

pub bytes_sets : (v l : List ℕ) (o : ℕ) → Bytes l → Bytes v → Bytes (sets l o v)
bytes_sets [] l o g f = g
bytes_sets (x ∷ v) l o g f = bytes_sets v (set l o x) (suc o) (every_set Byte x (f 0) l o g) (λ j. f (suc j))

-- ---- how many bytes

pub state_length : (b : List ℕ) → is_state b ≡ true → length b ≡ 495
unfolding is_state
state_length b h = eqb-true (length b) 495 (and_left (eqb (length b) 495) _ h)

-- ---- the bytes of a state

module _ (k : CheckState) (x : StateEncodable k) where
  -- what was taken, and what is held
  progress_put : (taken held : ℕ) (cut : List ℕ) → length cut ≡ 12
      → sets (state_bytes k) 6 (quad_bytes taken ++ (held ∷ cut)) ≡ state_bytes (progressed k taken held cut)
  unfolding state_bytes
  progress_put taken held cut n =
      let a : List ℕ = stage_bytes k.stage in
      let c : List ℕ = context_bytes k.context in
      let old : List ℕ = quad_bytes k.taken ++ (k.held ∷ k.cut) in
      let new : List ℕ = quad_bytes taken ++ (held ∷ cut) in
      let e : length new ≡ length old =
      omega (
        arith,
        n,
        x.places,
        length_quad taken,
        length_quad k.taken,
        length-append (quad_bytes taken) (held ∷ cut),
        length-append (quad_bytes k.taken) (k.held ∷ k.cut),
      ) in
      ap (λ (l : List ℕ). sets (l ++ c) 6 new) (append_assoc a (quad_bytes k.taken) (k.held ∷ k.cut))
      ∙ sets_middle a old c new 6 (length_stage k.stage) e
      ∙ ap (λ (l : List ℕ). l ++ c) (sym (append_assoc a (quad_bytes taken) (held ∷ cut)))

  -- what is remembered
  context_put : (d : Context) → ContextEncodable d → put_at (context_bytes d) 23 (state_bytes k) ≡ state_bytes (remembering k d)
  unfolding state_bytes
  context_put d y =
      let a : List ℕ = stage_bytes k.stage in
      let front : List ℕ = a ++ quad_bytes k.taken ++ (k.held ∷ k.cut) in
      let c : List ℕ = context_bytes k.context in
      let lc : length c ≡ 472 = context_length k.context x.context in
      let ld : length (context_bytes d) ≡ 472 = context_length d y in
      let all : length (front ++ c) ≡ 495 = parts.size k x in
      let n : length front ≡ 23 = omega (arith, all, lc, length-append front c) in
      put_sets (context_bytes d) 23 (front ++ c) (omega (arith, all, ld))
      ∙ ap (λ (l : List ℕ). sets l 23 (context_bytes d)) (sym (append-nil (front ++ c)))
      ∙ sets_middle front c [] (context_bytes d) 23 n (ld ∙ sym lc) ∙ append-nil (front ++ context_bytes d)

-- ---- bytes that stand for a state

stands_by : (k : CheckState) {a : List ℕ} → StateEncodable k → a ≡ state_bytes k → Stands a k
stands_by k x e = record { is = ap is_state e ∙ parts.stands k x; state = ap state_at e ∙ parts.back k x }

module _ (b : List ℕ) (g : Bytes b) (h : is_state b ≡ true) where
  abbrev k : CheckState
  k = state_at b

  x : StateEncodable k
  x = parts.encodable b g h

  is : state_bytes k ≡ b
  is = parts.written b g h

  -- what was taken, and what is held, put by the code
  pub progress_stands : (taken held : ℕ) (cut : List ℕ) {s1 s2 a : List ℕ} → Bytes a → taken < 2 ^ 32 → Byte held → length cut ≡ 12
      → s1 ≡ put_at (quad_bytes taken) 6 b → s2 ≡ put_at (held ∷ []) 10 s1 → a ≡ put_at cut 11 s2 → Stands a (progressed k taken held cut)
  unfolding state_bytes
  progress_stands taken held cut {s1} {s2} {a} f t m n e1 e2 e3 =
      let q : List ℕ = quad_bytes taken in
      let one : List ℕ = held ∷ [] in
      let lb : length b ≡ 495 = state_length b h in
      let lq : length q ≡ 4 = length_quad taken in
      let lqo : length (q ++ one) ≡ 5 = omega (arith, lq, length-append q one) in
      let all : length (q ++ one ++ cut) ≡ 17 = omega (arith, lqo, n, length-append (q ++ one) cut) in
      let p1 : s1 ≡ sets b 6 q = e1 ∙ put_sets q 6 b (omega (arith, lb, lq)) in
      let p2 : s2 ≡ sets b 6 (q ++ one) = next b 6 q one 10 p1 (omega (arith, lq)) (omega (arith, lb, lqo)) e2 in
      let p3 : a ≡ sets b 6 (q ++ one ++ cut) = next b 6 (q ++ one) cut 11 p2 (omega (arith, lqo)) (omega (arith, lb, all)) e3 in
      let is_after : a ≡ state_bytes (progressed k taken held cut) =
      p3 ∙ ap₂ (λ (l w : List ℕ). sets l 6 w) (sym is) (append_assoc q one cut) ∙ progress_put k x taken held cut n in
      let front : List ℕ = stage_bytes k.stage ++ q in
      let lf : length front ≡ 10 = omega (arith, lq, length_stage k.stage, length-append (stage_bytes k.stage) q) in
      let rest : drop 10 a ≡ (held ∷ cut) ++ context_bytes k.context =
      ap (drop 10) (is_after ∙ append_assoc front (held ∷ cut) (context_bytes k.context)) ∙ drop_at front ((held ∷ cut) ++ context_bytes k.context) 10 lf in
      let small : Bytes (held ∷ cut) = bytes_left (held ∷ cut) (context_bytes k.context) (subst Bytes rest (λ j. rw get_or-drop (f (10 + j)))) in
      stands_by (progressed k taken held cut)
      (record { context = x.context; places = n; cut = λ j. small (suc j); held = m; taken = t; stage = x.stage }) is_after

  put_remembered : (d : Context) → ContextEncodable d → put_at (context_bytes d) 23 b ≡ state_bytes (remembering k d)
  put_remembered d y = ap (put_at (context_bytes d) 23) (sym is) ∙ context_put k x d y

  -- whole records passed
  module _ (s : List ℕ) (i : ℕ) (f : Bytes s) {a : List ℕ} (e : a ≡ past_bytes s i b) where
    abbrev d : Context
    d = (past_in s i b).context

    pub passed_stands : Stands a (remembering k d)
    passed_stands =
        let y : ContextEncodable d = past_encodable s i (context_at b) f (context_encodable b g) in
        stands_by (remembering k d) (record { context = y; places = x.places; cut = x.cut; held = x.held; taken = x.taken; stage = x.stage })
        (e ∙ put_remembered d y)

    -- none, where the bytes stay
    pub none_passed : d ≡ context_at b → a ≡ b
    unfolding state_at
    none_passed z =
        e ∙ ap (λ (c : Context). put_at (context_bytes c) 23 b) z ∙ put_remembered (context_at b) (context_encodable b g) ∙ is
