-- A line of any length, taken byte by byte: a good line has at most 11 bytes, so that nothing is lost behind the twelfth.
use mathlib.Core.Path.{◌≡◌, refl, sym, ap, ◌∙◌}
use mathlib.Core.List.{List, [], ◌∷◌, ◌++◌, append_assoc, append-nil}
use mathlib.Core.Bool.{Bool, true, false, cond}
use Prim.Native.Nat.{ℕ, suc, ◌+◌, ◌≤◌, ◌<◌}
use native.Mathlib.Numerals.{add-one}
use native.Mathlib.Omega.{arith}
use lib.ListN.{length, take, set, length-append, length-take, length-set}
use lib.Seq.{take-suc-set}
use lib.Dec.{ltb}
use borrow.Author.Tests.{lt-ltb, ltb-true, ltb-false}
use Rattle.lines.specs.declared.Partial.{Partial}
use Rattle.lines.specs.Partial.{begun, with_byte, with_bytes, has_byte, partly, Short, WholeLines}

-- a partial line p, and the bytes that are still to come
abbrev so_far : Partial → List ℕ
so_far p = take p.length p.bytes

module _ {X : Type 0} (f : List ℕ → X) (bad : X) (long : Short f bad) where
  abbrev Takes : List ℕ → Type 0
  Takes bs = (p : Partial) → length p.bytes ≡ 12 → p.length ≤ 12 → partly f bad (with_bytes p bs) ≡ f (so_far p ++ bs)

  full : (p : Partial) (bs : List ℕ) → length p.bytes ≡ 12 → 12 ≤ p.length → f (so_far p ++ bs) ≡ bad
  full p bs e h = long (so_far p ++ bs) (simp (length-append, length-take, e) (omega arith))

  take_none : Takes []
  unfolding partly with_bytes
  take_none p e h = go (ltb p.length 12) refl
    where
      go : (b : Bool) → ltb p.length 12 ≡ b → cond (ltb p.length 12) (f (so_far p)) bad ≡ f (so_far p ++ [])
      go true q = rw (q, append-nil)
      go false q = rw q (sym (full p [] e (ltb-false _ _ q)))

  take_one : (b : ℕ) (bs : List ℕ) → Takes bs → Takes (b ∷ bs)
  unfolding with_bytes with_byte
  take_one b bs ih p e h = go (ltb p.length 12) refl
    where
      next : Partial
      next = record { bytes = set p.bytes p.length b; length = p.length + 1 }

      go : (x : Bool) → ltb p.length 12 ≡ x → partly f bad (with_bytes (cond (ltb p.length 12) next p) bs) ≡ f (so_far p ++ (b ∷ bs))
      go true q =
          let l : p.length < 12 = ltb-true _ _ q in
          let t : so_far next ≡ so_far p ++ (b ∷ []) = rw add-one (take-suc-set p.bytes p.length b (omega arith)) in
          rw q (ih next (length-set p.bytes p.length b ∙ e) (omega arith) ∙ ap f (ap (λ (l : List ℕ). l ++ bs) t ∙ append_assoc (so_far p) (b ∷ []) bs))
      go false q =
          let l : 12 ≤ p.length = ltb-false _ _ q in
          rw q (ih p e h ∙ full p bs e l ∙ sym (full p (b ∷ bs) e l))

  takes : (bs : List ℕ) → Takes bs
  takes [] = take_none
  takes (b ∷ bs) = take_one b bs (takes bs)

-- a byte stays
keeps : (bs : List ℕ) (p : Partial) → 0 < p.length → 0 < (with_bytes p bs).length
unfolding with_bytes with_byte
keeps [] p h = h
keeps (b ∷ bs) p h = go (ltb p.length 12) (keeps bs)
  where
    go : (x : Bool) → ((q : Partial) → 0 < q.length → 0 < (with_bytes q bs).length)
        → 0 < (with_bytes (cond x (record { bytes = set p.bytes p.length b; length = p.length + 1 }) p) bs).length
    go true ih = ih _ (omega arith)
    go false ih = ih p h

some_byte : (bs : List ℕ) → has_byte (with_bytes begun bs) ≡ ltb 0 (length bs)
unfolding with_bytes with_byte
some_byte [] = refl
some_byte (b ∷ bs) = lt-ltb 0 _ (keeps bs (record { bytes = set begun.bytes 0 b; length = 0 + 1 }) (omega arith)) ∙ sym (lt-ltb 0 (suc (length bs)) (omega arith))

pub whole_lines : WholeLines
whole_lines X f bad long bs = record { line = takes f bad long bs begun refl (omega arith); some = some_byte bs }
