-- Every record of an image of bytes fits the sizes of its fields.
use Prim.Native.Nat.{ℕ, zero, suc}
use mathlib.Core.Path.{◌≡◌, refl, sym, subst}
use mathlib.Core.Logic.{◌⊎◌, inl, inr}
use mathlib.Core.List.Memᴰ
use mathlib.Core.List.{List, [], ◌∷◌, Memᴰ}
use mathlib.Core.Bool.{Bool, true, false, cond}
use lib.ListN.{length}
use lib.Dec.{leb, eqb}
use borrow.Author.Tests.{eqb-false, leb-true}
use Rattle.records.specs.Kinds.{body_len, no_len}
use Rattle.reader.specs.Read.{record_of}
use Rattle.reader.specs.Walk.{more, stop, walk_of, records_in, records_of}
use Rattle.records.specs.declared.Record.{Record}
use Rattle.roundtrip.specs.Fits.{Fits, AllFit, Bytes}
use Rattle.roundtrip.proofs.Shape.{same}

fit_from : (b : List ℕ) (n o : ℕ) → Bytes b → AllFit (records_in (walk_of n o b))
unfolding walk_of records_in
fit_from [] n o g = λ r m. absurd (Memᴰ.not-nil m)
fit_from (k ∷ b) zero o g = go (eqb (body_len k) no_len) (leb (body_len k) (length b)) refl refl (fit_from b (body_len k) (suc o) (λ j. g (suc j)))
  where
    go : (p q : Bool) → eqb (body_len k) no_len ≡ p → leb (body_len k) (length b) ≡ q → AllFit (records_in (walk_of (body_len k) (suc o) b))
        → AllFit (records_in (cond p (stop 2 o) (cond q (more o (record_of k b) (walk_of (body_len k) (suc o) b)) (stop 3 o))))
    go true q e h f r m = absurd (Memᴰ.not-nil m)
    go false true e h f r m = first (Memᴰ.cases_cons m)
      where
        first : (r ≡ record_of k b) ⊎ (Memᴰ r (records_in (walk_of (body_len k) (suc o) b))) → Fits r
        first (inl i) = subst Fits (sym i) (same k b (eqb-false (body_len k) no_len e) (leb-true (body_len k) (length b) h) (λ j. g (suc j))).fits
        first (inr n) = f r n
    go false false e h f r m = absurd (Memᴰ.not-nil m)
fit_from (x ∷ b) (suc n) o g = fit_from b n (suc o) (λ j. g (suc j))

pub all_fit : (s : List ℕ) → Bytes s → AllFit (records_of s)
all_fit s g = fit_from s zero 0 g
