-- Laws of bytes put one after the other.
use mathlib.Core.Path.{◌≡◌, sym, ap, ◌∙◌}
use mathlib.Core.List.{List, [], ◌∷◌, ◌++◌}
use Prim.Native.Nat.{ℕ, suc, ◌+◌, ◌≤◌}
use native.Mathlib.Nat.{add-zero, add-suc, suc-add}
use native.Mathlib.Omega.{arith}
use lib.ListN.{length, length-append, set}
use lib.Seq.{sets, length-sets}
use lib.Ieee.{Float, binary64, to_bits}
use Rattle.words.specs.Word.{put_at, word_bytes}
use Rattle.words.proofs.Laws.{put_sets}
use Rattle.fields.specs.Fields.{float_bytes}

pub join : (l a b : List ℕ) (i j : ℕ) → j ≡ i + length a → sets (sets l i a) j b ≡ sets l i (a ++ b)
join l [] b i j e = ap (λ (k : ℕ). sets l k b) (e ∙ add-zero i)
join l (x ∷ a) b i j e = join (set l i x) a b (suc i) j (e ∙ add-suc i (length a) ∙ sym (suc-add i (length a)))

module _ (l : List ℕ) (o : ℕ) where
  -- bytes put behind others, if there is room for both
  pub next : {s t : List ℕ} (a b : List ℕ) (j : ℕ) → s ≡ sets l o a → j ≡ o + length a → o + length (a ++ b) ≤ length l → t ≡ put_at b j s → t ≡ sets l o (a ++ b)
  next {s} a b j e at h w =
      let n : length s ≡ length l = ap length e ∙ length-sets l o a in
      let k : j + length b ≤ length s = omega (arith, length-append a b) in
      w ∙ put_sets b j s k ∙ ap (λ (x : List ℕ). sets x j b) e ∙ join l a b o j at

-- the eight bytes of an f64
pub float_put : (l : List ℕ) (o : ℕ) (x : Float) {b : ℕ} {s : List ℕ} → b ≡ to_bits binary64 x → s ≡ put_at (word_bytes b) o l → s ≡ put_at (float_bytes x) o l
float_put l o x e w = w ∙ ap (λ (y : ℕ). put_at (word_bytes y) o l) e
