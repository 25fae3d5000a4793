-- The loop over the modules' states, and how long states are.
use mathlib.Core.Path.{◌≡◌, refl, sym, ap, ◌∙◌}
use mathlib.Core.List.{List, [], ◌∷◌}
use mathlib.Core.Logic.{◌⊎◌, ⊎_elim}
use Prim.Native.Nat.{ℕ, zero, suc, ◌+◌, ◌≤◌, ◌<◌, min}
use native.Mathlib.Omega.{arith}
use lib.ListN.{length, get_or, take, length-take, get_or-map}
use lib.Seq.{get_or-take}
use mir.Syntax.{w8}
use mir.Val.{Fits}
use borrow.Author.Count.{below_more}
use Rattle.modules.specs.declared.Own.{Own}
use Rattle.texts.specs.declared.Text.{Text}
use Rattle.texts.specs.Numbers.{spaced, spaced_all}
use Rattle.texts.specs.Text.{appended}
use Rattle.texts.proofs.Texts.{spaced_all_short, Listed, listed_first, listed_again, listed_done}
use Rattle.script.specs.Answers.{states_of}

-- the text t holds the first i of the numbers behind the text t₀, and each of them is a byte
pub record Passed (t₀ : Text) (xs : List ℕ) (t : Text) (i : ℕ) : Type 0 where
  pub listed : Listed t₀ xs t i
  pub bytes : (j : ℕ) → j < i → Fits w8 (get_or xs j 0)

pub passed_first : (t : Text) (xs : List ℕ) → Passed t xs t 0
passed_first t xs = record { listed = listed_first t xs; bytes = λ j h. absurd (omega arith) }

any_default : {A : Type 0} (l : List A) (i : ℕ) (a b : A) → i < length l → get_or l i a ≡ get_or l i b
any_default [] i a b h = absurd (omega arith)
any_default (x ∷ l) zero a b h = refl
any_default (x ∷ l) (suc i) a b h = any_default l i a b (omega arith)

length_states : (ws : List Own) → length (states_of ws) ≡ length ws
length_states [] = refl
length_states (w ∷ ws) = ap suc (length_states ws)

module _ (ws : List Own) (n i : ℕ) {t₀ t : Text} (e : length ws ≡ 16) (p : Passed t₀ (take n (states_of ws)) t i) where
  counted : length (take n (states_of ws)) ≡ min n 16
  counted = length-take n (states_of ws) ∙ ap (min n) (length_states ws ∙ e)

  pub states_again : (d : Own) {b : ℕ} {r : Text} → i < n → i < 16 → b ≡ (get_or ws i d).state → Fits w8 b → r ≡ appended t (spaced b)
      → Passed t₀ (take n (states_of ws)) r (i + 1)
  states_again d {b} h k g f m =
      let o : i < length (states_of ws) = omega (arith, length_states ws) in
      let q : b ≡ get_or (take n (states_of ws)) i 0
      = g ∙ sym (get_or-take n (states_of ws) i 0 h ∙ any_default (states_of ws) i 0 d.state o ∙ get_or-map (λ (w : Own). w.state) ws i d) in
      record {
        listed = listed_again (take n (states_of ws)) t i p.listed b (omega (arith, counted)) m q;
        bytes = below_more _ _ p.bytes (rw (← q) f);
      }

  states_end : (16 ≤ i) ⊎ (n ≤ i) → length (take n (states_of ws)) ≤ i
  states_end = ⊎_elim (λ h. omega (arith, counted)) (λ h. omega (arith, counted))

  pub states_done : (16 ≤ i) ⊎ (n ≤ i) → t ≡ appended t₀ (spaced_all (take n (states_of ws)))
  states_done h = listed_done (take n (states_of ws)) t i p.listed (states_end h)

  pub states_short : (16 ≤ i) ⊎ (n ≤ i) → length (spaced_all (take n (states_of ws))) ≤ 64
  states_short h =
      let o : length (take n (states_of ws)) ≤ i = states_end h in
      let g = spaced_all_short (take n (states_of ws)) (λ j k. p.bytes j (omega arith)) in
      omega (arith, counted)

-- the first states of an array of 32 bytes
pub first_short : (s : List ℕ) (n : ℕ) → length s ≡ 32 → ((i : ℕ) → Fits w8 (get_or s i 0)) → length (spaced_all (take n s)) ≤ 128
first_short s n e f =
    let g = spaced_all_short (take n s) (λ i h. rw (get_or-take n s i 0 (omega (arith, length-take n s))) (f i)) in
    omega (arith, length-take n s)
