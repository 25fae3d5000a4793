-- The listing has each word of its length over its events once, and no other word.
use Prim.Native.Nat.{ℕ, zero, suc, ◌<◌}
use mathlib.Core.Path.{◌≡◌, refl, ap, ◌∙◌}
use mathlib.Core.Bool.{Bool, false}
use mathlib.Core.List.{List, [], ◌∷◌}
use native.Mathlib.Omega.{arith}
use lib.ListN.{length, get_or}
use lib.Dec.{eqb, ltb}
use borrow.Author.Tests.{lt-ltb, le-ltb}
use Rattle.systems.specs.Order.{same_list}
use Rattle.event_words.specs.Words.{words_of, Over, EveryWordOnce}
use Rattle.event_words.specs.Table.{only}
use Rattle.event_words.proofs.Sums.{tally, only_zero, only_both, tally_cong, tally_only, keep_tally, tally_behind, sum_cong, sum_zero, sum_one}

-- how often a word is in the listing
times : ℕ → ℕ → List ℕ → ℕ
times n m w = tally (λ v. only (same_list w v) 1) (words_of n m)

-- a word is in it as often as its rest in the listing of the shorter ones, where its first event is below n
longer : (n m e : ℕ) (u : List ℕ) → times n (suc m) (e ∷ u) ≡ only (ltb e n) (times n m u)
unfolding times words_of same_list
longer n m e u =
    tally_behind n (λ v. only (same_list (e ∷ u) v) 1) (words_of n m)
    ∙ sum_cong n _ _ (λ d h. tally_cong _ _ (λ v. only_both (eqb e d) (same_list u v) 1) (words_of n m) ∙ tally_only (eqb e d) (λ v. only (same_list u v) 1) (words_of n m))
    ∙ sum_one n e (λ d. times n m u)

none_empty : (n m : ℕ) → times n (suc m) [] ≡ 0
unfolding times words_of same_list only
none_empty n m =
    tally_behind n (λ v. only (same_list [] v) 1) (words_of n m)
    ∙ sum_zero n _ (λ d h. tally_only false (λ v. 1) (words_of n m))

times_one : (n m : ℕ) (w : List ℕ) → length w ≡ m → Over n w → times n m w ≡ 1
unfolding times words_of same_list tally only
times_one n zero [] h o = refl
times_one n zero (e ∷ u) h o = absurd (omega arith)
times_one n (suc m) [] h o = absurd (omega arith)
times_one n (suc m) (e ∷ u) h o = longer n m e u ∙ ap (λ (b : Bool). only b (times n m u)) (lt-ltb e n (o 0 (omega arith))) ∙ times_one n m u (omega arith) (λ i l. o (suc i) (omega arith))

times_length : (n m : ℕ) (w : List ℕ) → (length w ≡ m → ⊥) → times n m w ≡ 0
unfolding times words_of same_list tally only
times_length n zero [] h = absurd (h refl)
times_length n zero (e ∷ u) h = refl
times_length n (suc m) [] h = none_empty n m
times_length n (suc m) (e ∷ u) h = longer n m e u ∙ ap (only (ltb e n)) (times_length n m u (λ p. h (omega arith))) ∙ only_zero (ltb e n)

times_events : (n m : ℕ) (w : List ℕ) (i : ℕ) → i < length w → (get_or w i 0 < n → ⊥) → times n m w ≡ 0
unfolding times words_of same_list tally only
times_events n m [] i l h = absurd (omega arith)
times_events n zero (e ∷ u) i l h = refl
times_events n (suc m) (e ∷ u) zero l h = longer n m e u ∙ ap (λ (b : Bool). only b (times n m u)) (le-ltb e n (omega arith))
times_events n (suc m) (e ∷ u) (suc i) l h = longer n m e u ∙ ap (only (ltb e n)) (times_events n m u i (omega arith) h) ∙ only_zero (ltb e n)

pub every_word_once : EveryWordOnce
unfolding times
every_word_once n m w = record {
  once = λ h o. keep_tally (same_list w) (words_of n m) ∙ times_one n m w h o;
  other_length = λ h. keep_tally (same_list w) (words_of n m) ∙ times_length n m w h;
  other_event = λ i l h. keep_tally (same_list w) (words_of n m) ∙ times_events n m w i l h;
}
