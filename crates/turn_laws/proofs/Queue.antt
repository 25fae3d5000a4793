-- The queue fits with a response more or less, and keeps its eight cells.
use Prim.Native.Nat.{ℕ, zero, suc, ◌+◌, ◌-◌, ◌≤◌, ◌<◌}
use native.Mathlib.Omega.{arith}
use mathlib.Core.Path.{◌≡◌, refl, sym, ap, ap₂, ◌∙◌, subst}
use mathlib.Core.List.{List, [], ◌∷◌, ◌++◌, append_assoc}
use mathlib.Core.Bool.{Bool, true}
use lib.ListN.{length, get_or, take, drop, set, replicate, length-append, length-take, length-drop, take-append-drop, replicate-append-replicate}
use lib.Dec.{T, eqb, leb, le→leb, leb→le, eqb→eq}
use lib.Seq.{take-append-le, drop-append-le, take-append_seam, drop-append_seam, set-append_seam, length-take-le}
use lib.Ieee.Fits.{and_l, and_r, and_i}
use Rattle.records.specs.declared.Record.{Record}
use Rattle.plan.specs.Plan.{own_uncontrollable}
use Rattle.rules.proofs.Valid.{both}
use Rattle.modules.specs.declared.Own.{Own}
use Rattle.modules.specs.Queue.{queue_of, response_at, cells, with_queue, queued, without}
use Rattle.modules.specs.Fits.{every, queue_fits}
use Rattle.modules.proofs.Queue.{without_length}
use Rattle.turn_laws.specs.Laws.{EightCells}

zeros : (n : ℕ) → T (every (λ x. eqb x 0) (replicate n 0))
unfolding every
zeros zero = tt
zeros (suc n) = zeros n

every_end : (p : ℕ → Bool) (q : List ℕ) (e : ℕ) → T (every p q) → T (p e) → T (every p (q ++ (e ∷ [])))
unfolding every
every_end p [] e t u = and_i (p e) true u tt
every_end p (x ∷ q) e t u = and_i (p x) _ (and_l (p x) (every p q) t) (every_end p q e (and_r (p x) (every p q) t) u)

every_without : (p : ℕ → Bool) (q : List ℕ) (i : ℕ) → T (every p q) → T (every p (without i q))
unfolding every
every_without p [] zero t = tt
every_without p [] (suc i) t = tt
every_without p (x ∷ q) zero t = and_r (p x) (every p q) t
every_without p (x ∷ q) (suc i) t = and_i (p x) _ (and_l (p x) (every p q) t) (every_without p q i (and_r (p x) (every p q) t))

every_at : (p : ℕ → Bool) (q : List ℕ) (i : ℕ) → i < length q → T (every p q) → T (p (get_or q i 0))
unfolding every
every_at p [] i h t = absurd (omega arith)
every_at p (x ∷ q) zero h t = and_l (p x) (every p q) t
every_at p (x ∷ q) (suc i) h t = every_at p q i (omega arith) (and_r (p x) (every p q) t)

-- the queue holds no more than its length says
pub at_most : (own : Own) → length (queue_of own) ≤ own.length
at_most own = omega (arith, length-take own.length own.queue)

-- nor more than it has cells
pub in_cells : (own : Own) → EightCells own → length (queue_of own) ≤ 8
in_cells own h = omega (arith, length-take own.length own.queue)

pub one_more : (q : List ℕ) (e : ℕ) → length (q ++ (e ∷ [])) ≡ suc (length q)
one_more q e = omega (arith, length-append q (e ∷ []))

pub queue_of_lem : (own : Own) (q : List ℕ) → queue_of (with_queue own q) ≡ q
queue_of_lem own q = take-append_seam q (replicate (8 - length q) 0)

pub queue_length : (own : Own) → own.length ≤ 8 → EightCells own → length (queue_of own) ≡ own.length
queue_length own h p = length-take-le own.length own.queue (omega arith)

zeros_are : (l : List ℕ) → T (every (λ x. eqb x 0) l) → l ≡ replicate (length l) 0
unfolding every
zeros_are [] t = refl
zeros_are (x ∷ l) t =
    ap₂ (λ (y : ℕ) (k : List ℕ). y ∷ k) (eqb→eq x 0 (and_l (eqb x 0) (every (λ y. eqb y 0) l) t)) (zeros_are l (and_r (eqb x 0) (every (λ y. eqb y 0) l) t))

module _ (rs : List Record) (m : ℕ) where
  pub short : (own : Own) → T (queue_fits rs m own) → own.length ≤ 8
  unfolding queue_fits
  short own t = leb→le own.length 8 (search both)

  pub responses : (own : Own) → T (queue_fits rs m own) → T (every (own_uncontrollable rs m) (queue_of own))
  unfolding queue_fits
  responses own t = search both

  pub queue_fits_lem : (own : Own) (q : List ℕ) → length q ≤ 8 → T (every (own_uncontrollable rs m) q) → T (queue_fits rs m (with_queue own q))
  unfolding queue_fits
  queue_fits_lem own q h t =
      let z : List ℕ = replicate (8 - length q) 0 in
      let a : T (leb (length q) 8) = le→leb (length q) 8 h in
      let b : T (every (own_uncontrollable rs m) (take (length q) (q ++ z))) = subst (λ (l : List ℕ). T (every (own_uncontrollable rs m) l)) (sym (queue_of_lem own q)) t in
      let c : T (every (λ x. eqb x 0) (drop (length q) (q ++ z))) = subst (λ (l : List ℕ). T (every (λ x. eqb x 0) l)) (sym (drop-append_seam q z)) (zeros (8 - length q)) in
      search and_i

  -- a response taken out
  pub without_fits : (own : Own) (i : ℕ) → T (queue_fits rs m own) → T (queue_fits rs m (with_queue own (without i (queue_of own))))
  without_fits own i t =
      queue_fits_lem own (without i (queue_of own)) (omega (arith, without_length (queue_of own) i, at_most own, short own t))
      (every_without (own_uncontrollable rs m) (queue_of own) i (responses own t))

  pub response_own : (own : Own) (i : ℕ) → i < length (queue_of own) → T (queue_fits rs m own) → T (own_uncontrollable rs m (response_at own i))
  response_own own i h t = every_at (own_uncontrollable rs m) (queue_of own) i h (responses own t)

  -- one response more
  pub more_fits : (own : Own) (e : ℕ) → own.length < 8 → T (own_uncontrollable rs m e) → T (queue_fits rs m own) → T (queue_fits rs m (queued own e))
  more_fits own e h u t =
      queue_fits_lem own (queue_of own ++ (e ∷ [])) (omega (arith, one_more (queue_of own) e, at_most own))
      (every_end (own_uncontrollable rs m) (queue_of own) e (responses own t) u)

  -- ---- the queue by its cells

  module _ (own : Own) (t : T (queue_fits rs m own)) (p : EightCells own) where
    count : length (queue_of own) ≡ own.length
    count = queue_length own (short own t) p

    pub queue_cells : own.queue ≡ cells (queue_of own)
    unfolding queue_fits
    queue_cells =
        let past : T (every (λ x. eqb x 0) (drop own.length own.queue)) = search both in
        let n : length (drop own.length own.queue) ≡ 8 - length (queue_of own) = omega (arith, length-drop own.length own.queue, count) in
        sym (take-append-drop own.length own.queue)
        ∙ ap (λ (l : List ℕ). queue_of own ++ l) (zeros_are (drop own.length own.queue) past ∙ ap (λ (k : ℕ). replicate k 0) n)

    pub queued_last : (e : ℕ) → own.length < 8 → (queued own e).queue ≡ set own.queue own.length e
    queued_last e h =
        let q : List ℕ = queue_of own in
        let k : ℕ = 8 - suc (length q) in
        let z : List ℕ = replicate k 0 in
        let one : 8 - length q ≡ suc k = omega (arith, count) in
        let rest : 8 - length (q ++ (e ∷ [])) ≡ k = omega (arith, one_more q e) in
        let whole : own.queue ≡ q ++ 0 ∷ z = queue_cells ∙ ap (λ (i : ℕ). q ++ replicate i 0) one in
        ap (λ (i : ℕ). (q ++ (e ∷ [])) ++ replicate i 0) rest ∙ append_assoc q (e ∷ []) z ∙ sym (set-append_seam q 0 z e)
        ∙ ap₂ (λ (l : List ℕ) (i : ℕ). set l i e) (sym whole) count

    -- a response out of the cells is one out of the queue, with the zeros behind it
    cut : (i : ℕ) → i < own.length → (z : List ℕ) → own.queue ≡ queue_of own ++ z
        → take i (queue_of own) ++ (drop (suc i) (queue_of own) ++ z) ≡ take i own.queue ++ drop (suc i) own.queue
    cut i h z w =
        let before : i ≤ length (queue_of own) = omega (arith, count) in
        let after : suc i ≤ length (queue_of own) = omega (arith, count) in
        ap₂ (λ (a b : List ℕ). a ++ b) (sym (take-append-le i (queue_of own) z before)) (sym (drop-append-le (suc i) (queue_of own) z after))
        ∙ ap (λ (l : List ℕ). take i l ++ drop (suc i) l) (sym w)

    pub taken_out : (i : ℕ) → i < own.length → cells (without i (queue_of own)) ≡ take i own.queue ++ drop (suc i) own.queue ++ (0 ∷ [])
    taken_out i h =
        let q : List ℕ = queue_of own in
        let k : ℕ = 8 - length q in
        let z : List ℕ = replicate k 0 in
        let one : 8 - length (without i q) ≡ k + 1 = omega (arith, without_length q i, count, short own t) in
        ap (λ (j : ℕ). without i q ++ replicate j 0) one ∙ ap (λ (l : List ℕ). without i q ++ l) (sym (replicate-append-replicate k 1 0))
        ∙ sym (append_assoc (without i q) z (0 ∷ [])) ∙ ap (λ (l : List ℕ). l ++ (0 ∷ [])) (append_assoc (take i q) (drop (suc i) q) z ∙ cut i h z queue_cells)
