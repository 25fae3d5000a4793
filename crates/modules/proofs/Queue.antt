-- Laws of the queue's eight cells.
use Prim.Native.Nat.{ℕ, suc, min, ◌+◌, ◌-◌, ◌≤◌, ◌<◌}
use native.Mathlib.Omega.{arith}
use mathlib.Core.Path.{◌≡◌, refl, sym, ap, ap₂, ◌∙◌}
use mathlib.Core.List.{List, [], ◌∷◌, ◌++◌, map, append_assoc, append-nil}
use mathlib.Core.Bool.{Bool, true, false}
use lib.ListN.{length, get_or, take, drop, set, replicate, length-append, length-replicate, length-take, length-drop, length-map, get_or-replicate, drop_of_length-le, get_or-append, get_or-eq_default}
use lib.Seq.{get_or-take, get_or-drop, get_or-append-add, take_all, set_at}
use lib.Dec.{ltb}
use borrow.Author.Tests.{ltb-true, ltb-false, lt-leb, le-leb}
use Rattle.words.specs.Lists.{list_from}
use Rattle.words.proofs.Lists.{from_same, same_slots}
use Rattle.records.specs.declared.Record.{Record}
use Rattle.plan.specs.Plan.{own_uncontrollable}
use Rattle.modules.specs.declared.Own.{Own}
use Rattle.modules.specs.Own.{with_cells}
use Rattle.modules.specs.Queue.{queue_of, cells, with_queue, queued, without}
use Rattle.modules.specs.Procedure.{respond_of, taken, refused}

-- what is told of an own part's array
pub eight : (l : List ℕ) → length (map (λ (x : ℕ). x) l) ≡ 8 → length l ≡ 8
eight l h = sym (length-map l (λ (x : ℕ). x)) ∙ h

-- ---- one cell of a queue of n responses

module _ (q : List ℕ) (n i : ℕ) {w : ℕ} (e : w ≡ n) where
  pub at_cell : i < w → get_or q i 0 ≡ get_or (take n q) i 0
  at_cell h = let l : i < n = omega arith in sym (get_or-take n q i 0 l)

  pub past_responses : w ≤ i → 0 ≡ get_or (take n q) i 0
  past_responses h = let l : length (take n q) ≤ i = omega (arith, length-take n q) in sym (get_or-eq_default (take n q) 0 l)

pub past_cells : (q : List ℕ) (n i : ℕ) → length q ≡ 8 → 8 ≤ i → 0 ≡ get_or (take n q) i 0
past_cells q n i e h = let l : length (take n q) ≤ i = omega (arith, length-take n q) in sym (get_or-eq_default (take n q) 0 l)

-- ---- the eight cells

pub cells_length : (l : List ℕ) → length l ≤ 8 → length (cells l) ≡ 8
cells_length l h = omega (arith, length-append l (replicate (8 - length l) 0), length-replicate {A = ℕ} (8 - length l) 0)

zeros_at : (k j : ℕ) → get_or {A = ℕ} (replicate k 0) j 0 ≡ 0
zeros_at k j = go (ltb j k) refl
  where
    go : (b : Bool) → ltb j k ≡ b → get_or {A = ℕ} (replicate k 0) j 0 ≡ 0
    go true h = get_or-replicate k j 0 0 (ltb-true j k h)
    go false h =
        let l : length (replicate {A = ℕ} k 0) ≤ j = omega (arith, length-replicate {A = ℕ} k 0, ltb-false j k h) in
        get_or-eq_default (replicate k 0) 0 l

-- past the responses stands 0
cells_at : (l : List ℕ) (i : ℕ) → get_or (cells l) i 0 ≡ get_or l i 0
cells_at l i = go (ltb i (length l)) refl
  where
    z : List ℕ
    z = replicate (8 - length l) 0

    go : (b : Bool) → ltb i (length l) ≡ b → get_or (cells l) i 0 ≡ get_or l i 0
    go true h = get_or-append l z 0 i (ltb-true i (length l) h)
    go false h =
        let g : length l ≤ i = ltb-false i (length l) h in
        let e : i ≡ length l + (i - length l) = omega arith in
        ap (λ (j : ℕ). get_or (cells l) j 0) e ∙ get_or-append-add l z (i - length l) 0 ∙ zeros_at (8 - length l) (i - length l) ∙ sym (get_or-eq_default l 0 g)

-- ---- the queue without the response at an index

module _ (l : List ℕ) (k : ℕ) where
  abbrev less : List ℕ
  less = without k l

  pub without_length : length less ≡ min k (length l) + (length l - suc k)
  without_length = omega (arith, length-append (take k l) (drop (suc k) l), length-take k l, length-drop (suc k) l)

  -- past the last response there is none to take out
  without_none : length l ≤ k → less ≡ l
  without_none h =
      let past : length l ≤ suc k = omega arith in
      ap₂ (λ (a b : List ℕ). a ++ b) (take_all k l h) (drop_of_length-le l past) ∙ append-nil l

  past_both : (i j : ℕ) → length less ≤ i → length l ≤ j → get_or l j 0 ≡ get_or less i 0
  past_both i j g h = get_or-eq_default l 0 h ∙ sym (get_or-eq_default less 0 g)

  module _ (i : ℕ) where
    -- those before it stay where they are
    without_before : i < k → get_or l i 0 ≡ get_or less i 0
    without_before h = go (ltb i (length l)) refl
      where
        go : (b : Bool) → ltb i (length l) ≡ b → get_or l i 0 ≡ get_or less i 0
        go true e =
            let g : i < length (take k l) = omega (arith, length-take k l, ltb-true i (length l) e) in
            sym (get_or-append (take k l) (drop (suc k) l) 0 i g ∙ get_or-take k l i 0 h)
        go false e = let g : length l ≤ i = ltb-false i (length l) e in past_both i i (omega (arith, without_length)) g

    -- those after it move up
    without_after : k ≤ i → get_or l (i + 1) 0 ≡ get_or less i 0
    without_after h = go (ltb k (length l)) refl
      where
        go : (b : Bool) → ltb k (length l) ≡ b → get_or l (i + 1) 0 ≡ get_or less i 0
        go true e =
            let g : k < length l = ltb-true k (length l) e in
            let at : i ≡ length (take k l) + (i - k) = omega (arith, length-take k l) in
            let on : suc k + (i - k) ≡ i + 1 = omega arith in
            sym (ap (λ (j : ℕ). get_or less j 0) at ∙ get_or-append-add (take k l) (drop (suc k) l) (i - k) 0
            ∙ get_or-drop (suc k) l (i - k) 0 ∙ ap (λ (j : ℕ). get_or l j 0) on)
        go false e = let g : length l ≤ k = ltb-false k (length l) e in past_both i (i + 1) (omega (arith, without_length)) (omega arith)

module _ (q : List ℕ) (n k i : ℕ) {v : ℕ} where
  pub cell_before : i < k → v ≡ get_or (take n q) i 0 → v ≡ get_or (without k (take n q)) i 0
  cell_before h p = p ∙ without_before (take n q) k i h

  pub cell_after : k ≤ i → v ≡ get_or (take n q) (i + 1) 0 → v ≡ get_or (without k (take n q)) i 0
  cell_after h p = p ∙ without_after (take n q) k i h

-- ---- the cells, each by itself

module _ (q : List ℕ) (n k : ℕ) where
  abbrev rest : List ℕ
  rest = without k (take n q)

  rest_length : length q ≡ 8 → length (cells rest) ≡ 8
  rest_length e = cells_length rest (omega (arith, without_length (take n q) k, length-take n q))

  -- every cell by itself
  pub cells_are : {r : List ℕ} {gap : ℕ} → length q ≡ 8 → gap ≡ k → r ≡ list_from (λ i. get_or (without gap (take n q)) i 0) 0 8 → r ≡ cells rest
  cells_are e w m =
      m ∙ ap (λ (j : ℕ). list_from (λ i. get_or (without j (take n q)) i 0) 0 8) w
      ∙ from_same (λ i. get_or rest i 0) (λ i. get_or (cells rest) i 0) 8 (λ j h. sym (cells_at rest j))
      ∙ ap (list_from (λ i. get_or (cells rest) i 0) 0) (sym (rest_length e)) ∙ same_slots 0 (cells rest)

-- how many are left of n responses in eight cells
module _ (n k : ℕ) where
  abbrev Left : ℕ → Type 0
  Left v = (q : List ℕ) → length q ≡ 8 → v ≡ length (without k (take n q))

  left : (v : ℕ) → v ≡ min k (min n 8) + (min n 8 - suc k) → Left v
  left v p q e = omega (arith, without_length (take n q) k, length-take n q)

  pub one_less : n < 8 → k < n → Left (n - 1)
  one_less g h = left (n - 1) (omega arith)

  pub none_less : n < 8 → n ≤ k → Left n
  none_less g h = left n (omega arith)

  pub seven_left : 8 ≤ n → k < 8 → Left 7
  seven_left g h = left 7 (omega arith)

  pub eight_left : 8 ≤ n → 8 ≤ k → Left 8
  eight_left g h = left 8 (omega arith)

-- ---- one response more, and one taken out

with_cells_lem : (own : Own) (q r : List ℕ) (n : ℕ) → r ≡ cells q → n ≡ length q
    → with_cells own r n ≡ with_queue own q
with_cells_lem own q r n e l = ap₂ (with_cells own) e l

module _ (own : Own) (e8 : length own.queue ≡ 8) {r : List ℕ} where
  pub queued_by : (e : ℕ) {i : ℕ} → own.length < 8 → i ≡ own.length → r ≡ cells (without 8 (queue_of own))
      → with_cells own (set r i e) (own.length + 1) ≡ queued own e
  queued_by e {i} h w p =
      let q : List ℕ = queue_of own in
      let l : length q ≡ own.length = omega (arith, length-take own.length own.queue) in
      let more : length (q ++ (e ∷ [])) ≡ suc (length q) = omega (arith, length-append q (e ∷ [])) in
      let k : ℕ = 8 - suc (length q) in
      let one : 8 - length q ≡ suc k = omega arith in
      let after : 8 - length (q ++ (e ∷ [])) ≡ k = omega arith in
      let at : length q ≡ i = omega arith in
      with_cells_lem own (q ++ (e ∷ [])) (set r i e) (own.length + 1)
      (ap (λ (a : List ℕ). set a i e) (p ∙ ap cells (without_none q 8 (omega arith)) ∙ ap (λ (j : ℕ). q ++ replicate j 0) one) ∙ set_at q 0 (replicate k 0) e i at
      ∙ sym (ap (λ (j : ℕ). (q ++ (e ∷ [])) ++ replicate j 0) after ∙ append_assoc q (e ∷ []) (replicate k 0)))
      (omega arith)

  pub taken_out : (k : ℕ) {n : ℕ} → r ≡ cells (without k (queue_of own)) → ((q : List ℕ) → length q ≡ 8 → n ≡ length (without k (take own.length q)))
      → with_cells own r n ≡ with_queue own (without k (queue_of own))
  taken_out k {n} p h = with_cells_lem own (without k (queue_of own)) r n p (h own.queue e8)

-- ---- a response

module _ (rs : List Record) (m e : ℕ) (own : Own) {b : Bool} (u : b ≡ own_uncontrollable rs m e) where
  pub respond_other : b ≡ false → refused 11 own ≡ respond_of rs m e own
  unfolding respond_of
  respond_other h = simp (sym u ∙ h)

  module _ (h : b ≡ true) where
    pub respond_full : 8 ≤ own.length → refused 13 own ≡ respond_of rs m e own
    unfolding respond_of
    respond_full g = simp (sym u ∙ h, le-leb 8 own.length g)

    pub respond_taken : {next : Own} → own.length < 8 → next ≡ queued own e → taken next ≡ respond_of rs m e own
    unfolding respond_of
    respond_taken {next} g p = simp (sym u ∙ h, lt-leb 8 own.length g) (ap taken p)
