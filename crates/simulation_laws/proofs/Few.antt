-- Few messages are under way: for each module a bid or the permit that answers it, for each supervisor one release.
use Rattle.std.specs.Prelude.{Option, Some, None}
use Prim.Native.Nat.{ℕ, zero, suc, ◌+◌, ◌≤◌, ◌<◌}
use native.Mathlib.Decide.{ℕ_discrete}
use native.Mathlib.Omega.{arith}
use mathlib.Core.Path.{◌≡◌, refl, ap, ◌∙◌}
use mathlib.Core.List.{List, [], ◌∷◌}
use lib.ListN.{length, length-map}
use lib.Dec.{eqb}
use borrow.Author.Tests.{ne_eqb}
use Rattle.records.specs.declared.Record.{Record}
use Rattle.reader.specs.Walk.{records_of}
use Rattle.rules.specs.Check.{IsPlan}
use Rattle.device.specs.Device.{start_call}
use Rattle.turn_laws.specs.Laws.{TurnLaws}
use Rattle.protocol.specs.Plan.{Plan, Laws}
use Rattle.protocol.specs.Rules as R
use Rattle.protocol.specs.System.{System}
use Rattle.protocol.proofs.Tools.{digit, one_at, one_at_most, count, count_cons, All, nil, cons}
use Rattle.protocol.proofs.Neighbours.{neighbour_below, neighbour_module}
use Rattle.protocol.proofs.Invariant.{pair_self, bid_of, permit_of, release_of, Names, Inv}
use Rattle.agreement.specs.PlanOf.{plan_of}
use Rattle.agreement.specs.System as A
use Rattle.agreement.proofs.Simulation.{bytes_of}
use Rattle.agreement.proofs.Laws.{laws}
use Rattle.agreement.proofs.Demand.{stands_on, start_together}

-- ---- sums

unfoldable sum : ℕ → (ℕ → ℕ) → ℕ
sum zero f = 0
sum (suc n) f = sum n f + f n

sum_add : (n : ℕ) (f g h : ℕ → ℕ) → ((i : ℕ) → h i ≡ f i + g i) → sum n h ≡ sum n f + sum n g
unfolding sum
sum_add zero f g h e = refl
sum_add (suc n) f g h e = omega (arith, sum_add n f g h e, e n)

sum_at : (n k : ℕ) (f : ℕ → ℕ) → k < n → f k ≤ sum n f
unfolding sum
sum_at zero k f h = absurd (omega arith)
sum_at (suc n) k f h = go (ℕ_discrete k n) (sum_at n k f)
  where
    go : Dec (k ≡ n) → (k < n → f k ≤ sum n f) → f k ≤ sum n f + f n
    go (yes e) ih = let z : f k ≡ f n = ap f e in omega arith
    go (no q) ih = let l : k < n = omega arith in omega (arith, ih l)

sum_most : (n : ℕ) (f : ℕ → ℕ) → ((i : ℕ) → f i ≤ 1) → sum n f ≤ n
unfolding sum
sum_most zero f h = omega arith
sum_most (suc n) f h = omega (arith, sum_most n f h, h n)

sum_le : (n : ℕ) (f g : ℕ → ℕ) → ((i : ℕ) → f i ≤ g i) → sum n f ≤ sum n g
unfolding sum
sum_le zero f g h = omega arith
sum_le (suc n) f g h = omega (arith, sum_le n f g h, h n)

-- an optional number is one of those below n, once
module _ (k : ℕ) where
  none_below : (n : ℕ) → n ≤ k → sum n (one_at (Some k)) ≡ 0
  unfolding sum
  none_below zero h = refl
  none_below (suc n) h =
      let z : digit (eqb k n) ≡ 0 = ap digit (ne_eqb k n (λ e. omega arith)) in
      omega (arith, none_below n (omega arith), z)

  one_below : (n : ℕ) → sum n (one_at (Some k)) ≤ 1
  unfolding sum
  one_below zero = omega arith
  one_below (suc n) = go (ℕ_discrete k n) (one_below n)
    where
      go : Dec (k ≡ n) → sum n (one_at (Some k)) ≤ 1 → sum n (one_at (Some k)) + digit (eqb k n) ≤ 1
      go (yes e) ih = omega (arith, none_below n (omega arith), one_at_most (Some k) n)
      go (no q) ih = let z : digit (eqb k n) ≡ 0 = ap digit (ne_eqb k n q) in omega arith

sum_one : (o : Option ℕ) (n : ℕ) → sum n (one_at o) ≤ 1
sum_one None n = omega (arith, sum_le n (one_at None) (one_at (Some 0)) (λ i. omega arith), one_below 0 n)
sum_one (Some k) n = one_below k n

-- over all pairs
abbrev grid : ℕ → ℕ → (ℕ → ℕ → ℕ) → ℕ
grid a b f = sum a (λ i. sum b (f i))

grid_add : (a b : ℕ) (f g h : ℕ → ℕ → ℕ) → ((i j : ℕ) → h i j ≡ f i j + g i j) → grid a b h ≡ grid a b f + grid a b g
grid_add a b f g h e = sum_add a (λ i. sum b (f i)) (λ i. sum b (g i)) (λ i. sum b (h i)) (λ i. sum_add b (f i) (g i) (h i) (e i))

grid_at : (a b i j : ℕ) (f : ℕ → ℕ → ℕ) → i < a → j < b → f i j ≤ grid a b f
grid_at a b i j f h k = omega (arith, sum_at b j (f i) k, sum_at a i (λ m. sum b (f m)) h)

-- ---- messages, by their pairs
module _ (P : Plan) (L : Laws P) where
  abbrev asked : List R.Message → ℕ → ℕ → ℕ
  asked w m s = count (bid_of m s) w + count (permit_of m s) w

  abbrev released : List R.Message → ℕ → ℕ → ℕ
  released w s m = count (release_of m s) w

  abbrev counted : List R.Message → ℕ
  counted w = grid P.modules P.supervisors (asked w) + grid P.supervisors P.modules (released w)

  one_counted : (g : R.Message) → Names P g → 1 ≤ grid P.modules P.supervisors (λ m s. bid_of m s g + permit_of m s g) + grid P.supervisors P.modules (λ s m. release_of m s g)
  one_counted (R.bid m s) n =
      omega (arith, grid_at P.modules P.supervisors m s (λ a b. bid_of a b (R.bid m s) + permit_of a b (R.bid m s)) (neighbour_module P L m s n) (neighbour_below P L m s n), pair_self m s)
  one_counted (R.permit s m k) n =
      omega (arith, grid_at P.modules P.supervisors m s (λ a b. bid_of a b (R.permit s m k) + permit_of a b (R.permit s m k)) (neighbour_module P L m s n) (neighbour_below P L m s n), pair_self m s)
  one_counted (R.release m s v) n =
      omega (arith, grid_at P.supervisors P.modules s m (λ b a. release_of a b (R.release m s v)) (neighbour_below P L m s n.neighbours) (neighbour_module P L m s n.neighbours), pair_self m s)

  all_counted : (w : List R.Message) → All (Names P) w → length w ≤ counted w
  all_counted [] nil = omega arith
  all_counted (g ∷ w) (cons n t) =
      omega (
        arith,
        all_counted w t,
        one_counted g n,
        grid_add P.modules P.supervisors (asked w) (λ m s. bid_of m s g + permit_of m s g) (asked (g ∷ w)) (λ m s. omega (arith, count_cons (bid_of m s) g w, count_cons (permit_of m s) g w)),
        grid_add P.supervisors P.modules (released w) (λ s m. release_of m s g) (released (g ∷ w)) (λ s m. omega (arith, count_cons (release_of m s) g w)),
      )

  pub few_messages : (D : System) (O : R.OneDevice) → Inv P D O → length D.under_way ≤ P.modules + P.supervisors
  few_messages D O I = omega (arith, all_counted D.under_way I.names, sum_most P.modules (λ m. sum P.supervisors (asked D.under_way m)) asked_one, sum_most P.supervisors (λ s. sum P.modules (released D.under_way s)) released_one)
    where
      asked_one : (m : ℕ) → sum P.supervisors (asked D.under_way m) ≤ 1
      asked_one m =
          omega (
            arith,
            sum_le P.supervisors (asked D.under_way m) (one_at (D.module_at m).outstanding) (λ s. omega (arith, (I.pairs m s).bids)),
            sum_one (D.module_at m).outstanding P.supervisors,
          )

      released_one : (s : ℕ) → sum P.modules (released D.under_way s) ≤ 1
      released_one s =
          omega (
            arith,
            sum_le P.modules (released D.under_way s) (one_at (D.supervisor_at s).holder) (λ m. omega (arith, (I.pairs m s).permits)),
            sum_one (D.supervisor_at s).holder P.modules,
          )

-- ---- of the calls
module _ (image : List ℕ) (plan : IsPlan image) (T : TurnLaws (records_of image)) where
  pub few_under_way : (acts : List A.Act) → A.AllLent acts → length (A.under_way (A.run image (A.start image) acts).sent) ≤ 48
  unfolding plan_of
  few_under_way acts n =
      let rs : List Record = records_of image in
      let L : Laws (plan_of rs) = laws rs T in
      let t = stands_on image plan L (A.start image) (start_call image).device _ (start_together image plan L) acts n in
      omega (arith, ap length t.sim.wire ∙ length-map t.system.under_way bytes_of, few_messages (plan_of rs) L t.system t.device t.inv, T.few_modules, T.few_supervisors)
