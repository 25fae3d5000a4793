-- Neighbours: the event that makes one, the bounds of its numbers, and the lowest one whose permit is not held.
use Rattle.std.specs.Prelude.{Some}
use Prim.Native.Nat.{ℕ, ◌<◌}
use mathlib.Core.Path.{◌≡◌}
use mathlib.Core.Bool.{Bool, true, false, not, ◌&&◌}
use lib.Dec.{eqb}
use borrow.Author.Tests.{eqb-true, not-true, not-false}
use Rattle.bits.specs.Bit.{bit, least}
use Rattle.protocol.specs.Plan.{Plan, Laws}
use Rattle.protocol.specs.Rules.{neighbour, lacks, missing}
use Rattle.bits.proofs.Least.{Lowest, least_some, least_find}
use Rattle.protocol.proofs.Tools.{and_true, and_intro, eqb_self, is_some_is}

pub neighbour_event : (P : Plan) (m s : ℕ) → neighbour P m s ≡ true → (e : ℕ) × (P.owner e ≡ m) × (P.alphabet s e ≡ true)
unfolding neighbour
neighbour_event P m s h =
    let q = is_some_is (least (λ e. eqb (P.owner e) m && P.alphabet s e) P.events) h in
    let l = least_some (λ e. eqb (P.owner e) m && P.alphabet s e) P.events q.0 q.1 in
    let b = and_true (eqb (P.owner q.0) m) (P.alphabet s q.0) l.passes in
    (q.0, eqb-true (P.owner q.0) m b.0, b.1)

pub neighbour_by : (P : Plan) → Laws P → (m s e : ℕ) → P.owner e ≡ m → P.alphabet s e ≡ true → neighbour P m s ≡ true
unfolding neighbour
neighbour_by P A m s e p q =
    let t : ℕ → Bool = λ e. eqb (P.owner e) m && P.alphabet s e in
    let z : eqb (P.owner e) m ≡ true = rw p (eqb_self m) in
    let f = least_find t P.events e (A.alphabet_event s e q) (and_intro z q) in
    rw f.1

pub neighbour_below : (P : Plan) → Laws P → (m s : ℕ) → neighbour P m s ≡ true → s < P.supervisors
neighbour_below P A m s h = let q = neighbour_event P m s h in A.alphabet_supervisor s q.0 q.2

pub neighbour_module : (P : Plan) → Laws P → (m s : ℕ) → neighbour P m s ≡ true → m < P.modules
neighbour_module P A m s h = let q = neighbour_event P m s h in rw (← q.1) (A.owner_below q.0 (A.alphabet_event s q.0 q.2))

pub lacks_parts : (P : Plan) (m h s : ℕ) → lacks P m h s ≡ true → (neighbour P m s ≡ true) × (bit h s ≡ false)
unfolding lacks
lacks_parts P m h s e = let q = and_true (neighbour P m s) (not (bit h s)) e in (q.0, not-true (bit h s) q.1)

pub lacks_not : (P : Plan) (m h s : ℕ) → lacks P m h s ≡ false → neighbour P m s ≡ true → bit h s ≡ true
unfolding lacks
lacks_not P m h s e n = not-false (bit h s) (rw n at e)

pub missing_some : (P : Plan) (m h s : ℕ) → missing P m h ≡ Some s → Lowest (lacks P m h) P.supervisors s
unfolding missing
missing_some P m h s e = least_some (lacks P m h) P.supervisors s e

pub missing_neighbour : (P : Plan) (m h s : ℕ) → missing P m h ≡ Some s → neighbour P m s ≡ true
missing_neighbour P m h s e = (lacks_parts P m h s (missing_some P m h s e).passes).0
