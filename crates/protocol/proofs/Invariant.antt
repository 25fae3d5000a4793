-- The invariant: for each pair of a module and a supervisor two counts, for each module the shape of its held permits and received masks,
-- what the messages under way name and carry, and the agreement with the one device.
use Rattle.std.specs.Prelude.{Option, Some}
use Prim.Native.Nat.{ℕ, ◌+◌, ◌^◌, ◌≤◌, ◌<◌}
use native.Mathlib.Nat.{not-suc-le-zero}
use native.Mathlib.Decide.{dec_le}
use native.Mathlib.Omega.{arith}
use mathlib.Core.Path.{◌≡◌, refl, sym, ap, ◌∙◌}
use mathlib.Core.Logic.{◌≢◌, ◌⊎◌, inl, inr}
use mathlib.Core.Bool.{Bool, true, false, ◌&&◌}
use mathlib.Core.List.{List, [], ◌∷◌}
use lib.Dec.{eqb}
use borrow.Author.Tests.{ne_eqb, eqb-true}
use Rattle.bits.specs.Bit.{bit}
use Rattle.modules.specs.declared.Own.{Own}
use Rattle.protocol.specs.Generic.{update}
use Rattle.protocol.specs.Plan.{Plan}
use Rattle.protocol.specs.Rules.{OneDevice, neighbour, Message, bid, permit, release, ModuleState, missing, SupervisorState, event_of_both, applied}
use Rattle.protocol.specs.System.{System}
use Rattle.protocol.proofs.Tools.{either_way, and_true, eqb_self, digit, digit_true, one_at, one_at_some, one_at_is, update_same, update_other, update_each, count, count_cons, All, nil, cons}
use Rattle.protocol.proofs.Neighbours.{missing_neighbour}

-- ---- the messages between a module and a supervisor

-- 1 where m is a and s is b
pub pair_of : ℕ → ℕ → ℕ → ℕ → ℕ
pair_of m s a b = digit (eqb m a && eqb s b)

pub pair_module : (m s b : ℕ) → pair_of m s m b ≡ digit (eqb s b)
unfolding pair_of
pair_module m s b = rw (eqb_self m)

pub pair_supervisor : (m s a : ℕ) → pair_of m s a s ≡ digit (eqb m a)
unfolding pair_of
pair_supervisor m s a = rw (eqb_self s) (go (eqb m a))
  where
    go : (b : Bool) → digit (b && true) ≡ digit b
    go true = refl
    go false = refl

pub pair_self : (m s : ℕ) → pair_of m s m s ≡ 1
pair_self m s = pair_module m s s ∙ ap digit (eqb_self s)

pub other_module : (m s a b : ℕ) → m ≢ a → pair_of m s a b ≡ 0
unfolding pair_of
other_module m s a b h = rw (ne_eqb m a h)

pub other_supervisor : (m s a b : ℕ) → s ≢ b → pair_of m s a b ≡ 0
unfolding pair_of
other_supervisor m s a b h = rw (ne_eqb s b h) (go (eqb m a))
  where
    go : (b : Bool) → digit (b && false) ≡ 0
    go true = refl
    go false = refl

abbrev pub bid_of : ℕ → ℕ → Message → ℕ
bid_of a b (bid m s) = pair_of m s a b
bid_of a b (permit s m k) = 0
bid_of a b (release m s v) = 0

abbrev pub permit_of : ℕ → ℕ → Message → ℕ
permit_of a b (bid m s) = 0
permit_of a b (permit s m k) = pair_of m s a b
permit_of a b (release m s v) = 0

abbrev pub release_of : ℕ → ℕ → Message → ℕ
release_of a b (bid m s) = 0
release_of a b (permit s m k) = 0
release_of a b (release m s v) = pair_of m s a b

-- ---- the parts

-- m's bid with s is under way, noted, or answered by a permit under way; s's permit that is out to m is under way, held, or released
pub record PairLaw (w : List Message) (m s : ℕ) (x : ModuleState) (y : SupervisorState) : Type 0 where
  pub bids : count (bid_of m s) w + digit (bit y.noted m) + count (permit_of m s) w ≡ one_at x.outstanding s
  pub permits : count (permit_of m s) w + digit (bit x.held s) + count (release_of m s) w ≡ one_at y.holder m

-- module m by itself; z gives the supervisors' states
pub record ModuleLaw (P : Plan) (z : ℕ → ℕ) (m : ℕ) (x : ModuleState) : Type 0 where
  pub neighbours : (s : ℕ) → bit x.held s ≡ true → neighbour P m s ≡ true
  pub lowest : (s t : ℕ) → bit x.held s ≡ true → t < s → neighbour P m t ≡ true → bit x.held t ≡ true
  pub bid_lowest : (s : ℕ) → x.outstanding ≡ Some s → missing P m x.held ≡ Some s
  pub received_all : (s e : ℕ) → bit x.held s ≡ true → bit (P.shown s (z s)) e ≡ true → bit x.received e ≡ true
  pub received_only : (e : ℕ) → bit x.received e ≡ true → (s : ℕ) × (bit x.held s ≡ true) × (bit (P.shown s (z s)) e ≡ true)
  pub none_received : x.held ≡ 0 → x.received ≡ 0
  pub fits : m < P.modules → P.fits m x.own ≡ true

-- supervisor s by itself
pub record SupervisorLaw (P : Plan) (s : ℕ) (y : SupervisorState) : Type 0 where
  pub noted_below : y.noted < 2 ^ 64
  pub last_below : y.last_served < 16
  pub fits : s < P.supervisors → P.supervisor_fits s y.state ≡ true

-- what a message has for good: its parties are neighbours, its event is theirs
pub record ReleaseNames (P : Plan) (m s : ℕ) (v : Option ℕ) : Type 0 where
  pub neighbours : neighbour P m s ≡ true
  pub event : event_of_both P m s v ≡ true

abbrev pub Names : Plan → Message → Type 0
Names P (bid m s) = neighbour P m s ≡ true
Names P (permit s m k) = neighbour P m s ≡ true
Names P (release m s v) = ReleaseNames P m s v

-- what it carries while under way; z the supervisors' states, z' the one device's: a permit the mask shown, a release the event that leads
-- its supervisor to where the one device has it
abbrev pub Carries : Plan → (ℕ → ℕ) → (ℕ → ℕ) → Message → Type 0
Carries P z z' (bid m s) = Unit {0}
Carries P z z' (permit s m k) = k ≡ P.shown s (z s)
Carries P z z' (release m s v) = z' s ≡ applied P s (z s) v

-- ---- the whole
abbrev pub states_of : System → ℕ → ℕ
states_of D s = (D.supervisor_at s).state

pub record Inv (P : Plan) (D : System) (O : OneDevice) : Type 0 where
  pub owns : (m : ℕ) → (D.module_at m).own ≡ O.owns m
  pub pairs : (m s : ℕ) → PairLaw D.under_way m s (D.module_at m) (D.supervisor_at s)
  pub modules : (m : ℕ) → ModuleLaw P (states_of D) m (D.module_at m)
  pub supervisors : (s : ℕ) → SupervisorLaw P s (D.supervisor_at s)
  pub names : All (Names P) D.under_way
  pub carries : All (Carries P (states_of D) O.states) D.under_way
  -- a supervisor with no release under way stands where the one device has it
  pub stands : (s : ℕ) → ((m : ℕ) → count (release_of m s) D.under_way ≡ 0) → O.states s ≡ (D.supervisor_at s).state

-- a module and the one device get the same own part
pub owns_kept : (f : ℕ → ModuleState) (g : ℕ → Own) (m : ℕ) (x : ModuleState) → ((a : ℕ) → (f a).own ≡ g a) → (a : ℕ) → (update f m x a).own ≡ update g m x.own a
owns_kept f g m x h = update_each (λ a y. y.own ≡ update g m x.own a) f m x (sym (update_same g m x.own)) (λ a q. h a ∙ sym (update_other g m x.own a q))

-- ---- a change of the supervisors' states

-- no permit and no release of supervisor s is under way
unfoldable pub Clear : List Message → ℕ → Type 0
Clear w s = (m : ℕ) → (count (permit_of m s) w ≡ 0) × (count (release_of m s) w ≡ 0)

clear_tail : (g : Message) (w : List Message) (s : ℕ) → Clear (g ∷ w) s → Clear w s
unfolding Clear
clear_tail g w s q m = (omega (arith, q m, count_cons (permit_of m s) g w), omega (arith, q m, count_cons (release_of m s) g w))

-- each supervisor's states stay, or nothing of it is under way
abbrev pub Unmoved : (ℕ → ℕ) → (ℕ → ℕ) → (ℕ → ℕ) → (ℕ → ℕ) → List Message → Type 0
Unmoved x y x' y' w = (s : ℕ) → ((x s ≡ x' s) × (y s ≡ y' s)) ⊎ Clear w s

module _ (P : Plan) (x y x' y' : ℕ → ℕ) where
  unmoved_tail : (g : Message) (w : List Message) → Unmoved x y x' y' (g ∷ w) → Unmoved x y x' y' w
  unmoved_tail g w h s = go (h s)
    where
      go : ((x s ≡ x' s) × (y s ≡ y' s)) ⊎ Clear (g ∷ w) s → ((x s ≡ x' s) × (y s ≡ y' s)) ⊎ Clear w s
      go (inl e) = inl e
      go (inr q) = inr (clear_tail g w s q)

  carried : (g : Message) (w : List Message) → Unmoved x y x' y' (g ∷ w) → Carries P x y g → Carries P x' y' g
  unfolding Clear
  carried (bid m s) w h k = tt
  carried (permit s m k) w h e = go (h s)
    where
      go : ((x s ≡ x' s) × (y s ≡ y' s)) ⊎ Clear (permit s m k ∷ w) s → k ≡ P.shown s (x' s)
      go (inl q) = e ∙ ap (P.shown s) q.0
      go (inr q) = absurd (omega (arith, q m, count_cons (permit_of m s) (permit s m k) w, pair_self m s))
  carried (release m s v) w h r = go (h s)
    where
      go : ((x s ≡ x' s) × (y s ≡ y' s)) ⊎ Clear (release m s v ∷ w) s → y' s ≡ applied P s (x' s) v
      go (inl q) = rw (← q.0, ← q.1) r
      go (inr q) = absurd (omega (arith, q m, count_cons (release_of m s) (release m s v) w, pair_self m s))

  -- the messages under way carry the same
  pub carried_still : (w : List Message) → Unmoved x y x' y' w → All (Carries P x y) w → All (Carries P x' y') w
  carried_still [] h nil = nil
  carried_still (g ∷ w) h (cons p t) = cons (carried g w h p) (carried_still w (unmoved_tail g w h) t)

-- a module stays right while the states of the supervisors whose permits it holds stay
pub module_still : (P : Plan) (z z' : ℕ → ℕ) (m : ℕ) (x : ModuleState) → ((s : ℕ) → bit x.held s ≡ true → z s ≡ z' s) → ModuleLaw P z m x → ModuleLaw P z' m x
module_still P z z' m x h k = record {
  neighbours = k.neighbours;
  lowest = k.lowest;
  bid_lowest = k.bid_lowest;
  received_all = λ s e p q. k.received_all s e p (rw (h s p) q);
  received_only = λ e p. let g = k.received_only e p in (g.0, g.1, rw (← h g.0 g.1) g.2);
  none_received = k.none_received;
  fits = k.fits;
}

-- ---- "a supervisor's noted modules and holder are its neighbours"
pair_is : (m s a b : ℕ) → 1 ≤ pair_of m s a b → (m ≡ a) × (s ≡ b)
unfolding pair_of
pair_is m s a b h = let q = and_true (eqb m a) (eqb s b) (digit_true (eqb m a && eqb s b) h) in (eqb-true m a q.0, eqb-true s b q.1)

release_neighbour : (P : Plan) (m s : ℕ) (w : List Message) → All (Names P) w → 1 ≤ count (release_of m s) w → neighbour P m s ≡ true
unfolding count
release_neighbour P m s [] nil h = absurd (not-suc-le-zero h)
release_neighbour P m s (bid a b ∷ w) (cons p t) h = release_neighbour P m s w t (omega arith)
release_neighbour P m s (permit b a k ∷ w) (cons p t) h = release_neighbour P m s w t (omega arith)
release_neighbour P m s (release a b v ∷ w) (cons p t) h = go (release_neighbour P m s w t) (dec_le 1 (pair_of a b m s))
  where
    go : (1 ≤ count (release_of m s) w → neighbour P m s ≡ true) → Dec (1 ≤ pair_of a b m s) → neighbour P m s ≡ true
    go ih (yes q) = let e = pair_is a b m s q in rw (← e.0, ← e.1) p.neighbours
    go ih (no q) = ih (omega arith)

module _ (P : Plan) (D : System) (O : OneDevice) (I : Inv P D O) (m s : ℕ) where
  bid_neighbour : 1 ≤ one_at (D.module_at m).outstanding s → neighbour P m s ≡ true
  bid_neighbour h = missing_neighbour P m (D.module_at m).held s ((I.modules m).bid_lowest s (one_at_some (D.module_at m).outstanding s h))

  pub noted_neighbour : bit (D.supervisor_at s).noted m ≡ true → neighbour P m s ≡ true
  noted_neighbour h = bid_neighbour (omega (arith, (I.pairs m s).bids, ap digit h))

  pub holder_neighbour : (D.supervisor_at s).holder ≡ Some m → neighbour P m s ≡ true
  holder_neighbour h = go (either_way (bit (D.module_at m).held s)) (dec_le 1 (count (permit_of m s) D.under_way))
    where
      go : (bit (D.module_at m).held s ≡ true) ⊎ (bit (D.module_at m).held s ≡ false) → Dec (1 ≤ count (permit_of m s) D.under_way) → neighbour P m s ≡ true
      go (inl e) q = (I.modules m).neighbours s e
      go (inr e) (yes q) = bid_neighbour (omega (arith, (I.pairs m s).bids))
      go (inr e) (no q) = release_neighbour P m s D.under_way I.names (omega (arith, (I.pairs m s).permits, ap digit e, one_at_is (D.supervisor_at s).holder m h))
