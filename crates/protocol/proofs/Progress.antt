-- Every message under way is accepted, and where a permit is out some delivery or step changes a state.
use Rattle.std.specs.Prelude.{Option, Some, None}
use Prim.Native.Nat.{ℕ, zero, suc, ◌+◌, ◌*◌, ◌%◌, ◌≤◌, ◌<◌}
use native.Mathlib.Decide.{ℕ_discrete, dec_lt}
use native.Mathlib.Omega.{arith}
use mathlib.Core.Path.{◌≡◌, refl, sym, ap, ◌∙◌}
use mathlib.Core.Logic.{◌≢◌, ◌⊎◌, inl, inr}
use mathlib.Core.Bool.{Bool, true, false, not}
use mathlib.Core.List.{List, [], ◌∷◌}
use lib.Dec.{eqb}
use borrow.Author.Tests.{eqb-true, lt-ltb}
use Rattle.bits.specs.Bit.{bit, module_after}
use Rattle.bits.proofs.Laws.{bit_none}
use Rattle.protocol.specs.Generic.{Picked, pick}
use Rattle.protocol.specs.Plan.{Plan, Laws}
use Rattle.protocol.specs.Rules.{OneDevice, neighbour, has_neighbour, Message, bid, permit, release, ModuleState, lacks, missing, Choice, takes_turn, bids_to, choice_on, choice, after_turn, after_bid, after_permit, SupervisorState, first_noted, served_on, served, after_sending, after_noting, after_release}
use Rattle.protocol.specs.System.{System, module_step, supervisor_step, with_module, with_supervisor, after_module_step, after_supervisor_step, after_message, after_delivery, step, Accepts, Changes, of_module, of_supervisor, Progress, by_delivery, by_module_step, by_supervisor_step}
use Rattle.bits.proofs.Least.{Lowest, least_find}
use Rattle.protocol.proofs.Tools.{clash, either_way, digit_true, one_at_is, update_same, count, count_nil, Inserted, here, pick_inserted, inserted_all}
use Rattle.protocol.proofs.Neighbours.{neighbour_below, neighbour_module, lacks_parts, missing_some}
use Rattle.protocol.proofs.Invariant.{bid_of, permit_of, release_of, Inv}
use Rattle.protocol.proofs.Keep.{bid_new, bid_taken, bid_noted, permit_bid, permit_taken, release_holder, release_names, release_taken}

-- ---- a message under way is accepted, and changes the state of the party that it names
module _ (P : Plan) (A : Laws P) (D : System) (O : OneDevice) (I : Inv P D O) where
  pub accepted : (g : Message) (r : List Message) → Inserted g D.under_way r → Accepts P D g
  accepted (bid m s) r t = (_, bid_taken P A D O I t)
  accepted (permit s m k) r t = (_, permit_taken P A D O I t)
  accepted (release m s v) r t = (_, release_taken P A D O I t)

  pub all_accepted : (k : ℕ) (q : Picked Message) → pick k D.under_way ≡ Some q → Accepts P D q.item
  all_accepted k q e = accepted q.item q.rest (pick_inserted k D.under_way q e)

  -- the state y of supervisor s is another one than before, by one of its fields
  supervisor_changed : {B : Type 0} (f : SupervisorState → B) (s : ℕ) (y : SupervisorState) (rest : List Message) → s < P.supervisors → f y ≢ f (D.supervisor_at s)
      → Changes P D (with_supervisor D s y rest)
  supervisor_changed f s y rest l h = of_supervisor s l (λ e. h (ap f (sym (update_same D.supervisor_at s y) ∙ e)))

  module_changed : {B : Type 0} (f : ModuleState → B) (m : ℕ) (x : ModuleState) (rest : List Message) → m < P.modules → f x ≢ f (D.module_at m)
      → Changes P D (with_module D m x rest)
  module_changed f m x rest l h = of_module m l (λ e. h (ap f (sym (update_same D.module_at m x) ∙ e)))

  message_changes : (g : Message) (r : List Message) → Inserted g D.under_way r → Changes P D (after_message P D r g)
  unfolding after_message
  message_changes (bid m s) r t = rw (bid_taken P A D O I t) (
      supervisor_changed (λ y. bit y.noted m) s (after_noting (D.supervisor_at s) m) r (neighbour_below P A m s (inserted_all t I.names).0)
      (λ e. clash (sym e ∙ bid_noted P A D O I t) (bid_new P A D O I t)))
  message_changes (permit s m k) r t = rw (permit_taken P A D O I t) (
      module_changed (λ x. x.outstanding) m (after_permit (D.module_at m) s k) r (neighbour_module P A m s (inserted_all t I.names).0)
      (λ e. unfold after_permit in (let z : None ≡ Some s = e ∙ permit_bid P A D O I t in let z : ◌≡◌ {A = ℕ} 0 1 = cc in omega arith)))
  message_changes (release m s v) r t = rw (release_taken P A D O I t) (
      supervisor_changed (λ y. y.holder) s (after_release P s (D.supervisor_at s) v) r (neighbour_below P A m s (release_names P A D O I t).neighbours)
      (λ e. unfold after_release in (let z : None ≡ Some m = e ∙ release_holder P A D O I t in let z : ◌≡◌ {A = ℕ} 0 1 = cc in omega arith)))

  by_first : (g : Message) (r : List Message) → D.under_way ≡ g ∷ r → Progress P D
  by_first g r e = by_delivery 0 (record { item = g; rest = r }) first (accepted g r inserted) (unfold step after_delivery in (rw first (message_changes g r inserted)))
    where
      first : pick 0 D.under_way ≡ Some (record { item = g; rest = r })
      first = unfold pick in (rw e)

      inserted : Inserted g D.under_way r
      inserted = rw e here

-- ---- a step of a party of the plan
pub module_step_is : (P : Plan) (D : System) (m : ℕ) (c : Choice) → m < P.modules → choice P m (D.module_at m) ≡ c → step P D (module_step m) ≡ after_module_step P D m c
unfolding step
module_step_is P D m c h e = rw (lt-ltb m P.modules h, e)

pub supervisor_step_is : (P : Plan) (D : System) (s : ℕ) (o : Option ℕ) → s < P.supervisors → served (D.supervisor_at s) ≡ o
    → step P D (supervisor_step s) ≡ after_supervisor_step P D s o
unfolding step
supervisor_step_is P D s o h e = rw (lt-ltb s P.supervisors h, e)

-- ---- the cyclic search finds a noted module
cyclic : (last m : ℕ) → m < 16 → module_after last ((m + 15 * suc last) % 16) ≡ m
unfolding module_after
cyclic last m h = omega arith

served_some : (y : SupervisorState) (m : ℕ) → m < 16 → bit y.noted m ≡ true → y.holder ≡ None → (a : ℕ) × (served y ≡ Some a)
unfolding served served_on first_noted
served_some y m h n e =
    let t : ℕ → Bool = λ k. bit y.noted (module_after y.last_served k) in
    let k : ℕ = (m + 15 * suc y.last_served) % 16 in
    let q : bit y.noted (module_after y.last_served k) ≡ true = rw (cyclic y.last_served m h) n in
    let f = least_find t 16 k (omega arith) q in
    (module_after y.last_served f.0, rw (e, f.1))

-- ---- with nothing under way, follow the waits: each holder waits for a supervisor of a higher number, if it waits
module _ (P : Plan) (A : Laws P) (D : System) (O : OneDevice) (I : Inv P D O) (empty : D.under_way ≡ []) where
  no_count : (f : Message → ℕ) → count f D.under_way ≡ 0
  no_count f = rw empty (count_nil f)

  holds : (s m : ℕ) → (D.supervisor_at s).holder ≡ Some m → bit (D.module_at m).held s ≡ true
  holds s m h = digit_true (bit (D.module_at m).held s)
      (omega (arith, (I.pairs m s).permits, no_count (permit_of m s), no_count (release_of m s), one_at_is (D.supervisor_at s).holder m h))

  bid_is_noted : (s m : ℕ) → (D.module_at m).outstanding ≡ Some s → bit (D.supervisor_at s).noted m ≡ true
  bid_is_noted s m h = digit_true (bit (D.supervisor_at s).noted m)
      (omega (arith, (I.pairs m s).bids, no_count (bid_of m s), no_count (permit_of m s), one_at_is (D.module_at m).outstanding s h))

  -- a module that holds the permit of s
  module _ (s m : ℕ) (h : bit (D.module_at m).held s ≡ true) where
    near : neighbour P m s ≡ true
    near = (I.modules m).neighbours s h

    some_held : not (eqb (D.module_at m).held 0) ≡ true
    some_held = go (either_way (eqb (D.module_at m).held 0))
      where
        go : (eqb (D.module_at m).held 0 ≡ true) ⊎ (eqb (D.module_at m).held 0 ≡ false) → not (eqb (D.module_at m).held 0) ≡ true
        go (inl e) = clash h (ap (λ (k : ℕ). bit k s) (eqb-true (D.module_at m).held 0 e) ∙ bit_none s)
        go (inr e) = rw e

    has_neighbour_lem : has_neighbour P m ≡ true
    unfolding has_neighbour
    has_neighbour_lem = let f = least_find (neighbour P m) P.supervisors s (neighbour_below P A m s near) near in rw f.1

    by_turn : missing P m (D.module_at m).held ≡ None → Progress P D
    by_turn e = by_module_step m (rw (module_step_is P D m takes_turn (neighbour_module P A m s near) chosen) (
        unfold after_module_step in (module_changed P A D O I (λ x. x.held) m (after_turn P m (D.module_at m)) _ (neighbour_module P A m s near) changed)))
      where
        chosen : choice P m (D.module_at m) ≡ takes_turn
        chosen = unfold choice choice_on in (rw (e, has_neighbour_lem))

        changed : (after_turn P m (D.module_at m)).held ≢ (D.module_at m).held
        changed q = unfold after_turn in (clash h (ap (λ (k : ℕ). bit k s) (sym q) ∙ bit_none s))

    by_bid : (b : ℕ) → missing P m (D.module_at m).held ≡ Some b → (D.module_at m).outstanding ≡ None → Progress P D
    by_bid b e f = by_module_step m (rw (module_step_is P D m (bids_to b) (neighbour_module P A m s near) chosen) (
        unfold after_module_step in (module_changed P A D O I (λ x. x.outstanding) m (after_bid (D.module_at m) b) _ (neighbour_module P A m s near) changed)))
      where
        chosen : choice P m (D.module_at m) ≡ bids_to b
        chosen = unfold choice choice_on in (rw (e, f, some_held))

        changed : (after_bid (D.module_at m) b).outstanding ≢ (D.module_at m).outstanding
        changed q = unfold after_bid in (let r : Some b ≡ None = q ∙ f in let z : ◌≡◌ {A = ℕ} 0 1 = cc in omega arith)

    above : (b : ℕ) → missing P m (D.module_at m).held ≡ Some b → s < b
    above b e = go (dec_lt s b) (ℕ_discrete b s)
      where
        l : Lowest (lacks P m (D.module_at m).held) P.supervisors b
        l = missing_some P m (D.module_at m).held b e

        go : Dec (s < b) → Dec (b ≡ s) → s < b
        go (yes p) q = p
        go (no p) (yes q) = clash h (rw (← q) (lacks_parts P m (D.module_at m).held b l.passes).1)
        go (no p) (no q) =
            let c = lacks_parts P m (D.module_at m).held b l.passes in
            clash ((I.modules m).lowest s b h (omega arith) c.0) c.1

  by_sending : (b m : ℕ) → b < P.supervisors → m < P.modules → bit (D.supervisor_at b).noted m ≡ true → (D.supervisor_at b).holder ≡ None → Progress P D
  by_sending b m l k n h = by_supervisor_step b (rw (supervisor_step_is P D b (Some f.0) l f.1) (
      unfold after_supervisor_step in (supervisor_changed P A D O I (λ y. y.holder) b (after_sending (D.supervisor_at b) f.0) _ l changed)))
    where
      f : (a : ℕ) × (served (D.supervisor_at b) ≡ Some a)
      f = served_some (D.supervisor_at b) m (omega (arith, A.few_modules)) n h

      changed : (after_sending (D.supervisor_at b) f.0).holder ≢ (D.supervisor_at b).holder
      changed q = unfold after_sending in (let r : Some f.0 ≡ None = q ∙ h in let z : ◌≡◌ {A = ℕ} 0 1 = cc in omega arith)

  abbrev OutIsProgress : ℕ → ℕ → Type 0
  OutIsProgress n s = (m : ℕ) → P.supervisors ≤ s + n → s < P.supervisors → (D.supervisor_at s).holder ≡ Some m → Progress P D

  upwards : (n s : ℕ) → OutIsProgress n s
  upwards zero s m c l e = absurd (omega arith)
  upwards (suc n) s m c l e = lacking (upwards n) (missing P m (D.module_at m).held) refl
    where
      h : bit (D.module_at m).held s ≡ true
      h = holds s m e

      at : (b : ℕ) → missing P m (D.module_at m).held ≡ Some b → OutIsProgress n b → (D.module_at m).outstanding ≡ Some b
          → (o : Option ℕ) → (D.supervisor_at b).holder ≡ o → Progress P D
      at b q ih f None g = by_sending b m (missing_some P m (D.module_at m).held b q).below (neighbour_module P A m s (near s m h)) (bid_is_noted b m f) g
      at b q ih f (Some k) g = ih k (omega (arith, above s m h b q)) (missing_some P m (D.module_at m).held b q).below g

      bidding : (b : ℕ) → missing P m (D.module_at m).held ≡ Some b → OutIsProgress n b → (o : Option ℕ) → (D.module_at m).outstanding ≡ o → Progress P D
      bidding b q ih None f = by_bid s m h b q f
      bidding b q ih (Some d) f =
          let g : missing P m (D.module_at m).held ≡ Some d = (I.modules m).bid_lowest d f in
          let one : d ≡ b = cc in
          at b q ih (rw (← one) f) (D.supervisor_at b).holder refl

      lacking : ((b : ℕ) → OutIsProgress n b) → (o : Option ℕ) → missing P m (D.module_at m).held ≡ o → Progress P D
      lacking ih None q = by_turn s m h q
      lacking ih (Some b) q = bidding b q (ih b) (D.module_at m).outstanding refl

pub progress : (P : Plan) → Laws P → (D : System) (O : OneDevice) → Inv P D O → (s m : ℕ) → s < P.supervisors → (D.supervisor_at s).holder ≡ Some m → Progress P D
progress P A D O I s m l h = go D.under_way refl
  where
    go : (w : List Message) → D.under_way ≡ w → Progress P D
    go [] e = upwards P A D O I e P.supervisors s m (omega arith) l h
    go (g ∷ r) e = by_first P A D O I g r e
