-- A turn with every neighbour's permit held: over the masks received it is the one-device turn, and the invariant is kept.
use Rattle.std.specs.Prelude.{Option, Some, None, unwrap_or}
use Prim.Native.Nat.{ℕ, zero, suc, ◌≤◌, ◌<◌}
use native.Mathlib.Nat.{not-suc-le-zero}
use native.Mathlib.Decide.{ℕ_discrete, dec_lt}
use native.Mathlib.Omega.{arith}
use mathlib.Core.Path.{◌≡◌, refl, sym, ap, ◌∙◌}
use mathlib.Core.Logic.{◌≢◌, ◌⊎◌, inl, inr}
use mathlib.Core.Bool.{Bool, true, false, cond}
use mathlib.Core.List.{List, [], ◌∷◌, ◌++◌}
use lib.Bits.{bit_or}
use borrow.Author.Tests.{ne_eqb}
use Rattle.bits.specs.Bit.{bit}
use Rattle.bits.proofs.Laws.{bit_none}
use Rattle.modules.specs.declared.Own.{Own}
use Rattle.modules.specs.declared.Turned.{Turned}
use Rattle.protocol.specs.Plan.{Plan, TurnLaw, OwnLaws, Laws}
use Rattle.protocol.specs.Rules.{OneDevice, state_after, shown_below, device_turn, device_turns, device_step, neighbour, Message, release, ModuleState, lacks, missing, takes_turn, after_turn, event_for, releases, event_of_both, applied}
use Rattle.protocol.specs.System.{System, after_module_step}
use Rattle.bits.proofs.Least.{least_none}
use Rattle.protocol.proofs.Tools.{clash, either_way, bool_ext, and_intro, eqb_self, digit, one_at, one_at_most, one_at_some, update_each, count, count_nil, count_cons, count_append, All, nil, cons, All-append}
use Rattle.protocol.proofs.Masks.{or_left, or_right, or_cases}
use Rattle.protocol.proofs.Neighbours.{neighbour_by, neighbour_below, lacks_not}
use Rattle.protocol.proofs.Invariant.{pair_self, other_module, other_supervisor, bid_of, permit_of, release_of, PairLaw, ModuleLaw, ReleaseNames, Names, Carries, states_of, Inv, owns_kept, Clear, Unmoved, carried_still}

-- ---- what a turn does to a supervisor
module _ (P : Plan) (A : Laws P) (m k : ℕ) (o o' : Own) where
  -- one that is no neighbour stays
  far_stays : (s x : ℕ) (t : Option ℕ) → TurnLaw P m k o t o' → neighbour P m s ≡ false → state_after P s x t ≡ x
  unfolding state_after
  far_stays s x (Some e) l h = go (either_way (P.alphabet s e))
    where
      go : (P.alphabet s e ≡ true) ⊎ (P.alphabet s e ≡ false) → cond (P.alphabet s e) (unwrap_or (P.supervisor_move s x e) x) x ≡ x
      go (inl q) = clash (neighbour_by P A m s e (A.move_owner m o.state e o'.state l.listed) q) h
      go (inr q) = rw q
  far_stays s x None l h = refl

  event_of_both_lem : (s : ℕ) (t : Option ℕ) → TurnLaw P m k o t o' → event_of_both P m s (event_for P s t) ≡ true
  unfolding event_of_both event_for
  event_of_both_lem s (Some e) l = go (P.alphabet s e) refl
    where
      go : (b : Bool) → P.alphabet s e ≡ b → event_of_both P m s (cond b (Some e) None) ≡ true
      go true q = and_intro q (rw (A.move_owner m o.state e o'.state l.listed) (eqb_self m))
      go false q = refl
  event_of_both_lem s None l = refl

-- the event that a release carries leads the supervisor as firing does
applied_is : (P : Plan) (s x : ℕ) (t : Option ℕ) → state_after P s x t ≡ applied P s x (event_for P s t)
unfolding state_after applied event_for
applied_is P s x (Some e) = go (P.alphabet s e)
  where
    go : (b : Bool) → cond b (unwrap_or (P.supervisor_move s x e) x) x ≡ applied P s x (cond b (Some e) None)
    go true = refl
    go false = refl
applied_is P s x None = refl

-- ---- the releases of a turn, counted
one_or_none : (f : Message → ℕ) (c : Bool) (g : Message) → f g ≡ 0 → count f (cond c (g ∷ []) []) ≡ 0
one_or_none f true g h = omega (arith, count_cons f g [], count_nil f)
one_or_none f false g h = count_nil f

module _ (P : Plan) (m : ℕ) (t : Option ℕ) where
  releases_none : (f : Message → ℕ) → ((s : ℕ) (v : Option ℕ) → f (release m s v) ≡ 0) → (n : ℕ) → count f (releases P m t n) ≡ 0
  unfolding releases
  releases_none f h zero = count_nil f
  releases_none f h (suc n) =
      omega (
        arith,
        releases_none f h n,
        count_append f (releases P m t n) (cond (neighbour P m n) (release m n (event_for P n t) ∷ []) []),
        one_or_none f (neighbour P m n) (release m n (event_for P n t)) (h n (event_for P n t)),
      )

  releases_past : (b n : ℕ) → n ≤ b → count (release_of m b) (releases P m t n) ≡ 0
  unfolding releases
  releases_past b zero h = count_nil (release_of m b)
  releases_past b (suc n) h =
      omega (
        arith,
        releases_past b n (omega arith),
        count_append (release_of m b) (releases P m t n) (cond (neighbour P m n) (release m n (event_for P n t) ∷ []) []),
        one_or_none (release_of m b) (neighbour P m n) (release m n (event_for P n t)) (other_supervisor m n m b (λ e. omega arith)),
      )

  one_here : (b : ℕ) (c : Bool) (v : Option ℕ) → count (release_of m b) (cond c (release m b v ∷ []) []) ≡ digit c
  one_here b true v = omega (arith, count_cons (release_of m b) (release m b v) [], count_nil (release_of m b), pair_self m b)
  one_here b false v = count_nil (release_of m b)

  releases_at : (b n : ℕ) → b < n → count (release_of m b) (releases P m t n) ≡ digit (neighbour P m b)
  unfolding releases
  releases_at b zero h = absurd (not-suc-le-zero h)
  releases_at b (suc n) h = go (releases_at b n) (ℕ_discrete n b)
    where
      go : (b < n → count (release_of m b) (releases P m t n) ≡ digit (neighbour P m b)) → Dec (n ≡ b)
          → count (release_of m b) (releases P m t n ++ cond (neighbour P m n) (release m n (event_for P n t) ∷ []) []) ≡ digit (neighbour P m b)
      go ih (yes p) = rw p (omega (
        arith,
        releases_past b b (omega arith),
        count_append (release_of m b) (releases P m t b) (cond (neighbour P m b) (release m b (event_for P b t) ∷ []) []),
        one_here b (neighbour P m b) (event_for P b t),
      ))
      go ih (no q) =
          omega (
            arith,
            ih (omega arith),
            count_append (release_of m b) (releases P m t n) (cond (neighbour P m n) (release m n (event_for P n t) ∷ []) []),
            one_or_none (release_of m b) (neighbour P m n) (release m n (event_for P n t)) (other_supervisor m n m b q),
          )

  releases_count : Laws P → (b : ℕ) → count (release_of m b) (releases P m t P.supervisors) ≡ digit (neighbour P m b)
  releases_count A b = go (dec_lt b P.supervisors) (either_way (neighbour P m b))
    where
      go : Dec (b < P.supervisors) → (neighbour P m b ≡ true) ⊎ (neighbour P m b ≡ false)
          → count (release_of m b) (releases P m t P.supervisors) ≡ digit (neighbour P m b)
      go (yes l) h = releases_at b P.supervisors l
      go (no l) (inl h) = absurd (l (neighbour_below P A m b h))
      go (no l) (inr h) = releases_past b P.supervisors (omega arith) ∙ ap digit (sym h)

  releases_all : (Q : Message → Type 0) → ((s : ℕ) → neighbour P m s ≡ true → Q (release m s (event_for P s t))) → (n : ℕ) → All Q (releases P m t n)
  unfolding releases
  releases_all Q h zero = nil
  releases_all Q h (suc n) = All-append (releases_all Q h n) (one (neighbour P m n) refl)
    where
      one : (c : Bool) → neighbour P m n ≡ c → All Q (cond c (release m n (event_for P n t) ∷ []) [])
      one true e = cons (h n e) nil
      one false e = nil

-- ---- the union of all shown masks
module _ (P : Plan) (z : ℕ → ℕ) where
  pub shown_in : (n s e : ℕ) → s < n → bit (P.shown s (z s)) e ≡ true → bit (shown_below P z n) e ≡ true
  unfolding shown_below
  shown_in zero s e l h = absurd (not-suc-le-zero l)
  shown_in (suc n) s e l h = go (λ q. shown_in n s e q h) (ℕ_discrete s n)
    where
      go : (s < n → bit (shown_below P z n) e ≡ true) → Dec (s ≡ n) → bit (bit_or (shown_below P z n) (P.shown n (z n))) e ≡ true
      go ih (yes p) = or_right (shown_below P z n) (P.shown n (z n)) e (rw (← p) h)
      go ih (no q) = or_left (shown_below P z n) (P.shown n (z n)) e (ih (omega arith))

  shown_by_lem : (n e : ℕ) → bit (shown_below P z n) e ≡ true → (s : ℕ) × (s < n) × (bit (P.shown s (z s)) e ≡ true)
  unfolding shown_below
  shown_by_lem zero e h = clash h (bit_none e)
  shown_by_lem (suc n) e h = go (shown_by_lem n e) (or_cases (shown_below P z n) (P.shown n (z n)) e h)
    where
      go : (bit (shown_below P z n) e ≡ true → (s : ℕ) × (s < n) × (bit (P.shown s (z s)) e ≡ true)) → (bit (shown_below P z n) e ≡ true) ⊎ (bit (P.shown n (z n)) e ≡ true)
          → (s : ℕ) × (s < suc n) × (bit (P.shown s (z s)) e ≡ true)
      go ih (inl q) = let r = ih q in (r.0, omega arith, r.2)
      go ih (inr q) = (n, omega arith, q)

-- ---- a held permit: nothing of that supervisor is under way, and it stands where the one device has it
module _ (P : Plan) (D : System) (O : OneDevice) (I : Inv P D O) (m s : ℕ) (h : bit (D.module_at m).held s ≡ true) where
  held_holder : (D.supervisor_at s).holder ≡ Some m
  held_holder = one_at_some (D.supervisor_at s).holder m (omega (arith, (I.pairs m s).permits, ap digit h))

  held_clear : Clear D.under_way s
  unfolding Clear
  held_clear a = go (ℕ_discrete m a)
    where
      go : Dec (m ≡ a) → (count (permit_of a s) D.under_way ≡ 0) × (count (release_of a s) D.under_way ≡ 0)
      go (yes p) = rw (← p) (omega (arith, (I.pairs m s).permits, ap digit h, one_at_most (D.supervisor_at s).holder m))
      go (no q) = omega (arith, (I.pairs a s).permits, ap (λ (o : Option ℕ). one_at o a) held_holder, ap digit (ne_eqb m a q))

  held_stands : O.states s ≡ (D.supervisor_at s).state
  unfolding Clear
  held_stands = I.stands s (λ a. (held_clear a).1)

-- ---- the turn
module _ (P : Plan) (A : Laws P) (D : System) (O : OneDevice) (I : Inv P D O) (m : ℕ) (mine : m < P.modules) (full : missing P m (D.module_at m).held ≡ None) where
  all_held : (s : ℕ) → neighbour P m s ≡ true → bit (D.module_at m).held s ≡ true
  unfolding missing
  all_held s n = lacks_not P m (D.module_at m).held s (least_none (lacks P m (D.module_at m).held) P.supervisors full s (neighbour_below P A m s n)) n

  abbrev all_shown : ℕ
  all_shown = shown_below P O.states P.supervisors

  mask_same : (e : ℕ) → P.owner e ≡ m → bit (D.module_at m).received e ≡ bit all_shown e
  mask_same e w = bool_ext (bit (D.module_at m).received e) (bit all_shown e) to from
    where
      to : bit (D.module_at m).received e ≡ true → bit all_shown e ≡ true
      to h =
          let g = (I.modules m).received_only e h in
          shown_in P O.states P.supervisors g.0 e (neighbour_below P A m g.0 ((I.modules m).neighbours g.0 g.1))
          (rw (held_stands P D O I m g.0 g.1) g.2)

      from : bit all_shown e ≡ true → bit (D.module_at m).received e ≡ true
      from h =
          let g = shown_by_lem P O.states P.supervisors e h in
          let k : bit (D.module_at m).held g.0 ≡ true = all_held g.0 (neighbour_by P A m g.0 e w (A.shown_alphabet g.0 (O.states g.0) e g.2)) in
          (I.modules m).received_all g.0 e k (rw (← held_stands P D O I m g.0 k) g.2)

  own_law : OwnLaws P m (D.module_at m).own
  own_law = A.own_laws m (D.module_at m).own mine ((I.modules m).fits mine)

  -- the same turn
  pub turn_agrees : P.turn m (D.module_at m).received (D.module_at m).own ≡ device_turn P O m
  unfolding device_turn
  turn_agrees = own_law.turn_same (D.module_at m).received all_shown mask_same ∙ ap (P.turn m all_shown) (I.owns m)

  abbrev turned : Turned
  turned = P.turn m (D.module_at m).received (D.module_at m).own

  abbrev sent : List Message
  sent = releases P m turned.turn P.supervisors

  held_neighbour : (b : ℕ) → bit (D.module_at m).held b ≡ neighbour P m b
  held_neighbour b = bool_ext (bit (D.module_at m).held b) (neighbour P m b) ((I.modules m).neighbours b) (all_held b)

  no_bids : (a b : ℕ) → count (bid_of a b) (D.under_way ++ sent) ≡ count (bid_of a b) D.under_way
  no_bids a b = omega (arith, count_append (bid_of a b) D.under_way sent, releases_none P m turned.turn (bid_of a b) (λ s v. refl) P.supervisors)

  no_permits : (a b : ℕ) → count (permit_of a b) (D.under_way ++ sent) ≡ count (permit_of a b) D.under_way
  no_permits a b = omega (arith, count_append (permit_of a b) D.under_way sent, releases_none P m turned.turn (permit_of a b) (λ s v. refl) P.supervisors)

  turn_at : (b : ℕ) → PairLaw (D.under_way ++ sent) m b (after_turn P m (D.module_at m)) (D.supervisor_at b)
  unfolding after_turn
  turn_at b = record {
    bids = omega (arith, (I.pairs m b).bids, no_bids m b, no_permits m b);
    permits = omega (
      arith,
      (I.pairs m b).permits,
      no_permits m b,
      count_append (release_of m b) D.under_way sent,
      releases_count P m turned.turn A b,
      ap digit (held_neighbour b),
      ap digit (bit_none b),
    );
  }

  turn_elsewhere : (a : ℕ) → m ≢ a → (b : ℕ) → PairLaw (D.under_way ++ sent) a b (D.module_at a) (D.supervisor_at b)
  turn_elsewhere a q b = record {
    bids = omega (arith, (I.pairs a b).bids, no_bids a b, no_permits a b);
    permits = omega (
      arith,
      (I.pairs a b).permits,
      no_permits a b,
      count_append (release_of a b) D.under_way sent,
      releases_none P m turned.turn (release_of a b) (λ s v. other_module m s a b q) P.supervisors,
    );
  }

  far : (b : ℕ) → neighbour P m b ≡ false → state_after P b (O.states b) turned.turn ≡ O.states b
  far b h = far_stays P A m (D.module_at m).received (D.module_at m).own turned.own b (O.states b) turned.turn (own_law.turn_law (D.module_at m).received) h

  turn_stands : (b : ℕ) → ((a : ℕ) → count (release_of a b) (D.under_way ++ sent) ≡ 0) → state_after P b (O.states b) turned.turn ≡ (D.supervisor_at b).state
  turn_stands b z = go (either_way (neighbour P m b))
    where
      go : (neighbour P m b ≡ true) ⊎ (neighbour P m b ≡ false) → state_after P b (O.states b) turned.turn ≡ (D.supervisor_at b).state
      go (inl h) = absurd (omega (arith, z m, count_append (release_of m b) D.under_way sent, releases_count P m turned.turn A b, ap digit h))
      go (inr h) = far b h ∙ I.stands b (λ a. omega (arith, z a, count_append (release_of a b) D.under_way sent))

  turn_unmoved : Unmoved (states_of D) O.states (states_of D) (λ b. state_after P b (O.states b) turned.turn) D.under_way
  turn_unmoved b = go (either_way (neighbour P m b))
    where
      go : (neighbour P m b ≡ true) ⊎ (neighbour P m b ≡ false)
          → (((D.supervisor_at b).state ≡ (D.supervisor_at b).state) × (O.states b ≡ state_after P b (O.states b) turned.turn)) ⊎ Clear D.under_way b
      go (inl h) = inr (held_clear P D O I m b (all_held b h))
      go (inr h) = inl (refl, sym (far b h))

  sent_names : (s : ℕ) → neighbour P m s ≡ true → ReleaseNames P m s (event_for P s turned.turn)
  sent_names s n = record {
    neighbours = n;
    event = event_of_both_lem P A m (D.module_at m).received (D.module_at m).own turned.own s turned.turn (own_law.turn_law (D.module_at m).received);
  }

  sent_carries : (s : ℕ) → neighbour P m s ≡ true → state_after P s (O.states s) turned.turn ≡ applied P s (D.supervisor_at s).state (event_for P s turned.turn)
  sent_carries s n = ap (λ (y : ℕ). state_after P s y turned.turn) (held_stands P D O I m s (all_held s n)) ∙ applied_is P s (D.supervisor_at s).state turned.turn

  turn_module : ModuleLaw P (states_of D) m (after_turn P m (D.module_at m))
  unfolding after_turn
  turn_module = record {
    neighbours = λ s h. clash h (bit_none s);
    lowest = λ s t h l n. clash h (bit_none s);
    bid_lowest = λ s e. never s ((I.modules m).bid_lowest s e);
    received_all = λ s e h g. clash h (bit_none s);
    received_only = λ e h. clash h (bit_none e);
    none_received = λ e. refl;
    fits = λ l. own_law.turn_fits (D.module_at m).received;
  }
    where
      never : (s : ℕ) → missing P m (D.module_at m).held ≡ Some s → missing P m 0 ≡ Some s
      never s e = let z : ◌≡◌ {A = ℕ} 0 1 = cc in absurd (omega arith)

  pub turn_keeps : Inv P (after_module_step P D m takes_turn) (device_step P O (device_turns m))
  unfolding after_module_step device_step after_turn
  turn_keeps = rw (← turn_agrees) (
      let v : ModuleState = after_turn P m (D.module_at m) in
      let z : ℕ → ℕ = λ b. state_after P b (O.states b) turned.turn in
      record {
        owns = owns_kept D.module_at O.owns m v I.owns;
        pairs = update_each (λ a x. (b : ℕ) → PairLaw (D.under_way ++ sent) a b x (D.supervisor_at b)) D.module_at m v turn_at turn_elsewhere;
        modules = update_each (λ a x. ModuleLaw P (states_of D) a x) D.module_at m v turn_module (λ a q. I.modules a);
        supervisors = I.supervisors;
        names = All-append I.names (releases_all P m turned.turn (Names P) sent_names P.supervisors);
        carries = All-append (carried_still P (states_of D) O.states (states_of D) z D.under_way turn_unmoved I.carries)
            (releases_all P m turned.turn (Carries P (states_of D) z) sent_carries P.supervisors);
        stands = turn_stands;
      })
