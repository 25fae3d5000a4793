-- The invariant is kept by each call that sends or takes a message, and by responses and ticks.
use Rattle.std.specs.Prelude.{Option, Some, None, unwrap_or}
use Prim.Native.Nat.{ℕ, ◌<◌}
use native.Mathlib.Omega.{arith}
use mathlib.Core.Path.{◌≡◌, refl, sym, ap, ◌∙◌}
use mathlib.Core.Logic.{◌⊎◌, inl, inr}
use mathlib.Core.Bool.{true, false}
use mathlib.Core.List.{List, [], ◌∷◌, ◌++◌}
use lib.Bits.{bit_or}
use Rattle.bits.specs.Bit.{bit, put_bit}
use Rattle.bits.proofs.Laws.{bit_none, put_fits}
use Rattle.modules.specs.declared.Own.{Own}
use Rattle.protocol.specs.Generic.{update, is_number}
use Rattle.protocol.specs.Plan.{Plan, Laws}
use Rattle.protocol.specs.Rules.{OneDevice, neighbour, Message, bid, permit, release, ModuleState, lacks, missing, bids_to, after_bid, after_permit, take_permit, with_own, SupervisorState, after_sending, after_noting, take_bid, applied, after_release, take_release}
use Rattle.protocol.specs.System.{System, after_module_step, after_supervisor_step, after_message, after_own}
use Rattle.bits.proofs.Least.{Lowest}
use Rattle.protocol.proofs.Tools.{clash, eqb_self, digit, digit_false, one_at, one_at_most, one_at_some, update_each, count, count_one, nil, cons, All-append, Inserted, inserted_count, inserted_all}
use Rattle.protocol.proofs.Masks.{put_on, put_self, put_keep, put_cases, put_off, or_left, or_right, or_cases}
use Rattle.protocol.proofs.Neighbours.{neighbour_below, neighbour_module, lacks_parts, lacks_not, missing_some, missing_neighbour}
use Rattle.protocol.proofs.Invariant.{pair_module, pair_supervisor, pair_self, other_module, other_supervisor, bid_of, permit_of, release_of, PairLaw, ModuleLaw, SupervisorLaw, ReleaseNames, states_of, Inv, owns_kept, Clear, carried_still, module_still, noted_neighbour}

-- ---- a pair under a sent message, and under a delivered one, that is another pair's
module _ {w : List Message} {a b : ℕ} {x : ModuleState} {y : SupervisorState} (p : PairLaw w a b x y) where
  pair_add : (g : Message) → bid_of a b g ≡ 0 → permit_of a b g ≡ 0 → release_of a b g ≡ 0 → PairLaw (w ++ (g ∷ [])) a b x y
  pair_add g h i j = record {
    bids = omega (arith, count_one (bid_of a b) w g, count_one (permit_of a b) w g, p.bids);
    permits = omega (arith, count_one (permit_of a b) w g, count_one (release_of a b) w g, p.permits);
  }

  pair_drop : {g : Message} {r : List Message} → Inserted g w r → bid_of a b g ≡ 0 → permit_of a b g ≡ 0 → release_of a b g ≡ 0 → PairLaw r a b x y
  pair_drop t h i j = record {
    bids = omega (arith, inserted_count (bid_of a b) t, inserted_count (permit_of a b) t, p.bids);
    permits = omega (arith, inserted_count (permit_of a b) t, inserted_count (release_of a b) t, p.permits);
  }

-- the supervisors' states are kept by a change that keeps the one state
states_kept : (f : ℕ → SupervisorState) (s : ℕ) (v : SupervisorState) → v.state ≡ (f s).state → (b : ℕ) → (f b).state ≡ (update f s v b).state
states_kept f s v e = update_each (λ b y. (f b).state ≡ y.state) f s v (sym e) (λ b q. refl)

-- the numbers of neighbours are bits of a mask
module _ (P : Plan) (A : Laws P) (m s : ℕ) (n : neighbour P m s ≡ true) where
  module_bit : m < 64
  module_bit = omega (arith, neighbour_module P A m s n, A.few_modules)

  supervisor_bit : s < 64
  supervisor_bit = omega (arith, neighbour_below P A m s n, A.few_supervisors)

-- ---- a supervisor sends its permit
module _ (P : Plan) (A : Laws P) (D : System) (O : OneDevice) (I : Inv P D O) (s m : ℕ) (h : (D.supervisor_at s).holder ≡ None) (n : bit (D.supervisor_at s).noted m ≡ true) where
  abbrev shown_now : ℕ
  shown_now = P.shown s (D.supervisor_at s).state

  near : neighbour P m s ≡ true
  near = noted_neighbour P D O I m s n

  sending_at : (a : ℕ) → PairLaw (D.under_way ++ (permit s m shown_now ∷ [])) a s (D.module_at a) (after_sending (D.supervisor_at s) m)
  unfolding after_sending
  sending_at a =
      let g : Message = permit s m shown_now in
      let p : PairLaw D.under_way a s (D.module_at a) (D.supervisor_at s) = I.pairs a s in
      record {
        bids = omega (
          arith,
          count_one (bid_of a s) D.under_way g,
          count_one (permit_of a s) D.under_way g,
          pair_supervisor m s a,
          put_off (D.supervisor_at s).noted m a (I.supervisors s).noted_below (module_bit P A m s near) n,
          p.bids,
        );
        permits = omega (
          arith,
          count_one (permit_of a s) D.under_way g,
          count_one (release_of a s) D.under_way g,
          pair_supervisor m s a,
          ap (λ (o : Option ℕ). one_at o a) h,
          p.permits,
        );
      }

  sent_law : SupervisorLaw P s (after_sending (D.supervisor_at s) m)
  unfolding after_sending
  sent_law = record {
    noted_below = put_fits (D.supervisor_at s).noted m false (I.supervisors s).noted_below;
    last_below = omega (arith, neighbour_module P A m s near, A.few_modules);
    fits = (I.supervisors s).fits;
  }

  pub sending_keeps : Inv P (after_supervisor_step P D s (Some m)) O
  unfolding after_supervisor_step after_sending
  sending_keeps =
      let v : SupervisorState = after_sending (D.supervisor_at s) m in
      let w : List Message = D.under_way ++ (permit s m shown_now ∷ []) in
      let kept : (b : ℕ) → (D.supervisor_at b).state ≡ (update D.supervisor_at s v b).state = states_kept D.supervisor_at s v refl in
      record {
        owns = I.owns;
        pairs = λ a. update_each (λ b y. PairLaw w a b (D.module_at a) y) D.supervisor_at s v (sending_at a)
            (λ b q. pair_add (I.pairs a b) (permit s m shown_now) refl (other_supervisor m s a b q) refl);
        modules = λ a. module_still P (states_of D) (λ b. (update D.supervisor_at s v b).state) a (D.module_at a) (λ b z. kept b) (I.modules a);
        supervisors = update_each (λ b y. SupervisorLaw P b y) D.supervisor_at s v sent_law (λ b q. I.supervisors b);
        names = All-append I.names (cons near nil);
        carries = All-append (carried_still P (states_of D) O.states (λ b. (update D.supervisor_at s v b).state) O.states D.under_way (λ b. inl (kept b, refl)) I.carries)
            (cons (ap (P.shown s) (kept s)) nil);
        stands = λ b z. I.stands b (λ a. omega (arith, z a, count_one (release_of a b) D.under_way (permit s m shown_now))) ∙ kept b;
      }

-- ---- a module bids
module _ (P : Plan) (D : System) (O : OneDevice) (I : Inv P D O) (m s : ℕ) (h : (D.module_at m).outstanding ≡ None) (e : missing P m (D.module_at m).held ≡ Some s) where
  bidding_at : (b : ℕ) → PairLaw (D.under_way ++ (bid m s ∷ [])) m b (after_bid (D.module_at m) s) (D.supervisor_at b)
  unfolding after_bid
  bidding_at b =
      let g : Message = bid m s in
      let p : PairLaw D.under_way m b (D.module_at m) (D.supervisor_at b) = I.pairs m b in
      record {
        bids = omega (arith, count_one (bid_of m b) D.under_way g, count_one (permit_of m b) D.under_way g, pair_module m s b, ap (λ (o : Option ℕ). one_at o b) h, p.bids);
        permits = omega (arith, count_one (permit_of m b) D.under_way g, count_one (release_of m b) D.under_way g, p.permits);
      }

  bidding_law : ModuleLaw P (states_of D) m (after_bid (D.module_at m) s)
  unfolding after_bid
  bidding_law =
      let l : ModuleLaw P (states_of D) m (D.module_at m) = I.modules m in
      record {
        neighbours = l.neighbours;
        lowest = l.lowest;
        bid_lowest = λ t q. e ∙ q;
        received_all = l.received_all;
        received_only = l.received_only;
        none_received = l.none_received;
        fits = l.fits;
      }

  pub bidding_keeps : Inv P (after_module_step P D m (bids_to s)) O
  unfolding after_module_step after_bid
  bidding_keeps =
      let v : ModuleState = after_bid (D.module_at m) s in
      let w : List Message = D.under_way ++ (bid m s ∷ []) in
      record {
        owns = update_each (λ a x. x.own ≡ O.owns a) D.module_at m v (I.owns m) (λ a q. I.owns a);
        pairs = update_each (λ a x. (b : ℕ) → PairLaw w a b x (D.supervisor_at b)) D.module_at m v bidding_at
            (λ a q b. pair_add (I.pairs a b) (bid m s) (other_module m s a b q) refl refl);
        modules = update_each (λ a x. ModuleLaw P (states_of D) a x) D.module_at m v bidding_law (λ a q. I.modules a);
        supervisors = I.supervisors;
        names = All-append I.names (cons (missing_neighbour P m (D.module_at m).held s e) nil);
        carries = All-append I.carries (cons tt nil);
        stands = λ b z. I.stands b (λ a. omega (arith, z a, count_one (release_of a b) D.under_way (bid m s)));
      }

-- ---- a bid comes in
module _ (P : Plan) (A : Laws P) (D : System) (O : OneDevice) (I : Inv P D O) {m s : ℕ} {r : List Message} (t : Inserted (bid m s) D.under_way r) where
  pub bid_new : bit (D.supervisor_at s).noted m ≡ false
  bid_new = digit_false (bit (D.supervisor_at s).noted m)
      (omega (arith, (I.pairs m s).bids, inserted_count (bid_of m s) t, pair_self m s, one_at_most (D.module_at m).outstanding s))

  pub bid_taken : take_bid (D.supervisor_at s) m ≡ Some (after_noting (D.supervisor_at s) m)
  unfolding take_bid
  bid_taken = rw bid_new

  bid_bit : m < 64
  bid_bit = module_bit P A m s (inserted_all t I.names).0

  pub bid_noted : bit (after_noting (D.supervisor_at s) m).noted m ≡ true
  unfolding after_noting
  bid_noted = put_self (D.supervisor_at s).noted m bid_bit bid_new

  noting_at : (a : ℕ) → PairLaw r a s (D.module_at a) (after_noting (D.supervisor_at s) m)
  unfolding after_noting
  noting_at a = record {
    bids = omega (
      arith,
      (I.pairs a s).bids,
      inserted_count (bid_of a s) t,
      inserted_count (permit_of a s) t,
      pair_supervisor m s a,
      put_on (D.supervisor_at s).noted m a bid_bit bid_new,
    );
    permits = omega (arith, (I.pairs a s).permits, inserted_count (permit_of a s) t, inserted_count (release_of a s) t);
  }

  noted_law : SupervisorLaw P s (after_noting (D.supervisor_at s) m)
  unfolding after_noting
  noted_law = record {
    noted_below = put_fits (D.supervisor_at s).noted m true (I.supervisors s).noted_below;
    last_below = (I.supervisors s).last_below;
    fits = (I.supervisors s).fits;
  }

  pub bid_keeps : Inv P (after_message P D r (bid m s)) O
  unfolding after_message after_noting
  bid_keeps = rw bid_taken (
      let v : SupervisorState = after_noting (D.supervisor_at s) m in
      let kept : (b : ℕ) → (D.supervisor_at b).state ≡ (update D.supervisor_at s v b).state = states_kept D.supervisor_at s v refl in
      record {
        owns = I.owns;
        pairs = λ a. update_each (λ b y. PairLaw r a b (D.module_at a) y) D.supervisor_at s v (noting_at a)
            (λ b q. pair_drop (I.pairs a b) t (other_supervisor m s a b q) refl refl);
        modules = λ a. module_still P (states_of D) (λ b. (update D.supervisor_at s v b).state) a (D.module_at a) (λ b z. kept b) (I.modules a);
        supervisors = update_each (λ b y. SupervisorLaw P b y) D.supervisor_at s v noted_law (λ b q. I.supervisors b);
        names = (inserted_all t I.names).1;
        carries = carried_still P (states_of D) O.states (λ b. (update D.supervisor_at s v b).state) O.states r (λ b. inl (kept b, refl)) (inserted_all t I.carries).1;
        stands = λ b z. I.stands b (λ a. omega (arith, z a, inserted_count (release_of a b) t)) ∙ kept b;
      })

-- ---- a permit comes in
module _ (P : Plan) (A : Laws P) (D : System) (O : OneDevice) (I : Inv P D O) {s m k : ℕ} {r : List Message} (t : Inserted (permit s m k) D.under_way r) where
  pub permit_bid : (D.module_at m).outstanding ≡ Some s
  permit_bid = one_at_some (D.module_at m).outstanding s (omega (arith, (I.pairs m s).bids, inserted_count (permit_of m s) t, pair_self m s))

  permit_free : bit (D.module_at m).held s ≡ false
  permit_free = digit_false (bit (D.module_at m).held s)
      (omega (arith, (I.pairs m s).permits, inserted_count (permit_of m s) t, pair_self m s, one_at_most (D.supervisor_at s).holder m))

  pub permit_taken : take_permit (D.module_at m) s k ≡ Some (after_permit (D.module_at m) s k)
  unfolding take_permit is_number
  permit_taken = rw (permit_bid, eqb_self s)

  permit_mask : k ≡ P.shown s (D.supervisor_at s).state
  permit_mask = (inserted_all t I.carries).0

  permit_least : Lowest (lacks P m (D.module_at m).held) P.supervisors s
  permit_least = missing_some P m (D.module_at m).held s ((I.modules m).bid_lowest s permit_bid)

  permit_bit : s < 64
  permit_bit = supervisor_bit P A m s (inserted_all t I.names).0

  permit_at : (b : ℕ) → PairLaw r m b (after_permit (D.module_at m) s k) (D.supervisor_at b)
  unfolding after_permit
  permit_at b = record {
    bids = omega (arith, (I.pairs m b).bids, inserted_count (bid_of m b) t, inserted_count (permit_of m b) t, pair_module m s b, ap (λ (o : Option ℕ). one_at o b) permit_bid);
    permits = omega (
      arith,
      (I.pairs m b).permits,
      inserted_count (permit_of m b) t,
      inserted_count (release_of m b) t,
      pair_module m s b,
      put_on (D.module_at m).held s b permit_bit permit_free,
    );
  }

  permit_law : ModuleLaw P (states_of D) m (after_permit (D.module_at m) s k)
  unfolding after_permit
  permit_law = record {
    neighbours = λ b h. near b (cases b h);
    lowest = λ b c h l n. low b c (cases b h) l n;
    bid_lowest = λ b e. let z : ◌≡◌ {A = ℕ} 0 1 = cc in absurd (omega arith);
    received_all = λ b e h g. all b e (cases b h) g;
    received_only = λ e g. only e (or_cases (D.module_at m).received k e g);
    none_received = λ e. clash (put_self (D.module_at m).held s permit_bit permit_free) (ap (λ (h : ℕ). bit h s) e ∙ bit_none s);
    fits = (I.modules m).fits;
  }
    where
      cases : (b : ℕ) → bit (put_bit (D.module_at m).held s true) b ≡ true → (s ≡ b) ⊎ (bit (D.module_at m).held b ≡ true)
      cases b h = put_cases (D.module_at m).held s b permit_bit permit_free h

      keep : (b : ℕ) → bit (D.module_at m).held b ≡ true → bit (put_bit (D.module_at m).held s true) b ≡ true
      keep b h = put_keep (D.module_at m).held s b permit_bit permit_free h

      near : (b : ℕ) → (s ≡ b) ⊎ (bit (D.module_at m).held b ≡ true) → neighbour P m b ≡ true
      near b (inl e) = rw (← e) (lacks_parts P m (D.module_at m).held s permit_least.passes).0
      near b (inr h) = (I.modules m).neighbours b h

      low : (b c : ℕ) → (s ≡ b) ⊎ (bit (D.module_at m).held b ≡ true) → c < b → neighbour P m c ≡ true → bit (put_bit (D.module_at m).held s true) c ≡ true
      low b c (inl e) l n = keep c (lacks_not P m (D.module_at m).held c (permit_least.first c (omega arith)) n)
      low b c (inr h) l n = keep c ((I.modules m).lowest b c h l n)

      all : (b e : ℕ) → (s ≡ b) ⊎ (bit (D.module_at m).held b ≡ true) → bit (P.shown b (D.supervisor_at b).state) e ≡ true → bit (bit_or (D.module_at m).received k) e ≡ true
      all b e (inl q) g = or_right (D.module_at m).received k e (rw permit_mask (rw q g))
      all b e (inr h) g = or_left (D.module_at m).received k e ((I.modules m).received_all b e h g)

      only : (e : ℕ) → (bit (D.module_at m).received e ≡ true) ⊎ (bit k e ≡ true)
          → (b : ℕ) × (bit (put_bit (D.module_at m).held s true) b ≡ true) × (bit (P.shown b (D.supervisor_at b).state) e ≡ true)
      only e (inl g) = let q = (I.modules m).received_only e g in (q.0, keep q.0 q.1, q.2)
      only e (inr g) = (s, put_self (D.module_at m).held s permit_bit permit_free, rw (← permit_mask) g)

  pub permit_keeps : Inv P (after_message P D r (permit s m k)) O
  unfolding after_message after_permit
  permit_keeps = rw permit_taken (
      let v : ModuleState = after_permit (D.module_at m) s k in
      record {
        owns = update_each (λ a x. x.own ≡ O.owns a) D.module_at m v (I.owns m) (λ a q. I.owns a);
        pairs = update_each (λ a x. (b : ℕ) → PairLaw r a b x (D.supervisor_at b)) D.module_at m v permit_at
            (λ a q b. pair_drop (I.pairs a b) t refl (other_module m s a b q) refl);
        modules = update_each (λ a x. ModuleLaw P (states_of D) a x) D.module_at m v permit_law (λ a q. I.modules a);
        supervisors = I.supervisors;
        names = (inserted_all t I.names).1;
        carries = (inserted_all t I.carries).1;
        stands = λ b z. I.stands b (λ a. omega (arith, z a, inserted_count (release_of a b) t));
      })

-- ---- a release comes in
applied_fits : (P : Plan) → Laws P → (s x : ℕ) (v : Option ℕ) → P.supervisor_fits s x ≡ true → P.supervisor_fits s (applied P s x v) ≡ true
unfolding applied
applied_fits P A s x None h = h
applied_fits P A s x (Some e) h = go (P.supervisor_move s x e) refl
  where
    go : (o : Option ℕ) → P.supervisor_move s x e ≡ o → P.supervisor_fits s (unwrap_or o x) ≡ true
    go None q = h
    go (Some y) q = A.supervisor_moves s x e y q

module _ (P : Plan) (A : Laws P) (D : System) (O : OneDevice) (I : Inv P D O) {m s : ℕ} {v : Option ℕ} {r : List Message} (t : Inserted (release m s v) D.under_way r) where
  pub release_holder : (D.supervisor_at s).holder ≡ Some m
  release_holder = one_at_some (D.supervisor_at s).holder m (omega (arith, (I.pairs m s).permits, inserted_count (release_of m s) t, pair_self m s))

  pub release_names : ReleaseNames P m s v
  release_names = (inserted_all t I.names).0

  pub release_taken : take_release P s (D.supervisor_at s) m v ≡ Some (after_release P s (D.supervisor_at s) v)
  unfolding take_release is_number
  release_taken = rw (release_holder, eqb_self m, release_names.event)

  release_at : (a : ℕ) → PairLaw r a s (D.module_at a) (after_release P s (D.supervisor_at s) v)
  unfolding after_release
  release_at a = record {
    bids = omega (arith, (I.pairs a s).bids, inserted_count (bid_of a s) t, inserted_count (permit_of a s) t);
    permits = omega (
      arith,
      (I.pairs a s).permits,
      inserted_count (permit_of a s) t,
      inserted_count (release_of a s) t,
      pair_supervisor m s a,
      ap (λ (o : Option ℕ). one_at o a) release_holder,
    );
  }

  release_clear : Clear r s
  unfolding Clear after_release
  release_clear a = omega (arith, (release_at a).permits)

  release_unheld : (a : ℕ) → bit (D.module_at a).held s ≡ true → ⊥
  unfolding after_release
  release_unheld a h = omega (arith, (release_at a).permits, ap digit h)

  release_law : SupervisorLaw P s (after_release P s (D.supervisor_at s) v)
  unfolding after_release
  release_law = record {
    noted_below = (I.supervisors s).noted_below;
    last_below = (I.supervisors s).last_below;
    fits = λ l. applied_fits P A s (D.supervisor_at s).state v ((I.supervisors s).fits l);
  }

  pub release_keeps : Inv P (after_message P D r (release m s v)) O
  unfolding after_message after_release
  release_keeps = rw release_taken (
      let u : SupervisorState = after_release P s (D.supervisor_at s) v in
      record {
        owns = I.owns;
        pairs = λ a. update_each (λ b y. PairLaw r a b (D.module_at a) y) D.supervisor_at s u (release_at a)
            (λ b q. pair_drop (I.pairs a b) t refl refl (other_supervisor m s a b q));
        modules = λ a. module_still P (states_of D) (λ b. (update D.supervisor_at s u b).state) a (D.module_at a)
            (update_each (λ b y. bit (D.module_at a).held b ≡ true → (D.supervisor_at b).state ≡ y.state) D.supervisor_at s u (λ h. absurd (release_unheld a h)) (λ b q h. refl))
            (I.modules a);
        supervisors = update_each (λ b y. SupervisorLaw P b y) D.supervisor_at s u release_law (λ b q. I.supervisors b);
        names = (inserted_all t I.names).1;
        carries = carried_still P (states_of D) O.states (λ b. (update D.supervisor_at s u b).state) O.states r
            (update_each (λ b y. (((D.supervisor_at b).state ≡ y.state) × (O.states b ≡ O.states b)) ⊎ Clear r b) D.supervisor_at s u (inr release_clear) (λ b q. inl (refl, refl)))
            (inserted_all t I.carries).1;
        stands = update_each (λ b y. ((a : ℕ) → count (release_of a b) r ≡ 0) → O.states b ≡ y.state) D.supervisor_at s u (λ z. (inserted_all t I.carries).0)
            (λ b q z. I.stands b (λ a. omega (arith, z a, inserted_count (release_of a b) t, other_supervisor m s a b q)));
      })

-- ---- a response or a tick: both own parts change alike
pub own_keeps : (P : Plan) (D : System) (O : OneDevice) (m : ℕ) (o : Own) → Inv P D O → P.fits m o ≡ true
    → Inv P (after_own D m o) (record { owns = update O.owns m o; states = O.states })
unfolding after_own
own_keeps P D O m o I f =
    let v : ModuleState = with_own (D.module_at m) o in
    let l : ModuleLaw P (states_of D) m (D.module_at m) = I.modules m in
    record {
      owns = owns_kept D.module_at O.owns m v I.owns;
      pairs = update_each (λ a x. (b : ℕ) → PairLaw D.under_way a b x (D.supervisor_at b)) D.module_at m v
          (λ b. record { bids = (I.pairs m b).bids; permits = (I.pairs m b).permits })
          (λ a q b. I.pairs a b);
      modules = update_each (λ a x. ModuleLaw P (states_of D) a x) D.module_at m v
          (record {
            neighbours = l.neighbours;
            lowest = l.lowest;
            bid_lowest = l.bid_lowest;
            received_all = l.received_all;
            received_only = l.received_only;
            none_received = l.none_received;
            fits = λ h. f;
          })
          (λ a q. I.modules a);
      supervisors = I.supervisors;
      names = I.names;
      carries = I.carries;
      stands = I.stands;
    }
