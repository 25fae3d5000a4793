-- The calls' masks and messages say what the rules of permits say of the plan.
use Rattle.std.specs.Prelude.{Option, Some, None, is_some}
use mathlib.Core.Path.{◌≡◌, refl, sym, ap, ap₂, ◌∙◌}
use mathlib.Core.Bool.{Bool, true, false, cond, not, ◌&&◌, ◌||◌, and-false, true≢false}
use mathlib.Core.List.{List, [], ◌∷◌, ◌++◌, map, append-nil}
use Prim.Native.Nat.{ℕ, zero, suc, ◌+◌, ◌-◌, ◌≤◌, ◌<◌}
use native.Mathlib.Omega.{arith}
use lib.Dec.{eqb, ltb}
use lib.Pow.{pow_pos}
use borrow.Author.Tests.{lt-ltb, ltb-true, ltb-false, eq-eqb, ne_eqb}
use Rattle.bits.specs.Bit.{bit, least, some_below}
use Rattle.bits.proofs.Laws.{bit_ext, bit_none}
use Rattle.bits.proofs.Least.{least_none, least_some, least_same, least_more, some_least}
use Rattle.bits.proofs.Mask.{mask_bit, mask_small}
use Rattle.records.specs.declared.Record.{Record}
use Rattle.rules.specs.LookUp.{supervisors_of, events_of, owner_of}
use Rattle.plan.specs.Plan.{in_alphabet, neighbour, neighbours}
use Rattle.modules.specs.Turn.{wish}
use Rattle.messages.specs.Message.{no_event}
use Rattle.messages.specs.declared.Message.{Message}
use Rattle.messages.specs.declared.Message.TheVariants.{Bid, Permit, Release}
use Rattle.permits.specs.declared.Module.{Module}
use Rattle.permits.specs.Module as M
use Rattle.protocol.specs.Rules as R
use Rattle.agreement.specs.PlanOf.{plan_of}

-- a rule's message as a message of the calls
unfoldable pub event_byte : Option ℕ → ℕ
event_byte None = no_event
event_byte (Some e) = e

unfoldable pub message_of : R.Message → Message
message_of (R.bid m v) = Bid m v
message_of (R.permit v m k) = Permit v m k
message_of (R.release m v e) = Release m v (event_byte e)

-- a rule's choice as a choice of the calls
unfoldable pub choice_of : R.Choice → M.Choice
choice_of R.takes_turn = M.takes_turn
choice_of R.waits = M.waits
choice_of (R.bids_to v) = M.bids_to v

module _ (rs : List Record) (few : supervisors_of rs ≤ 32) (watched : (v e : ℕ) → in_alphabet rs v e ≡ true → v < supervisors_of rs) where
  pub neighbour_same : (m v : ℕ) → neighbour rs m v ≡ R.neighbour (plan_of rs) m v
  unfolding R.neighbour plan_of
  neighbour_same m v = some_least (λ e. eqb (owner_of rs e) m && in_alphabet rs v e) (events_of rs)

  -- a neighbour is a supervisor of the plan
  below : (m v : ℕ) → neighbour rs m v ≡ true → v < supervisors_of rs
  below m v h = go (events_of rs) h
    where
      go : (n : ℕ) → some_below (λ e. eqb (owner_of rs e) m && in_alphabet rs v e) n ≡ true → v < supervisors_of rs
      go zero h = unfold some_below in (let z : ◌≡◌ {A = ℕ} 0 1 = cc in absurd (omega arith))
      go (suc n) h = either (eqb (owner_of rs n) m) (in_alphabet rs v n) refl (unfold some_below in h) (go n)
        where
          either : (a b : Bool) → in_alphabet rs v n ≡ b → ((a && b) || some_below (λ e. eqb (owner_of rs e) m && in_alphabet rs v e) n) ≡ true → (some_below (λ e. eqb (owner_of rs e) m && in_alphabet rs v e) n ≡ true → v < supervisors_of rs) → v < supervisors_of rs
          either true true q t ih = watched v n q
          either true false q t ih = ih t
          either false b q t ih = ih t

  none_above : (m v : ℕ) → supervisors_of rs ≤ v → neighbour rs m v ≡ false
  none_above m v h = go (neighbour rs m v) refl
    where
      go : (b : Bool) → neighbour rs m v ≡ b → neighbour rs m v ≡ false
      go true q = let l : v < supervisors_of rs = below m v q in absurd (omega arith)
      go false q = q

  -- the neighbour mask's bits
  pub neighbour_bit : (m v : ℕ) → bit (neighbours rs m) v ≡ R.neighbour (plan_of rs) m v
  neighbour_bit m v = mask_bit (λ w. ltb w (supervisors_of rs) && neighbour rs m w) 32 v ∙ go (neighbour rs m v) refl ∙ neighbour_same m v
    where
      go : (b : Bool) → neighbour rs m v ≡ b → (ltb v 32 && (ltb v (supervisors_of rs) && neighbour rs m v)) ≡ neighbour rs m v
      go true q =
          let l : v < supervisors_of rs = below m v q in
          ap₂ (λ (a b : Bool). a && (b && neighbour rs m v)) (lt-ltb v 32 (omega arith)) (lt-ltb v (supervisors_of rs) l)
      go false q = ap (λ (b : Bool). ltb v 32 && (ltb v (supervisors_of rs) && b)) q ∙ ap (λ (b : Bool). ltb v 32 && b) (and-false (ltb v (supervisors_of rs))) ∙ and-false (ltb v 32) ∙ sym q

  pub neighbour_none : (m v : ℕ) → supervisors_of rs ≤ v → R.neighbour (plan_of rs) m v ≡ false
  neighbour_none m v h = sym (neighbour_same m v) ∙ none_above m v h

  pub missing_same : (m h : ℕ) → M.missing rs m h ≡ R.missing (plan_of rs) m h
  unfolding M.missing_in R.missing
  missing_same m h =
      least_same (λ v. bit (neighbours rs m) v && not (bit h v)) (R.lacks (plan_of rs) m h) 32 (λ v l. same v)
      ∙ ap (least (R.lacks (plan_of rs) m h)) (let e : 32 ≡ (32 - supervisors_of rs) + supervisors_of rs = omega arith in e)
      ∙ least_more (R.lacks (plan_of rs) m h) (supervisors_of rs) (32 - supervisors_of rs) above
      ∙ counted
    where
      same : (v : ℕ) → (bit (neighbours rs m) v && not (bit h v)) ≡ R.lacks (plan_of rs) m h v
      same v = unfold R.lacks in (ap (λ (b : Bool). b && not (bit h v)) (neighbour_bit m v))

      above : (v : ℕ) → supervisors_of rs ≤ v → R.lacks (plan_of rs) m h v ≡ false
      above v l = unfold R.lacks in (ap (λ (b : Bool). b && not (bit h v)) (neighbour_none m v l))

      counted : least (R.lacks (plan_of rs) m h) (supervisors_of rs) ≡ least (R.lacks (plan_of rs) m h) (plan_of rs).supervisors
      counted = unfold plan_of in refl

  -- a module has neighbours where its mask is not 0
  pub has_same : (m : ℕ) → not (eqb (neighbours rs m) 0) ≡ R.has_neighbour (plan_of rs) m
  unfolding R.has_neighbour
  has_same m = go (least (R.neighbour (plan_of rs) m) (supervisors_of rs)) refl ∙ counted
    where
      counted : is_some (least (R.neighbour (plan_of rs) m) (supervisors_of rs)) ≡ is_some (least (R.neighbour (plan_of rs) m) (plan_of rs).supervisors)
      counted = unfold plan_of in refl

      empty : least (R.neighbour (plan_of rs) m) (supervisors_of rs) ≡ None → neighbours rs m ≡ 0
      empty e =
          bit_ext 32 (neighbours rs m) 0 (mask_small (λ w. ltb w (supervisors_of rs) && neighbour rs m w) 32 32 (omega arith)) (pow_pos 32)
          (λ v l. neighbour_bit m v ∙ each v (ltb v (supervisors_of rs)) refl e ∙ sym (bit_none v))
        where
          each : (v : ℕ) (b : Bool) → ltb v (supervisors_of rs) ≡ b → least (R.neighbour (plan_of rs) m) (supervisors_of rs) ≡ None → R.neighbour (plan_of rs) m v ≡ false
          each v true q e = least_none (R.neighbour (plan_of rs) m) (supervisors_of rs) e v (ltb-true v (supervisors_of rs) q)
          each v false q e = neighbour_none m v (ltb-false v (supervisors_of rs) q)

      full : (v : ℕ) → least (R.neighbour (plan_of rs) m) (supervisors_of rs) ≡ Some v → neighbours rs m ≡ 0 → ⊥
      full v e z =
          let l = least_some (R.neighbour (plan_of rs) m) (supervisors_of rs) v e in
          let t : true ≡ false = sym l.passes ∙ sym (neighbour_bit m v) ∙ ap (λ (k : ℕ). bit k v) z ∙ bit_none v in
          true≢false t

      go : (o : Option ℕ) → least (R.neighbour (plan_of rs) m) (supervisors_of rs) ≡ o → not (eqb (neighbours rs m) 0) ≡ is_some (least (R.neighbour (plan_of rs) m) (supervisors_of rs))
      go None e = ap not (eq-eqb (neighbours rs m) 0 (empty e)) ∙ sym (ap is_some e)
      go (Some v) e = ap not (ne_eqb (neighbours rs m) 0 (full v e)) ∙ sym (ap is_some e)

  -- the choice of a module step
  pub choice_same : (m : ℕ) (x : Module) (y : R.ModuleState) → x.own ≡ y.own → x.held ≡ y.held → x.bid ≡ is_some y.outstanding
      → M.choice rs m x ≡ choice_of (R.choice (plan_of rs) m y)
  unfolding M.choice R.choice
  choice_same m x y o h b =
      args (missing_same m x.held ∙ ap (R.missing (plan_of rs) m) h) (has_same m) b (ap (λ (k : ℕ). not (eqb k 0)) h) (wished ∙ ap ((plan_of rs).wish m) o)
      ∙ choice_on_lem (R.missing (plan_of rs) m y.held) (R.has_neighbour (plan_of rs) m) y.outstanding (not (eqb y.held 0)) ((plan_of rs).wish m y.own)
    where
      wished : wish rs m x.own ≡ (plan_of rs).wish m x.own
      wished = unfold plan_of in refl

      args : {a a' : Option ℕ} {b b' c c' d d' e e' : Bool} → a ≡ a' → b ≡ b' → c ≡ c' → d ≡ d' → e ≡ e' → M.choice_on a b c d e ≡ M.choice_on a' b' c' d' e'
      args p q r s t = λ i. M.choice_on (p i) (q i) (r i) (s i) (t i)

      choice_on_lem : (a : Option ℕ) (n : Bool) (o : Option ℕ) (h w : Bool) → M.choice_on a n (is_some o) h w ≡ choice_of (R.choice_on a n o h w)
      choice_on_lem None true o h w = unfold M.choice_on R.choice_on choice_of in refl
      choice_on_lem None false o h true = unfold M.choice_on R.choice_on choice_of in refl
      choice_on_lem None false o h false = unfold M.choice_on R.choice_on choice_of in refl
      choice_on_lem (Some v) n (Some b) h w = unfold M.choice_on R.choice_on choice_of in refl
      choice_on_lem (Some v) n None true w = unfold M.choice_on R.choice_on choice_of in refl
      choice_on_lem (Some v) n None false true = unfold M.choice_on R.choice_on choice_of in refl
      choice_on_lem (Some v) n None false false = unfold M.choice_on R.choice_on choice_of in refl

  -- the releases of a turn
  event_same : (v : ℕ) (t : Option ℕ) → M.event_for rs v t ≡ event_byte (R.event_for (plan_of rs) v t)
  unfolding M.event_for R.event_for event_byte plan_of
  event_same v (Some e) = go (in_alphabet rs v e)
    where
      go : (b : Bool) → cond b e no_event ≡ event_byte (cond b (Some e) None)
      go true = unfold event_byte in refl
      go false = unfold event_byte in refl
  event_same v None = refl

  map_append : (f : R.Message → Message) (l r : List R.Message) → map f (l ++ r) ≡ map f l ++ map f r
  map_append f [] r = refl
  map_append f (a ∷ l) r = ap (λ (t : List Message). f a ∷ t) (map_append f l r)

  releases_to : (m : ℕ) (t : Option ℕ) (n : ℕ) → M.releases rs m t n ≡ map message_of (R.releases (plan_of rs) m t n)
  unfolding M.releases_in R.releases
  releases_to m t zero = refl
  releases_to m t (suc n) =
      ap₂ ◌++◌ (releases_to m t n) (ap₂ (λ (b : Bool) (e : ℕ). cond b (Release m n e ∷ []) []) (neighbour_bit m n) (event_same n t) ∙ go (R.neighbour (plan_of rs) m n))
      ∙ sym (map_append message_of (R.releases (plan_of rs) m t n) (cond (R.neighbour (plan_of rs) m n) (R.release m n (R.event_for (plan_of rs) n t) ∷ []) []))
    where
      go : (b : Bool) → cond b (Release m n (event_byte (R.event_for (plan_of rs) n t)) ∷ []) [] ≡ map message_of (cond b (R.release m n (R.event_for (plan_of rs) n t) ∷ []) [])
      go true = unfold message_of in refl
      go false = refl

  none_more : (m : ℕ) (t : Option ℕ) (k : ℕ) → R.releases (plan_of rs) m t (k + supervisors_of rs) ≡ R.releases (plan_of rs) m t (supervisors_of rs)
  none_more m t zero = ap (R.releases (plan_of rs) m t) (let e : 0 + supervisors_of rs ≡ supervisors_of rs = omega arith in e)
  none_more m t (suc k) =
      ap (R.releases (plan_of rs) m t) (let e : suc k + supervisors_of rs ≡ suc (k + supervisors_of rs) = omega arith in e) ∙ one ∙ none_more m t k
    where
      one : R.releases (plan_of rs) m t (suc (k + supervisors_of rs)) ≡ R.releases (plan_of rs) m t (k + supervisors_of rs)
      one = unfold R.releases in (
          ap (λ (b : Bool). R.releases (plan_of rs) m t (k + supervisors_of rs) ++ cond b (R.release m (k + supervisors_of rs) (R.event_for (plan_of rs) (k + supervisors_of rs) t) ∷ []) [])
          (neighbour_none m (k + supervisors_of rs) (omega arith))
          ∙ append-nil (R.releases (plan_of rs) m t (k + supervisors_of rs)))

  pub releases_same : (m : ℕ) (t : Option ℕ) → M.releases rs m t 32 ≡ map message_of (R.releases (plan_of rs) m t (plan_of rs).supervisors)
  releases_same m t =
      releases_to m t 32
      ∙ ap (map message_of) (ap (R.releases (plan_of rs) m t) (let e : 32 ≡ (32 - supervisors_of rs) + supervisors_of rs = omega arith in e) ∙ none_more m t (32 - supervisors_of rs) ∙ counted)
    where
      counted : R.releases (plan_of rs) m t (supervisors_of rs) ≡ R.releases (plan_of rs) m t (plan_of rs).supervisors
      counted = unfold plan_of in refl
