-- What a turn and a wish answer, from what the code is told.
use Rattle.std.specs.Prelude.{Option, Some, None, is_some}
use Prim.Native.Nat.{ℕ, min, ◌+◌, ◌-◌, ◌^◌, ◌≤◌, ◌<◌}
use native.Mathlib.Numerals.{add-one}
use native.Mathlib.Omega.{arith}
use mathlib.Core.Path.{◌≡◌, refl, sym, ap, ap₂, ◌∙◌}
use mathlib.Core.List.{List}
use mathlib.Core.Bool.{Bool, true, false, cond, not, ◌&&◌, ◌||◌, true≢false, false≢true}
use lib.ListN.{length, get_or, take, length-take}
use lib.Bits.{bit_and}
use lib.Pow.{pow_pos}
use lib.Dec.{eqb}
use borrow.Author.Tests.{lt-ltb, eq-eqb, ne_eqb, eqb-true}
use Rattle.bits.specs.Bit.{bit, least, or_else, some_below, mask_of}
use Rattle.bits.proofs.Laws.{bit_and_lem, bit_not, bit_none, bit_ext}
use Rattle.bits.proofs.Least.{least_none, least_some, least_of, least_absent, least_same, some_least}
use Rattle.bits.proofs.Mask.{mask_bit, mask_small}
use Rattle.records.specs.declared.Record.{Record}
use Rattle.places.specs.Places.{moves_of}
use Rattle.plan.specs.Plan.{module_move, has_command, commands, commands_among}
use Rattle.masks.proofs.Events.{move_bit, commands_of}
use Rattle.modules.specs.declared.Own.{Own}
use Rattle.modules.specs.declared.Procedure.{Procedure}
use Rattle.modules.specs.declared.Turned.{Turned}
use Rattle.modules.specs.Queue.{queue_of, response_at, with_queue, without}
use Rattle.modules.specs.Procedure.{arrive_at}
use Rattle.modules.specs.Turn.{moved, has_move, first_usable, by_response, by_command, by_choice, enabled, chosen, turn_on, turn_of, wish}
use Rattle.turns.specs.Usable.{is_usable, first_among}

abbrev did : Option ℕ → Own → Turned
did t own = record { turn = t; own = own }

-- ---- the first usable response

-- none of no responses
pub none_yet : (moves : ℕ) (q : List ℕ) (n : ℕ) → least (is_usable moves (take n q)) 0 ≡ None
unfolding least
none_yet moves q n = refl

module _ (moves : ℕ) (q : List ℕ) (n : ℕ) (e : length q ≡ 8) (i : ℕ) (u : least (is_usable moves (take n q)) i ≡ None) where
  abbrev p : ℕ → Bool
  p = is_usable moves (take n q)

  count : length (take n q) ≡ min n 8
  count = omega (arith, length-take n q)

  -- past the last one none is left
  none_left : min n 8 ≤ i → None ≡ first_among moves (take n q)
  none_left h = sym (least_absent p (length (take n q)) (λ j l. least_none p i u j (omega (arith, count))))

  pub past_responses : n ≤ i → None ≡ first_among moves (take n q)
  past_responses h = none_left (omega arith)

  pub past_cells : 8 ≤ i → None ≡ first_among moves (take n q)
  past_cells h = none_left (omega arith)

  module _ {w x : ℕ} {b : Bool} (h : i < n) (g : i < 8) (k : w ≡ i) (c : x ≡ get_or (take n q) w 0) (t : b ≡ bit moves x) where
    here : b ≡ p i
    unfolding is_usable
    here = t ∙ ap (bit moves) (c ∙ ap (λ (j : ℕ). get_or (take n q) j 0) k)

    pub first_found : b ≡ true → (Some i) ≡ first_among moves (take n q)
    first_found f =
        sym (least_of p (length (take n q)) i (record { below = omega (arith, count); passes = sym here ∙ f; first = least_none p i u }))

    pub not_this : b ≡ false → least (is_usable moves (take n q)) (i + 1) ≡ None
    unfolding least or_else
    not_this f = ap (least p) (add-one i) ∙ ap₂ (λ (o : Option ℕ) (c : Bool). or_else o c i) u (sym here ∙ f)

-- the moves' bits say by which responses the module has a move
usable_is : (rs : List Record) (m : ℕ) (own : Own) {moves : ℕ} → moves ≡ moves_of rs m own.state → (y z : Option ℕ) → y ≡ first_among moves (queue_of own) → y ≡ z
    → first_usable rs m own ≡ z
unfolding first_usable has_move is_usable
usable_is rs m own f y z l q =
    sym (least_same (is_usable _ (queue_of own)) (λ i. has_move rs m own.state (response_at own i)) (length (queue_of own))
    (λ i l. ap (λ (x : ℕ). bit x (response_at own i)) f ∙ move_bit rs m own.state (response_at own i)))
    ∙ sym l ∙ q

-- ---- a response

module _ (rs : List Record) (m : ℕ) (own : Own) (i : ℕ) {w e : ℕ} (p : w ≡ i) (a : e ≡ response_at own w) (y : Option ℕ) (q : y ≡ module_move rs m own.state e) where
  is : e ≡ response_at own i
  is = a ∙ ap (response_at own) p

  leads : (z : Option ℕ) → y ≡ z → z ≡ module_move rs m own.state (response_at own i)
  leads z h = sym (h) ∙ q ∙ ap (module_move rs m own.state) is

  pub no_move : y ≡ None → did None own ≡ by_response own i (module_move rs m own.state (response_at own i))
  unfolding by_response
  no_move h = ap (by_response own i) (leads None h)

  pub responded : {t : ℕ} {next : Own} → y ≡ Some t → next ≡ with_queue own (without i (queue_of own))
      → did (Some e) (moved next t next.procedure) ≡ by_response own i (module_move rs m own.state (response_at own i))
  unfolding by_response
  responded {t} h g = ap₂ (λ (x : ℕ) (n : Own). did (Some x) (moved n t n.procedure)) is g ∙ ap (by_response own i) (leads (Some t) h)

-- ---- a command

-- the lowest bit of the commands without the mask's is the event chosen
lowest_chosen : (rs : List Record) (m k : ℕ) (own : Own) → k < 2 ^ 64 → least (bit (bit_and (commands rs m own.state) (2 ^ 64 - 1 - k))) 64 ≡ chosen rs m k own
unfolding enabled chosen
lowest_chosen rs m k own h =
    least_same _ (enabled rs m k own.state) 64
    (λ j l. bit_and_lem (commands rs m own.state) (2 ^ 64 - 1 - k) j
    ∙ ap₂ ◌&&◌ (mask_bit (has_command rs m own.state) 64 j ∙ ap (λ (b : Bool). b && has_command rs m own.state j) (lt-ltb j 64 l)) (bit_not 64 k j h l))

module _ (rs : List Record) (m k : ℕ) (own : Own) (h : k < 2 ^ 64) {moves x : ℕ} (f : moves ≡ moves_of rs m own.state) (c : x ≡ commands_among rs moves) (y : Option ℕ) (l : y ≡ least (bit (bit_and x (2 ^ 64 - 1 - k))) 64) where
  choice : y ≡ chosen rs m k own
  choice = l ∙ ap (λ (z : ℕ). least (bit (bit_and z (2 ^ 64 - 1 - k))) 64) (c ∙ commands_of rs m own.state f) ∙ lowest_chosen rs m k own h

  pub chose_none : y ≡ None → did None own ≡ by_choice rs m own (chosen rs m k own)
  unfolding by_choice
  chose_none q = ap (by_choice rs m own) (sym (q) ∙ choice)

  module _ {e : ℕ} (q : y ≡ Some e) (z : Option ℕ) (s : z ≡ module_move rs m own.state e) where
    commanded : by_command rs own e z ≡ by_choice rs m own (chosen rs m k own)
    unfolding by_choice
    commanded = ap (by_command rs own e) s ∙ ap (by_choice rs m own) (sym (q) ∙ choice)

    pub chose_stuck : z ≡ None → did None own ≡ by_choice rs m own (chosen rs m k own)
    unfolding by_command
    chose_stuck g = ap (λ (u : Option ℕ). by_command rs own e u) (sym g) ∙ commanded

    pub chose : {t : ℕ} {p : Procedure} → z ≡ Some t → p ≡ arrive_at rs e 0 → did (Some e) (moved own t p) ≡ by_choice rs m own (chosen rs m k own)
    unfolding by_command
    chose {t} g a = ap (λ (p : Procedure). did (Some e) (moved own t p)) a ∙ ap (λ (u : Option ℕ). by_command rs own e u) (sym g) ∙ commanded

-- ---- a turn

both_true : (a b : Bool) → (a && b) ≡ true → (a ≡ true) × (b ≡ true)
both_true true b h = (refl, h)
both_true false b h = absurd (false≢true h)

-- with nothing queued no response is usable
unqueued : (rs : List Record) (m : ℕ) (own : Own) → own.length ≡ 0 → first_usable rs m own ≡ None
unfolding first_usable least
unqueued rs m own h = ap (λ (n : ℕ). least (λ i. has_move rs m own.state (get_or (take n own.queue) i 0)) (length (take n own.queue))) h

module _ (rs : List Record) (m k : ℕ) (own : Own) where
  module _ (u : first_usable rs m own ≡ None) where
    otherwise : cond own.procedure.running (did None own) (by_choice rs m own (chosen rs m k own)) ≡ turn_of rs m k own
    unfolding turn_of turn_on
    otherwise = ap (turn_on rs m k own) (sym u)

    runs_on : own.procedure.running ≡ true → did None own ≡ turn_of rs m k own
    runs_on q = ap (λ (b : Bool). cond b (did None own) (by_choice rs m own (chosen rs m k own))) (sym q) ∙ otherwise

  pub turn_stands : (eqb own.length 0 && own.procedure.running) ≡ true → did None own ≡ turn_of rs m k own
  turn_stands h = let t = both_true _ _ h in runs_on (unqueued rs m own (eqb-true own.length 0 t.0)) t.1

  module _ {moves : ℕ} (f : moves ≡ moves_of rs m own.state) (y : Option ℕ) (l : y ≡ first_among moves (queue_of own)) where
    pub turn_responds : {r : Turned} {i : ℕ} → y ≡ Some i → r ≡ by_response own i (module_move rs m own.state (response_at own i)) → r ≡ turn_of rs m k own
    unfolding turn_of turn_on
    turn_responds {r} {i} q p = p ∙ ap (turn_on rs m k own) (sym (usable_is rs m own f y (Some i) l q))

    module _ (q : y ≡ None) where
      pub turn_runs : own.procedure.running ≡ true → did None own ≡ turn_of rs m k own
      turn_runs = runs_on (usable_is rs m own f y None l q)

      pub turn_chooses : {r : Turned} → own.procedure.running ≡ false → r ≡ by_choice rs m own (chosen rs m k own) → r ≡ turn_of rs m k own
      turn_chooses g p =
          p ∙ ap (λ (b : Bool). cond b (did None own) (by_choice rs m own (chosen rs m k own))) (sym g) ∙ otherwise (usable_is rs m own f y None l q)

-- ---- a wish

-- a mask of numbers that pass is not 0 where one passes
mask_any : (p : ℕ → Bool) (n : ℕ) → not (eqb (mask_of p n) 0) ≡ some_below p n
mask_any p n = go (least p n) refl ∙ sym (some_least p n)
  where
    go : (o : Option ℕ) → least p n ≡ o → not (eqb (mask_of p n) 0) ≡ is_some (least p n)
    go None s =
        ap not (eq-eqb (mask_of p n) 0 (bit_ext n (mask_of p n) 0 (mask_small p n n (omega arith)) (pow_pos n)
        (λ e l. mask_bit p n e ∙ ap₂ ◌&&◌ (lt-ltb e n l) (least_none p n s e l) ∙ sym (bit_none e))))
        ∙ sym (ap is_some s)
    go (Some i) s =
        let l = least_some p n i s in
        ap not (ne_eqb (mask_of p n) 0 (λ z. true≢false (sym (mask_bit p n i ∙ ap₂ ◌&&◌ (lt-ltb i n l.below) l.passes) ∙ ap (λ (y : ℕ). bit y i) z ∙ bit_none i)))
        ∙ sym (ap is_some s)

module _ (rs : List Record) (m : ℕ) (own : Own) where
  module _ (u : first_usable rs m own ≡ None) where
    idle_wish : (not own.procedure.running && some_below (has_command rs m own.state) 64) ≡ wish rs m own
    unfolding wish
    idle_wish = ap (λ (o : Option ℕ). is_some o || (not own.procedure.running && some_below (has_command rs m own.state) 64)) (sym u)

    no_wish : own.procedure.running ≡ true → false ≡ wish rs m own
    no_wish q = ap (λ (b : Bool). not b && some_below (has_command rs m own.state) 64) (sym q) ∙ idle_wish

  pub wish_stands : (eqb own.length 0 && own.procedure.running) ≡ true → false ≡ wish rs m own
  wish_stands h = let t = both_true _ _ h in no_wish (unqueued rs m own (eqb-true own.length 0 t.0)) t.1

  module _ {moves : ℕ} (f : moves ≡ moves_of rs m own.state) (y : Option ℕ) (l : y ≡ first_among moves (queue_of own)) where
    pub wish_usable : {i : ℕ} → y ≡ Some i → true ≡ wish rs m own
    unfolding wish
    wish_usable {i} q = ap (λ (o : Option ℕ). is_some o || (not own.procedure.running && some_below (has_command rs m own.state) 64)) (sym (usable_is rs m own f y (Some i) l q))

    module _ (q : y ≡ None) where
      pub wish_runs : own.procedure.running ≡ true → false ≡ wish rs m own
      wish_runs = no_wish (usable_is rs m own f y None l q)

      pub wish_commands : {x : ℕ} → own.procedure.running ≡ false → x ≡ commands_among rs moves → not (eqb x 0) ≡ wish rs m own
      wish_commands g p =
          ap (λ (z : ℕ). not (eqb z 0)) (p ∙ commands_of rs m own.state f) ∙ mask_any (has_command rs m own.state) 64
          ∙ ap (λ (b : Bool). not b && some_below (has_command rs m own.state) 64) (sym g) ∙ idle_wish (usable_is rs m own f y None l q)
