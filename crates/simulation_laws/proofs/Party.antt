-- An array with one slot set is a function changed at one number; a call leaves a party that the plan lacks as it was.
use Rattle.std.specs.Prelude.{Option, Some, None, Result, Ok, ⊤}
use Rattle.refusal.specs.declared.Refusal.{Refusal}
use Rattle.messages.specs.declared.Message.{Message}
use Prim.Native.Nat.{ℕ, ◌+◌, ◌≤◌}
use native.Mathlib.Omega.{arith}
use mathlib.Core.Path.{◌≡◌, refl, sym, ap, ◌∙◌}
use mathlib.Core.Bool.{Bool, true, false, cond}
use mathlib.Core.List.{List}
use lib.ListN.{length, get_or, set, length-set, get_or-eq_default}
use lib.Seq.{get_or-set_same, get_or-set_other}
use lib.Dec.{ltb}
use borrow.Author.Tests.{le-ltb, ltb-true, ltb-false}
use Rattle.records.specs.declared.Record.{Record}
use Rattle.rules.specs.LookUp.{modules_of, supervisors_of}
use Rattle.modules.specs.declared.Replied.{Replied}
use Rattle.device_states.specs.States as States
use Rattle.device.specs.Device as Dev
use Rattle.words.specs.Lists.{list_from}
use Rattle.device_states.specs.declared.Device.{Device}
use Rattle.permits.specs.declared.Module.{Module}
use Rattle.permits.specs.declared.Supervisor.{Supervisor}
use Rattle.permits.specs.Module as M
use Rattle.permits.specs.Supervisor as S
use Rattle.protocol.specs.Generic.{update}
use Rattle.protocol.proofs.Tools.{update_each}
use Rattle.words.proofs.Lists.{from_at, from_length}

-- past the array's end the value must be the one that stands there already
pub set_update : {A : Type 0} (l : List A) (m : ℕ) (x d : A) → (length l ≤ m → x ≡ get_or l m d) → (j : ℕ) → get_or (set l m x) j d ≡ update (λ i. get_or l i d) m x j
set_update {A} l m x d h =
    update_each (λ j y. get_or (set l m x) j d ≡ y) (λ i. get_or l i d) m x (here (ltb m (length l)) refl) (λ j q. get_or-set_other l m j x d (λ e. q (sym e)))
  where
    here : (b : Bool) → ltb m (length l) ≡ b → get_or (set l m x) m d ≡ x
    here true q = get_or-set_same l m x d (ltb-true m (length l) q)
    here false q =
        let k : length l ≤ m = ltb-false m (length l) q in
        get_or-eq_default (set l m x) d (rw (length-set l m x) k) ∙ sym (h k ∙ get_or-eq_default l d k)

-- an array counted out of a function, which past the array's end must give the value that stands for what is not there
pub from_is : {A : Type 0} (f : ℕ → A) (n m : ℕ) (d : A) → (n ≤ m → f m ≡ d) → get_or (list_from f 0 n) m d ≡ f m
from_is f n m d h = go (ltb m n) refl
  where
    go : (b : Bool) → ltb m n ≡ b → get_or (list_from f 0 n) m d ≡ f m
    go true q = from_at f 0 n m d (ltb-true m n q) ∙ ap f (let e : 0 + m ≡ m = omega arith in e)
    go false q =
        let k : n ≤ m = ltb-false m n q in
        get_or-eq_default (list_from f 0 n) d (rw (from_length f 0 n) k) ∙ sym (h k)

module _ (rs : List Record) (w : Result ⊤ Refusal) (plan : w ≡ Ok tt) where
  pub module_none : (m : ℕ) → modules_of rs ≤ m → (M.start_by w rs m).state ≡ M.empty_module
  unfolding M.start_by
  module_none m l = rw (plan, le-ltb m (modules_of rs) l)

  pub supervisor_none : (v : ℕ) → supervisors_of rs ≤ v → (S.start_by w rs v).state ≡ S.empty_supervisor
  unfolding S.start_by
  supervisor_none v l = rw (plan, le-ltb v (supervisors_of rs) l)

  pub reply_stays : (m : ℕ) (x : Module) (r : Replied) → modules_of rs ≤ m → (M.reply_by w rs m x r).state ≡ x
  unfolding M.reply_by
  reply_stays m x r l = rw (plan, le-ltb m (modules_of rs) l)

  pub permit_stays : (m : ℕ) (x : Module) (g : Option Message) → modules_of rs ≤ m → (M.deliver_by w rs m x g).state ≡ x
  unfolding M.deliver_by M.absent
  permit_stays m x None l = rw (plan, le-ltb m (modules_of rs) l)
  permit_stays m x (Some g) l = rw (plan, le-ltb m (modules_of rs) l)

  pub message_stays : (v : ℕ) (y : Supervisor) (g : Option Message) → supervisors_of rs ≤ v → (S.deliver_by w rs v y g).state ≡ y
  unfolding S.deliver_by S.absent
  message_stays v y None l = rw (plan, le-ltb v (supervisors_of rs) l)
  message_stays v y (Some g) l = rw (plan, le-ltb v (supervisors_of rs) l)

  -- the one device, called for a module that the plan lacks
  pub device_stays : (d : Device) (m : ℕ) (r : Replied) → modules_of rs ≤ m → (Dev.reply_by w rs d m r).device ≡ d
  unfolding Dev.reply_by
  device_stays d m r l = rw (plan, le-ltb m (modules_of rs) l) (go (States.device_fits rs d))
    where
      go : (f : Bool) → (Dev.reply_in d m (cond f 11 9) r).device ≡ d
      go true = unfold Dev.reply_in in refl
      go false = unfold Dev.reply_in in refl
