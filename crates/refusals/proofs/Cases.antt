-- The cases of every call: taken, refused at offset 0, refused as the check says, and a reply of the own part.
use Rattle.std.specs.Prelude.{Result, Ok, Err, ⊤}
use Rattle.refusal.specs.Refusal.{refusal, refused_number}
use Rattle.refusal.proofs.Laws.{reads_off}
use Rattle.refusal.specs.declared.Refusal.{Refusal}
use Prim.Native.Nat.{ℕ, ◌≤◌}
use native.Mathlib.Omega.{arith}
use mathlib.Core.Path.{◌≡◌, refl, ap, ◌∙◌, subst}
use mathlib.Core.List.{List}
use mathlib.Core.Bool.{Bool, true, false, cond}
use lib.ListN.{length, drop, length-append, length-drop}
use lib.Seq.{drop_at}
use Rattle.words.specs.Word.{written}
use Rattle.modules.specs.Numbers.{reply_number}
use Rattle.modules.specs.Procedure.{called_by}
use Rattle.modules.specs.declared.Own.{Own}
use Rattle.refusals.specs.Table.{CallKind, Gives}
use Rattle.refusals.specs.Refusals.{OffsetRight, Answer, Unchanged, Lent, CallAnswer, Call}

-- what holds of both answers of a test
pub either : {A : Type 0} (P : A → Type 0) (b : Bool) {x y : A} → P x → P y → P (cond b x y)
either P true p q = p
either P false p q = q

-- what no constructor equals: `cc` finds the 0 ≡ 1 in such an equation
pub never : ◌≡◌ {A = ℕ} 0 1 → ⊥
never e = omega arith

-- ---- answers

pub at_zero : (n : ℕ) → OffsetRight n 0
at_zero n = record { long = λ e. refl; call = λ h. refl }

module _ (c : CallKind) {X : Type 0} where
  pub accepts : (x : X) → Answer {X = X} c (Ok x)
  accepts x =
      record {
        numbered = λ e q. absurd (never (cc));
        offset_right = at_zero 0;
        number_is = λ e q. absurd (never (cc));
        offset_is = λ e q. absurd (never (cc));
        accepted = λ h. reads_off.accepted (Ok x) x refl;
      }

  pub refuses : (e : Refusal) → Gives c e.number → OffsetRight e.number e.offset → Answer {X = X} c (Err e)
  refuses e t p =
      record {
        numbered = λ f q. subst (λ (a : Result X Refusal). Gives c (refused_number a)) q t;
        offset_right = p;
        number_is = reads_off.number_is (Err e);
        offset_is = reads_off.offset_is (Err e);
        accepted = λ h. absurd (h e refl);
      }

-- ---- states and buffers

pub taken : {A : Type 0} (x y : A) → Unchanged 0 x y
taken x y t = absurd (t refl)

pub same : {A : Type 0} (n : ℕ) (x : A) → Unchanged n x x
same n x t = refl

pub untouched : (n : ℕ) (b : List ℕ) → Lent n 0 b b
untouched n b = record { untouched = same n b; nothing = λ t. refl; rest = refl; size = refl }

-- the bytes a, which are k, written from the buffer's start
pub put : (k : ℕ) (a b : List ℕ) → length a ≡ k → k ≤ length b → Lent 0 k b (written a b)
put k a b e h =
    record {
      untouched = taken b _;
      nothing = λ t. absurd (t refl);
      rest = drop_at a (drop (length a) b) k e ∙ ap (λ (j : ℕ). drop j b) e;
      size = simp (length-append, length-drop) (omega arith);
    }

-- ---- a call without a buffer

pub done : (c : CallKind) → CallAnswer c (Ok tt)
done c = accepts c tt

pub call_refused : (c : CallKind) (n o : ℕ) → Gives c n → OffsetRight n o → CallAnswer c (Err (refusal n o))
call_refused c n o = refuses c (refusal n o)

module _ (c : CallKind) {A : Type 0} (x : A) where
  pub takes : (y : A) → Call c x (Ok tt) y
  takes y = record { answer = done c; state = taken x y }

  pub turns_down : (n o : ℕ) → Gives c n → OffsetRight n o → Call c x (Err (refusal n o)) x
  turns_down n o t p = record { answer = call_refused c n o t p; state = same n x }

  pub refused : (n : ℕ) → Gives c n → Call c x (Err (refusal n 0)) x
  refused n t = turns_down n 0 t (at_zero n)

  -- a reply that is refused gives back the own part, and with it the whole state
  pub replied : (with_own : Own → A) (before after : Own) (r : Result ⊤ ℕ) → with_own before ≡ x
      → ((n : ℕ) → r ≡ Err n → Gives c n) → Unchanged (reply_number r) before after → Call c x (called_by r) (with_own after)
  unfolding called_by
  replied with_own before after (Ok u) e t k = takes (with_own after)
  replied with_own before after (Err n) e t k = record { answer = call_refused c n 0 (t n refl) (at_zero n); state = λ d. ap with_own (k d) ∙ e }
