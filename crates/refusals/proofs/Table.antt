-- The numbers of the table, by tests that compute over its lists.
use Prim.Native.Nat.{ℕ, ◌≤◌, ◌<◌}
use native.Mathlib.Omega.{arith}
use mathlib.Core.Path.{◌≡◌, refl, sym, ap₂, subst}
use mathlib.Core.Logic.{◌≢◌}
use mathlib.Core.List.{List, [], ◌∷◌, ◌++◌}
use mathlib.Core.Bool.{Bool, true, false, ◌&&◌, ◌||◌}
use lib.Dec.{eqb, ltb}
use borrow.Author.Tests.{eqb-true, ltb-true, le-ltb}
use Rattle.bits.specs.Bit.{all_below}
use Rattle.bits.proofs.Below.{one_fails}
use Rattle.fields.proofs.Back.{and_left, and_right}
use Rattle.refusals.specs.Table.{has, of_image, of_calls, of_requests, CallKind, check, write_record, rewrite, print_plan, find_stuck, count_words, device_start, turn, start, module_step, supervisor_step, deliver, respond, tick, own_respond, own_tick, numbers_of, Gives, Listed}

abbrev pub all : (ℕ → Bool) → List ℕ → Bool
all p [] = true
all p (k ∷ s) = p k && all p s

-- a test that holds of all numbers of a list holds of each
pub each : (p : ℕ → Bool) (s : List ℕ) → all p s ≡ true → (n : ℕ) → has s n ≡ true → p n ≡ true
each p [] h n e = let z : ◌≡◌ {A = ℕ} 0 1 = cc in absurd (omega arith)
each p (k ∷ s) h n e = go (eqb n k) refl e (each p s (and_right (p k) (all p s) h) n)
  where
    go : (b : Bool) → eqb n k ≡ b → (b || has s n) ≡ true → (has s n ≡ true → p n ≡ true) → p n ≡ true
    go true q e r = subst (λ (i : ℕ). p i ≡ true) (sym (eqb-true n k q)) (and_left (p k) (all p s) h)
    go false q e r = r e

-- the call c may give every number that the call b may
abbrev pub Within : CallKind → CallKind → Type 0
Within b c = all (has (numbers_of c)) (numbers_of b) ≡ true

pub passed : (b c : CallKind) → Within b c → (n : ℕ) → Gives b n → Gives c n
passed b c h = each (has (numbers_of c)) (numbers_of b) h

-- 1 to 8, looked through
pub of_image_lem : (n : ℕ) → 1 ≤ n → n ≤ 8 → Gives check n
unfolding all_below
of_image_lem n l u = go (has of_image n) refl
  where
    go : (b : Bool) → has of_image n ≡ b → b ≡ true
    go true e = refl
    go false e = one_fails (λ i. ltb i 1 || has of_image i) 9 n refl (ap₂ ◌||◌ (le-ltb n 1 l) e) (omega arith)

known : (c : CallKind) → all (has (of_image ++ (of_calls ++ of_requests))) (numbers_of c) ≡ true
known check = refl
known write_record = refl
known rewrite = refl
known print_plan = refl
known find_stuck = refl
known count_words = refl
known device_start = refl
known turn = refl
known start = refl
known module_step = refl
known supervisor_step = refl
known deliver = refl
known respond = refl
known tick = refl
known own_respond = refl
known own_tick = refl

pub listed : Listed
listed =
    record {
      known = λ c. each (has (of_image ++ (of_calls ++ of_requests))) (numbers_of c) (known c);
      not_0 = λ n t e. (let l = ltb-true 0 n (each (ltb 0) (of_image ++ (of_calls ++ of_requests)) refl n t) in omega arith);
      byte = λ n t. ltb-true n 256 (each (λ k. ltb k 256) (of_image ++ (of_calls ++ of_requests)) refl n t);
    }

pub is_refusal : (c : CallKind) (n : ℕ) → Gives c n → n ≢ 0
is_refusal c n t = listed.not_0 n (listed.known c n t)

pub is_byte : (c : CallKind) (n : ℕ) → Gives c n → n < 256
is_byte c n t = listed.byte n (listed.known c n t)
