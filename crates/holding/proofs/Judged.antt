-- A call of an accepted plan: c for a module that the plan lacks, b for a state that does not fit, else a. The code has the count k of
-- modules and the test t of the state.
use mathlib.Core.Path.{◌≡◌, sym, ap, ◌∙◌}
use mathlib.Core.List.{List}
use mathlib.Core.Bool.{Bool, true, false, cond}
use Prim.Native.Nat.{ℕ, ◌≤◌, ◌<◌}
use native.Mathlib.Omega.{arith}
use lib.Dec.{ltb}
use borrow.Author.Tests.{lt-ltb, le-ltb}
use Rattle.records.specs.declared.Record.{Record}
use Rattle.rules.specs.LookUp.{modules_of}
use Rattle.plan.specs.Plan.{neighbours}
use Rattle.permits.specs.Module.{fits_in, module_fits}
use Rattle.permits.specs.declared.Module.{Module}

module _ {A : Type 0} (rs : List Record) (m : ℕ) (x : Module) (a b c : A) {k : ℕ} (e : k ≡ modules_of rs) where
  abbrev judged : A
  judged = cond (ltb m (modules_of rs)) (cond (module_fits rs m x) a b) c

  pub lacking : k ≤ m → c ≡ judged
  lacking l = let n : modules_of rs ≤ m = omega arith in simp (le-ltb m (modules_of rs) n)

  module _ {t : Bool} {adjacent : ℕ} (l : m < k) (n : adjacent ≡ neighbours rs m) (f : t ≡ fits_in rs m adjacent x) where
    told : module_fits rs m x ≡ t
    told = ap (λ (j : ℕ). fits_in rs m j x) (sym n) ∙ sym f

    pub unfit : t ≡ false → b ≡ judged
    unfit q = let o : m < modules_of rs = omega arith in simp (lt-ltb m (modules_of rs) o, told ∙ q)

    pub fit : t ≡ true → a ≡ judged
    fit q = let o : m < modules_of rs = omega arith in simp (lt-ltb m (modules_of rs) o, told ∙ q)
