-- A line of a simulation of any length, taken byte by byte: a good line has at most 11 bytes.
use Rattle.std.specs.Prelude.{None}
use mathlib.Core.Path.{◌≡◌, refl, sym, ap}
use mathlib.Core.List.{List}
use mathlib.Core.Bool.{Bool, true, false, cond}
use Prim.Native.Nat.{ℕ, ◌+◌, ◌<◌}
use native.Mathlib.Omega.{arith}
use lib.ListN.{length, take, drop, length-drop}
use borrow.Author.Tests.{ne_eqb}
use Rattle.lines.specs.Number.{number_of, space_in, starts}
use Rattle.lines.specs.Partial.{Short}
use Rattle.lines.proofs.Numbers.{number_long, byte_long}
use Rattle.lines.proofs.Spaces.{around}
use Rattle.lines.proofs.Takes.{whole_lines}
use Rattle.script.specs.Line.{pair_of}
use Rattle.script.proofs.Takes.{pair_long}
use Rattle.acts.specs.declared.Act.{Act}
use Rattle.acts.specs.declared.Act.TheVariants.{Misshapen}
use Rattle.acts.specs.declared.Reading.TheVariants.{Misshapen as NoReading}
use Rattle.acts.specs.Act.{reading_by, reading_of, module_by, supervisor_by, delivery_by, response_by, tick_of, act_of, ActTaken}
use Rattle.acts.proofs.Lines.{no_reading}

reading_long : (bs : List ℕ) → 5 < length bs → reading_of bs ≡ NoReading
unfolding reading_of
reading_long bs h = simp (ne_eqb (length bs) 1 (λ e. omega arith)) (ap reading_by (number_long 65535 5 bs (omega arith) (omega arith) h))

tick_long : (bs : List ℕ) → 9 < length bs → tick_of bs ≡ Misshapen
unfolding tick_of
tick_long bs h = around bs 5 h (λ e. rw e) (λ l. rw (reading_long (drop (space_in bs + 1) bs) l) (sym (no_reading (number_of (take (space_in bs) bs)))))

act_long : Short act_of Misshapen
unfolding act_of
act_long bs h = go (starts 109 bs) (starts 115 bs) (starts 100 bs) (starts 114 bs) (starts 107 bs)
  where
    long : 9 < length (drop 2 bs)
    long = simp length-drop (omega arith)

    none : number_of (drop 2 bs) ≡ None
    none = byte_long (drop 2 bs) (let l : 9 < length (drop 2 bs) = long in omega arith)

    go : (m s d r k : Bool)
        → cond m (module_by (number_of (drop 2 bs))) (cond s (supervisor_by (number_of (drop 2 bs))) (cond d (delivery_by (number_of (drop 2 bs)))
        (cond r (response_by (pair_of (drop 2 bs))) (cond k (tick_of (drop 2 bs)) Misshapen)))) ≡ Misshapen
    go true s d r k = ap module_by none
    go false true d r k = ap supervisor_by none
    go false false true r k = ap delivery_by none
    go false false false true k = ap response_by (pair_long (drop 2 bs) (let l : 9 < length (drop 2 bs) = long in omega arith))
    go false false false false true = tick_long (drop 2 bs) long
    go false false false false false = refl

pub act_taken : ActTaken
act_taken = whole_lines Act act_of Misshapen act_long
