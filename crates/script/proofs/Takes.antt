-- A line of a listing of any length, taken byte by byte: a good line has at most 9 bytes.
use mathlib.Core.Path.{◌≡◌, refl, sym, ap}
use mathlib.Core.List.{List}
use mathlib.Core.Bool.{Bool, true, false, cond}
use Prim.Native.Nat.{ℕ, ◌+◌, ◌<◌}
use native.Mathlib.Omega.{arith}
use lib.ListN.{length, take, drop, length-drop}
use Rattle.lines.specs.Number.{number_of, space_in, starts}
use Rattle.lines.proofs.Spaces.{around}
use Rattle.lines.proofs.Numbers.{byte_long}
use Rattle.lines.proofs.Takes.{whole_lines}
use Rattle.script.specs.declared.Line.{Line}
use Rattle.script.specs.declared.Line.TheVariants.{Misshapen}
use Rattle.script.specs.Line.{turn_by, pair_of, line_of, LineTaken}
use Rattle.script.proofs.Lines.{nothing_right}

pub pair_long : (bs : List ℕ) → 7 < length bs → pair_of bs ≡ Misshapen
unfolding pair_of
pair_long bs h = around bs 3 h (λ e. rw e) (λ l. rw (byte_long (drop (space_in bs + 1) bs) l) (sym (nothing_right (number_of (take (space_in bs) bs)))))

line_long : (bs : List ℕ) → 9 < length bs → line_of bs ≡ Misshapen
unfolding line_of
line_long bs h = go (starts 116 bs) (starts 114 bs)
  where
    long : 7 < length (drop 2 bs)
    long = simp length-drop (omega arith)

    go : (t r : Bool) → cond t (turn_by (number_of (drop 2 bs))) (cond r (pair_of (drop 2 bs)) Misshapen) ≡ Misshapen
    go true r = ap turn_by (byte_long (drop 2 bs) (let l : 7 < length (drop 2 bs) = long in omega arith))
    go false true = pair_long (drop 2 bs) long
    go false false = refl

pub line_taken : LineTaken
line_taken = whole_lines Line line_of Misshapen (λ bs h. line_long bs (omega arith))
