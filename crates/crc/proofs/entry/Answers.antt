use mathlib.Core.Path.{◌≡◌, ap, ◌∙◌}
use mathlib.Core.Bool.{Bool}
use Prim.Native.Nat.{ℕ, ◌<◌}
use lib.Dec.{eqb, eqb→eq}
use lib.ListN.{get_or}
use Rattle.bits.specs.Bit.{all_below}
use Rattle.bits.proofs.Laws.{all_at}
use Rattle.crc.specs.declared.TheConstants.{TABLE}
use Rattle.crc.specs.Crc.{entry_of, shifted, shifts}
use Rattle.crc.proofs.entry.Goals as goal

right : ℕ → Bool
right b = eqb (get_or TABLE b 0) (entry_of b)

rule : (b : ℕ) → b < 256 → get_or TABLE b 0 ≡ entry_of b
unfolding right shifted shifts all_below
rule b h = eqb→eq (get_or TABLE b 0) (entry_of b) (all_at right 256 tt b h)

pub returns : goal.returns
returns c = ap (λ (i : ℕ). get_or TABLE i 0) c.from.ensures ∙ rule c.args.b c.ranges.b.fits
