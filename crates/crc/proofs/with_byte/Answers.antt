use mathlib.Core.Path.{sym, ap, ◌∙◌}
use Prim.Native.Nat.{ℕ, ◌/◌}
use lib.Bits.{bit_xor}
use Rattle.crc.specs.Crc.{crc_byte, shifts}
use Rattle.crc.proofs.Linear.{by_entry}
use Rattle.crc.proofs.with_byte.Goals as goal

pub returns : goal.returns
unfolding crc_byte
returns c =
    let x : ℕ = bit_xor c.args.c c.from.result in
    ap (bit_xor (x / 256)) c.entry.ensures ∙ sym (by_entry x) ∙ ap (λ (y : ℕ). shifts 8 (bit_xor c.args.c y)) c.from.ensures
