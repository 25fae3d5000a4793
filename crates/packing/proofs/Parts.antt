-- `Unpacked` of specs/Parts.antt.
use native.Mathlib.Omega.{arith}
use Rattle.packing.specs.Answer.{packed}
use Rattle.packing.specs.Parts.{Unpacked}

pub unpacked : Unpacked
unfolding packed
unpacked n d v s a b c =
    record {
      number = omega arith;
      did = omega arith;
      value = omega arith;
      other = omega arith;
      size = omega arith;
    }
