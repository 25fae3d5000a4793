-- What is read off an answer is what it holds.
use mathlib.Core.Path.{ap}
use Rattle.refusal.specs.Refusal.{refused_number, refused_offset, written_length, ReadsOff, LengthReadOff}

pub reads_off : {X : Type 0} → ReadsOff X
reads_off = record {
  number_is = λ a e p. ap refused_number p;
  offset_is = λ a e p. ap refused_offset p;
  accepted = λ a x p. (ap refused_number p, ap refused_offset p);
}

pub length_read_off : LengthReadOff
length_read_off a n p = ap written_length p
