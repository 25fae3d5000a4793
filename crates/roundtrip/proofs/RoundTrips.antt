-- Records and their bytes are the same thing.
use Rattle.roundtrip.specs.RoundTrip.{RoundTrips}
use Rattle.roundtrip.proofs.OneRecord as one
use Rattle.roundtrip.proofs.TakenApart as apart

pub round_trips : RoundTrips
round_trips = record {
  read_written = one.read_written;
  read_wrote = one.read_wrote;
  written_read = λ s i r n. one.written_read s i;
  taken_apart = apart.taken_apart;
  taken_whole = apart.taken_whole;
}
