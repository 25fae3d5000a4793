-- `StateParts` of specs/State.antt.
use Rattle.piece_bytes.specs.State.{StateParts}
use Rattle.piece_bytes.proofs.Encoded.{state_stands, state_back, state_size, state_bytes_lem}
use Rattle.piece_bytes.proofs.Decoded.{state_written, state_encodable}

pub parts : StateParts
parts =
    record {
      stands = state_stands;
      back = state_back;
      written = state_written;
      encodable = state_encodable;
      size = state_size;
      bytes = state_bytes_lem;
    }
