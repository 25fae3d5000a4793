-- The reader and the writer of one message over lent bytes. The quotations are from include/pewterslug.h.
use Rattle.std.specs.Prelude.{ℕ, List, [], cond, length, eqb, Option, Some, None}
use Rattle.messages.specs.Message.{message_bytes, parse, parsed_number, short, written}
use Rattle.messages.specs.declared.Message.{Message}
use Rattle.messages.specs.declared.Message.TheVariants.{Bid, Permit, Release}
use Rattle.packing.specs.Answer.{Answer, refused, done}

-- the kind's byte
unfoldable pub message_kind : Message → ℕ
message_kind (Bid m v) = 0x01
message_kind (Permit v m k) = 0x02
message_kind (Release m v e) = 0x03

-- "Reads a message by shape alone: the value is its kind, 1 to 3, and the length its bytes."
unfoldable pub parsed_answer : Option Message → ℕ
parsed_answer (Some g) = done 0 (message_kind g) (length (message_bytes g))
parsed_answer None = refused (parsed_number None) 0

abbrev pub read_message_answer : List ℕ → ℕ
read_message_answer bytes = parsed_answer (parse bytes)

-- "Writes one message: the kind, its two parties in the message's order, the event of a release and the mask of a permit; what the kind lacks
-- is not looked at."
unfoldable pub message_by : ℕ → ℕ → ℕ → ℕ → ℕ → Option Message
message_by kind first second event mask =
    cond (eqb kind 0x01) (Some (Bid first second))
    (cond (eqb kind 0x02) (Some (Permit first second mask))
    (cond (eqb kind 0x03) (Some (Release first second event)) None))

-- "A kind that is none is 10." Then 15, document 01's "output buffer shorter than the answer".
unfoldable pub write_parsed : Option Message → List ℕ → Answer
write_parsed (Some g) b =
    cond (short (message_bytes g) b) (record { number = refused 15 0; state = []; buffer = b })
    (record { number = done 0 0 (length (message_bytes g)); state = []; buffer = written (message_bytes g) b })
write_parsed None b = record { number = refused (parsed_number None) 0; state = []; buffer = b }

abbrev pub write_message_bytes : ℕ → ℕ → ℕ → ℕ → ℕ → List ℕ → Answer
write_message_bytes kind first second event mask b = write_parsed (message_by kind first second event mask) b
