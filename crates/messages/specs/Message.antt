-- Document 01, "Permits and messages": "Messages: `01` bid (module, supervisor); `02` permit (supervisor, module, 8-byte mask); `03` release
-- (module, supervisor, event, or FF for no event). Body lengths are 2, 10 and 3, and nothing may follow".
use Rattle.std.specs.Prelude.{ℕ, zero, suc, ◌*◌, ◌≡◌, List, [], ◌∷◌, Bool, cond, ◌&&◌, ◌||◌, length, get_or, take, drop, eqb, ltb, Option, Some, None}
use Rattle.words.specs.Word.{word_at, word_bytes}
use Rattle.messages.specs.declared.Message.{Message}
use Rattle.messages.specs.declared.Message.TheVariants.{Bid, Permit, Release}
-- bytes put into a buffer, passed on
unfoldable pub use Rattle.words.specs.Word.{fits_at, put_at}
pub use Rattle.words.specs.Word.{written}

-- FF, no event
abbrev pub no_event : ℕ
no_event = 255

-- the bytes of each, its kind and its body, and so one more than the body's length
abbrev pub bid_size : ℕ
bid_size = 3

abbrev pub permit_size : ℕ
permit_size = 11

abbrev pub release_size : ℕ
release_size = 4

-- "128-byte output buffers": room for a release to each supervisor that a plan can have
abbrev pub buffer_length : ℕ
buffer_length = 32 * release_size

unfoldable pub message_bytes : Message → List ℕ
message_bytes (Bid m v) = 0x01 ∷ m ∷ v ∷ []
message_bytes (Permit v m k) = 0x02 ∷ v ∷ m ∷ word_bytes k
message_bytes (Release m v e) = 0x03 ∷ m ∷ v ∷ e ∷ []

-- k pieces of so many bytes each, as a turn's releases are cut
unfoldable pub pieces : ℕ → ℕ → List ℕ → List (List ℕ)
pieces size zero b = []
pieces size (suc k) b = take size b ∷ pieces size k (drop size b)

-- 15: "output buffer shorter than the answer"
abbrev pub short : List ℕ → List ℕ → Bool
short answer buffer = ltb (length buffer) (length answer)

-- the kind 01, 02 or 03, and exactly so many bytes in all
abbrev pub shaped : ℕ → ℕ → List ℕ → Bool
shaped kind size bs = eqb (get_or bs 0 0) kind && eqb (length bs) size

-- 10: "message .. misshapen"
unfoldable pub parse : List ℕ → Option Message
parse bs =
    cond (shaped 0x01 bid_size bs) (Some (Bid (get_or bs 1 0) (get_or bs 2 0)))
    (cond (shaped 0x02 permit_size bs) (Some (Permit (get_or bs 1 0) (get_or bs 2 0) (word_at bs 3)))
    (cond (shaped 0x03 release_size bs) (Some (Release (get_or bs 1 0) (get_or bs 2 0) (get_or bs 3 0))) None))

-- 10 is "message .. misshapen"; 0 for a message
abbrev pub parsed_number : Option Message → ℕ
parsed_number (Some g) = 0
parsed_number None = 10

-- whether bytes have the shape of a message
abbrev pub is_message : List ℕ → Bool
is_message bs = shaped 0x01 bid_size bs || (shaped 0x02 permit_size bs || shaped 0x03 release_size bs)

-- the whole answer r of reading bytes: its case with the message, and the number of that case, by the bytes alone
pub record ParsedAs (bs : List ℕ) (r : Option Message) : Type 0 where
  pub answer : r ≡ parse bs
  pub number : parsed_number r ≡ cond (is_message bs) 0 10
