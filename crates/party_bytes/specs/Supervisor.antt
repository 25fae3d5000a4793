-- include/pewterslug.h, the states by offset: "A supervisor on its own device, 6 bytes: 0 state of the automaton; 1..2 modules whose bids are noted,
-- bit m for module m; 3 1 while the permit is out, else 0; 4 its holder, 0 while the permit is home; 5 the module last served"
use Rattle.std.specs.Prelude.{ℕ, ◌^◌, ◌<◌, ◌≡◌, List, [], ◌∷◌, ◌++◌, Bool, true, false, cond, ◌&&◌, ◌||◌, length, get_or, eqb}
use Rattle.records.specs.declared.Record.{Record}
use Rattle.roundtrip.specs.Fits.{Byte, Bytes}
use Rattle.permits.specs.Supervisor.{with_last, supervisor_fits, empty_supervisor}
use Rattle.permits.specs.declared.Supervisor.{Supervisor}
use Rattle.permits.specs.declared.Holder.{Holder}
use Rattle.permits.specs.declared.Holder.TheVariants.{Home, Out}
use Rattle.fields.specs.Fields.{half_bytes, half_at, flag_byte, flag_of, is_flag}

-- its bytes
abbrev pub supervisor_size : ℕ
supervisor_size = 6

unfoldable pub is_out : Holder → Bool
is_out Home = false
is_out (Out m) = true

unfoldable pub holder_byte : Holder → ℕ
holder_byte Home = 0
holder_byte (Out m) = m

unfoldable pub supervisor_bytes : Supervisor → List ℕ
supervisor_bytes y = y.state ∷ (half_bytes y.noted ++ (flag_byte (is_out y.holder) ∷ holder_byte y.holder ∷ y.last ∷ []))

-- the supervisor that the bytes are, by their offsets
unfoldable pub holder_of : Bool → ℕ → Holder
holder_of out m = cond out (Out m) Home

unfoldable pub supervisor_at : List ℕ → Supervisor
supervisor_at b =
    record { state = get_or b 0 0; noted = half_at b 1; holder = holder_of (flag_of (get_or b 3 0)) (get_or b 4 0); last = get_or b 5 0 }

-- the header: "Bytes of another length, a flag other than 0 and 1, a holder of a permit at home .. stand for no state"
unfoldable pub is_supervisor : List ℕ → Bool
is_supervisor b = eqb (length b) supervisor_size && is_flag (get_or b 3 0) && (flag_of (get_or b 3 0) || eqb (get_or b 4 0) 0)

-- a supervisor that fits no plan: its place last served is none
abbrev pub unfit_supervisor : Supervisor
unfit_supervisor = with_last empty_supervisor 255

-- the supervisor of a call, as of a module
unfoldable pub supervisor_of : List ℕ → Supervisor
supervisor_of b = cond (is_supervisor b) (supervisor_at b) unfit_supervisor

-- ---- what is proved of them

-- a supervisor as the code's types can hold it
pub record SupervisorEncodable (y : Supervisor) : Type 0 where
  pub state : Byte y.state
  pub noted : y.noted < 2 ^ 16
  pub holder : Byte (holder_byte y.holder)
  pub last : Byte y.last

pub record SupervisorParts : Type 0 where
  -- decoding what was encoded gives it back
  pub stands : (y : Supervisor) → SupervisorEncodable y → is_supervisor (supervisor_bytes y) ≡ true
  pub back : (y : Supervisor) → SupervisorEncodable y → supervisor_at (supervisor_bytes y) ≡ y
  -- and bytes that stand for a supervisor are those of that supervisor
  pub written : (b : List ℕ) → Bytes b → is_supervisor b ≡ true → supervisor_bytes (supervisor_at b) ≡ b
  pub size : (y : Supervisor) → length (supervisor_bytes y) ≡ supervisor_size
  pub unfit : (rs : List Record) (v : ℕ) → supervisor_fits rs v unfit_supervisor ≡ false
