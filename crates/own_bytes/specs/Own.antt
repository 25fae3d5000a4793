-- include/pewterslug.h, the states by offset: "A module's own part, 35 bytes: 0 state of the automaton; 1 responses queued, 0 to 8; 2..9 the queue,
-- its head first; places past the length are 0; 10 1 while a procedure runs, else 0; 11 its event; 12 its step's index; 13..14 ticks counted of a
-- wait; 15..22 target of a litres step, f64 bits; 23..30 total of a litres step, f64 bits; 31..34 outputs, bit i for output i"
use Rattle.std.specs.Prelude.{ℕ, ◌^◌, ◌<◌, ◌≡◌, List, ◌∷◌, ◌++◌, Bool, true, false, cond, ◌&&◌, length, get_or, ltb}
use Rattle.roundtrip.specs.Fits.{Byte, Bytes}
use Rattle.records.specs.declared.Record.{Record}
use Rattle.modules.specs.Own.{with_cells}
use Rattle.modules.specs.Turn.{empty_own}
use Rattle.modules.specs.Fits.{own_fits, own_empty}
use Rattle.modules.specs.declared.Own.{Own}
use Rattle.modules.specs.declared.Procedure.{Procedure}
use Rattle.words.specs.Word.{quad_bytes, quad_at}
use Rattle.fields.specs.Fields.{bytes_from, half_bytes, half_at, flag_byte, flag_of, is_flag, float_bytes, float_at, is_float, Number}

-- its bytes
abbrev pub own_size : ℕ
own_size = 35

unfoldable pub procedure_bytes : Procedure → List ℕ
procedure_bytes p =
    flag_byte p.running ∷ p.event ∷ p.index ∷ (half_bytes p.count ++ float_bytes p.water.target ++ float_bytes p.water.total)

unfoldable pub own_bytes : Own → List ℕ
own_bytes own = own.state ∷ own.length ∷ (own.queue ++ procedure_bytes own.procedure ++ quad_bytes own.outputs)

-- the own part that the bytes are, by their offsets
unfoldable pub procedure_of : List ℕ → Procedure
procedure_of b =
    record {
      running = flag_of (get_or b 10 0);
      event = get_or b 11 0;
      index = get_or b 12 0;
      count = half_at b 13;
      water = record { target = float_at b 15; total = float_at b 23 };
    }

unfoldable pub own_of : List ℕ → Own
own_of b =
    record { state = get_or b 0 0; length = get_or b 1 0; queue = bytes_from b 2 8; procedure = procedure_of b; outputs = quad_at b 31 }

-- whether they stand for one
unfoldable pub is_own : List ℕ → Bool
is_own b = is_flag (get_or b 10 0) && is_float b 15 && is_float b 23

-- an own part that fits no plan: its queue is longer than 8
abbrev pub unfit_own : Own
unfit_own = with_cells empty_own empty_own.queue 255

-- what is read of bytes: fewer than `own_size` stand for no own part, and give one that fits no plan
unfoldable pub own_stands : List ℕ → Bool
own_stands b = cond (ltb (length b) own_size) false (is_own b)

unfoldable pub own_read : List ℕ → Own
own_read b = cond (ltb (length b) own_size) unfit_own (own_of b)

-- ---- what is proved of them

-- an own part as the code's types can hold it, without a NaN
pub record OwnEncodable (own : Own) : Type 0 where
  pub state : Byte own.state
  pub queued : Byte own.length
  pub cells : length own.queue ≡ 8
  pub queue : Bytes own.queue
  pub event : Byte own.procedure.event
  pub index : Byte own.procedure.index
  pub count : own.procedure.count < 2 ^ 16
  pub target : Number own.procedure.water.target
  pub total : Number own.procedure.water.total
  pub outputs : own.outputs < 2 ^ 32

-- decoding what was encoded gives it back, whatever bytes follow
pub record OwnRead (own : Own) (rest : List ℕ) : Type 0 where
  pub stands : is_own (own_bytes own ++ rest) ≡ true
  pub back : own_of (own_bytes own ++ rest) ≡ own

-- and bytes that stand for an own part are those of that own part
abbrev pub OwnWritten : List ℕ → Type 0
OwnWritten b = own_bytes (own_of b) ≡ bytes_from b 0 own_size

pub record OwnParts : Type 0 where
  pub read : (own : Own) (rest : List ℕ) → OwnEncodable own → OwnRead own rest
  pub written : (b : List ℕ) → Bytes b → is_own b ≡ true → OwnWritten b
  pub unfit : (rs : List Record) (m : ℕ) → own_fits rs m unfit_own ≡ false
  -- nor is it the slot of a module that the plan lacks
  pub unfit_empty : own_empty unfit_own ≡ false
  pub size : (own : Own) → length own.queue ≡ 8 → length (own_bytes own) ≡ own_size
