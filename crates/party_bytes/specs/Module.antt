-- include/pewterslug.h, the states by offset: "A module on its own device, 48 bytes: its own part, then 35..38 permits held, bit v for supervisor v;
-- 39..46 union of the masks received with them; 47 1 while a bid is outstanding, else 0"
use Rattle.std.specs.Prelude.{ℕ, ◌+◌, ◌^◌, ◌<◌, ◌≡◌, List, [], ◌∷◌, ◌++◌, Bool, true, false, cond, ◌&&◌, length, get_or, eqb}
use Rattle.words.specs.Word.{quad_at, quad_bytes, word_at, word_bytes}
use Rattle.records.specs.declared.Record.{Record}
use Rattle.roundtrip.specs.Fits.{Bytes}
use Rattle.permits.specs.Module.{with_own, module_fits, empty_module}
use Rattle.permits.specs.declared.Module.{Module}
use Rattle.fields.specs.Fields.{flag_byte, flag_of, is_flag}
use Rattle.own_bytes.specs.Own.{own_size, own_bytes, own_of, is_own, OwnEncodable, unfit_own}

-- its bytes
abbrev pub module_size : ℕ
module_size = own_size + 13

unfoldable pub module_bytes : Module → List ℕ
module_bytes x = own_bytes x.own ++ quad_bytes x.held ++ word_bytes x.received ++ (flag_byte x.bid ∷ [])

-- the module that the bytes are, by their offsets
unfoldable pub module_at : List ℕ → Module
module_at b = record { own = own_of b; held = quad_at b own_size; received = word_at b (own_size + 4); bid = flag_of (get_or b (own_size + 12) 0) }

-- the header: "Bytes of another length, a flag other than 0 and 1, .. and f64 bits of a NaN stand for no state"
unfoldable pub is_module : List ℕ → Bool
is_module b = eqb (length b) module_size && is_own b && is_flag (get_or b (own_size + 12) 0)

-- a module that fits no plan
abbrev pub unfit_module : Module
unfit_module = with_own empty_module unfit_own

-- The module of a call. Bytes that stand for no state give one that fits no plan, which every call on a module of the plan refuses with 9; a
-- call on a module that the plan lacks judges no state.
unfoldable pub module_of : List ℕ → Module
module_of b = cond (is_module b) (module_at b) unfit_module

-- ---- what is proved of them

-- a module as the code's types can hold it, without a NaN
pub record ModuleEncodable (x : Module) : Type 0 where
  pub own : OwnEncodable x.own
  pub held : x.held < 2 ^ 32
  pub received : x.received < 2 ^ 64

pub record ModuleParts : Type 0 where
  -- decoding what was encoded gives it back
  pub stands : (x : Module) → ModuleEncodable x → is_module (module_bytes x) ≡ true
  pub back : (x : Module) → ModuleEncodable x → module_at (module_bytes x) ≡ x
  -- and bytes that stand for a module are those of that module
  pub written : (b : List ℕ) → Bytes b → is_module b ≡ true → module_bytes (module_at b) ≡ b
  pub size : (x : Module) → length x.own.queue ≡ 8 → length (module_bytes x) ≡ module_size
  pub unfit : (rs : List Record) (m : ℕ) → module_fits rs m unfit_module ≡ false
