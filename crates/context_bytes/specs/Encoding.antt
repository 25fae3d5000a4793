-- include/pewterslug.h, the states by offset, "A check in pieces": what it remembers of the records before, "23 1 once a faultless record has come, else
-- 0; 24..27 kind and key of the last one; 28..30 the head's modules, supervisors, events; 31..38 events declared, bit e for event e; 39..46
-- controllable ones; 47..110 the module of each event; 111..174 steps of each event; 175..182 modules declared, bit m for module m; 183..198 states of
-- each module; 199..206 supervisors declared, bit v for supervisor v; 207..238 states of each supervisor; 239..494 alphabet of each supervisor, 8
-- bytes each"
use Rattle.std.specs.Prelude.{ℕ, zero, suc, ◌+◌, ◌≡◌, List, [], ◌∷◌, ◌++◌, length, get_or}
use Rattle.words.specs.Word.{word_bytes, word_at}
use Rattle.records.specs.declared.RecordKey.{RecordKey}
use Rattle.roundtrip.specs.Fits.{Byte, Word, Bytes}
use Rattle.context.specs.declared.Counts.{Counts}
use Rattle.context.specs.declared.Events.{Events}
use Rattle.context.specs.declared.Modules.{Modules}
use Rattle.context.specs.declared.Supervisors.{Supervisors}
use Rattle.context.specs.declared.Context.{Context}
use Rattle.fields.specs.Fields.{bytes_from, flag_byte, flag_of}

-- ---- written

unfoldable pub key_bytes : RecordKey → List ℕ
key_bytes q = q.kind ∷ q.first ∷ q.second ∷ q.third ∷ []

unfoldable pub counts_bytes : Counts → List ℕ
counts_bytes n = n.modules ∷ n.supervisors ∷ n.events ∷ []

unfoldable pub events_bytes : Events → List ℕ
events_bytes ev = word_bytes ev.known ++ word_bytes ev.controllable ++ ev.owner ++ ev.steps

unfoldable pub modules_bytes : Modules → List ℕ
modules_bytes ms = word_bytes ms.known ++ ms.states

-- numbers of eight bytes one after another
unfoldable pub words_bytes : List ℕ → List ℕ
words_bytes [] = []
words_bytes (x ∷ xs) = word_bytes x ++ words_bytes xs

unfoldable pub supervisors_bytes : Supervisors → List ℕ
supervisors_bytes vs = word_bytes vs.known ++ vs.states ++ words_bytes vs.alphabet

unfoldable pub context_bytes : Context → List ℕ
context_bytes c =
    (flag_byte c.begun ∷ key_bytes c.last) ++ counts_bytes c.counts ++ events_bytes c.events ++ modules_bytes c.modules
    ++ supervisors_bytes c.supervisors

-- ---- read, by their places

unfoldable pub key_at : List ℕ → ℕ → RecordKey
key_at b o = record { kind = get_or b o 0; first = get_or b (o + 1) 0; second = get_or b (o + 2) 0; third = get_or b (o + 3) 0 }

unfoldable pub counts_at : List ℕ → ℕ → Counts
counts_at b o = record { modules = get_or b o 0; supervisors = get_or b (o + 1) 0; events = get_or b (o + 2) 0 }

unfoldable pub events_at : List ℕ → Events
events_at b = record { known = word_at b 31; controllable = word_at b 39; owner = bytes_from b 47 64; steps = bytes_from b 111 64 }

unfoldable pub modules_at : List ℕ → Modules
modules_at b = record { known = word_at b 175; states = bytes_from b 183 16 }

-- n numbers of eight bytes from an offset on
unfoldable pub words_from : List ℕ → ℕ → ℕ → List ℕ
words_from b o zero = []
words_from b o (suc n) = word_at b o ∷ words_from b (o + 8) n

-- the alphabets of 32 supervisors in 256 bytes
abbrev pub alphabets : List ℕ → List ℕ
alphabets b = words_from b 0 32

unfoldable pub supervisors_at : List ℕ → Supervisors
supervisors_at b = record { known = word_at b 199; states = bytes_from b 207 32; alphabet = words_from b 239 32 }

unfoldable pub context_at : List ℕ → Context
context_at b =
    record {
      begun = flag_of (get_or b 23 0);
      last = key_at b 24;
      counts = counts_at b 28;
      events = events_at b;
      modules = modules_at b;
      supervisors = supervisors_at b;
    }

-- ---- what can be encoded

-- lists of numbers that eight bytes can be
abbrev pub Words : List ℕ → Type 0
Words l = (j : ℕ) → Word (get_or l j 0)

-- what is remembered, as the code's types can hold it
pub record ContextEncodable (c : Context) : Type 0 where
  pub kind : Byte c.last.kind
  pub first : Byte c.last.first
  pub second : Byte c.last.second
  pub third : Byte c.last.third
  pub modules : Byte c.counts.modules
  pub supervisors : Byte c.counts.supervisors
  pub events : Byte c.counts.events
  pub events_known : Word c.events.known
  pub controllable : Word c.events.controllable
  pub owners : length c.events.owner ≡ 64
  pub owner : Bytes c.events.owner
  pub all_steps : length c.events.steps ≡ 64
  pub steps : Bytes c.events.steps
  pub modules_known : Word c.modules.known
  pub all_modules : length c.modules.states ≡ 16
  pub module_states : Bytes c.modules.states
  pub supervisors_known : Word c.supervisors.known
  pub all_supervisors : length c.supervisors.states ≡ 32
  pub supervisor_states : Bytes c.supervisors.states
  pub all_alphabets : length c.supervisors.alphabet ≡ 32
  pub alphabet : Words c.supervisors.alphabet
