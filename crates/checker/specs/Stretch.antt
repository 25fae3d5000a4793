-- What it is to pass a stretch of records of one kind that are not faulty. These are steps of a proof and need not be read: what a check gives is
-- `verdict_of` of rules/specs/Check, with the places of the records `examined_of` of Examined, and how far it goes without an answer `past_in` and
-- `past_bytes` of InPlace; the contracts of `check`, `examine` and `pass` say it by these.
use Rattle.std.specs.Prelude.{◌≡◌, ℕ, ◌<◌, ◌≤◌, true, cond, not, ◌&&◌, ◌⊎◌, List, length, replicate, ◌==◌, nat_lt, slice_index}
use Rattle.bits.specs.Bit.{bit}
use Rattle.records.specs.Kinds.{kind_of}
use Rattle.records.specs.Key.{key_by}
use Rattle.records.specs.declared.RecordKey.{RecordKey}
use Rattle.reader.specs.Walk.{Walk, more, stop, walk_from}
use Rattle.places.specs.Places.{noted_at, noted_in, places_of}
use Rattle.places.specs.declared.Places.{Places}
use Rattle.rules.specs.Check.{verdict_of}
use Rattle.context.specs.Context.{with_record}
use Rattle.context.specs.declared.Counts.{Counts}
use Rattle.context.specs.declared.Events.{Events}
use Rattle.context.specs.declared.Modules.{Modules}
use Rattle.context.specs.declared.Supervisors.{Supervisors}
use Rattle.context.specs.declared.Context.{Context}
use Rattle.judge.specs.Judge.{judge_by}
use Rattle.context_bytes.specs.Encoding.{context_at}
use Rattle.judge.specs.Represents.{check_by}

-- how far whole records go that are faultless and no end record, as `past_by` of judge/specs/Past has it, with the records from there on
pub record Rest : Type 0 where
  pub context : Context
  pub walk : Walk

unfoldable pub rest_of : Context → Walk → Rest
rest_of c (stop k o) = record { context = c; walk = stop k o }
rest_of c (more o r w) =
    let rest = rest_of (with_record c r) w in
    cond (judge_by c r == 0 && not (kind_of r == 0x1f)) rest (record { context = c; walk = more o r w })

-- the check has come to the offset i, remembers c and has noted p
pub record Reached (s : List ℕ) (c : Context) (i : ℕ) (p : Places) : Type 0 where
  pub checked : check_by (length s) c (walk_from s i) ≡ verdict_of s
  pub noted : noted_in p c.last.kind (walk_from s i) ≡ places_of s

-- from the offset i, with the context c, on to j, with the context d, past records of the kind k, or none: how far the check goes and the places stay
pub record Stretch (s : List ℕ) (k : ℕ) (c : Context) (i : ℕ) (d : Context) (j : ℕ) : Type 0 where
  pub further : i ≤ j
  pub same : rest_of d (walk_from s j) ≡ rest_of c (walk_from s i)
  pub notes : (p : Places) → noted_in (noted_at p c.last.kind d.last.kind i) d.last.kind (walk_from s j) ≡ noted_in p c.last.kind (walk_from s i)
  pub some : ((d.last.kind ≡ k) × (i < j)) ⊎ ((i ≡ j) × (d.last.kind ≡ c.last.kind))

-- from one to the other past records of several kinds, where the places noted are first p and then q
pub record Span (s : List ℕ) (c : Context) (i : ℕ) (p : Places) (d : Context) (j : ℕ) (q : Places) : Type 0 where
  pub same : rest_of d (walk_from s j) ≡ rest_of c (walk_from s i)
  pub notes : noted_in q d.last.kind (walk_from s j) ≡ noted_in p c.last.kind (walk_from s i)

-- the same whatever else is remembered
unfoldable pub Passed : List ℕ → ℕ → (Context → Context) → ℕ → (Context → Context) → ℕ → Type 0
Passed s k c i d j = (r : Context) → Stretch s k (c r) i (d r) j

-- the places after a stretch of the kind k from i to j, after a record of the kind a
unfoldable pub noted_past : Places → ℕ → ℕ → ℕ → ℕ → Places
noted_past p a k i j = cond (j == i) p (noted_at p a k i)

-- ---- contexts by their parts

abbrev pub context_by : RecordKey → Counts → Events → Modules → Supervisors → Context
context_by q n ev ms vs = record { begun = true; last = q; counts = n; events = ev; modules = ms; supervisors = vs }

abbrev pub events_by : ℕ → ℕ → List ℕ → List ℕ → Events
events_by known controllable owner steps = record { known = known; controllable = controllable; owner = owner; steps = steps }

abbrev pub modules_by : ℕ → List ℕ → Modules
modules_by known states = record { known = known; states = states }

abbrev pub supervisors_by : ℕ → List ℕ → List ℕ → Supervisors
supervisors_by known states alphabet = record { known = known; states = states; alphabet = alphabet }

-- the parts that the records of a kind are judged by, or change; the others are those of r
unfoldable pub at_events : RecordKey → Counts → ℕ → ℕ → List ℕ → Context → Context
at_events q n known controllable owner r = context_by q n (events_by known controllable owner r.events.steps) r.modules r.supervisors

unfoldable pub at_modules : RecordKey → Counts → ℕ → List ℕ → Context → Context
at_modules q n known states r = context_by q n r.events (modules_by known states) r.supervisors

unfoldable pub at_module_moves : RecordKey → Counts → ℕ → List ℕ → ℕ → List ℕ → Context → Context
at_module_moves q n events owner known states r =
    context_by q n (events_by events r.events.controllable owner r.events.steps) (modules_by known states) r.supervisors

unfoldable pub at_supervisors : RecordKey → Counts → ℕ → ℕ → List ℕ → List ℕ → Context → Context
at_supervisors q n events known states alphabet r =
    context_by q n (events_by events r.events.controllable r.events.owner r.events.steps) r.modules (supervisors_by known states alphabet)

unfoldable pub at_disablings : RecordKey → Counts → ℕ → ℕ → ℕ → List ℕ → List ℕ → Context → Context
at_disablings q n events controllable known states alphabet r =
    context_by q n (events_by events controllable r.events.owner r.events.steps) r.modules (supervisors_by known states alphabet)

unfoldable pub at_steps : RecordKey → Counts → ℕ → ℕ → List ℕ → List ℕ → Context → Context
at_steps q n known controllable owner steps r = context_by q n (events_by known controllable owner steps) r.modules r.supervisors

-- after the head
abbrev pub headed : Counts → Context
headed n =
    context_by (key_by 0x10 0 0 0) n (events_by 0 0 (replicate 64 0) (replicate 64 0)) (modules_by 0 (replicate 16 0))
    (supervisors_by 0 (replicate 32 0) (replicate 32 0))

-- ---- where what is remembered stands in the bytes of a state

-- a whole state's bytes, after a faultless record
abbrev pub AfterRecord : List ℕ → Type 0
AfterRecord b = (length b ≡ 495) × (slice_index b 23 ≡ 1)

-- from the offset i, with what the bytes b remember, on to j, with what the bytes x remember
pub record OnwardIn (s b : List ℕ) (i : ℕ) (x : List ℕ) (j : ℕ) : Type 0 where
  pub same : rest_of (context_at x) (walk_from s j) ≡ rest_of (context_at b) (walk_from s i)
  pub front : (n : ℕ) → n < 24 → slice_index x n ≡ slice_index b n
  pub size : length x ≡ 495

-- r has the bits of the mask m that are below n
unfoldable pub Below : ℕ → ℕ → ℕ → Type 0
Below m n r = (e : ℕ) → bit r e ≡ (bit m e && nat_lt e n)
