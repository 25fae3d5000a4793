-- The state after a piece of bytes can be encoded.
use mathlib.Core.Path.{◌≡◌, refl, ◌∙◌}
use mathlib.Core.List.{List, [], ◌∷◌}
use Prim.Native.Nat.{ℕ, suc, ◌+◌, ◌-◌, ◌^◌, ◌≤◌, ◌<◌}
use native.Mathlib.Omega.{arith}
use lib.ListN.{length, get_or, drop, length-set, length-drop}
use lib.Seq.{get_or-drop}
use lib.Dec.{eqb, leb, ltb, lit<, lit≤}
use borrow.Author.Tests.{eqb-false, leb-false, ltb-true}
use Rattle.roundtrip.specs.Fits.{Byte, Bytes, Fits}
use Rattle.roundtrip.proofs.Shape.{same}
use Rattle.records.specs.Kinds.{body_len, no_len, kind_of}
use Rattle.records.specs.Range.{in_range}
use Rattle.records.specs.declared.Record.{Record}
use Rattle.reader.specs.Read.{record_of}
use Rattle.rules.specs.Check.{limit}
use Rattle.context.specs.Context.{start}
use Rattle.context.specs.declared.Context.{Context}
use Rattle.judge.specs.Judge.{order_by, names_by, rules_by, all_by, judge_by}
use Rattle.pieces.specs.declared.Stage.{Stage}
use Rattle.pieces.specs.declared.Stage.TheVariants.{Open, Ended, Faulty}
use Rattle.pieces.specs.declared.CheckState.{CheckState}
use Rattle.pieces.specs.Pieces.{between, faulty_at, record_taken, longer, byte_open, byte_by, byte_taken, piece_taken}
use Rattle.pieces.proofs.Cut.{short}
use Rattle.context_bytes.specs.Encoding.{ContextEncodable}
use Rattle.piece_bytes.specs.State.{StageEncodable, StateEncodable}
use Rattle.piece_laws.specs.Laws.{StaysEncodable}
use Rattle.context_bytes.proofs.Lists.{choose, every_zero, every_set}
use Rattle.context_bytes.proofs.Contexts.{start_encodable, record_encodable}

between_encodable : (c : Context) (st : Stage) (t : ℕ) → ContextEncodable c → StageEncodable st → t < 2 ^ 32 → StateEncodable (between c st t)
between_encodable c st t h s l =
    record { context = h; places = refl; cut = every_zero Byte (lit< tt) 12; held = lit< tt; taken = l; stage = s }

-- a faulty record's number
abbrev Numbered : ℕ → Type 0
Numbered n = (n ≡ 0 → ⊥) → (2 ≤ n) × (n ≤ 8)

judged : (c : Context) (r : Record) → Numbered (judge_by c r)
unfolding judge_by
judged c r =
    choose Numbered (order_by c r) _ _
    (λ a. choose Numbered (in_range r) _ _
    (λ b. choose Numbered (names_by c r) _ _
    (λ d. choose Numbered (rules_by c r) _ _
    (λ e. choose Numbered (all_by c r) _ _ (λ f n. absurd (n refl)) (λ f n. (lit≤ tt, lit≤ tt)))
    (λ e n. (lit≤ tt, lit≤ tt))) (λ d n. (lit≤ tt, lit≤ tt))) (λ b n. (lit≤ tt, lit≤ tt))) (λ a n. (lit≤ tt, lit≤ tt))

-- a whole record of bytes
record_fits : (cut : List ℕ) → length cut ≡ 12 → Bytes cut → (body_len (get_or cut 0 0) ≡ no_len → ⊥) → Fits (record_of (get_or cut 0 0) (drop 1 cut))
record_fits cut n g u =
    let s : body_len (get_or cut 0 0) ≤ 11 = short (get_or cut 0 0) u in
    (same (get_or cut 0 0) (drop 1 cut) u (simp length-drop (omega arith)) (λ j. rw get_or-drop (g (1 + j)))).fits

-- one byte, in a state that can be encoded, where the image is not too long
module _ (k : CheckState) (h : StateEncodable k) (room : k.taken < limit) where
  faulty_encodable : (n o : ℕ) → (2 ≤ n) × (n ≤ 8) → o < 2 ^ 32 → StateEncodable (faulty_at k (suc k.taken) n o)
  faulty_encodable n o p l = between_encodable k.context (Faulty n o) (suc k.taken) h.context (p.0, p.1, l) (omega arith)

  begun : k.taken - k.held < 2 ^ 32
  begun = omega arith

  whole_encodable : (r : Record) → Fits r → StateEncodable (record_taken k (suc k.taken) (k.taken - k.held) r)
  unfolding record_taken
  whole_encodable r f =
      choose StateEncodable (eqb (judge_by k.context r) 0) _ _
      (λ e. between_encodable _ _ _ (record_encodable k.context h.context r f)
      (choose StageEncodable (eqb (kind_of r) 0x1f) _ _ (λ x. tt) (λ x. tt)) (omega arith))
      (λ e. faulty_encodable _ _ (judged k.context r (eqb-false _ _ e)) begun)

  module _ (cut : List ℕ) (n : length cut ≡ 12) (g : Bytes cut) where
    longer_encodable : (body_len (get_or cut 0 0) ≡ no_len → ⊥) → k.held < body_len (get_or cut 0 0) → StateEncodable (longer k cut)
    longer_encodable u l =
        let s : body_len (get_or cut 0 0) ≤ 11 = short (get_or cut 0 0) u in
        record { context = h.context; places = n; cut = g; held = omega arith; taken = omega arith; stage = tt }

    open_encodable : StateEncodable (byte_open k cut)
    unfolding byte_open
    open_encodable =
        choose StateEncodable (eqb (body_len (get_or cut 0 0)) no_len) _ _
        (λ e. faulty_encodable 2 _ (lit≤ tt, lit≤ tt) begun)
        (λ e. choose StateEncodable (leb (body_len (get_or cut 0 0)) k.held) _ _
        (λ l. whole_encodable _ (record_fits cut n g (eqb-false _ _ e)))
        (λ l. longer_encodable (eqb-false _ _ e) (leb-false _ _ l)))

  by_encodable : (b : ℕ) → Byte b → StateEncodable (byte_by k.stage k b)
  unfolding byte_by
  by_encodable b p = go k.stage h.stage
    where
      go : (st : Stage) → StageEncodable st → StateEncodable (byte_by st k b)
      go Open s = open_encodable _ (length-set k.cut k.held b ∙ h.places) (every_set Byte b p k.cut k.held h.cut)
      go Ended s = faulty_encodable 4 k.taken (lit≤ tt, lit≤ tt) h.taken
      go (Faulty n o) s = faulty_encodable n o (s.0, s.1) s.2

byte_encodable : (k : CheckState) (b : ℕ) → StateEncodable k → Byte b → StateEncodable (byte_taken k b)
unfolding byte_taken
byte_encodable k b h p =
    choose StateEncodable (ltb k.taken limit) _ _ (λ e. by_encodable k h (ltb-true _ _ e) b p)
    (λ e. between_encodable start Open (suc limit) start_encodable tt (lit< tt))

pub piece_encodable : (k : CheckState) (p : List ℕ) → StateEncodable k → Bytes p → StateEncodable (piece_taken k p)
unfolding piece_taken
piece_encodable k [] h g = h
piece_encodable k (b ∷ bs) h g = piece_encodable (byte_taken k b) bs (byte_encodable k b h (g 0)) (λ j. g (suc j))

pub stays_encodable : StaysEncodable
stays_encodable = record { start = between_encodable start Open 0 start_encodable tt (lit< tt); piece = piece_encodable }
