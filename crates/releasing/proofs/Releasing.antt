-- The releases of a turn: their bytes, one after another.
use Rattle.std.specs.Prelude.{Option, Some, None}
use mathlib.Core.Path.{◌≡◌, refl, sym, ap, ap₂, ◌∙◌}
use mathlib.Core.List.{List, [], ◌∷◌, ◌++◌, append-nil}
use mathlib.Core.Bool.{Bool, true, false, cond, not}
use Prim.Native.Nat.{ℕ, zero, suc, ◌+◌, ◌*◌, ◌/◌, ◌^◌, ◌≤◌, ◌<◌}
use native.Mathlib.Decide.{le_ind}
use native.Mathlib.Numerals.{add-one}
use native.Mathlib.Omega.{arith}
use lib.Count.{ones, ones_in}
use lib.Dec.{lit≤}
use lib.ListN.{length, drop, length-append, length-drop}
use lib.Seq.{take-append_seam, drop-append-add, drop-drop}
use borrow.Author.Tests.{lt-ltb, le-ltb}
use Rattle.bits.specs.Bit.{bit}
use Rattle.bits.proofs.Laws.{bit_above, shr_none, ones_in_lem}
use Rattle.records.specs.declared.Record.{Record}
use Rattle.plan.specs.Plan.{in_alphabet}
use Rattle.messages.specs.Message.{no_event, release_size, message_bytes, written, fits_at, put_at}
use Rattle.messages.specs.Write.{Wrote}
use Rattle.messages.specs.declared.Message.TheVariants.{Release}
use Rattle.messages.proofs.Writing.{fits}
use Rattle.permits.specs.Module.{event_for, releases_in}
use Rattle.permits.specs.Step.{bytes_of_messages}
use Rattle.permits.proofs.Stepping.{bytes_append}
use Rattle.holding.proofs.Held.{ones_top}
use Rattle.releasing.specs.Released.{Released}

-- ---- the event that a release carries

module _ (rs : List Record) (v : ℕ) (t : Option ℕ) where
  pub event_none : t ≡ None → 255 ≡ event_for rs v t
  unfolding event_for
  event_none q = ap (event_for rs v) (sym q)

  module _ {a : Bool} {e : ℕ} (q : t ≡ Some e) (f : a ≡ in_alphabet rs v e) where
    pub event_in : a ≡ true → e ≡ event_for rs v t
    unfolding event_for
    event_in h = ap (λ (b : Bool). cond b e no_event) (sym h ∙ f) ∙ ap (event_for rs v) (sym q)

    pub event_out : a ≡ false → 255 ≡ event_for rs v t
    unfolding event_for
    event_out h = ap (λ (b : Bool). cond b e no_event) (sym h ∙ f) ∙ ap (event_for rs v) (sym q)

pub released_by : (rs : List Record) (m v : ℕ) (t : Option ℕ) (at : ℕ) (b : List ℕ) {e : ℕ} {r : Bool} {after : List ℕ} → e ≡ event_for rs v t → Wrote (Release m v e) at b r after
    → after ≡ put_at (message_bytes (Release m v (event_for rs v t))) at b
released_by rs m v t at b f w = w.buffer ∙ ap (λ (x : ℕ). put_at (message_bytes (Release m v x)) at b) f

-- ---- bytes after bytes

-- what follows an answer that is written from the buffer's start
written_more : (p q b : List ℕ) → length p + length q ≤ length b → put_at q (length p) (written p b) ≡ written (p ++ q) b
unfolding put_at
written_more p q b h =
    let l : length (written p b) ≡ length b = length-append p (drop (length p) b) ∙ simp length-drop (omega arith) in
    let f : fits_at q (length p) (written p b) ≡ true = fits q (length p) (written p b) (omega arith) in
    simp f
    (ap₂ (λ (x y : List ℕ). x ++ q ++ y) (take-append_seam p (drop (length p) b)) (drop-append-add p (drop (length p) b) (length q) ∙ drop-drop (length q) (length p) b)
    ∙ ap (λ (n : ℕ). p ++ q ++ drop n b) (sym (length-append p q)))

module _ (rs : List Record) (m mask : ℕ) (t : Option ℕ) where
  -- the releases to those below v, and the one to v
  abbrev pub sent : ℕ → List ℕ
  sent v = bytes_of_messages (releases_in rs m mask t v)

  abbrev one : ℕ → List ℕ
  one v = message_bytes (Release m v (event_for rs v t))

  sent_next : (v : ℕ) → sent (suc v) ≡ sent v ++ cond (bit mask v) (one v) []
  unfolding releases_in bytes_of_messages
  sent_next v =
      bytes_append (releases_in rs m mask t v) (cond (bit mask v) (Release m v (event_for rs v t) ∷ []) [])
      ∙ ap (λ (l : List ℕ). sent v ++ l) (go (bit mask v))
    where
      go : (b : Bool) → bytes_of_messages (cond b (Release m v (event_for rs v t) ∷ []) []) ≡ cond b (one v) []
      go true = append-nil (one v)
      go false = refl

  sent_length : (v : ℕ) → length (sent v) ≡ release_size * ones_in v mask
  sent_length zero = unfold releases_in bytes_of_messages ones_in in refl
  sent_length (suc v) =
      ap length (sent_next v) ∙ length-append (sent v) (cond b (one v) []) ∙ ap₂ ◌+◌ (sent_length v) (go b)
      ∙ (let e : release_size * ones_in v mask + release_size * cond b 1 0 ≡ release_size * (ones_in v mask + cond b 1 0) = omega arith in e)
      ∙ ap (λ (k : ℕ). release_size * k) (sym (ones_top v mask))
    where
      b : Bool
      b = bit mask v

      go : (c : Bool) → length (cond c (one v) []) ≡ release_size * cond c 1 0
      go true = unfold message_bytes in refl
      go false = refl

  pub sent_count : mask < 2 ^ 32 → length (sent 32) ≡ release_size * ones mask
  sent_count h = sent_length 32 ∙ ap (λ (k : ℕ). release_size * k) (ones_in_lem 32 mask h)

  sent_le : (v k : ℕ) → v ≤ k → length (sent v) ≤ length (sent k)
  sent_le v k h =
      le_ind (λ (j : ℕ). length (sent v) ≤ length (sent j)) (omega arith)
      (λ j l i. let e : length (sent (suc j)) ≡ length (sent j) + length (cond (bit mask j) (one j) []) = ap length (sent_next j) ∙ length-append (sent j) _ in omega arith) k h

  -- past the last of the mask there is none
  sent_rest : (v k : ℕ) → v ≤ k → mask < 2 ^ v → sent k ≡ sent v
  sent_rest v k h s =
      le_ind (λ (j : ℕ). sent j ≡ sent v) refl
      (λ j l i. sent_next j ∙ ap (λ (b : Bool). sent j ++ cond b (one j) []) (bit_above v mask j s l) ∙ append-nil (sent j) ∙ i) k h

  -- the loop of `release_all` at v: the releases below are written
  pub record Going (b₀ b : List ℕ) (at v : ℕ) : Type 0 where
    pub below : v ≤ 32
    pub room : length (sent 32) ≤ length b₀
    pub offset : at ≡ length (sent v)
    pub bytes : b ≡ written (sent v) b₀

  pub begins : (b : List ℕ) → length (sent 32) ≤ length b → Going b b 0 0
  begins b h = record { below = lit≤ tt; room = h; offset = unfold releases_in bytes_of_messages in refl; bytes = unfold releases_in bytes_of_messages in refl }

  module _ (b₀ b : List ℕ) (at v : ℕ) (g : Going b₀ b at v) where
    pub long_by : length b ≡ length b₀
    long_by = ap length g.bytes ∙ length-append (sent v) (drop (length (sent v)) b₀) ∙ simp length-drop (omega (arith, sent_le v 32 g.below))

    pub done_by : 32 ≤ v → b ≡ written (sent 32) b₀
    done_by h = g.bytes ∙ ap (λ (k : ℕ). written (sent k) b₀) (let e : v ≡ 32 = omega arith in e)

    pub rest_by : mask / 2 ^ v ≡ 0 → b ≡ written (sent 32) b₀
    rest_by z = g.bytes ∙ ap (λ (l : List ℕ). written l b₀) (sym (sent_rest v 32 g.below (shr_none mask v z)))

    -- a says whether the mask has v
    module _ {a : Bool} (f : a ≡ bit mask v) (l : v < 32) where
      next : sent (v + 1) ≡ sent v ++ cond a (one v) []
      next = ap sent (add-one v) ∙ sent_next v ∙ ap (λ (c : Bool). sent v ++ cond c (one v) []) (sym f)

      module _ (h : a ≡ true) where
        more : sent (v + 1) ≡ sent v ++ one v
        more = next ∙ ap (λ (c : Bool). sent v ++ cond c (one v) []) h

        longer : length (sent v ++ one v) ≡ length (sent v) + release_size
        longer = length-append (sent v) (one v) ∙ (unfold message_bytes in refl)

        pub room_by : at + release_size ≤ length b₀
        room_by = omega (arith, longer, ap length more, sent_le (v + 1) 32 (omega arith))

        pub on_by : {after last : List ℕ} {to : ℕ} → after ≡ put_at (one v) at b → last ≡ after → to ≡ at + release_size → Going b₀ last to (v + 1)
        on_by w p q =
            record {
              below = omega arith;
              room = g.room;
              offset = q ∙ ap (λ (i : ℕ). i + release_size) g.offset ∙ sym (ap length more ∙ longer);
              bytes =
                  p ∙ w ∙ ap₂ (λ (i : ℕ) (l : List ℕ). put_at (one v) i l) g.offset g.bytes
                  ∙ written_more (sent v) (one v) b₀ (omega (arith, longer, length-append (sent v) (one v), room_by)) ∙ ap (λ (l : List ℕ). written l b₀) (sym more);
            }

      pub off_by : {last : List ℕ} {to : ℕ} → a ≡ false → last ≡ b → to ≡ at → Going b₀ last to (v + 1)
      off_by h p q =
          let n : sent (v + 1) ≡ sent v = next ∙ ap (λ (c : Bool). sent v ++ cond c (one v) []) h ∙ append-nil (sent v) in
          record {
            below = omega arith;
            room = g.room;
            offset = q ∙ g.offset ∙ ap length (sym n);
            bytes = p ∙ g.bytes ∙ ap (λ (l : List ℕ). written l b₀) (sym n);
          }

-- the room for all releases: n is their bytes
module _ (rs : List Record) (m mask : ℕ) (t : Option ℕ) (b : List ℕ) {n : ℕ} (s : mask < 2 ^ 32) (f : n ≡ release_size * ones mask) where
  long : length (sent rs m mask t 32) ≡ n
  long = sent_count rs m mask t s ∙ sym f

  pub room_all : n ≤ length b → length (sent rs m mask t 32) ≤ length b
  room_all h = omega (arith, long)

  pub released_none : length b < n → Released rs m mask t b false b
  released_none h = record { answer = sym (ap not (lt-ltb (length b) (length (sent rs m mask t 32)) (omega (arith, long)))); buffer = refl }

  pub released_all : {after : List ℕ} → n ≤ length b → after ≡ written (sent rs m mask t 32) b → Released rs m mask t b true after
  released_all h g = record { answer = sym (ap not (le-ltb (length b) (length (sent rs m mask t 32)) (omega (arith, long)))); buffer = g }
