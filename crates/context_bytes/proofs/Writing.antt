-- What is remembered put as bytes, from what the code is told.
use mathlib.Core.Path.{◌≡◌, refl, sym, ap, ap₂, ◌∙◌}
use mathlib.Core.List.{List, [], ◌∷◌, ◌++◌}
use Prim.Native.Nat.{ℕ, suc, ◌+◌, ◌*◌, ◌≤◌, ◌<◌}
use native.Mathlib.Omega.{arith}
use lib.ListN.{length, get_or, drop, length-append}
use lib.Seq.{sets, drop-cons, drop-length}
use Rattle.words.specs.Word.{put_at, word_bytes}
use Rattle.words.proofs.Laws.{length_word, put_sets, put_not, put_room}
use Rattle.context.specs.declared.Events.{Events}
use Rattle.context.specs.declared.Modules.{Modules}
use Rattle.context.specs.declared.Supervisors.{Supervisors}
use Rattle.context.specs.declared.Context.{Context}
use Rattle.fields.specs.Fields.{flag_byte}
use Rattle.fields.proofs.Writing.{join, next}
use Rattle.context_bytes.specs.Encoding.{key_bytes, counts_bytes, events_bytes, modules_bytes, words_bytes, supervisors_bytes, context_bytes}

-- the eight bytes from 23 on, with a flag's byte
abbrev pub head_bytes : ℕ → Context → List ℕ
head_bytes f c =
    f ∷ c.last.kind ∷ c.last.first ∷ c.last.second ∷ c.last.third ∷ c.counts.modules ∷ c.counts.supervisors ∷ c.counts.events ∷ []

-- ---- how many bytes

pub length_words : (l : List ℕ) → length (words_bytes l) ≡ length l * 8
unfolding words_bytes
length_words [] = refl
length_words (x ∷ l) = omega (arith, length-append (word_bytes x) (words_bytes l), length_word x, length_words l)

pub length_events : (ev : Events) → length ev.owner ≡ 64 → length ev.steps ≡ 64 → length (events_bytes ev) ≡ 144
unfolding events_bytes
length_events ev n m =
    let a : List ℕ = word_bytes ev.known in
    let b : List ℕ = word_bytes ev.controllable in
    let ab : length (a ++ b) ≡ 16 = omega (arith, length-append a b, length_word ev.known, length_word ev.controllable) in
    omega (arith, n, m, length-append (a ++ b) ev.owner, length-append (a ++ b ++ ev.owner) ev.steps)

pub length_modules : (ms : Modules) → length ms.states ≡ 16 → length (modules_bytes ms) ≡ 24
unfolding modules_bytes
length_modules ms n = omega (arith, n, length_word ms.known, length-append (word_bytes ms.known) ms.states)

pub length_supervisors : (vs : Supervisors) → length vs.states ≡ 32 → length vs.alphabet ≡ 32 → length (supervisors_bytes vs) ≡ 296
unfolding supervisors_bytes
length_supervisors vs n m =
    let a : List ℕ = word_bytes vs.known in
    let b : List ℕ = vs.states in
    omega (arith, n, m, length_word vs.known, length_words vs.alphabet, length-append a b, length-append (a ++ b) (words_bytes vs.alphabet))

module _ (c : Context) (ev : length (events_bytes c.events) ≡ 144) (ms : length (modules_bytes c.modules) ≡ 24) where
  pub length_context : length (supervisors_bytes c.supervisors) ≡ 296 → length (context_bytes c) ≡ 472
  unfolding context_bytes key_bytes counts_bytes
  length_context vs =
      let a : List ℕ = head_bytes (flag_byte c.begun) c ++ events_bytes c.events in
      let b : List ℕ = a ++ modules_bytes c.modules in
      let la : length a ≡ 152 = omega (arith, ev, length-append (head_bytes (flag_byte c.begun) c) (events_bytes c.events)) in
      let lb : length b ≡ 176 = omega (arith, ms, la, length-append a (modules_bytes c.modules)) in
      omega (arith, lb, vs, length-append b (supervisors_bytes c.supervisors))

-- ---- the first i words of a list stand there

module _ (o : ℕ) (q l : List ℕ) where
  abbrev pub Put : List ℕ → ℕ → Type 0
  Put s i = sets s (o + i * 8) (words_bytes (drop i q)) ≡ sets l o (words_bytes q)

  pub put_begin : Put l 0
  put_begin = let z : o + 0 * 8 ≡ o = omega arith in ap (λ (k : ℕ). sets l k (words_bytes q)) z

  pub put_on : (s : List ℕ) (i : ℕ) {x : ℕ} {t : List ℕ} → i < length q → o + i * 8 + 8 ≤ length s → x ≡ get_or q i 0
      → t ≡ put_at (word_bytes x) (o + i * 8) s → Put s i → Put t (i + 1)
  unfolding words_bytes
  put_on s i {x} {t} h room e w v =
      let m : suc i ≡ i + 1 = omega arith in
      let at : o + (i + 1) * 8 ≡ o + i * 8 + length (word_bytes x) = omega (arith, length_word x) in
      let rest : List ℕ = words_bytes (drop (i + 1) q) in
      let is : words_bytes (drop i q) ≡ word_bytes x ++ rest =
      ap words_bytes (drop-cons q i 0 h) ∙ ap₂ (λ (y k : ℕ). word_bytes y ++ words_bytes (drop k q)) (sym e) m in
      ap (λ (z : List ℕ). sets z (o + (i + 1) * 8) rest) (w ∙ put_room s (o + i * 8) x room)
      ∙ join s (word_bytes x) rest (o + i * 8) (o + (i + 1) * 8) at ∙ ap (sets s (o + i * 8)) (sym is) ∙ v

  pub put_end : (s : List ℕ) (i : ℕ) → length q ≡ i → Put s i → s ≡ sets l o (words_bytes q)
  unfolding words_bytes
  put_end s i e v =
      sym (ap (λ (r : List ℕ). sets s (o + i * 8) (words_bytes r)) (ap (λ (k : ℕ). drop k q) (sym e) ∙ drop-length q)) ∙ v

-- ---- the parts, one behind the other

module _ (l : List ℕ) (room : 495 ≤ length l) where
  pub events_put : (ev : Events) {s1 s2 s3 s4 : List ℕ} → length ev.owner ≡ 64 → length ev.steps ≡ 64
      → s1 ≡ put_at (word_bytes ev.known) 31 l → s2 ≡ put_at (word_bytes ev.controllable) 39 s1 → s3 ≡ put_at ev.owner 47 s2
      → s4 ≡ put_at ev.steps 111 s3 → s4 ≡ sets l 31 (events_bytes ev)
  unfolding events_bytes
  events_put ev {s1} {s2} {s3} n m e f g h =
      let a : List ℕ = word_bytes ev.known in
      let b : List ℕ = word_bytes ev.controllable in
      let c : List ℕ = ev.owner in
      let d : List ℕ = ev.steps in
      let la : length a ≡ 8 = length_word ev.known in
      let lab : length (a ++ b) ≡ 16 = omega (arith, la, length-append a b, length_word ev.controllable) in
      let labc : length (a ++ b ++ c) ≡ 80 = omega (arith, lab, length-append (a ++ b) c) in
      let all : length (a ++ b ++ c ++ d) ≡ 144 = length_events ev n m in
      let p1 : s1 ≡ sets l 31 a = e ∙ put_sets a 31 l (omega arith) in
      let p2 : s2 ≡ sets l 31 (a ++ b) = next l 31 a b 39 p1 (omega arith) (omega arith) f in
      let p3 : s3 ≡ sets l 31 (a ++ b ++ c) = next l 31 (a ++ b) c 47 p2 (omega arith) (omega arith) g in
      next l 31 (a ++ b ++ c) d 111 p3 (omega arith) (omega arith) h

  pub modules_put : (ms : Modules) {s1 s2 : List ℕ} → length ms.states ≡ 16 → s1 ≡ put_at (word_bytes ms.known) 175 l
      → s2 ≡ put_at ms.states 183 s1 → s2 ≡ sets l 175 (modules_bytes ms)
  unfolding modules_bytes
  modules_put ms {s1} n e f =
      let a : List ℕ = word_bytes ms.known in
      let la : length a ≡ 8 = length_word ms.known in
      let all : length (a ++ ms.states) ≡ 24 = length_modules ms n in
      let p1 : s1 ≡ sets l 175 a = e ∙ put_sets a 175 l (omega arith) in
      next l 175 a ms.states 183 p1 (omega arith) (omega arith) f

  pub supervisors_put : (vs : Supervisors) {s1 s2 s3 : List ℕ} → length vs.states ≡ 32 → s1 ≡ put_at (word_bytes vs.known) 199 l
      → s2 ≡ put_at vs.states 207 s1 → s3 ≡ sets s2 239 (words_bytes vs.alphabet) → s3 ≡ sets l 199 (supervisors_bytes vs)
  unfolding supervisors_bytes
  supervisors_put vs {s1} {s2} n e f g =
      let a : List ℕ = word_bytes vs.known in
      let b : List ℕ = vs.states in
      let c : List ℕ = words_bytes vs.alphabet in
      let la : length a ≡ 8 = length_word vs.known in
      let lab : length (a ++ b) ≡ 40 = omega (arith, la, length-append a b) in
      let p1 : s1 ≡ sets l 199 a = e ∙ put_sets a 199 l (omega arith) in
      let p2 : s2 ≡ sets l 199 (a ++ b) = next l 199 a b 207 p1 (omega arith) (omega arith) f in
      g ∙ ap (λ (x : List ℕ). sets x 239 c) p2 ∙ join l (a ++ b) c 199 239 (omega arith)

  pub context_put : (c : Context) {f : ℕ} {s1 s2 s3 s4 : List ℕ} → f ≡ flag_byte c.begun → s1 ≡ put_at (head_bytes f c) 23 l
      → (s2 ≡ sets s1 31 (events_bytes c.events)) × (length (events_bytes c.events) ≡ 144)
      → (s3 ≡ sets s2 175 (modules_bytes c.modules)) × (length (modules_bytes c.modules) ≡ 24)
      → (s4 ≡ sets s3 199 (supervisors_bytes c.supervisors)) × (length (supervisors_bytes c.supervisors) ≡ 296)
      → (s4 ≡ sets l 23 (context_bytes c)) × (length (context_bytes c) ≡ 472)
  unfolding context_bytes key_bytes counts_bytes
  context_put c {f} {s1} {s2} {s3} z e g h k =
      let a : List ℕ = head_bytes (flag_byte c.begun) c in
      let b : List ℕ = events_bytes c.events in
      let d : List ℕ = modules_bytes c.modules in
      let v : List ℕ = supervisors_bytes c.supervisors in
      let lab : length (a ++ b) ≡ 152 = omega (arith, length-append a b, g.1) in
      let labd : length (a ++ b ++ d) ≡ 176 = omega (arith, lab, length-append (a ++ b) d, h.1) in
      let p1 : s1 ≡ sets l 23 a = e ∙ ap (λ (y : ℕ). put_at (head_bytes y c) 23 l) z ∙ put_sets a 23 l (omega arith) in
      let p2 : s2 ≡ sets l 23 (a ++ b) = g.0 ∙ ap (λ (x : List ℕ). sets x 31 b) p1 ∙ join l a b 23 31 refl in
      let p3 : s3 ≡ sets l 23 (a ++ b ++ d) = h.0 ∙ ap (λ (x : List ℕ). sets x 175 d) p2 ∙ join l (a ++ b) d 23 175 (omega arith) in
      (k.0 ∙ ap (λ (x : List ℕ). sets x 199 v) p3 ∙ join l (a ++ b ++ d) v 23 199 (omega arith), length_context c g.1 h.1 k.1)

-- ---- the whole, and no room for it

module _ (c : Context) (owners : length c.events.owner ≡ 64) (steps : length c.events.steps ≡ 64) (modules : length c.modules.states ≡ 16)
    (states : length c.supervisors.states ≡ 32) (alphabets : length c.supervisors.alphabet ≡ 32) where
  pub context_size : length (context_bytes c) ≡ 472
  context_size =
      length_context c (length_events c.events owners steps) (length_modules c.modules modules) (length_supervisors c.supervisors states alphabets)

  pub context_narrow : (l : List ℕ) → length l < 495 → l ≡ put_at (context_bytes c) 23 l
  context_narrow l h = sym (put_not (context_bytes c) 23 l (omega (arith, h, context_size)))

-- put with its length, which is known where there is room for it
pub put_whole : (c : Context) (l : List ℕ) {s : List ℕ} → 495 ≤ length l → (s ≡ sets l 23 (context_bytes c)) × (length (context_bytes c) ≡ 472) → s ≡ put_at (context_bytes c) 23 l
put_whole c l h w = w.0 ∙ sym (put_sets (context_bytes c) 23 l (omega (arith, h, w.1)))
