-- What is remembered is read back from its bytes.
use mathlib.Core.Path.{◌≡◌, refl, sym, ap, ap₂, ◌∙◌, subst}
use mathlib.Core.List.{List, [], ◌∷◌, ◌++◌, append_assoc, append-nil}
use mathlib.Core.Bool.{Bool, true, false}
use Prim.Native.Nat.{ℕ, zero, suc, ◌+◌, ◌/◌, ◌%◌, ◌^◌, ◌<◌}
use native.Mathlib.Nat.{add-zero, mod-lt}
use native.Mathlib.Numerals.{add-one}
use lib.ListN.{length, get_or, drop}
use lib.Dec.{lit<}
use lib.Seq.{get_or-drop, drop-drop, drop_at}
use Rattle.roundtrip.specs.Fits.{Byte, Word, Bytes}
use Rattle.words.specs.Word.{quad_at, quad_bytes, word_at, word_bytes}
use Rattle.words.proofs.Laws.{length_word, quad_drop, quad_read, word_drop, word_read}
use Rattle.context.specs.declared.Context.{Context}
use Rattle.fields.specs.Fields.{bytes_from, flag_byte, flag_of}
use Rattle.fields.proofs.Back.{flag_read}
use Rattle.context_bytes.specs.Encoding.{key_bytes, counts_bytes, events_bytes, modules_bytes, words_bytes, supervisors_bytes, context_bytes}
use Rattle.context_bytes.specs.Encoding.{key_at, counts_at, events_at, modules_at, words_from, supervisors_at, context_at, Words, ContextEncodable}
use Rattle.context_bytes.proofs.Writing.{head_bytes, context_size}

-- ---- what stands at an offset, from the bytes from there on

module _ (b : List ℕ) (o : ℕ) where
  pub later : (x t : List ℕ) (n : ℕ) → drop o b ≡ x ++ t → length x ≡ n → drop (o + n) b ≡ t
  later x t n e l = sym (drop-drop n o b) ∙ ap (drop n) e ∙ drop_at x t n l

  pub byte_there : (x : ℕ) (t : List ℕ) → drop o b ≡ x ∷ t → get_or b o 0 ≡ x
  byte_there x t e = ap (λ (k : ℕ). get_or b k 0) (sym (add-zero o)) ∙ sym (get_or-drop o b 0 0) ∙ ap (λ (s : List ℕ). get_or s 0 0) e

  pub quad_there : (x : ℕ) (t : List ℕ) → drop o b ≡ quad_bytes x ++ t → x < 2 ^ 32 → quad_at b o ≡ x
  quad_there x t e h = ap (quad_at b) (sym (add-zero o)) ∙ sym (quad_drop o b 0) ∙ ap (λ (s : List ℕ). quad_at s 0) e ∙ quad_read x t h

  pub word_there : (x : ℕ) (t : List ℕ) → drop o b ≡ word_bytes x ++ t → Word x → word_at b o ≡ x
  word_there x t e h = ap (word_at b) (sym (add-zero o)) ∙ sym (word_drop o b 0) ∙ ap (λ (s : List ℕ). word_at s 0) e ∙ word_read x t h

module _ (b : List ℕ) where
  all_there : (o : ℕ) (q t : List ℕ) → drop o b ≡ q ++ t → bytes_from b o (length q) ≡ q
  unfolding bytes_from
  all_there o [] t e = refl
  all_there o (x ∷ q) t e =
      let rest : drop (suc o) b ≡ q ++ t = ap (λ (k : ℕ). drop k b) (sym (add-one o)) ∙ later b o (x ∷ []) (q ++ t) 1 e refl in
      ap₂ ◌∷◌ (byte_there b o x (q ++ t) e) (all_there (suc o) q t rest)

  pub bytes_there : (o n : ℕ) (q t : List ℕ) → drop o b ≡ q ++ t → length q ≡ n → bytes_from b o n ≡ q
  bytes_there o n q t e l = ap (bytes_from b o) (sym l) ∙ all_there o q t e

  all_words : (o : ℕ) (q t : List ℕ) → drop o b ≡ words_bytes q ++ t → Words q → words_from b o (length q) ≡ q
  unfolding words_from words_bytes
  all_words o [] t e h = refl
  all_words o (x ∷ q) t e h =
      let is : drop o b ≡ word_bytes x ++ (words_bytes q ++ t) = e ∙ append_assoc (word_bytes x) (words_bytes q) t in
      ap₂ ◌∷◌ (word_there b o x (words_bytes q ++ t) is (h 0))
      (all_words (o + 8) q t (later b o (word_bytes x) (words_bytes q ++ t) 8 is (length_word x)) (λ j. h (suc j)))

  pub words_there : (o n : ℕ) (q : List ℕ) → drop o b ≡ words_bytes q → length q ≡ n → Words q → words_from b o n ≡ q
  words_there o n q e l h = ap (words_from b o) (sym l) ∙ all_words o q [] (e ∙ sym (append-nil (words_bytes q))) h

-- ---- lists of bytes

pub data All : List ℕ → Type 0 where
  none : All []
  one : {x : ℕ} {l : List ℕ} → Byte x → All l → All (x ∷ l)

pub all_of : (l : List ℕ) → Bytes l → All l
all_of [] g = none
all_of (x ∷ l) g = one (g 0) (all_of l (λ j. g (suc j)))

pub bytes_of : {l : List ℕ} → All l → Bytes l
bytes_of none j = lit< tt
bytes_of (one h a) zero = h
bytes_of (one h a) (suc j) = bytes_of a j

pub both : {l r : List ℕ} → All l → All r → All (l ++ r)
both none h = h
both (one h a) g = one h (both a g)

digit : (x : ℕ) → Byte (x % 256)
digit x = mod-lt x (lit< tt)

pub quad_bytes_lem : (x : ℕ) → All (quad_bytes x)
unfolding quad_bytes
quad_bytes_lem x = one (digit (x / 0x1000000)) (one (digit (x / 0x10000)) (one (digit (x / 0x100)) (one (digit x) none)))

pub word_bytes_lem : (x : ℕ) → All (word_bytes x)
unfolding word_bytes
word_bytes_lem x =
    one (digit (x / 0x100000000000000)) (one (digit (x / 0x1000000000000)) (one (digit (x / 0x10000000000)) (one (digit (x / 0x100000000))
    (one (digit (x / 0x1000000)) (one (digit (x / 0x10000)) (one (digit (x / 0x100)) (one (digit x) none)))))))

pub words_bytes_lem : (q : List ℕ) → All (words_bytes q)
unfolding words_bytes
words_bytes_lem [] = none
words_bytes_lem (x ∷ q) = both (word_bytes_lem x) (words_bytes_lem q)

flag_byte_lem : (f : Bool) → Byte (flag_byte f)
flag_byte_lem true = lit< tt
flag_byte_lem false = lit< tt

-- ---- the bytes from each part on

module _ (c : Context) (y : ContextEncodable c) where
  abbrev t207 : List ℕ
  t207 = c.supervisors.states ++ words_bytes c.supervisors.alphabet

  abbrev t183 : List ℕ
  t183 = c.modules.states ++ (word_bytes c.supervisors.known ++ t207)

  abbrev t111 : List ℕ
  t111 = c.events.steps ++ (word_bytes c.modules.known ++ t183)

  abbrev t39 : List ℕ
  t39 = word_bytes c.events.controllable ++ (c.events.owner ++ t111)

  abbrev head : List ℕ
  head = head_bytes (flag_byte c.begun) c

  abbrev t23 : List ℕ
  t23 = head ++ (word_bytes c.events.known ++ t39)

  all_from : context_bytes c ≡ t23
  unfolding context_bytes key_bytes counts_bytes events_bytes modules_bytes supervisors_bytes
  all_from = simp append_assoc

  head_bytes_lem : All head
  head_bytes_lem =
      let counts : All (c.counts.modules ∷ c.counts.supervisors ∷ c.counts.events ∷ []) = one y.modules (one y.supervisors (one y.events none)) in
      one (flag_byte_lem c.begun) (one y.kind (one y.first (one y.second (one y.third counts))))

  supervisors_bytes_lem : All (word_bytes c.supervisors.known ++ t207)
  supervisors_bytes_lem =
      both (word_bytes_lem c.supervisors.known) (both (all_of c.supervisors.states y.supervisor_states) (words_bytes_lem c.supervisors.alphabet))

  modules_bytes_lem : All (word_bytes c.modules.known ++ t183)
  modules_bytes_lem = both (word_bytes_lem c.modules.known) (both (all_of c.modules.states y.module_states) supervisors_bytes_lem)

  events_bytes_lem : All (word_bytes c.events.known ++ t39)
  events_bytes_lem =
      both (word_bytes_lem c.events.known) (both (word_bytes_lem c.events.controllable)
      (both (all_of c.events.owner y.owner) (both (all_of c.events.steps y.steps) modules_bytes_lem)))

  pub context_length : length (context_bytes c) ≡ 472
  context_length = context_size c y.owners y.all_steps y.all_modules y.all_supervisors y.all_alphabets

  pub context_bytes_lem : All (context_bytes c)
  context_bytes_lem = subst All (sym all_from) (both head_bytes_lem events_bytes_lem)

  -- ---- each part, in bytes that have them from 23 to the end

  module _ (b : List ℕ) (at : drop 23 b ≡ context_bytes c) where
    from_23 : drop 23 b ≡ t23
    from_23 = at ∙ all_from

    from_31 : drop 31 b ≡ word_bytes c.events.known ++ t39
    from_31 = later b 23 head (word_bytes c.events.known ++ t39) 8 from_23 refl

    from_39 : drop 39 b ≡ t39
    from_39 = later b 31 (word_bytes c.events.known) t39 8 from_31 (length_word c.events.known)

    from_47 : drop 47 b ≡ c.events.owner ++ t111
    from_47 = later b 39 (word_bytes c.events.controllable) (c.events.owner ++ t111) 8 from_39 (length_word c.events.controllable)

    from_111 : drop 111 b ≡ t111
    from_111 = later b 47 c.events.owner t111 64 from_47 y.owners

    from_175 : drop 175 b ≡ word_bytes c.modules.known ++ t183
    from_175 = later b 111 c.events.steps (word_bytes c.modules.known ++ t183) 64 from_111 y.all_steps

    from_183 : drop 183 b ≡ t183
    from_183 = later b 175 (word_bytes c.modules.known) t183 8 from_175 (length_word c.modules.known)

    from_199 : drop 199 b ≡ word_bytes c.supervisors.known ++ t207
    from_199 = later b 183 c.modules.states (word_bytes c.supervisors.known ++ t207) 16 from_183 y.all_modules

    from_207 : drop 207 b ≡ t207
    from_207 = later b 199 (word_bytes c.supervisors.known) t207 8 from_199 (length_word c.supervisors.known)

    from_239 : drop 239 b ≡ words_bytes c.supervisors.alphabet
    from_239 = later b 207 c.supervisors.states (words_bytes c.supervisors.alphabet) 32 from_207 y.all_supervisors

    -- the j-th of the eight bytes from 23 on
    head_byte : (j : ℕ) → get_or b (23 + j) 0 ≡ get_or t23 j 0
    head_byte j = sym (get_or-drop 23 b j 0) ∙ ap (λ (s : List ℕ). get_or s j 0) from_23

    pub context_flag : get_or b 23 0 ≡ flag_byte c.begun
    context_flag = head_byte 0

    events_back : events_at b ≡ c.events
    unfolding events_at
    events_back =
        ap₂ (λ (p q : ℕ). record { known = p; controllable = q; owner = bytes_from b 47 64; steps = bytes_from b 111 64 })
        (word_there b 31 c.events.known t39 from_31 y.events_known)
        (word_there b 39 c.events.controllable (c.events.owner ++ t111) from_39 y.controllable)
        ∙ ap₂ (λ (p q : List ℕ). record { known = c.events.known; controllable = c.events.controllable; owner = p; steps = q })
        (bytes_there b 47 64 c.events.owner t111 from_47 y.owners)
        (bytes_there b 111 64 c.events.steps (word_bytes c.modules.known ++ t183) from_111 y.all_steps)

    modules_back : modules_at b ≡ c.modules
    unfolding modules_at
    modules_back =
        ap₂ (λ (p : ℕ) (q : List ℕ). record { known = p; states = q })
        (word_there b 175 c.modules.known t183 from_175 y.modules_known)
        (bytes_there b 183 16 c.modules.states (word_bytes c.supervisors.known ++ t207) from_183 y.all_modules)

    supervisors_back : supervisors_at b ≡ c.supervisors
    unfolding supervisors_at
    supervisors_back =
        ap₂ (λ (p : ℕ) (q : List ℕ). record { known = p; states = q; alphabet = words_from b 239 32 })
        (word_there b 199 c.supervisors.known t207 from_199 y.supervisors_known)
        (bytes_there b 207 32 c.supervisors.states (words_bytes c.supervisors.alphabet) from_207 y.all_supervisors)
        ∙ ap (λ (q : List ℕ). record { known = c.supervisors.known; states = c.supervisors.states; alphabet = q })
        (words_there b 239 32 c.supervisors.alphabet from_239 y.all_alphabets y.alphabet)

    key_back : key_at b 24 ≡ c.last
    unfolding key_at
    key_back =
        ap₂ (λ (p q : ℕ). record { kind = p; first = q; second = get_or b 26 0; third = get_or b 27 0 }) (head_byte 1) (head_byte 2)
        ∙ ap₂ (λ (p q : ℕ). record { kind = c.last.kind; first = c.last.first; second = p; third = q }) (head_byte 3) (head_byte 4)

    counts_back : counts_at b 28 ≡ c.counts
    unfolding counts_at
    counts_back =
        ap₂ (λ (p q : ℕ). record { modules = p; supervisors = q; events = get_or b 30 0 }) (head_byte 5) (head_byte 6)
        ∙ ap (λ (p : ℕ). record { modules = c.counts.modules; supervisors = c.counts.supervisors; events = p }) (head_byte 7)

    pub context_back : context_at b ≡ c
    unfolding context_at
    context_back =
        let flag : flag_of (get_or b 23 0) ≡ c.begun = ap flag_of (head_byte 0) ∙ flag_read c.begun in
        simp (flag, key_back, counts_back, events_back, modules_back, supervisors_back)
