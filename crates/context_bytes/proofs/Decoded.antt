-- Bytes are those of what they stand for, which can be encoded.
use mathlib.Core.Path.{◌≡◌, refl, sym, ap, ap₂, ◌∙◌}
use mathlib.Core.List.{List, ◌∷◌, ◌++◌}
use mathlib.Core.Bool.{true}
use Prim.Native.Nat.{ℕ, zero, suc, ◌+◌, ◌*◌}
use native.Mathlib.Omega.{arith}
use lib.ListN.{length, get_or}
use lib.Dec.{lit<}
use Rattle.roundtrip.specs.Fits.{Bytes}
use Rattle.roundtrip.proofs.Shape.{word_small}
use Rattle.fields.specs.Fields.{bytes_from, flag_byte, flag_of, is_flag}
use Rattle.fields.proofs.Back.{from_add, flag_written, word_from}
use Rattle.context_bytes.specs.Encoding.{key_bytes, counts_bytes, events_bytes, modules_bytes, words_bytes, supervisors_bytes, context_bytes}
use Rattle.context_bytes.specs.Encoding.{key_at, counts_at, events_at, modules_at, words_from, supervisors_at, context_at, Words, ContextEncodable}

-- ---- parts of bytes

module _ (b : List ℕ) where
  pub glue : (o m n : ℕ) {l r : List ℕ} → l ≡ bytes_from b o m → r ≡ bytes_from b (o + m) n → l ++ r ≡ bytes_from b o (m + n)
  glue o m n e f = ap₂ ◌++◌ e f ∙ sym (from_add b o m n)

  pub from_length : (o n : ℕ) → length (bytes_from b o n) ≡ n
  unfolding bytes_from
  from_length o zero = refl
  from_length o (suc n) = ap suc (from_length (suc o) n)

  words_length : (o n : ℕ) → length (words_from b o n) ≡ n
  unfolding words_from
  words_length o zero = refl
  words_length o (suc n) = ap suc (words_length (o + 8) n)

module _ (b : List ℕ) (g : Bytes b) where
  pub from_bytes : (o n : ℕ) → Bytes (bytes_from b o n)
  unfolding bytes_from
  from_bytes o zero j = lit< tt
  from_bytes o (suc n) zero = g o
  from_bytes o (suc n) (suc j) = from_bytes (suc o) n j

  words_small : (o n : ℕ) → Words (words_from b o n)
  unfolding words_from
  words_small o zero j = lit< tt
  words_small o (suc n) zero = word_small b o g
  words_small o (suc n) (suc j) = words_small (o + 8) n j

  words_written : (o n : ℕ) → words_bytes (words_from b o n) ≡ bytes_from b o (n * 8)
  unfolding words_bytes words_from bytes_from
  words_written o zero = refl
  words_written o (suc n) =
      let k : 8 + n * 8 ≡ suc n * 8 = omega arith in
      glue b o 8 (n * 8) (word_from b g o) (words_written (o + 8) n) ∙ ap (bytes_from b o) k

  events_written : events_bytes (events_at b) ≡ bytes_from b 31 144
  unfolding events_bytes events_at
  events_written = glue b 31 80 64 (glue b 31 16 64 (glue b 31 8 8 (word_from b g 31) (word_from b g 39)) refl) refl

  modules_written : modules_bytes (modules_at b) ≡ bytes_from b 175 24
  unfolding modules_bytes modules_at
  modules_written = glue b 175 8 16 (word_from b g 175) refl

  supervisors_written : supervisors_bytes (supervisors_at b) ≡ bytes_from b 199 296
  unfolding supervisors_bytes supervisors_at
  supervisors_written = glue b 199 40 256 (glue b 199 8 32 (word_from b g 199) refl) (words_written 239 32)

  module _ (flag : is_flag (get_or b 23 0) ≡ true) where
    head_written : (flag_byte (flag_of (get_or b 23 0)) ∷ key_bytes (key_at b 24)) ++ counts_bytes (counts_at b 28) ≡ bytes_from b 23 8
    unfolding key_bytes key_at counts_bytes counts_at bytes_from
    head_written = ap (λ (f : ℕ). f ∷ bytes_from b 24 7) (flag_written (get_or b 23 0) flag)

    pub context_written : context_bytes (context_at b) ≡ bytes_from b 23 472
    unfolding context_bytes context_at
    context_written = glue b 23 176 296 (glue b 23 152 24 (glue b 23 8 144 head_written events_written) modules_written) supervisors_written

  pub context_encodable : ContextEncodable (context_at b)
  unfolding context_at key_at counts_at events_at modules_at supervisors_at
  context_encodable =
      record {
        kind = g 24;
        first = g 25;
        second = g 26;
        third = g 27;
        modules = g 28;
        supervisors = g 29;
        events = g 30;
        events_known = word_small b 31 g;
        controllable = word_small b 39 g;
        owners = from_length b 47 64;
        owner = from_bytes 47 64;
        all_steps = from_length b 111 64;
        steps = from_bytes 111 64;
        modules_known = word_small b 175 g;
        all_modules = from_length b 183 16;
        module_states = from_bytes 183 16;
        supervisors_known = word_small b 199 g;
        all_supervisors = from_length b 207 32;
        supervisor_states = from_bytes 207 32;
        all_alphabets = words_length b 239 32;
        alphabet = words_small 239 32;
      }
