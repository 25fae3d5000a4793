-- Document 01, "Numbers for what is turned down": "The answer is the number and a byte offset".
use Rattle.std.specs.Prelude.{ℕ, ◌≡◌, Result, Ok, Err}
use Rattle.refusal.specs.declared.Refusal.{Refusal}

-- number n at offset o
abbrev pub refusal : ℕ → ℕ → Refusal
refusal n o = record { number = n; offset = o }

-- the number and the offset of a call's answer; what is not refused has number 0 and offset 0
abbrev pub refused_number : {X : Type 0} → Result X Refusal → ℕ
refused_number (Ok x) = 0
refused_number (Err e) = e.number

abbrev pub refused_offset : {X : Type 0} → Result X Refusal → ℕ
refused_offset (Ok x) = 0
refused_offset (Err e) = e.offset

-- the bytes written "from the buffer's start": none where a call is refused
abbrev pub written_length : Result ℕ Refusal → ℕ
written_length (Ok n) = n
written_length (Err e) = 0

-- what these give is what the answer holds, whatever else it may hold
pub record ReadsOff (X : Type 0) : Type 0 where
  pub number_is : (a : Result X Refusal) (e : Refusal) → a ≡ Err e → refused_number a ≡ e.number
  pub offset_is : (a : Result X Refusal) (e : Refusal) → a ≡ Err e → refused_offset a ≡ e.offset
  pub accepted : (a : Result X Refusal) (x : X) → a ≡ Ok x → (refused_number a ≡ 0) × (refused_offset a ≡ 0)

abbrev pub LengthReadOff : Type 0
LengthReadOff = (a : Result ℕ Refusal) (n : ℕ) → a ≡ Ok n → written_length a ≡ n
