-- An image is the bytes of its records, one after another, as far as it can be read.
use Rattle.std.specs.Prelude.{Result, Ok, Err}
use mathlib.Core.Path.{◌≡◌, refl, sym, ap, ◌∙◌, subst}
use mathlib.Core.List.{List}
use Prim.Native.Nat.{ℕ, ◌+◌, ◌-◌, ◌≤◌}
use native.Mathlib.Nat.{sub-zero}
use native.Mathlib.Omega.{arith}
use lib.ListN.{length, take, drop}
use lib.Seq.{take-add, drop-drop, take-length}
use Rattle.records.specs.Bytes.{bytes_of_all}
use Rattle.records.specs.declared.Record.{Record}
use Rattle.reader.specs.Read.{read_at}
use Rattle.reader.specs.Walk.{Walk, more, stop, walk_from, records_in, stop_of, records_of}
use Rattle.reader.specs.declared.NoRecord.{NoRecord}
use Rattle.reader.specs.declared.NoRecord.TheVariants.{Unknown, Cut, Nothing}
use Rattle.reader.proofs.Reading.{walks, next}
use Rattle.roundtrip.specs.Fits.{Bytes}
use Rattle.roundtrip.proofs.OneRecord.{written_read}

-- the records of a walk from an offset are the bytes up to its end
record Apart (s : List ℕ) (i : ℕ) (w : Walk) : Type 0 where
  ahead : i ≤ stop_of w
  bytes : bytes_of_all (records_in w) ≡ take (stop_of w - i) (drop i s)

-- the same of what follows a walk's first record, wherever that begins
abbrev Rest : List ℕ → Walk → Type 0
Rest s (more o r w) = (i : ℕ) → walk_from s i ≡ w → Apart s i w
Rest s (stop n o) = Unit {0}

module _ (s : List ℕ) (g : Bytes s) where
  stops : (i n : ℕ) → Apart s i (stop n i)
  unfolding stop_of records_in bytes_of_all
  stops i n =
      let z : i - i ≡ 0 = omega arith in
      record { ahead = omega arith; bytes = rw z }

  goes_on : (i n : ℕ) (r : Record) (w : Walk) → read_at s i ≡ Ok (r, n) → Apart s n w → Apart s i (more i r w)
  unfolding stop_of records_in bytes_of_all
  goes_on i n r w e a =
      let b = written_read s i g e in
      let h : i + (n - i) ≡ n = omega arith in
      let k : (n - i) + (stop_of w - n) ≡ stop_of w - i = omega arith in
      record { ahead = omega arith; bytes = rw (b.bytes, a.bytes, ← k, take-add, drop-drop, h) }

  by_read : (i : ℕ) (w : Walk) (x : Result (Record × ℕ) NoRecord) → read_at s i ≡ x → next s i x ≡ w → Rest s w → Apart s i w
  by_read i w (Ok (r, n)) p e f = subst (Apart s i) e (goes_on i n r (walk_from s n) p (subst (Rest s) (sym e) f n refl))
  by_read i w (Err Unknown) p e f = subst (Apart s i) e (stops i 2)
  by_read i w (Err Cut) p e f = subst (Apart s i) e (stops i 3)
  by_read i w (Err Nothing) p e f = subst (Apart s i) e (stops i 3)

  apart : (w : Walk) (i : ℕ) → walk_from s i ≡ w → Apart s i w
  apart (more o r w) i e = by_read i (more o r w) (read_at s i) refl (sym (walks s i) ∙ e) (apart w)
  apart (stop n o) i e = by_read i (stop n o) (read_at s i) refl (sym (walks s i) ∙ e) tt

  pub taken_apart : bytes_of_all (records_of s) ≡ take (stop_of (walk_from s 0)) s
  taken_apart = simp sub-zero at (apart (walk_from s 0) 0 refl).bytes

  pub taken_whole : stop_of (walk_from s 0) ≡ length s → bytes_of_all (records_of s) ≡ s
  taken_whole e = taken_apart ∙ ap (λ (n : ℕ). take n s) e ∙ take-length s
