-- What a refused analysis of a plan leaves of the buffer.
use Rattle.std.specs.Prelude.{Option, Some, None, Result, Ok, Err}
use Rattle.refusal.specs.Refusal.{refusal}
use Rattle.refusal.proofs.Laws.{length_read_off}
use Rattle.refusal.specs.declared.Refusal.{Refusal}
use Prim.Native.Nat.{ℕ}
use mathlib.Core.Path.{refl, ap}
use mathlib.Core.List.{List, ◌++◌}
use lib.ListN.{length}
use Rattle.blocking.specs.Blocking.{Told, image_refused, too_many, free, short, stuck}
use Rattle.blocking.specs.Numbers.{blocking_length}
use Rattle.counting.specs.Counting.{Told as CountsTold, answer_text, image_refused as count-image-refused, too_many as count-too-many, too_long, too_large, short as count-short, counted}
use Rattle.refusals.specs.Table.{check, find_stuck, count_words, Gives}
use Rattle.refusals.specs.Refusals.{OffsetRight, FindStuck, CountWords, Analyses}
use Rattle.refusals.proofs.Table.{passed}
use Rattle.refusals.proofs.Cases.{at_zero, accepts, refuses, untouched, put}
use Rattle.refusals.proofs.Checked.{checked_as}

stuck_refused : (n o : ℕ) (b : List ℕ) → Gives find_stuck n → OffsetRight n o → FindStuck b (Err (refusal n o)) b
stuck_refused n o b t p =
    record { answer = refuses find_stuck (refusal n o) t p; bytes = λ k e. ap blocking_length e; free = λ e. ap blocking_length e; buffer = untouched n b }

find_stuck_lem : (image b : List ℕ) (a : Result (Option ℕ) Refusal) (c : List ℕ) → Told image b a c → FindStuck b a c
find_stuck_lem image b (Err why) c (image_refused e) = let j = checked_as image e in stuck_refused why.number why.offset b (passed check find_stuck refl why.number (j.numbered why refl)) j.offset_right
find_stuck_lem image b (Err e) c (too_many i m) = stuck_refused 16 0 b refl (at_zero 16)
find_stuck_lem image b (Ok None) c (free i m f) =
    record { answer = accepts find_stuck _; bytes = λ k e. ap blocking_length e; free = λ e. ap blocking_length e; buffer = untouched 0 b }
find_stuck_lem image b (Err e) c (short i m f l) = stuck_refused 15 0 b refl (at_zero 15)
find_stuck_lem image b (Ok (Some k)) c (stuck {w} {q} i m f l) =
    record { answer = accepts find_stuck _; bytes = λ k e. ap blocking_length e; free = λ e. ap blocking_length e; buffer = put (length (w ++ q)) (w ++ q) b refl l }

count_refused : (n o : ℕ) (b : List ℕ) → Gives count_words n → OffsetRight n o → CountWords b (Err (refusal n o)) b
count_refused n o b t p =
    record { answer = refuses count_words (refusal n o) t p; bytes = length_read_off _; buffer = untouched n b }

count_words_lem : (image : List ℕ) (m : ℕ) (b : List ℕ) (a : Result ℕ Refusal) (c : List ℕ) → CountsTold image m b a c → CountWords b a c
count_words_lem image m b (Err why) c (count-image-refused e) = let j = checked_as image e in count_refused why.number why.offset b (passed check count_words refl why.number (j.numbered why refl)) j.offset_right
count_words_lem image m b (Err e) c (count-too-many i h) = count_refused 16 0 b refl (at_zero 16)
count_words_lem image m b (Err e) c (too_long i a h) = count_refused 17 0 b refl (at_zero 17)
count_words_lem image m b (Err e) c (too_large i h l) = count_refused 17 0 b refl (at_zero 17)
count_words_lem image m b (Err e) c (count-short i h f l) = count_refused 15 0 b refl (at_zero 15)
count_words_lem image m b (Ok k) c (counted {l} i h f r) =
    record {
      answer = accepts count_words _;
      bytes = length_read_off _;
      buffer = put (length (answer_text image m l)) (answer_text image m l) b refl r;
    }

pub analyses : Analyses
analyses = record { find_stuck = find_stuck_lem; count_words = count_words_lem }
