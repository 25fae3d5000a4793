-- Document 02, 2.4: what the page set of records, and of a plan, keeps.
use Rattle.refusal.specs.Refusal.{refusal}
use Rattle.std.specs.Prelude.{ℕ, ◌+◌, ◌*◌, ◌/◌, ◌≤◌, ◌<◌, ◌≡◌, List, length, take, Ok, Err}
use Rattle.records.specs.Bytes.{bytes_of_all}
use Rattle.records.specs.declared.Record.{Record}
use Rattle.reader.specs.Walk.{records_of}
use Rattle.roundtrip.specs.Fits.{Fits, AllFit, Bytes}
use Rattle.rules.specs.Check.{verdict_of, IsPlan}
use Rattle.paper.specs.Paper.{line_of, page_set_of}
use Rattle.paper.specs.Print.{plan_page_set, answer_by, PagesAs}
use Rattle.paper_laws.specs.Columns.{page_set_read}

pub record OnPaper : Type 0 where
  -- "lines of exactly 72 characters and a line feed"
  pub line : (r : Record) → Fits r → length (line_of r) ≡ 73
  -- "60 lines to a page": 4,380 bytes for each page that is begun
  pub size : (rs : List Record) → AllFit rs → length (page_set_of rs) ≡ 4380 * ((length rs + 59) / 60)
  -- "read by its columns": exactly the records, hence exactly the image of an accepted plan
  pub read_back : (rs : List Record) → AllFit rs → page_set_read (page_set_of rs) ≡ rs
  pub image_back : (s : List ℕ) → Bytes s → IsPlan s → bytes_of_all (page_set_read (plan_page_set s)) ≡ s
  -- the same of the bytes that an accepted call leaves in a buffer
  pub printed_back : (s b : List ℕ) (n : ℕ) (after : List ℕ) → Bytes s → PagesAs s b (Ok n) after → bytes_of_all (page_set_read (take n after)) ≡ s
  -- "determines the plan"
  pub determines : (s t : List ℕ) → Bytes s → Bytes t → IsPlan s → IsPlan t → plan_page_set s ≡ plan_page_set t → s ≡ t

-- an accepted plan has so few records that 168 pages are enough: a buffer of 735,840 bytes is never too short
pub record Enough : Type 0 where
  pub records : (s : List ℕ) → Bytes s → IsPlan s → length (records_of s) ≤ 10052
  pub bytes : (s : List ℕ) → Bytes s → IsPlan s → length (plan_page_set s) ≤ 735840
  pub never : (s b : List ℕ) → Bytes s → IsPlan s → answer_by (verdict_of s) s b ≡ Err (refusal 15 0) → length b < 735840
