-- Document 01, "Numbers for what is turned down", with the numbers that document 02 adds: all of them, and which of them each call may give.
use Rattle.std.specs.Prelude.{ℕ, ◌<◌, ◌≡◌, ◌≢◌, List, [], ◌∷◌, ◌++◌, Bool, true, false, ◌||◌, eqb}

abbrev pub has : List ℕ → ℕ → Bool
has [] n = false
has (k ∷ s) n = eqb n k || has s n

-- "Every call with an image checks it first": 1 to 8 are the image's own
abbrev pub of_image : List ℕ
of_image = 1 ∷ 2 ∷ 3 ∷ 4 ∷ 5 ∷ 6 ∷ 7 ∷ 8 ∷ []

-- 9 to 15 of document 01
abbrev pub of_calls : List ℕ
of_calls = 9 ∷ 10 ∷ 11 ∷ 12 ∷ 13 ∷ 14 ∷ 15 ∷ []

-- document 02, "New numbers": 16 of request 2.1, 17 of 2.2, 18 and 19 of 2.6, 20 of 2.7, 21 and 22 of 2.12, 23 of 2.13, 24 and 25 of 2.14
abbrev pub of_requests : List ℕ
of_requests = 16 ∷ 17 ∷ 18 ∷ 19 ∷ 20 ∷ 21 ∷ 22 ∷ 23 ∷ 24 ∷ 25 ∷ []

abbrev pub InTable : ℕ → Type 0
InTable n = has (of_image ++ (of_calls ++ of_requests)) n ≡ true

-- the calls: of a plan; of one device; of a party on many devices; and of a module's own part, on one device and on many
pub data CallKind : Type 0 where
  check write_record rewrite print_plan find_stuck count_words : CallKind
  device_start turn : CallKind
  start module_step supervisor_step deliver : CallKind
  respond tick own_respond own_tick : CallKind

-- which numbers each call may give
abbrev pub numbers_of : CallKind → List ℕ
numbers_of check = of_image
-- "The writer of one record gives 5 or 15 only"
numbers_of write_record = 5 ∷ 15 ∷ []
numbers_of rewrite = of_image ++ (15 ∷ [])
numbers_of print_plan = of_image ++ (15 ∷ [])
numbers_of find_stuck = of_image ++ (15 ∷ 16 ∷ [])
numbers_of count_words = of_image ++ (15 ∷ 16 ∷ 17 ∷ [])
numbers_of device_start = of_image
numbers_of turn = of_image ++ (9 ∷ 11 ∷ [])
numbers_of start = of_image ++ (11 ∷ [])
numbers_of module_step = of_image ++ (9 ∷ 11 ∷ 15 ∷ [])
numbers_of supervisor_step = of_image ++ (9 ∷ 11 ∷ 15 ∷ [])
numbers_of deliver = of_image ++ (9 ∷ 10 ∷ 11 ∷ 12 ∷ [])
numbers_of respond = of_image ++ (9 ∷ 11 ∷ 13 ∷ [])
numbers_of tick = of_image ++ (9 ∷ 11 ∷ 14 ∷ [])
numbers_of own_respond = 11 ∷ 13 ∷ []
numbers_of own_tick = 14 ∷ []

abbrev pub Gives : CallKind → ℕ → Type 0
Gives c n = has (numbers_of c) n ≡ true

-- "Bad input gets its number from document 01", or from document 02. None is the 0 of what is taken, and each has room in a byte.
pub record Listed : Type 0 where
  pub known : (c : CallKind) (n : ℕ) → Gives c n → InTable n
  pub not_0 : (n : ℕ) → InTable n → n ≢ 0
  pub byte : (n : ℕ) → InTable n → n < 256
