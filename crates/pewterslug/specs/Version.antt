-- The version of the interface.
use Rattle.std.specs.Prelude.{ℕ}

-- "The layout of states and answers": PEWTERSLUG_VERSION of include/pewterslug.h.
abbrev pub version : ℕ
version = 1
