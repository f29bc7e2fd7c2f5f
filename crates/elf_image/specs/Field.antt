-- Numbers in a file, low byte first. ELF-64 object file format, "Data representation".
use Rattle.std.specs.Prelude.{ℕ, List, take, drop}
use Rattle.rv_step.specs.Bytes.{number}

-- the number of n bytes at a place of a file
abbrev pub field : List ℕ → ℕ → ℕ → ℕ
field file place n = number (take n (drop place file))
