-- How the name of a file is shown. Source: this project's own rule.
use Rattle.std.specs.Prelude.{ℕ, ◌&&◌, nat_le, if◌then◌else◌, List, map}

-- a byte that is no visible ASCII character is shown as `?`
abbrev pub shown_byte : ℕ → ℕ
shown_byte b = if nat_le 0x21 b && nat_le b 0x7e then b else 63

abbrev pub shown_name : List ℕ → List ℕ
shown_name name = map shown_byte name
