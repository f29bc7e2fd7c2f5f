-- What is told of cache lines. This project's own rules.
use Rattle.std.specs.Prelude.{ℕ, ◌++◌, if◌then◌else◌, List, [], ◌∷◌, length, drop, Option, Some, None}
use Rattle.gm_model.specs.Command.{CacheLine}
use Rattle.obj_core.specs.declared.line_info.LineInfo.{LineInfo}

-- the dirty ones of lines, in order
abbrev pub dirty_lines : List CacheLine → List CacheLine
dirty_lines [] = []
dirty_lines (l ∷ ls) = if l.dirty then l ∷ dirty_lines ls else dirty_lines ls

-- what is told of a line
abbrev pub line_info : CacheLine → LineInfo
line_info l = record { set = l.set; addr = l.address; dirty = l.dirty }

abbrev pub line_address : CacheLine → ℕ
line_address l = l.address

-- a buffer with the line's bytes in front, if there is a line
abbrev pub line_bytes : Option CacheLine → List ℕ → List ℕ
line_bytes None buffer = buffer
line_bytes (Some l) buffer = l.bytes ++ drop (length l.bytes) buffer
