-- Input for the guest, byte by byte. This project's own rule.
use Rattle.std.specs.Prelude.{ℕ, ◌+◌, ◌||◌, Bool, false, if◌then◌else◌, List, [], ◌∷◌}
use Rattle.gm_model.specs.Command.{takes_input}
use Rattle.gm_model.specs.ObjState.{ObjState}
use Rattle.gm_model.specs.Picks.{Input, picked}
use Rattle.gm_model.specs.Sys.{Sys}

-- the machine once a byte has come
abbrev pub fed : ℕ → Sys → Sys
fed byte s = (picked s (Input byte)).sys

-- one of the parts has a place for a byte
abbrev pub one_takes : List ObjState → Bool
one_takes [] = false
one_takes (o ∷ os) = takes_input o || one_takes os

-- the machine once bytes have come in order
abbrev pub input_given : List ℕ → Sys → Sys
input_given [] s = s
input_given (byte ∷ bytes) s = input_given bytes (fed byte s)

-- how many of them were taken: those for which a part had a place as they came
abbrev pub input_taken : List ℕ → Sys → ℕ
input_taken [] s = 0
input_taken (byte ∷ bytes) s = (if one_takes s.objects then 1 else 0) + input_taken bytes (fed byte s)
