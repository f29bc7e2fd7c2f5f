-- What leaves a cache for memory, with the number of write-backs in it. This project's own rule.
use Rattle.std.specs.Prelude.{◌≡◌, ℕ, List, [], ◌∷◌}
use Rattle.gm_cache.specs.Rule.{back_bit, backs}
use Rattle.gm_words.specs.Flow.{Queued}
use Rattle.obj_core.specs.Kept.{Kept}

-- the write-backs are counted
abbrev pub AreCounted : ℕ → Kept → Type 0
AreCounted count f = count ≡ backs f.flow.items

-- how many write-backs the first packet of a queue is: 1, or 0
abbrev pub first_bit : List Queued → ℕ
first_bit [] = 0
first_bit (x ∷ xs) = back_bit x.packet.cmd
