-- Which packets came to be, and which came to an end. This project's own rule.
use Rattle.std.specs.Prelude.{◌≡◌, ℕ, ◌+◌, List, [], ◌∷◌, ◌++◌}
use Rattle.pkt_pool.specs.declared.packet.Packet.{Packet}

-- a request that was served, and the response to it
pub record Service : Type 0 where
  pub request : Packet
  pub response : Packet

-- requests that were made; responses to own requests, which were consumed; write-backs whose bytes were taken over; and requests
-- that became responses
pub record Moves : Type 0 where
  pub made : List Packet
  pub answered : List Packet
  pub absorbed : List Packet
  pub served : List Service

abbrev pub no_moves : Moves
no_moves = record { made = []; answered = []; absorbed = []; served = [] }

-- first these, then those
abbrev pub joined : Moves → Moves → Moves
joined a b = record {
  made = a.made ++ b.made;
  answered = a.answered ++ b.answered;
  absorbed = a.absorbed ++ b.absorbed;
  served = a.served ++ b.served;
}

-- the packets have the numbers from the first on, and the last one is the next after them
abbrev pub AreDrawn : ℕ → List Packet → ℕ → Type 0
AreDrawn n [] m = m ≡ n
AreDrawn n (x ∷ xs) m = (x.id.0 ≡ n) × AreDrawn (n + 1) xs m
