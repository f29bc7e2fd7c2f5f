-- What a rule of a part gives: its new state and what it asks for. This project's own rules.
use Rattle.std.specs.Prelude.{ℕ, Bool, true, false, List, [], ◌∷◌}
use Rattle.gm_words.specs.Changes.{Change}
use Rattle.gm_words.specs.Moves.{Moves, no_moves}
use Rattle.gm_model.specs.ObjState.{ObjState}
use Rattle.gm_words.specs.declared.act.Act.{Act}
use Rattle.gm_words.specs.declared.act.Act.TheVariants as acts
use Rattle.gm_words.specs.declared.answer.Answer.{Answer}
use Rattle.gm_words.specs.declared.answer.Answer.TheVariants as answers
use Rattle.gm_words.specs.declared.entry.Entry.{Entry}
use Rattle.pkt_pool.specs.declared.packet.Packet.{Packet}
use Rattle.gm_words.specs.declared.way.Way.{Way}

-- what a wake gives: the new state, the next packet number, the changes to own events, and in order what is asked for
-- and what is noted; the answer; and the packets that came to be and to an end
pub record Stepped : Type 0 where
  pub state : ObjState
  pub next : ℕ
  pub changes : List Change
  pub acts : List Act
  pub entries : List Entry
  pub answer : Answer
  pub moves : Moves

-- a line of the hart changes from one level to another, or stays as it is
abbrev pub line_change : ℕ → Bool → Bool → List Act
line_change bit false false = []
line_change bit true true = []
line_change bit false true = acts.SetLine bit true ∷ []
line_change bit true false = acts.SetLine bit false ∷ []

-- nothing happens
abbrev pub stays : ObjState → ℕ → Stepped
stays s next = record { state = s; next = next; changes = []; acts = []; entries = []; answer = answers.Nothing; moves = no_moves }

-- and besides it consumes a response
abbrev pub answering : Packet → Stepped → Stepped
answering p r = record r { moves = record r.moves { answered = p ∷ [] } }

-- a packet that comes is taken, and ends here
abbrev pub drops : ObjState → ℕ → Packet → Stepped
drops s next p = answering p (stays s next)

-- what a packet that is passed on at once gives: also the packet afterwards, and its way
pub record Passed : Type 0 where
  pub state : ObjState
  pub packet : Packet
  pub changes : List Change
  pub acts : List Act
  pub entries : List Entry
  pub way : Way

-- what a command to the part gives
pub record Commanded : Type 0 where
  pub state : ObjState
  pub changes : List Change
