-- What the other parts see of a part, and what the program sees of it. And the laws of one wake, in these words.
use Rattle.std.specs.Prelude.{◌≡◌, ℕ, ◌+◌, ◌<◌, ◌≤◌, ◌==◌, if◌then◌else◌, Bool, true, false, List, [], ◌∷◌, ◌++◌, Option, Some, None, ◌⊎◌}
use Rattle.gm_words.specs.Changes.{Change, due_after}
use Rattle.gm_words.specs.Moves.{Moves}
use Rattle.gm_model.specs.View.{Mind, act_packets}
use Rattle.gm_words.specs.declared.act.Act.{Act}
use Rattle.gm_words.specs.declared.answer.Answer.{Answer}
use Rattle.pkt_pool.specs.declared.packet.Packet.{Packet}
use Rattle.gm_words.specs.declared.wake.Wake.{Wake}
use Rattle.gm_words.specs.declared.wake.Wake.TheVariants as wakes
use Rattle.gm_laws.specs.Words.{offers, calls, told, taken, refused, retry, shown, rejected, IsIn, offer_out, IsBlind, weigh, requests_of, responses_of, where_taken}

pub record Face : Type 0 where
  pub ports : ℕ
  pub asked : ℕ → ℕ  -- by port: 1 where an offer was made and has no answer
  pub waits : ℕ → ℕ  -- by port: 1 where it was refused
  pub head : ℕ → Option Packet  -- by port: the packet that is offered there
  pub listed : ℕ → ℕ  -- by port: how often the port stands in waiting lists
  pub stands : ℕ → ℕ → ℕ  -- by lane and port: the same of the lane's list
  pub hungry : ℕ → Bool  -- by lane: it has room, and a list that isn't empty
  pub route : Packet → ℕ  -- the lane of an offered packet
  pub due : ℕ → Bool  -- by slot: its event is pending
  pub sends : ℕ → Packet → Bool  -- by port: such a packet may be offered there, or be passed on
  pub admits : ℕ → Packet → Bool  -- by port: such a packet may be shown there, or be passed there
  pub passes : ℕ → Bool  -- by port: packets may be passed on there
  pub packets : List Packet  -- those that it holds
  pub mind : Option Mind  -- the hart, where it is the active CPU
  pub cpu : Bool  -- it is a CPU, active or not
  pub instant : Bool  -- and its packets are passed at once
  pub memory : Option (List ℕ)  -- RAM's bytes, where it is memory
  pub caches : Bool  -- it has lines of memory: a cache
  pub toil : ℕ  -- what a served packet may still cause in this event

pub record FaceOk (f : Face) : Type 0 where
  pub bits : (p : ℕ) → f.asked p + f.waits p ≤ 1
  pub within : (p : ℕ) → 1 ≤ f.asked p + f.waits p → p < f.ports
  pub offers_one : (p : ℕ) → 1 ≤ f.asked p + f.waits p → (x : Packet) × (f.head p ≡ Some x) × (f.sends p x ≡ true)
  pub lists : (lane p : ℕ) → f.stands lane p ≤ f.listed p
  pub holds : (p : ℕ) (x : Packet) → 1 ≤ f.asked p + f.waits p → f.head p ≡ Some x → (h : Packet → ℕ) → h x ≤ weigh h f.packets
  pub portless : f.instant ≡ true → f.ports ≡ 0

-- a refused offer that joins the lane's list
pub record Joins (f : Face) (w : Wake) (answer : Answer) (lane p : ℕ) : Type 0 where
  pub pkt : Packet
  pub offer : w ≡ wakes.Offer (record { 0 = p }) pkt
  pub there : f.route pkt ≡ lane
  pub turned : 1 ≤ rejected w answer p

-- a port of the lane's list that is called
pub record CallsOne (f : Face) (acts : List Act) (lane : ℕ) : Type 0 where
  pub port : ℕ
  pub stood : 1 ≤ f.stands lane port
  pub called : 1 ≤ calls port acts

-- what a part may ask of a wake
pub record MayWake (f : Face) (w : Wake) : Type 0 where
  pub told : (p : ℕ) → told w p ≤ f.asked p
  pub retry : (p : ℕ) → retry w p ≤ f.waits p
  pub fired : (s : ℕ) → w ≡ wakes.Event (record { 0 = s }) → f.due s ≡ true
  pub there : (p : ℕ) → 1 ≤ shown w p → p < f.ports
  pub fresh : (p : ℕ) → 1 ≤ shown w p → f.listed p ≡ 0
  pub fits : (p : ℕ) (x : Packet) → w ≡ wakes.Offer (record { 0 = p }) x → f.admits p x ≡ true

-- the laws of one wake on ports
pub record Law (f : Face) (w : Wake) (g : Face) (answer : Answer) (acts : List Act) : Type 0 where
  pub ok : FaceOk g
  pub ports : g.ports ≡ f.ports
  pub route : (x : Packet) → g.route x ≡ f.route x
  pub sends : (p : ℕ) (x : Packet) → g.sends p x ≡ f.sends p x
  pub admits : (p : ℕ) (x : Packet) → g.admits p x ≡ f.admits p x
  pub passes : (p : ℕ) → g.passes p ≡ f.passes p
  pub asked : (p : ℕ) → g.asked p + told w p ≡ f.asked p + offers p acts
  pub waits : (p : ℕ) → g.waits p + retry w p ≡ f.waits p + refused w p
  pub listed : (p : ℕ) → g.listed p + calls p acts ≡ f.listed p + rejected w answer p
  pub joins : (lane p : ℕ) → 1 ≤ g.stands lane p → (1 ≤ f.stands lane p) ⊎ Joins f w answer lane p
  pub carries : (p : ℕ) (x : Packet) → IsIn (offer_out p x) acts → g.head p ≡ Some x
  pub keeps : (p : ℕ) → 1 ≤ f.asked p + f.waits p → taken w p ≡ 0 → g.head p ≡ f.head p
  pub again : (p : ℕ) → retry w p ≤ offers p acts
  pub feeds : (p : ℕ) (x : Packet) → w ≡ wakes.Offer (record { 0 = p }) x → g.hungry (f.route x) ≡ false
  pub hungry : (lane : ℕ) → g.hungry lane ≡ true → (f.hungry lane ≡ true) ⊎ CallsOne f acts lane

-- what stays as it is
pub record IsSame (f g : Face) : Type 0 where
  pub cpu : g.cpu ≡ f.cpu
  pub instant : g.instant ≡ f.instant
  pub caches : g.caches ≡ f.caches
  pub empty : f.instant ≡ true → (f.packets ≡ []) × (g.packets ≡ [])

-- whether the event of the slot n is pending, once that was taken out whose wake it is
abbrev pub due_before : Wake → Bool → ℕ → Bool
due_before (wakes.Event slot) b n = if n == slot.0 then false else b
due_before (wakes.Offer port p) b n = b
due_before (wakes.Taken port) b n = b
due_before (wakes.Refused port) b n = b
due_before (wakes.Retry port) b n = b
due_before (wakes.Line bit level) b n = b
due_before (wakes.AtomicDone p latency) b n = b

-- the part's state tells which of its events are pending
abbrev pub TellsDue : Face → Wake → Face → List Change → Type 0
TellsDue f w g changes = (n : ℕ) → g.due n ≡ due_after changes (due_before w (f.due n) n) n

-- what a wake takes in, and what it lets go
abbrev pub came_in : (Packet → ℕ) → Wake → Answer → ℕ
came_in f (wakes.Event s) a = 0
came_in f (wakes.Offer q x) a = where_taken a (f x)
came_in f (wakes.Taken q) a = 0
came_in f (wakes.Refused q) a = 0
came_in f (wakes.Retry q) a = 0
came_in f (wakes.Line b l) a = 0
came_in f (wakes.AtomicDone x l) a = f x

abbrev pub head_weight : (Packet → ℕ) → Option Packet → ℕ
head_weight f None = 0
head_weight f (Some x) = f x

abbrev pub went_out : (Packet → ℕ) → Face → Wake → ℕ
went_out f s (wakes.Event n) = 0
went_out f s (wakes.Offer q x) = 0
went_out f s (wakes.Taken q) = head_weight f (s.head q.0)
went_out f s (wakes.Refused q) = 0
went_out f s (wakes.Retry q) = 0
went_out f s (wakes.Line b l) = 0
went_out f s (wakes.AtomicDone x l) = 0

-- the packets that acts pass at once
abbrev pub passed_packets : List Act → List Packet
passed_packets [] = []
passed_packets (a ∷ rest) = act_packets a ++ passed_packets rest

-- no packet is lost or doubled: beside those that stay there are, before the wake, those that go, end and are served;
-- and after it those that were made, and the responses
pub record Conserves (f : Face) (w : Wake) (g : Face) (answer : Answer) (acts : List Act) (m : Moves) : Type 0 where
  pub kept : List Packet
  pub before : (h : Packet → ℕ) → IsBlind h → weigh h f.packets + came_in h w answer
      ≡ weigh h kept + went_out h f w + weigh h m.answered + weigh h m.absorbed + weigh h (requests_of m.served)
  pub after : (h : Packet → ℕ) → IsBlind h → weigh h g.packets + weigh h (passed_packets acts)
      ≡ weigh h kept + weigh h m.made + weigh h (responses_of m.served)
  pub numbers : (h : Packet → ℕ) → ((x y : Packet) → x.id ≡ y.id → h x ≡ h y) → weigh h (responses_of m.served) ≡ weigh h (requests_of m.served)
