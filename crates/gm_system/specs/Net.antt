-- The parts and the items in delivery: what holds of them all. No kind is named here.
use Rattle.std.specs.Prelude.{◌≡◌, ℕ, ◌+◌, ◌<◌, ◌≤◌, true, List, Some}
use Rattle.gm_words.specs.Platform.{End}
use Rattle.gm_model.specs.Deliver.{Item, Sent}
use Rattle.gm_words.specs.declared.answer.Answer.{Answer}
use Rattle.gm_words.specs.declared.answer.Answer.TheVariants as answers
use Rattle.pkt_pool.specs.declared.packet.Packet.{Packet}
use Rattle.gm_words.specs.declared.wake.Wake.{Wake}
use Rattle.gm_words.specs.declared.wake.Wake.TheVariants as wakes
use Rattle.gm_laws.specs.Words.{IsIn, only, offered_by, called_by, told, refused, retry, shown, rejected, offer_out}
use Rattle.gm_laws.specs.Face.{Face, FaceOk}

-- what is half done: nothing; the port's offer left the list, and is not yet shown to the peer; it was taken, or denied, and its
-- part is not yet told; a call to the port left the list
pub data Debt : Type 0 where
  Clear : Debt
  Offering : ℕ → ℕ → Debt
  Accepted : ℕ → ℕ → Debt
  Denied : ℕ → ℕ → Debt
  Calling : ℕ → ℕ → Debt

abbrev pub owes_told : Debt → ℕ → ℕ → ℕ
owes_told Clear k p = 0
owes_told (Offering i q) k p = only i k (only q p 1)
owes_told (Accepted i q) k p = only i k (only q p 1)
owes_told (Denied i q) k p = only i k (only q p 1)
owes_told (Calling i q) k p = 0

abbrev pub owes_refused : Debt → ℕ → ℕ → ℕ
owes_refused Clear k p = 0
owes_refused (Offering i q) k p = 0
owes_refused (Accepted i q) k p = 0
owes_refused (Denied i q) k p = only i k (only q p 1)
owes_refused (Calling i q) k p = 0

abbrev pub owes_retry : Debt → ℕ → ℕ → ℕ
owes_retry Clear k p = 0
owes_retry (Offering i q) k p = 0
owes_retry (Accepted i q) k p = 0
owes_retry (Denied i q) k p = 0
owes_retry (Calling i q) k p = only i k (only q p 1)

-- the port's packet still comes to its peer
abbrev pub owes_open : Debt → ℕ → ℕ → ℕ
owes_open Clear k p = 0
owes_open (Offering i q) k p = only i k (only q p 1)
owes_open (Accepted i q) k p = 0
owes_open (Denied i q) k p = 0
owes_open (Calling i q) k p = only i k (only q p 1)

-- a packet for the lane, at the peer of the port, comes or is called
pub record Feeds (peer : ℕ → ℕ → End) (f : ℕ → Face) (items : List Item) (d : Debt) (q lane : ℕ) : Type 0 where
  pub port : ℕ
  pub pkt : Packet
  pub head : (f (peer q port).part).head (peer q port).port ≡ Some pkt
  pub there : (f q).route pkt ≡ lane
  pub comes : 1 ≤ offered_by (peer q port).part (peer q port).port items + called_by q port items + owes_open d (peer q port).part (peer q port).port

pub record Net (peer : ℕ → ℕ → End) (f : ℕ → Face) (items : List Item) (d : Debt) : Type 0 where
  pub faces : (k : ℕ) → FaceOk (f k)
  pub asked : (k p : ℕ) → (f k).asked p ≡ offered_by k p items + owes_told d k p
  pub waits : (k p : ℕ) → (f k).waits p + owes_refused d k p
      ≡ (f (peer k p).part).listed (peer k p).port + called_by (peer k p).part (peer k p).port items + owes_retry d k p
  pub carried : (k p : ℕ) (x : Packet) → IsIn (Sent k (offer_out p x)) items → (f k).head p ≡ Some x
  pub placed : (k p lane : ℕ) (x : Packet) → 1 ≤ (f (peer k p).part).stands lane (peer k p).port → (f k).head p ≡ Some x
      → (f (peer k p).part).route x ≡ lane
  pub fed : (q lane : ℕ) → (f q).hungry lane ≡ true → Feeds peer f items d q lane

-- the ports' peers: both ways, at a port of theirs, and, where anything is sent, at one of another part that admits it; and a packet
-- that is passed on comes nearer to the last part of its way, by the depths of the parts
pub record IsWired (peer : ℕ → ℕ → End) (f : ℕ → Face) : Type 0 where
  pub both : (k p : ℕ) → peer (peer k p).part (peer k p).port ≡ record { part = k; port = p }
  pub real : (k p : ℕ) → p < (f k).ports → (peer k p).port < (f (peer k p).part).ports
  pub apart : (k p : ℕ) (x : Packet) → p < (f k).ports → (f k).sends p x ≡ true → (peer k p).part ≡ k → ⊥
  pub fit : (k p : ℕ) (x : Packet) → p < (f k).ports → (f k).sends p x ≡ true → (f (peer k p).part).admits (peer k p).port x ≡ true
  pub depth : ℕ → ℕ
  pub falls : (k p : ℕ) (x : Packet) → p < (f k).ports → (f k).passes p ≡ true → (f k).sends p x ≡ true → depth (peer k p).part < depth k

-- a wake of the part i pays one debt and leaves another
pub record Pays (peer : ℕ → ℕ → End) (f : ℕ → Face) (i : ℕ) (w : Wake) (answer : Answer) (d e : Debt) : Type 0 where
  pub pays_told : (k p : ℕ) → owes_told d k p ≡ only i k (told w p) + owes_told e k p
  pub pays_refused : (k p : ℕ) → owes_refused d k p ≡ only i k (refused w p)
  pub pays_retry : (k p : ℕ) → owes_retry d k p ≡ only i k (retry w p)
  pub coming : (k p : ℕ) → owes_open d k p ≡ only i k (retry w p) + only i (peer k p).part (shown w (peer k p).port)
  pub pays_denied : (k p : ℕ) → owes_refused e k p ≡ only i (peer k p).part (rejected w answer (peer k p).port)
  pub clear : (k p : ℕ) → (owes_retry e k p ≡ 0) × (owes_open e k p ≡ 0)
  pub pays_shown : (k p : ℕ) (x : Packet) → i ≡ (peer k p).part → w ≡ wakes.Offer (record { 0 = (peer k p).port }) x → (f k).head p ≡ Some x

-- what an offer leaves: an answer is taken for Taken where it isn't Refused
abbrev pub left_by : Answer → ℕ → ℕ → Debt
left_by answers.Taken i p = Accepted i p
left_by answers.Refused i p = Denied i p
left_by answers.Nothing i p = Accepted i p
