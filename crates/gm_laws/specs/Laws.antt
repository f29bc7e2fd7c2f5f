-- All that the theorems on machines ask of the parts, whichever kinds they are of. This project's own laws.
use Rattle.std.specs.Prelude.{◌≡◌, ℕ, ◌+◌, ◌≤◌, ◌<◌, true, false, List, [], ◌∷◌, None}
use Rattle.pkt_pool.specs.Packet.{is_response, is_write_back}
use Rattle.gm_words.specs.Moves.{Moves, no_moves}
use Rattle.gm_words.specs.Routes.{Route}
use Rattle.gm_words.specs.declared.answer.Answer.TheVariants as answers
use Rattle.pkt_pool.specs.declared.packet.Packet.{Packet}
use Rattle.gm_words.specs.declared.wake.Wake.{Wake}
use Rattle.gm_words.specs.declared.wake.Wake.TheVariants as wakes
use Rattle.gm_words.specs.declared.way.Way.{Way}
use Rattle.gm_words.specs.declared.way.Way.TheVariants as ways
use Rattle.gm_model.specs.ObjState.{ObjState}
use Rattle.gm_model.specs.ObjectStep.{object_step, atomic_step}
use Rattle.gm_model.specs.Stepped.{Passed}
use Rattle.gm_laws.specs.Words.{offers}
use Rattle.gm_laws.specs.Face.{Face, Law, MayWake, TellsDue, passed_packets}
use Rattle.gm_laws.specs.Faces.{face_of, IsOk, Keeps, AllActsOk}
use Rattle.gm_laws.specs.Fuel.{weight}
use Rattle.gm_laws.specs.Program.{Recalls}

-- every part's rule for a wake meets the laws
abbrev pub WakesHold : Type 0
WakesHold = (rs : List Route) (ram : ℕ) (o : ObjState) (next : ℕ) (w : Wake) (now : ℕ) → IsOk rs ram o → MayWake (face_of o) w
    → Keeps rs ram (face_of o) w (object_step o next w now)

-- what a part owes that passes a packet on: it goes on from a port, and nothing else happens
pub record GoesOn (f : Face) (o : ObjState) (x : Packet) (v : Passed) (port : ℕ) : Type 0 where
  pub state : v.state ≡ o
  pub changes : v.changes ≡ []
  pub acts : v.acts ≡ []
  pub entries : v.entries ≡ []
  pub packet : v.packet ≡ x
  pub passes : f.passes port ≡ true
  pub sends : f.sends port x ≡ true
  pub there : port < f.ports

-- what is served of a packet that ends its way
abbrev pub done_moves : Packet → Passed → Moves
done_moves x v = record no_moves { served = record { request = x; response = v.packet } ∷ [] }

-- what a part owes that serves a packet, or refuses it by fault, at once
pub record IsDone (rs : List Route) (ram : ℕ) (f : Face) (x : Packet) (v : Passed) : Type 0 where
  pub ok : IsOk rs ram v.state
  pub law : Law f (wakes.AtomicDone x 0) (face_of v.state) answers.Nothing v.acts
  pub due : TellsDue f (wakes.AtomicDone x 0) (face_of v.state) v.changes
  pub acts : AllActsOk v.acts
  pub passed : passed_packets v.acts ≡ []
  pub few : (p : ℕ) → offers p v.acts ≡ 0
  pub light : weight v.acts + (face_of v.state).toil ≤ f.toil + 1
  pub held : (face_of v.state).packets ≡ f.packets
  pub cpu : (face_of v.state).cpu ≡ f.cpu
  pub instant : (face_of v.state).instant ≡ f.instant
  pub caches : (face_of v.state).caches ≡ f.caches
  pub mindless : (f.mind ≡ None) × ((face_of v.state).mind ≡ None)
  pub response : is_response v.packet.cmd ≡ true
  pub id : v.packet.id ≡ x.id
  pub recalls : f.caches ≡ false → Recalls rs ram f (face_of v.state) v.entries (done_moves x v)

abbrev pub WayKeeps : List Route → ℕ → Face → ObjState → Packet → Passed → Way → Type 0
WayKeeps rs ram f o x v (ways.Pass port l) = GoesOn f o x v port.0
WayKeeps rs ram f o x v (ways.Done l) = IsDone rs ram f x v

-- a request that comes in at a port of a part and that it admits goes on, or is served
abbrev pub PassesHold : Type 0
PassesHold = (rs : List Route) (ram : ℕ) (o : ObjState) (x : Packet) (now q : ℕ) → IsOk rs ram o → q < (face_of o).ports → (face_of o).admits q x ≡ true
    → is_response x.cmd ≡ false → is_write_back x.cmd ≡ false → WayKeeps rs ram (face_of o) o x (atomic_step o x now) (atomic_step o x now).way
