-- All that the theorems on machines ask of memory, whoever holds its bytes. This project's own laws.
use Rattle.std.specs.Prelude.{◌≡◌, ℕ, Some, false, length}
use Rattle.gm_words.specs.Moves.{Moves}
use Rattle.pkt_pool.specs.declared.packet.Packet.{Packet}
use Rattle.gm_words.specs.declared.wake.Wake.{Wake}
use Rattle.gm_model.specs.Fire.{taken_out}
use Rattle.gm_model.specs.Stepped.{Stepped, Passed}
use Rattle.gm_model.specs.Sys.{Sys, object_at, step_at, pass_at, passed}
use Rattle.gm_model.specs.View.{Mind}
use Rattle.gm_laws.specs.Face.{Face, MayWake}
use Rattle.gm_laws.specs.Faces.{face_of, IsOk}
use Rattle.gm_laws.specs.Laws.{done_moves}
use Rattle.gm_laws.specs.Program.{core, MayThink, Mindless, Thinks}
use Rattle.gm_system.specs.MemoryView.{MemoryView, MemoryStep, MemoryRests, Happens}
use Rattle.gm_system.specs.System.{faces}

-- beside the part q the machines s and t are alike to the program, and q is like g
pub record IsElse (s t : Sys) (q : ℕ) (g : Face) : Type 0 where
  pub routes : t.routes ≡ s.routes
  pub mind : (faces t q).mind ≡ g.mind
  pub memory : (faces t q).memory ≡ g.memory
  pub minds : (k : ℕ) → (k ≡ q → ⊥) → (faces t k).mind ≡ (faces s k).mind
  pub memories : (k : ℕ) → (k ≡ q → ⊥) → (faces t k).memory ≡ (faces s k).memory
  pub cpus : (k : ℕ) → (faces t k).cpu ≡ (faces s k).cpu
  pub instants : (k : ℕ) → (faces t k).instant ≡ (faces s k).instant
  pub caches : (k : ℕ) → (faces t k).caches ≡ (faces s k).caches

-- the part i is woken by w, from s to t: what the laws may take for granted
pub record IsStepOf (y : MemoryView) (ram : ℕ) (m : Mind) (s t : Sys) (i : ℕ) (w : Wake) : Type 0 where
  pub kept : y.IsKept ram s
  pub size : length (y.view s) ≡ ram
  pub parts : (k : ℕ) → IsOk s.routes ram (object_at s k)
  pub happens : Happens s t i w
  pub same : IsElse s t i (face_of (step_at s i w).state)
  pub wake : MayWake (faces s i) w
  pub think : MayThink s.routes ram m (faces s i) w

-- the packet x is passed at once to the part k, which ends its way there. A packet of the hart's is passed so only where the active
-- CPU's packets are
pub record IsPassOf (y : MemoryView) (ram : ℕ) (s : Sys) (k : ℕ) (x : Packet) : Type 0 where
  pub kept : y.IsKept ram s
  pub size : length (y.view s) ≡ ram
  pub parts : (j : ℕ) → IsOk s.routes ram (object_at s j)
  pub instant : (c : ℕ) (m : Mind) → (faces s c).mind ≡ Some m → (faces s c).instant ≡ false → core x ≡ 0
  pub same : IsElse s (passed s k x) k (face_of (pass_at s k x).state)

-- where a part serves, that is right over what is seen; where the hart thinks, the same is seen; so it is once an event was taken out
pub record MemoryLaws (y : MemoryView) : Type 1 where
  pub serves : (ram : ℕ) (m : Mind) (s t : Sys) (i : ℕ) (w : Wake) → IsStepOf y ram m s t i w
      → (let r : Stepped = step_at s i w in Mindless s.routes ram (faces s i) (face_of r.state) r.acts r.entries r.moves → MemoryStep y s.routes ram s t r.moves.served r.entries)
  pub rests : (ram : ℕ) (m : Mind) (s t : Sys) (i : ℕ) (w : Wake) → IsStepOf y ram m s t i w
      → (let r : Stepped = step_at s i w in Thinks ram m (faces s i) (face_of r.state) r.acts r.entries r.moves → MemoryRests y ram s t)
  pub passes : (ram : ℕ) (s : Sys) (k : ℕ) (x : Packet) → IsPassOf y ram s k x
      → (let v : Passed = pass_at s k x in let l : Moves = done_moves x v in
      Mindless s.routes ram (faces s k) (face_of v.state) v.acts v.entries l → MemoryStep y s.routes ram s (passed s k x) l.served v.entries)
  pub timed : (ram : ℕ) (s : Sys) (n t : ℕ) → y.IsKept ram s → MemoryRests y ram s (taken_out s n t)
