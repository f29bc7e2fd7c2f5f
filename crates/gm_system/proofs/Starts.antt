-- A machine in which no packet is under way is sound.
use Rattle.std.proofs.Common.{◌≡◌, ℕ, ◌≤◌, true, false, [], ◌++◌, refl, ◌∙◌, ap, arith, Some, None, length}
use Rattle.std.proofs.lemmas.List.{append-nil}
use Rattle.ev_queue.specs.PendingList.{is_pending}
use Rattle.gm_words.specs.Platform.{is_in_ram}
use Rattle.gm_words.specs.Routes.{is_unmapped}
use Rattle.gm_model.specs.Sys.{Sys, object_at, peer_in}
use Rattle.gm_model.specs.View.{Mind, part_packets}
use Rattle.pkt_pool.specs.declared.packet.Packet.{Packet}
use Rattle.gm_laws.specs.Words.{weigh}
use Rattle.gm_laws.specs.Face.{Face, FaceOk}
use Rattle.gm_laws.specs.Faces.{IsOk}
use Rattle.gm_system.specs.Net.{IsWired}
use Rattle.gm_laws.specs.Program.{core, owed, bad}
use Rattle.gm_system.specs.MemoryView.{MemoryView}
use Rattle.gm_system.specs.System.{IsSoundOver, IsRouted, faces}

-- nothing is asked, waited for or wanted
pub record IsIdle (f : Face) : Type 0 where
  pub ok : FaceOk f
  pub asked : (p : ℕ) → f.asked p ≡ 0
  pub waits : (p : ℕ) → f.waits p ≡ 0
  pub listed : (p : ℕ) → f.listed p ≡ 0
  pub hungry : (l : ℕ) → f.hungry l ≡ false

-- what a machine is at its start, and once it is drained
pub record IsStill (y : MemoryView) (ram : ℕ) (s : Sys) : Type 0 where
  pub parts : (k : ℕ) → IsOk s.routes ram (object_at s k)
  pub idle : (k : ℕ) → IsIdle (faces s k)
  pub wired : IsWired (peer_in s.wires) (faces s)
  pub routed : IsRouted s.ways (faces s) wired.depth
  pub due : (k n : ℕ) → (faces s k).due n ≡ is_pending s.pending k n
  pub empty : part_packets s.objects ≡ []
  pub cpu : ℕ
  pub mind : Mind
  pub here : (faces s cpu).mind ≡ Some mind
  pub rests : owed mind.doing ≡ 0
  pub alone : (k : ℕ) → (k ≡ cpu → ⊥) → (faces s k).mind ≡ None
  pub kinds : (k : ℕ) → (k ≡ cpu → ⊥) → (faces s k).cpu ≡ true → (faces s cpu).instant ≡ false → (faces s k).instant ≡ true
  pub kept : y.IsKept ram s
  pub size : length (y.view s) ≡ ram
  pub mapped : (address count : ℕ) → 1 ≤ count → is_in_ram ram address count ≡ true → is_unmapped s.routes address ≡ false

pub still_sound : (y : MemoryView) (ram : ℕ) (s : Sys) → IsStill y ram s → IsSoundOver y ram s []
still_sound y ram s h =
    let none : (f : Packet → ℕ) → weigh f (part_packets s.objects ++ []) ≡ 0 = (λ f. ap (weigh f) (append-nil (part_packets s.objects) ∙ h.empty)) in
    record {
      net = record {
        parts = h.parts;
        wired = h.wired;
        net = record {
          faces = λ k. (h.idle k).ok;
          asked = λ k p. omega (arith, (h.idle k).asked p);
          waits = λ k p. omega (arith, (h.idle k).waits p, (h.idle (peer_in s.wires k p).part).listed (peer_in s.wires k p).port);
          carried = λ k p x i. absurd i;
          placed = λ k p lane x l e. absurd (omega (arith, l, (h.idle (peer_in s.wires k p).part).ok.lists lane (peer_in s.wires k p).port, (h.idle (peer_in s.wires k p).part).listed (peer_in s.wires k p).port));
          fed = λ q lane e. absurd (cc (e, (h.idle q).hungry lane));
        };
        due = h.due;
        sent = tt;
        routed = h.routed;
        placed = tt;
      };
      program = record {
        cpu = h.cpu;
        mind = h.mind;
        here = h.here;
        alone = h.alone;
        kinds = h.kinds;
        kept = h.kept;
        size = h.size;
        owes = omega (arith, none core, h.rests);
        fits = none (bad s.routes ram h.mind);
        at_once = λ u. ap (weigh core) h.empty;
        in_time = λ u. refl;
        mapped = h.mapped;
        senders = refl;
      };
    }
