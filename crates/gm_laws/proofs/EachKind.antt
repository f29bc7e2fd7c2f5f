-- Each kind of part meets the laws.
use Rattle.std.proofs.Common.{◌≡◌, ℕ, ◌≤◌, is_some, true, false, List, [], ◌∷◌, refl, arith, inl, Option, Some, None, option_map}
use Rattle.rv_step.specs.declared.arch.Arch.{Arch}
use Rattle.gm_words.specs.Moves.{no_moves}
use Rattle.pkt_pool.specs.Packet.{is_response}
use Rattle.gm_words.specs.Routes.{Route}
use Rattle.gm_words.specs.declared.answer.Answer.TheVariants as answers
use Rattle.gm_words.specs.declared.kind.Kind.{Kind}
use Rattle.gm_words.specs.declared.kind.Kind.TheVariants as kinds
use Rattle.pkt_pool.specs.declared.packet.Packet.{Packet}
use Rattle.gm_words.specs.declared.wake.Wake.{Wake}
use Rattle.gm_words.specs.declared.wake.Wake.TheVariants as wakes
use Rattle.gm_model.specs.Command.{arch_of}
use Rattle.gm_model.specs.ObjState.{ObjState, Blank, AtomicCpu, TimingCpu, Xbar, Server, CpuStage, Rest, AwaitFetch, AwaitData}
use Rattle.gm_model.specs.ObjectStep.{object_step, atomic_step, blank_step}
use Rattle.gm_model.specs.Stepped.{Stepped, stays}
use Rattle.gm_model.specs.View.{Mind, Doing, mind_with, atomic_doing, timing_doing, packets_in, mind_of, memory_of}
use Rattle.gm_laws.specs.Words.{weigh}
use Rattle.gm_laws.specs.Face.{FaceOk, MayWake, TellsDue, came_in}
use Rattle.gm_laws.specs.Program.{core, MayThink, none}
use Rattle.gm_laws.specs.Faces.{face_of, IsOk, Keeps, bare_face, atomic_toil}
use Rattle.gm_laws.specs.Laws.{WakesHold, PassesHold}
use Rattle.gm_laws.proofs.Counts.{only_self}
use Rattle.gm_laws.proofs.Calm.{IsCalmWake, calm_line, calm_done, no_both}
use Rattle.gm_laws.proofs.AtomicCpus.{atomic_law}
use Rattle.gm_laws.proofs.TimingCpus.{timing_law}
use Rattle.gm_laws.proofs.Xbars.{xbar_law, xbar_passes}
use Rattle.gm_laws.proofs.Servers.{server_law, server_passes}

pub blank_ok : FaceOk bare_face
blank_ok = record {
  bits = λ p. omega arith;
  within = λ p h. absurd (omega (arith, h));
  offers_one = λ p h. absurd (omega (arith, h));
  lists = λ l p. omega arith;
  holds = λ p x h e f. absurd (omega (arith, h));
  portless = λ e. refl;
}

blank_keeps : (rs : List Route) (ram : ℕ) (k : Kind) (next : ℕ) (w : Wake) (zs : List Packet) → IsCalmWake w answers.Nothing → TellsDue bare_face w bare_face [] → ((f : Packet → ℕ) → came_in f w answers.Nothing ≡ weigh f zs)
    → ((m : Mind) → MayThink rs ram m bare_face w → weigh core zs ≡ 0) → (let r : Stepped = record (stays (Blank k) next) { moves = record no_moves { answered = zs } } in Keeps rs ram bare_face w r)
unfolding face_of IsOk
blank_keeps rs ram k next w zs calm due came none_core = record {
  ok = tt;
  law = record {
    ok = blank_ok;
    ports = refl;
    route = λ x. refl;
    sends = λ p x. refl;
    admits = λ p x. refl;
    passes = λ p. refl;
    asked = λ p. omega (arith, calm.told_none p);
    waits = λ p. omega (arith, calm.retry_none p, calm.refused_none p);
    listed = λ p. omega (arith, calm.rejected_none p);
    joins = λ l p h. absurd (omega (arith, h));
    carries = λ p x h. absurd h;
    keeps = λ p h z. absurd (omega (arith, h));
    again = λ p. omega (arith, calm.retry_none p);
    feeds = λ p x e. refl;
    hungry = λ l h. inl h;
  };
  due = due;
  conserves = record { kept = []; before = λ f e. omega (arith, came f, calm.out_none f bare_face); after = λ f e. refl; numbers = λ f e. refl };
  spends = record { few = λ p. omega arith; light = omega arith };
  same = record { cpu = refl; instant = refl; caches = refl; empty = λ e. absurd (cc e) };
  quiet = λ p h. absurd (omega (arith, h, calm.told_none p));
  acts = tt;
  hops = tt;
  mindless = λ m e may. record {
    mind = refl;
    made = refl;
    fits = λ n. refl;
    answered = omega (arith, none_core m may);
    passed = refl;
    recalls = λ plain. record {
      serves = λ n l h. none n;
      stays = λ h. refl;
      remains = λ h. refl;
    };
  };
  thinks = λ m e may. absurd (cc e);
}

blank_law : (rs : List Route) (ram : ℕ) (k : Kind) (next : ℕ) (w : Wake) → MayWake bare_face w → Keeps rs ram bare_face w (blank_step (Blank k) next w)
blank_law rs ram k next (wakes.Event slot) may = absurd (let z : false ≡ true = may.fired slot.0 refl in cc)
blank_law rs ram k next (wakes.Offer q x) may = absurd (omega (arith, may.there q.0 (omega (arith, only_self q.0 1))))
blank_law rs ram k next (wakes.Taken q) may = absurd (omega (arith, may.told q.0, only_self q.0 1))
blank_law rs ram k next (wakes.Refused q) may = absurd (omega (arith, may.told q.0, only_self q.0 1))
blank_law rs ram k next (wakes.Retry q) may = absurd (omega (arith, may.retry q.0, only_self q.0 1))
blank_law rs ram k next (wakes.Line b l) may = blank_keeps rs ram k next (wakes.Line b l) [] (calm_line b l) (λ n. refl) (λ f. refl) (λ m may. refl)
blank_law rs ram k next (wakes.AtomicDone x l) may = blank_keeps rs ram k next (wakes.AtomicDone x l) (x ∷ []) (calm_done x l) (λ n. refl) (λ f. omega arith) (λ m may. omega (arith, may.done refl x l refl))

-- all that the theorems on machines ask of the parts
pub wakes_hold : WakesHold
unfolding face_of IsOk object_step
wakes_hold rs ram (Blank k) next w now ok may = blank_law rs ram k next w may
wakes_hold rs ram (AtomicCpu s) next w now ok may = atomic_law rs ram s ok next now w may
wakes_hold rs ram (TimingCpu s) next w now ok may = timing_law rs ram s ok next now w may
wakes_hold rs ram (Xbar s) next w now ok may = xbar_law rs ram s ok next now w may
wakes_hold rs ram (Server s) next w now ok may = server_law rs ram s ok next now w may

pub passes_hold : PassesHold
unfolding face_of IsOk atomic_step
passes_hold rs ram (Blank k) x now q ok there fits request plain = absurd (cc fits)
passes_hold rs ram (AtomicCpu s) x now q ok there fits request plain = absurd (cc fits)
passes_hold rs ram (TimingCpu s) x now q ok there fits request plain = absurd (no_both (is_response x.cmd) fits request)
passes_hold rs ram (Xbar s) x now q ok there fits request plain = xbar_passes rs ram s ok x request plain
passes_hold rs ram (Server s) x now q ok there fits request plain = server_passes rs ram s ok x now fits plain

-- a face shows what the definitions of the view say
pub face_packets : (o : ObjState) → (face_of o).packets ≡ packets_in o
unfolding face_of packets_in
face_packets (Blank k) = refl
face_packets (AtomicCpu s) = refl
face_packets (TimingCpu s) = refl
face_packets (Xbar s) = refl
face_packets (Server s) = refl

pub face_mind : (o : ObjState) → (face_of o).mind ≡ mind_of o
unfolding face_of mind_of
face_mind (Blank k) = refl
face_mind (AtomicCpu s) = refl
face_mind (TimingCpu s) = refl
face_mind (Xbar s) = refl
face_mind (Server s) = refl

pub face_memory : (o : ObjState) → (face_of o).memory ≡ memory_of o
unfolding face_of memory_of
face_memory (Blank k) = refl
face_memory (AtomicCpu s) = refl
face_memory (TimingCpu s) = refl
face_memory (Xbar s) = refl
face_memory (Server s) = refl

some_mind : (d : Doing) (a : Option Arch) (m : Mind) → mind_with d a ≡ Some m → is_some a ≡ true
some_mind d None m e = cc
some_mind d (Some a) m e = refl

mind_arch : (d : Doing) (a : Option Arch) → option_map (λ (m : Mind). m.arch) (mind_with d a) ≡ a
mind_arch d None = refl
mind_arch d (Some a) = refl

-- the part with the hart is the active CPU
pub active_mind : (o : ObjState) (m : Mind) → (face_of o).mind ≡ Some m → is_some (arch_of o) ≡ true
unfolding face_of
active_mind (Blank k) m e = cc
active_mind (AtomicCpu s) m e = some_mind (atomic_doing s.stage) s.arch m e
active_mind (TimingCpu s) m e = some_mind (timing_doing s.stage) s.arch m e
active_mind (Xbar s) m e = cc
active_mind (Server s) m e = cc

-- a served packet causes little more in an event
pub toil_le : (o : ObjState) → (face_of o).toil ≤ 4
unfolding face_of
toil_le (Blank k) = omega arith
toil_le (AtomicCpu s) = by s.stage where
  by : (st : CpuStage) → atomic_toil st ≤ 4
  by Rest = omega arith
  by AwaitFetch = omega arith
  by (AwaitData w l) = omega arith
toil_le (TimingCpu s) = omega arith
toil_le (Xbar s) = omega arith
toil_le (Server s) = omega arith

-- what isn't there shows nothing
pub blank_face : face_of (Blank kinds.AtomicCpu) ≡ bare_face
unfolding face_of
blank_face = refl

-- the hart that a part shows is the one that it has
pub hart_shown : (o : ObjState) → option_map (λ (m : Mind). m.arch) (mind_of o) ≡ arch_of o
unfolding mind_of
hart_shown (Blank k) = refl
hart_shown (AtomicCpu s) = mind_arch (atomic_doing s.stage) s.arch
hart_shown (TimingCpu s) = mind_arch (timing_doing s.stage) s.arch
hart_shown (Xbar s) = refl
hart_shown (Server s) = refl
