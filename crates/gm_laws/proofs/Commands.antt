-- What is asked of a part beside its wakes keeps the laws, by the cases of the kinds.
use Rattle.std.proofs.Common.{◌≡◌, ℕ, ◌==◌, ◌&&◌, ◌||◌, refl, ap, arith, Bool, true, false, cond, List, Option, Some, None}
use Rattle.std.specs.Option.{option_map}
use Rattle.gm_words.specs.HartLine.{next_multiple}
use Rattle.gm_words.specs.Routes.{Route}
use Rattle.gm_model.specs.AtomicCpu.{cpu_drained, cpu_resumed, is_resting, is_asleep, is_awake}
use Rattle.gm_model.specs.Command.{drain_step, resume_step, with_input, with_own_bytes, own_bytes}
use Rattle.gm_model.specs.Memory.{with_bytes_at}
use Rattle.gm_model.specs.ObjState.{ObjState, object_of, slots_of, Blank, AtomicCpu, TimingCpu, Xbar, Server, AtomicCpuState, TimingCpuState, ServerState, CpuStage, Rest, AwaitFetch, AwaitData, Device, Memory, Uart, Exit, Timer}
use Rattle.gm_model.specs.Server.{device_takes_input, device_with_input, device_bytes, device_with_bytes}
use Rattle.gm_model.specs.TimingCpu.{tcpu_drained, tcpu_resumed, is_between}
use Rattle.gm_model.specs.Xbar.{layer_of}
use Rattle.gm_model.specs.View.{Mind, device_view, mind_with, atomic_doing}
use Rattle.rv_step.specs.declared.arch.Arch.{Arch}
use Rattle.gm_laws.specs.Bounds.{IsWithin, IsDeviceWithin, part_speech, stage_speech}
use Rattle.gm_laws.specs.Commands.{IsSameBut, KeepsCommand, CommandsHold}
use Rattle.gm_laws.specs.Face.{Face}
use Rattle.gm_laws.specs.Faces.{face_of, IsOk, ServerOk}
use Rattle.gm_laws.specs.Program.{owed}
use Rattle.gm_laws.proofs.Calm.{set_due}
use Rattle.gm_laws.proofs.Ticks.{soon, next_bounds}

clear_due : (b d : Bool) → (false && b) ≡ cond b false (d && b)
clear_due true d = refl
clear_due false true = refl
clear_due false false = refl

cpu_drain : (s : AtomicCpuState) (now : ℕ) (b : Bool) → KeepsCommand (AtomicCpu s) now (cpu_drained s b)
unfolding face_of IsOk IsWithin part_speech
cpu_drain s now true = record {
  same = record { face = refl; ok = λ rs ram h. record { size = h.size; rests = h.rests }; within = λ h. h; object = refl; slots = refl; speech = refl };
  due = λ n. clear_due (n == 0) s.due;
  own = (omega arith, tt);
  timely = λ h. tt;
}
cpu_drain s now false = record {
  same = record { face = refl; ok = λ rs ram h. record { size = h.size; rests = h.rests }; within = λ h. h; object = refl; slots = refl; speech = refl };
  due = λ n. refl;
  own = tt;
  timely = λ h. tt;
}

cpu_resume : (s : AtomicCpuState) (now : ℕ) (b : Bool) → KeepsCommand (AtomicCpu s) now (cpu_resumed s now b)
unfolding face_of IsOk IsWithin part_speech
cpu_resume s now true = record {
  same = record { face = refl; ok = λ rs ram h. record { size = h.size; rests = h.rests }; within = λ h. h; object = refl; slots = refl; speech = refl };
  due = λ n. set_due n (n == 0) s.due;
  own = (refl, tt);
  timely = λ h. (let n = next_bounds s.period now h.0 in (n.0, soon now (next_multiple s.period now) (omega (arith, n.1, h.1)), tt));
}
cpu_resume s now false = record {
  same = record { face = refl; ok = λ rs ram h. record { size = h.size; rests = h.rests }; within = λ h. h; object = refl; slots = refl; speech = refl };
  due = λ n. refl;
  own = tt;
  timely = λ h. tt;
}

tcpu_drain : (s : TimingCpuState) (now : ℕ) (b : Bool) → KeepsCommand (TimingCpu s) now (tcpu_drained s b)
unfolding face_of IsOk IsWithin part_speech
tcpu_drain s now true = record {
  same = record { face = refl; ok = λ rs ram h. record { size = h.size; rests = h.rests; stage = h.stage }; within = λ h. h; object = refl; slots = refl; speech = refl };
  due = λ n. clear_due (n == 0) s.due;
  own = (omega arith, tt);
  timely = λ h. tt;
}
tcpu_drain s now false = record {
  same = record { face = refl; ok = λ rs ram h. record { size = h.size; rests = h.rests; stage = h.stage }; within = λ h. h; object = refl; slots = refl; speech = refl };
  due = λ n. refl;
  own = tt;
  timely = λ h. tt;
}

tcpu_resume : (s : TimingCpuState) (now : ℕ) (b : Bool) → KeepsCommand (TimingCpu s) now (tcpu_resumed s now b)
unfolding face_of IsOk IsWithin part_speech
tcpu_resume s now true = record {
  same = record { face = refl; ok = λ rs ram h. record { size = h.size; rests = h.rests; stage = h.stage }; within = λ h. h; object = refl; slots = refl; speech = refl };
  due = λ n. set_due n (n == 0) s.due;
  own = (refl, tt);
  timely = λ h. (let n = next_bounds s.period now h.0 in (n.0, soon now (next_multiple s.period now) (omega (arith, n.1, h.1)), tt));
}
tcpu_resume s now false = record {
  same = record { face = refl; ok = λ rs ram h. record { size = h.size; rests = h.rests; stage = h.stage }; within = λ h. h; object = refl; slots = refl; speech = refl };
  due = λ n. refl;
  own = tt;
  timely = λ h. tt;
}

same : (o : ObjState) → IsSameBut o o
same o = record { face = refl; ok = λ rs ram h. h; within = λ h. h; object = refl; slots = refl; speech = refl }

drain_keeps : (o : ObjState) (now : ℕ) → KeepsCommand o now (drain_step o)
unfolding face_of IsOk IsWithin part_speech layer_of
drain_keeps (Blank k) now = record { same = same (Blank k); due = λ n. refl; own = tt; timely = λ h. tt }
drain_keeps (AtomicCpu s) now = cpu_drain s now (is_resting s.stage || is_asleep s.arch)
drain_keeps (TimingCpu s) now = tcpu_drain s now (is_between s.stage)
drain_keeps (Xbar s) now = record {
  same = record { face = refl; ok = λ rs ram h. record { sources = h.sources; long = h.long; lanes = h.lanes; one = h.one; sends = h.sends; side = h.side; sideless = h.sideless; nobody = h.nobody }; within = λ h. h; object = refl; slots = refl; speech = refl };
  due = λ n. refl;
  own = tt;
  timely = λ h. tt;
}
drain_keeps (Server s) now = record {
  same = record { face = refl; ok = λ rs ram h. record { places = h.places; lane = h.lane; head = h.head; admits = h.admits; size = h.size; mapped = h.mapped }; within = λ h. h; object = refl; slots = refl; speech = refl };
  due = λ n. refl;
  own = tt;
  timely = λ h. tt;
}

resume_keeps : (o : ObjState) (now : ℕ) → KeepsCommand o now (resume_step o now)
unfolding face_of IsOk IsWithin part_speech layer_of
resume_keeps (Blank k) now = record { same = same (Blank k); due = λ n. refl; own = tt; timely = λ h. tt }
resume_keeps (AtomicCpu s) now = cpu_resume s now (is_awake s.arch)
resume_keeps (TimingCpu s) now = tcpu_resume s now (is_awake s.arch)
resume_keeps (Xbar s) now = record {
  same = record { face = refl; ok = λ rs ram h. record { sources = h.sources; long = h.long; lanes = h.lanes; one = h.one; sends = h.sends; side = h.side; sideless = h.sideless; nobody = h.nobody }; within = λ h. h; object = refl; slots = refl; speech = refl };
  due = λ n. refl;
  own = tt;
  timely = λ h. tt;
}
resume_keeps (Server s) now = record {
  same = record { face = refl; ok = λ rs ram h. record { places = h.places; lane = h.lane; head = h.head; admits = h.admits; size = h.size; mapped = h.mapped }; within = λ h. h; object = refl; slots = refl; speech = refl };
  due = λ n. refl;
  own = tt;
  timely = λ h. tt;
}

-- a server with a place for an input byte is a UART
server_input : (s : ServerState) (d : Device) (b : ℕ) → (let t : ServerState = record s { device = d } in IsSameBut (Server t) (cond (device_takes_input d) (Server (record t { device = device_with_input b d })) (Server t)))
unfolding face_of IsOk IsWithin part_speech
server_input s (Memory m) b = same (Server (record s { device = Memory m }))
server_input s (Exit code) b = same (Server (record s { device = Exit code }))
server_input s (Timer t) b = same (Server (record s { device = Timer t }))
server_input s (Uart u) b = by (device_takes_input (Uart u)) where
  by : (c : Bool) → IsSameBut (Server (record s { device = Uart u })) (cond c (Server (record s { device = device_with_input b (Uart u) })) (Server (record s { device = Uart u })))
  by true = record { face = refl; ok = λ rs ram h. record { places = h.places; lane = h.lane; head = h.head; admits = h.admits; size = h.size; mapped = h.mapped }; within = λ h. h; object = refl; slots = refl; speech = refl }
  by false = same (Server (record s { device = Uart u }))

server_input_due : (s : ServerState) (d : Device) (b n : ℕ)
    → (let t : ServerState = record s { device = d } in (face_of (cond (device_takes_input d) (Server (record t { device = device_with_input b d })) (Server t))).due n ≡ (face_of (Server t)).due n)
unfolding face_of
server_input_due s (Memory m) b n = refl
server_input_due s (Exit code) b n = refl
server_input_due s (Timer t) b n = refl
server_input_due s (Uart u) b n = by (device_takes_input (Uart u)) where
  by : (c : Bool) → (face_of (cond c (Server (record s { device = device_with_input b (Uart u) })) (Server (record s { device = Uart u })))).due n ≡ (face_of (Server (record s { device = Uart u }))).due n
  by true = refl
  by false = refl

input_keeps : (o : ObjState) (b : ℕ) → IsSameBut o (with_input b o)
input_keeps (Blank k) b = same (Blank k)
input_keeps (AtomicCpu s) b = same (AtomicCpu s)
input_keeps (TimingCpu s) b = same (TimingCpu s)
input_keeps (Xbar s) b = same (Xbar s)
input_keeps (Server s) b = server_input s s.device b

input_due : (o : ObjState) (b n : ℕ) → (face_of (with_input b o)).due n ≡ (face_of o).due n
input_due (Blank k) b n = refl
input_due (AtomicCpu s) b n = refl
input_due (TimingCpu s) b n = refl
input_due (Xbar s) b n = refl
input_due (Server s) b n = server_input_due s s.device b n

own_kept : (o : ObjState) → (face_of o).memory ≡ own_bytes o
unfolding face_of
own_kept (Blank k) = refl
own_kept (AtomicCpu s) = refl
own_kept (TimingCpu s) = refl
own_kept (Xbar s) = refl
own_kept (Server s) = by s.device where
  by : (d : Device) → device_view d ≡ device_bytes d
  by (Memory m) = refl
  by (Uart u) = refl
  by (Exit code) = refl
  by (Timer t) = refl

put_face : (o : ObjState) (at : ℕ) (bytes : List ℕ) → face_of (with_own_bytes at bytes o)
    ≡ (let f : Face = face_of o in record f { memory = option_map (λ m. with_bytes_at m at bytes) f.memory })
unfolding face_of
put_face (Blank k) at bytes = refl
put_face (AtomicCpu s) at bytes = refl
put_face (TimingCpu s) at bytes = refl
put_face (Xbar s) at bytes = refl
put_face (Server s) at bytes = by s.device where
  by : (d : Device) → face_of (with_own_bytes at bytes (Server (record s { device = d })))
      ≡ (let f : Face = face_of (Server (record s { device = d })) in record f { memory = option_map (λ m. with_bytes_at m at bytes) f.memory })
  by (Memory m) = refl
  by (Uart u) = refl
  by (Exit code) = refl
  by (Timer t) = refl

put_ok : (rs : List Route) (ram : ℕ) (o : ObjState) (at : ℕ) (bytes : List ℕ) → IsOk rs ram o → IsOk rs ram (with_own_bytes at bytes o)
unfolding IsOk
put_ok rs ram (Blank k) at bytes h = h
put_ok rs ram (AtomicCpu s) at bytes h = h
put_ok rs ram (TimingCpu s) at bytes h = h
put_ok rs ram (Xbar s) at bytes h = h
put_ok rs ram (Server s) at bytes h = by s.device h where
  by : (d : Device) → ServerOk rs ram (record s { device = d }) → IsOk rs ram (with_own_bytes at bytes (Server (record s { device = d })))
  by (Memory m) k = record { places = k.places; lane = k.lane; head = k.head; admits = k.admits; size = k.size; mapped = k.mapped }
  by (Uart u) k = k
  by (Exit code) k = k
  by (Timer t) k = k

put_within : (o : ObjState) (at : ℕ) (bytes : List ℕ) → IsWithin o → IsWithin (with_own_bytes at bytes o)
unfolding IsWithin
put_within (Blank k) at bytes h = h
put_within (AtomicCpu s) at bytes h = h
put_within (TimingCpu s) at bytes h = h
put_within (Xbar s) at bytes h = h
put_within (Server s) at bytes h = (h.0, by s.device h.1, h.2) where
  by : (d : Device) → IsDeviceWithin d → IsDeviceWithin (device_with_bytes at bytes d)
  by (Memory m) k = k
  by (Uart u) k = k
  by (Exit code) k = k
  by (Timer t) k = k

put_object : (o : ObjState) (at : ℕ) (bytes : List ℕ) → object_of (with_own_bytes at bytes o) ≡ object_of o
put_object (Blank k) at bytes = refl
put_object (AtomicCpu s) at bytes = refl
put_object (TimingCpu s) at bytes = refl
put_object (Xbar s) at bytes = refl
put_object (Server s) at bytes = refl

put_slots : (o : ObjState) (at : ℕ) (bytes : List ℕ) → slots_of (with_own_bytes at bytes o) ≡ slots_of o
put_slots (Blank k) at bytes = refl
put_slots (AtomicCpu s) at bytes = refl
put_slots (TimingCpu s) at bytes = refl
put_slots (Xbar s) at bytes = refl
put_slots (Server s) at bytes = by s.device where
  by : (d : Device) → slots_of (with_own_bytes at bytes (Server (record s { device = d }))) ≡ slots_of (Server (record s { device = d }))
  by (Memory m) = refl
  by (Uart u) = refl
  by (Exit code) = refl
  by (Timer t) = refl

put_speech : (o : ObjState) (at : ℕ) (bytes : List ℕ) → part_speech (with_own_bytes at bytes o) ≡ part_speech o
unfolding part_speech
put_speech (Blank k) at bytes = refl
put_speech (AtomicCpu s) at bytes = refl
put_speech (TimingCpu s) at bytes = refl
put_speech (Xbar s) at bytes = refl
put_speech (Server s) at bytes = refl

rests : (rs : List Route) (ram : ℕ) (o : ObjState) → IsOk rs ram o → ((face_of o).instant ≡ true → (m : Mind) → (face_of o).mind ≡ Some m → owed m.doing ≡ 0) → part_speech o ≡ 0
unfolding face_of IsOk part_speech
rests rs ram (Blank k) h m = refl
rests rs ram (Xbar s) h m = refl
rests rs ram (Server s) h m = refl
rests rs ram (TimingCpu s) h m = refl
rests rs ram (AtomicCpu s) h m = by s.arch s.stage h.rests (m refl) where
  by : (o : Option Arch) (t : CpuStage) → (o ≡ None → t ≡ Rest) → ((k : Mind) → mind_with (atomic_doing t) o ≡ Some k → owed k.doing ≡ 0) → stage_speech t ≡ 0
  by None t e f = ap stage_speech (e refl)
  by (Some a) Rest e f = refl
  by (Some a) (AwaitData w l) e f = refl
  by (Some a) AwaitFetch e f = absurd (omega (arith, f (record { arch = a; doing = atomic_doing AwaitFetch }) refl))

pub commands_hold : CommandsHold
commands_hold = record {
  drain = drain_keeps;
  resume = resume_keeps;
  input = input_keeps;
  input_due = input_due;
  kept = own_kept;
  put = put_face;
  put_ok = put_ok;
  put_within = put_within;
  put_object = put_object;
  put_slots = put_slots;
  put_speech = put_speech;
  rests = rests;
}
