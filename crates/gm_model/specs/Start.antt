-- How a machine begins: built, loaded with an image, resumed. This project's own rules.
use Rattle.std.specs.Prelude.{ℕ, ◌+◌, ◌-◌, Bool, true, false, not, if◌then◌else◌, List, [], ◌∷◌, ◌++◌, length, map, replicate, Some}
use Rattle.ev_queue.specs.declared.due.Due.{Due}
use Rattle.rv_step.specs.Arch.{reset}
use Rattle.rv_step.specs.FlatMem.{ram_base}
use Rattle.gm_words.specs.Platform.{Part, platform, wires_of, ways_of}
use Rattle.gm_words.specs.Routes.{routes_of}
use Rattle.gm_words.specs.Counts.{no_counts}
use Rattle.gm_model.specs.ObjState.{ObjState, object_of, kind_of}
use Rattle.gm_words.specs.Changes.{changed}
use Rattle.gm_model.specs.Stepped.{Commanded}
use Rattle.gm_model.specs.Command.{start_of, with_own_bytes, with_arch, with_mode, drain_step, resume_step}
use Rattle.gm_model.specs.Sys.{Sys}
use Rattle.cfg_tree.specs.declared.config.Config.{Config}
use Rattle.gm_words.specs.declared.kind.Kind.{Kind}
use Rattle.gm_words.specs.declared.kind.Kind.TheVariants as kinds
use Rattle.gm_words.specs.declared.own.Own.{Own}
use Rattle.gm_words.specs.declared.params.Params.{Params}

-- the params of the object i
abbrev pub params_of : Config → ℕ → Own → Params
params_of c i own = record { object = record { 0 = i }; line = c.system_line; ram = c.system_ram; own = own }

-- the part i at its start
abbrev pub built_object : Config → ℕ → Part → ObjState
built_object c i p = start_of (params_of c i p.own) p.own

-- the parts from a number on, each at its start
abbrev pub built_objects : Config → ℕ → List Part → List ObjState
built_objects c i [] = []
built_objects c i (p ∷ ps) = built_object c i p ∷ built_objects c (i + 1) ps

-- the part is the CPU of the mode
abbrev pub is_cpu_of : Bool → Kind → Bool
is_cpu_of timing kinds.AtomicCpu = not timing
is_cpu_of timing kinds.TimingCpu = timing
is_cpu_of timing kinds.Xbar = false
is_cpu_of timing kinds.Cache = false
is_cpu_of timing kinds.Mem = false
is_cpu_of timing kinds.Uart = false
is_cpu_of timing kinds.Timer = false
is_cpu_of timing kinds.Exit = false
is_cpu_of timing kinds.Dma = false

-- the part in the configured mode, in whose CPU the hart is reset
abbrev pub cpu_started : ℕ → Bool → ObjState → ObjState
cpu_started entry timing o = with_mode timing (if is_cpu_of timing (kind_of o) then with_arch (Some (reset entry)) o else o)

-- RAM has these bytes
abbrev pub ram_loaded : List ℕ → ObjState → ObjState
ram_loaded ram o = with_own_bytes 0 ram o

-- the machine at tick 0 with these bytes in RAM and the hart at an entry: nothing is pending, and it is draining
abbrev pub start_state : Config → ℕ → List ℕ → Sys
start_state c entry ram = record {
  tick = 0;
  pending = [];
  objects = map (λ o. cpu_started entry c.system_model (ram_loaded ram o)) (built_objects c 0 (platform c));
  next = 0;
  counts = no_counts (length (platform c));
  rebased = 0;
  trace = false;
  draining = true;
  wires = wires_of (platform c);
  ways = ways_of (platform c);
  routes = routes_of 0 (platform c);
}

-- RAM of a size with these bytes in front, and zeros behind
abbrev pub ram_with_front : ℕ → List ℕ → List ℕ
ram_with_front size bytes = bytes ++ replicate (size - length bytes) 0

-- the pending events once each part, in the order of the paths, was commanded
abbrev pub commanded_events : (ObjState → Commanded) → List ObjState → List Due → List Due
commanded_events f [] es = es
commanded_events f (o ∷ os) es = commanded_events f os (changed (object_of o) es (f o).changes)

-- each part was commanded
abbrev pub commanded : (ObjState → Commanded) → Sys → Sys
commanded f s = record s {
  pending = commanded_events f s.objects s.pending;
  objects = map (λ o. (f o).state) s.objects;
}

-- each part is asked to drain
abbrev pub drain_begun : Sys → Sys
drain_begun s = record (commanded drain_step s) { draining = true }

-- each part goes on
abbrev pub resumed_state : Sys → Sys
resumed_state s = record (commanded (λ o. resume_step o s.tick) s) { draining = false }

-- packets, counts and trace begin anew
abbrev pub rebase : Sys → Sys
rebase s = record s { next = 0; counts = no_counts (length s.objects); rebased = s.tick; trace = false }

-- RAM's own bytes are others from an address on
abbrev pub with_raw : ℕ → List ℕ → Sys → Sys
with_raw address bytes s = record s { objects = map (λ o. with_own_bytes (address - ram_base) bytes o) s.objects }
