-- Which parts a machine takes, and when it can't be built. This project's own rule.
use Rattle.std.specs.Prelude.{◌≡◌, ℕ, ◌+◌, ◌≤◌, ◌==◌, nat_lt, Bool, true, false, ◌||◌, ◌&&◌, is_some, if◌then◌else◌, IsTrue, List, [], ◌∷◌, ◌++◌, length, map, Option, Some, None}
use Rattle.ev_queue.specs.Handle.{Handle}
use Rattle.ev_queue.specs.SlotTable.{is_free, granted}
use Rattle.ev_queue.specs.declared.due.Due.{Due}
use Rattle.ev_queue.specs.declared.slot.Slot.{Slot}
use Rattle.rv_step.specs.FlatMem.{ram_base}
use Rattle.gm_words.specs.Counts.{no_counts}
use Rattle.gm_words.specs.Kind.{kind_of_own}
use Rattle.gm_model.specs.ObjState.{ObjState, kind_of, IsBlank}
use Rattle.gm_words.specs.Platform.{Part, part_classes, platform, wires_of, ways_of}
use Rattle.gm_words.specs.Routes.{routes_of}
use Rattle.gm_model.specs.Start.{built_object, cpu_started}
use Rattle.gm_model.specs.Sys.{Sys}
use Rattle.cfg_tree.specs.declared.config.CacheConfig.{CacheConfig}
use Rattle.cfg_tree.specs.declared.config.Config.{Config}
use Rattle.gm_words.specs.declared.kind.Kind.{Kind}
use Rattle.gm_words.specs.declared.kind.Kind.TheVariants as kinds
use Rattle.kernel.specs.declared.build_fault.BuildFault.{BuildFault}
use Rattle.kernel.specs.declared.build_fault.BuildFault.TheVariants as faults

-- the place of a kind in the order in which a missing one is told
abbrev pub rank_of : Kind → ℕ
rank_of kinds.AtomicCpu = 0
rank_of kinds.TimingCpu = 1
rank_of kinds.Xbar = 2
rank_of kinds.Cache = 3
rank_of kinds.Mem = 4
rank_of kinds.Uart = 5
rank_of kinds.Timer = 6
rank_of kinds.Exit = 7
rank_of kinds.Dma = 8

-- how many of the parts are of a kind, and how many rows of the platform
abbrev pub parts_of : Kind → List ObjState → ℕ
parts_of k [] = 0
parts_of k (s ∷ ss) = (if rank_of (kind_of s) == rank_of k then 1 else 0) + parts_of k ss

abbrev pub rows_of : Kind → List Part → ℕ
rows_of k [] = 0
rows_of k (p ∷ ps) = (if rank_of (kind_of_own p.own) == rank_of k then 1 else 0) + rows_of k ps

-- each part is blank
abbrev pub AreBlank : List ObjState → Type 0
AreBlank [] = Unit {0}
AreBlank (s ∷ ss) = IsBlank s × AreBlank ss

-- the configuration has caches
abbrev pub some_cache : List CacheConfig → Bool
some_cache [] = false
some_cache (c ∷ cs) = true

-- the configuration asks for a part of a kind that isn't built yet
abbrev pub asks_more : Config → Kind → Bool
asks_more c kinds.Cache = some_cache c.caches
asks_more c kinds.Dma = is_some c.dma
asks_more c _ = false

-- there are fewer parts of the kind than the platform has rows of it; one that isn't built yet can't be had
abbrev pub is_lacking : Config → List ObjState → Kind → Bool
is_lacking c ss k = asks_more c k || nat_lt (parts_of k ss) (rows_of k (platform c))

-- the kinds in the order in which a missing one is told
abbrev pub all_kinds : List Kind
all_kinds =
    kinds.AtomicCpu ∷ kinds.TimingCpu ∷ kinds.Xbar ∷ kinds.Cache ∷ kinds.Mem ∷ kinds.Uart ∷ kinds.Timer ∷ kinds.Exit ∷ kinds.Dma ∷ []

-- the first of some kinds of which there are too few parts
abbrev pub first_lacking : Config → List ObjState → List Kind → Option Kind
first_lacking c ss [] = None
first_lacking c ss (k ∷ ks) = if is_lacking c ss k then Some k else first_lacking c ss ks

abbrev pub lacking : Config → List ObjState → Option Kind
lacking c ss = first_lacking c ss all_kinds

-- the fault names that kind, or is want of memory
abbrev pub NamesLack : BuildFault → Config → List ObjState → Type 0
NamesLack (faults.Part kind) c ss = lacking c ss ≡ Some kind
NamesLack faults.NoMemory c ss = Unit {0}

-- a blank part of a kind
pub record IsPart (k : Kind) (s : ObjState) : Type 0 where
  pub kind : kind_of s ≡ k
  pub blank : IsBlank s

-- for each row of the platform, in order, a blank part of its kind
abbrev pub AreDrawn : List ObjState → List Part → Type 0
AreDrawn [] [] = Unit {0}
AreDrawn (s ∷ ss) (p ∷ ps) = IsPart (kind_of_own p.own) s × AreDrawn ss ps
AreDrawn _ _ = ⊥

-- of each kind there are as many parts as rows at least
abbrev pub AreEnough : List ObjState → List Part → Type 0
AreEnough ss ps = (k : Kind) → rows_of k ps ≤ parts_of k ss

-- so many slots has each row's part
abbrev pub slot_counts : List Part → List ℕ
slot_counts ps = map (λ p. length (part_classes p)) ps

-- no part has more of them than a slot's number can name
abbrev pub AreFew : List Part → Type 0
AreFew [] = Unit {0}
AreFew (p ∷ ps) = (length (part_classes p) ≤ 255) × AreFew ps

-- a part's slots are free, and stay so until each one's handle is given with its class
abbrev pub AreFree : List Slot → ℕ → ℕ → List ℕ → Type 0
AreFree table object slot [] = Unit {0}
AreFree table object slot (c ∷ cs) = IsTrue (is_free table object slot) × AreFree (granted table object slot c) object (slot + 1) cs

-- handles are kept of this class
abbrev pub is_kept : ℕ → Bool
is_kept c = (c == 0) || (c == 10) || (c == 30) || (c == 50)

-- and of all of these
abbrev pub are_kept : List ℕ → Bool
are_kept [] = true
are_kept (c ∷ cs) = is_kept c && are_kept cs

-- the handles of a class once the handle of a slot, of class c, is there too
abbrev pub added : ℕ → ℕ → ℕ → ℕ → List Handle → List Handle
added object slot c class hs = if c == class then hs ++ record { owner = object; slot = slot } ∷ [] else hs

-- the table once all of a part's handles are given
abbrev pub all_granted : List Slot → ℕ → ℕ → List ℕ → List Slot
all_granted table object slot [] = table
all_granted table object slot (c ∷ cs) = all_granted (granted table object slot c) object (slot + 1) cs

-- a part that was configured, in the configured mode: the CPU of that mode has the hart, at RAM's first byte
abbrev pub configured : Config → ℕ → Part → ObjState
configured c i p = cpu_started ram_base c.system_model (built_object c i p)

-- the parts from a number on
abbrev pub all_configured : Config → ℕ → List Part → List ObjState
all_configured c i [] = []
all_configured c i (p ∷ ps) = configured c i p ∷ all_configured c (i + 1) ps

-- a machine of these objects that stands at tick 0, draining, with these events pending
abbrev pub standing : Config → List Due → List ObjState → Sys
standing c pending objects = record {
  tick = 0;
  pending = pending;
  objects = objects;
  next = 0;
  counts = no_counts (length (platform c));
  rebased = 0;
  trace = false;
  draining = true;
  wires = wires_of (platform c);
  ways = ways_of (platform c);
  routes = routes_of 0 (platform c);
}
