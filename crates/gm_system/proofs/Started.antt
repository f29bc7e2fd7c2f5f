-- A machine is sound at its start in both modes, whatever bytes are in RAM and wherever the hart begins. This module alone knows the
-- parts that the platform's table has: what holds of each part at its start, and that the tables of wires, ways and ranges meet what is
-- asked of them, by computation over the table.
use Rattle.std.proofs.Common.{◌≡◌, ℕ, zero, suc, ◌+◌, ◌-◌, ◌*◌, ◌^◌, ◌<◌, ◌≤◌, ◌==◌, ◌&&◌, ◌||◌, nat_le, nat_lt, cond, if◌then◌else◌, Bool, true, false, not, IsTrue, All, List, [], ◌∷◌, ◌++◌, refl, sym, ◌∙◌, ap, subst, arith, Option, Some, None, is_none, length, replicate, get_or, sum_by, ◌⊎◌, inl, inr}
use Rattle.std.proofs.Math.ListN.{get_or-map}
use Rattle.std.proofs.lemmas.List.{length-replicate}
use Rattle.std.proofs.lemmas.List.Sums.{sum_by-cons}
use Rattle.std.proofs.lemmas.Grind.{common_steps}
use Rattle.std.proofs.lemmas.Bool.Decides.{nat_tests}
use Rattle.gc_base.specs.declared.limits.TheConstants.{LATENCY_MAX, LAST}
use Rattle.ev_queue.specs.declared.slot.Slot.{Slot}
use Rattle.cfg_tree.specs.Valid.{IsValidConfig}
use Rattle.cfg_tree.specs.declared.config.Config.{Config}
use Rattle.rv_step.specs.Arch.{reset}
use Rattle.rv_step.specs.declared.arch.Arch.{Arch}
use Rattle.rv_step.specs.FlatMem.{ram_base}
use Rattle.rv_step.specs.Flat.{uart_base, exit_base}
use Rattle.gm_words.specs.Allowed.{MayPass}
use Rattle.gm_words.specs.Counts.{AreUpTo, no_counts}
use Rattle.gm_words.specs.Flow.{Lane, empty_lane, quiet_flow}
use Rattle.pkt_pool.specs.Packet.{is_response}
use Rattle.gm_words.specs.Platform.{Part, End, Range, platform, port_at, is_within, is_in_ram, range_of, serve_slot, timer_base, out_to, out_to_nobody, wires_of, ways_of}
use Rattle.gm_words.specs.PortUses.{takes, is_source, is_total, last_address, used, fore, use_at, port_from, port_of_slot, is_side_slot, sides, source_from, or_first}
use Rattle.gm_words.specs.Routes.{Route, destination, is_unmapped, route_to, routes_of}
use Rattle.gm_words.specs.Slots.{gave_from, given_table}
use Rattle.gm_words.specs.declared.kind.Kind.TheVariants as kinds
use Rattle.pkt_pool.specs.declared.packet.Packet.{Packet}
use Rattle.gm_words.specs.declared.port_use.PortUse.{PortUse}
use Rattle.gm_words.specs.declared.port_use.PortUse.TheVariants as uses
use Rattle.gm_model.specs.Flows.{has_room, is_due_out}
use Rattle.gm_model.specs.Memory.{with_bytes_at}
use Rattle.gm_model.specs.ObjState.{ObjState, Blank, AtomicCpu, TimingCpu, Xbar, Server, Common, Rest, Between, AtomicCpuState, TimingCpuState, XbarState, ServerState, Device, Memory, Uart, Exit, Timer, slots_of, object_of}
use Rattle.gm_model.specs.Start.{start_state}
use Rattle.gm_model.specs.Sys.{Sys, peer_in}
use Rattle.gm_model.specs.Timer.{timer_start}
use Rattle.gm_model.specs.View.{Boundary, part_packets, packets_in, lane_packets}
use Rattle.gm_model.specs.Xbar.{lane_at}
use Rattle.gm_laws.specs.Bounds.{IsWithin, IsDeviceWithin}
use Rattle.gm_laws.specs.Face.{Face}
use Rattle.gm_laws.specs.Faces.{face_of, IsOk, device_due, device_range, layer_due, server_due, stood}
use Rattle.gm_laws.proofs.Counts.{only_zero}
use Rattle.gm_laws.proofs.EachKind.{blank_ok}
use Rattle.gm_system.specs.Machine.{IsSteady, IsMachineSound, most_of}
use Rattle.gm_system.specs.Net.{IsWired}
use Rattle.gm_system.specs.System.{IsRouted, IsStored, ram_memory}
use Rattle.gm_system.proofs.Commands.{put_size}
use Rattle.gm_system.proofs.Starts.{IsStill, IsIdle, still_sound}
use Rattle.gm_system.proofs.Stores.{stored_view}

-- what isn't there
abbrev nobody : ObjState
nobody = Blank kinds.AtomicCpu

-- one part alone has what is looked for
abbrev AllNone : {A : Type 0} → (ObjState → Option A) → List ObjState → Type 0
AllNone f [] = Unit {0}
AllNone f (o ∷ os) = (f o ≡ None) × AllNone f os

abbrev OnlyAt : {A : Type 0} → (ObjState → Option A) → ℕ → List ObjState → Type 0
OnlyAt f n [] = Unit {0}
OnlyAt f zero (o ∷ os) = AllNone f os
OnlyAt f (suc n) (o ∷ os) = (f o ≡ None) × OnlyAt f n os

none_at : {A : Type 0} (f : ObjState → Option A) → f nobody ≡ None → (os : List ObjState) → AllNone f os → (k : ℕ) → f (get_or os k nobody) ≡ None
none_at f b [] h k = b
none_at f b (o ∷ os) h zero = h.0
none_at f b (o ∷ os) h (suc k) = none_at f b os h.1 k

others_none : {A : Type 0} (f : ObjState → Option A) → f nobody ≡ None → (n : ℕ) (os : List ObjState) → OnlyAt f n os → (k : ℕ) → (k ≡ n → ⊥) → f (get_or os k nobody) ≡ None
others_none f b n [] h k e = b
others_none f b zero (o ∷ os) h zero e = absurd (e refl)
others_none f b zero (o ∷ os) h (suc k) e = none_at f b os h k
others_none f b (suc n) (o ∷ os) h zero e = h.0
others_none f b (suc n) (o ∷ os) h (suc k) e = others_none f b n os h.1 k (λ s. e (ap suc s))

-- the parts are numbered in order
abbrev AreNumbered : ℕ → List ObjState → Type 0
AreNumbered n [] = Unit {0}
AreNumbered n (o ∷ os) = (object_of o ≡ n) × AreNumbered (n + 1) os

number_at : (n : ℕ) (os : List ObjState) → AreNumbered n os → (k : ℕ) → k < length os → object_of (get_or os k nobody) ≡ n + k
number_at n [] h k l = absurd (omega (arith, l))
number_at n (o ∷ os) h zero l = omega (arith, h.0)
number_at n (o ∷ os) h (suc k) l = omega (arith, number_at (n + 1) os h.1 k (omega (arith, l)))

-- the table has the handles of the parts' slots from a number on
abbrev AreGiven : List Slot → ℕ → List ObjState → Type 0
AreGiven table n [] = Unit {0}
AreGiven table n (o ∷ os) = IsTrue (gave_from table n 0 (slots_of o)) × AreGiven table (n + 1) os

given_at : (table : List Slot) (n : ℕ) (os : List ObjState) → AreGiven table n os → (m k : ℕ) → m ≡ n + k → k < length os → IsTrue (gave_from table m 0 (slots_of (get_or os k nobody)))
given_at table n [] h m k e l = absurd (omega (arith, l))
given_at table n (o ∷ os) h m zero e l = let s : n ≡ m = omega (arith, e) in subst (λ j. IsTrue (gave_from table j 0 (slots_of o))) s h.0
given_at table n (o ∷ os) h m (suc k) e l = given_at table (n + 1) os h.1 m k (omega (arith, e)) (omega (arith, l))

-- empty layers hold nothing, and nothing was counted
none_held : (n : ℕ) → All MayPass (lane_packets (replicate n empty_lane))
none_held zero k x l = absurd (omega (arith, l))
none_held (suc n) k x l = none_held n k x l

none_counted : (n k : ℕ) → AreUpTo n (replicate k 0)
none_counted n zero = tt
none_counted n (suc k) = (omega arith, none_counted n k)

-- Ranges.

-- an address of a row's range is of one
IsRangeIn : Range → List Part → Type 0
IsRangeIn r [] = ⊥
IsRangeIn r (p ∷ ps) = (p.range ≡ Some r) ⊎ IsRangeIn r ps

later_mapped : (n : ℕ) (o : Option Range) (rs : List Route) (address : ℕ) → is_unmapped rs address ≡ false → is_unmapped (route_to n o ++ rs) address ≡ false
later_mapped n None rs address h = h
later_mapped n (Some r) rs address h = by (is_within address r) where
  by : (b : Bool) → is_none (cond b (Some n) (destination rs address)) ≡ false
  by true = refl
  by false = h

range_mapped : (n : ℕ) (ps : List Part) (r : Range) (address : ℕ) → IsRangeIn r ps → is_within address r ≡ true → is_unmapped (routes_of n ps) address ≡ false
unfolding IsRangeIn
range_mapped n [] r address h w = absurd h
range_mapped n (p ∷ ps) r address (inl e) w =
    subst (λ (o : Option Range). is_unmapped (route_to n o ++ routes_of (n + 1) ps) address ≡ false) (sym e) (first (is_within address r) w) where
      first : (b : Bool) → b ≡ true → is_none (cond b (Some n) (destination (routes_of (n + 1) ps) address)) ≡ false
      first true e = refl
      first false e = cc e
range_mapped n (p ∷ ps) r address (inr h) w = later_mapped n p.range (routes_of (n + 1) ps) address (range_mapped (n + 1) ps r address h w)

-- an address that goes out at no port goes out at no port of the rest
passed_over : (n : ℕ) (u : PortUse) (us : List PortUse) (address : ℕ) → port_from n (u ∷ us) address ≡ None → (takes u address ≡ false) × (port_from (suc n) us address ≡ None)
unfolding port_from
passed_over n u us address h = by (takes u address) h where
  by : (b : Bool) → cond b (Some n) (port_from (suc n) us address) ≡ None → (b ≡ false) × (port_from (suc n) us address ≡ None)
  by true e = absurd (cc e)
  by false e = (refl, e)

not_within : (r : Range) (address : ℕ) → takes (out_to r) address ≡ false → is_within address r ≡ false
not_within r address h = by (nat_le r.first address) (nat_le address r.last) (r.last == last_address) h where
  by : (a b e : Bool) → (a && (b || e)) ≡ false → (a && b) ≡ false
  by true true e h = absurd (cc h)
  by true false e h = refl
  by false b e h = refl

-- a request that goes out to a range is admitted there, and so is a response
out_admitted : (q : Bool) (r : Range) (address : ℕ) → (r.last == last_address) ≡ false → (not q && takes (out_to r) address) ≡ true → (q || is_within address r) ≡ true
out_admitted true r address e h = refl
out_admitted false r address e h = by (nat_le r.first address) (nat_le address r.last) (r.last == last_address) e h where
  by : (a b c : Bool) → c ≡ false → (a && (b || c)) ≡ true → (a && b) ≡ true
  by true true c e h = refl
  by true false c e h = absurd (cc (e, h))
  by false b c e h = absurd (cc h)

-- nothing goes out to nobody
nobody_takes : (q : Bool) (address : ℕ) → (not q && takes out_to_nobody address) ≡ true → ⊥
nobody_takes true address h = cc h
nobody_takes false address h = grind (arith, nat_tests, h)

-- Parts.

-- what holds of a part at its start
record BeginsWell (rs : List Route) (ram : ℕ) (o : ObjState) : Type 0 where
  ok : IsOk rs ram o
  idle : IsIdle (face_of o)
  due : (slot : ℕ) → (face_of o).due slot ≡ false
  within : IsWithin o

idle_face : (f : Face) → ((p : ℕ) → f.asked p ≡ 0) → ((p : ℕ) → f.waits p ≡ 0) → ((p : ℕ) → f.listed p ≡ 0) → ((l p : ℕ) → f.stands l p ≡ 0) → ((l : ℕ) → f.hungry l ≡ false)
    → (f.instant ≡ true → f.ports ≡ 0) → IsIdle f
idle_face f asked waits listed stands hungry portless = record {
  ok = record {
    bits = λ p. omega (arith, asked p, waits p);
    within = λ p h. absurd (omega (arith, h, asked p, waits p));
    offers_one = λ p h. absurd (omega (arith, h, asked p, waits p));
    lists = λ l p. omega (arith, stands l p);
    holds = λ p x h e f. absurd (omega (arith, h, asked p, waits p));
    portless = portless;
  };
  asked = asked;
  waits = waits;
  listed = listed;
  hungry = hungry;
}

-- layers at their start
empty_at : (n p : ℕ) → lane_at (replicate n empty_lane) p ≡ empty_lane
empty_at zero p = refl
empty_at (suc n) zero = refl
empty_at (suc n) (suc p) = empty_at n p

nobody_waits : (p n : ℕ) → sum_by (λ (l : Lane). stood p l.waiting) (replicate n empty_lane) ≡ 0
nobody_waits p zero = refl
nobody_waits p (suc n) = omega (arith, sum_by-cons (λ (l : Lane). stood p l.waiting) empty_lane (replicate n empty_lane), nobody_waits p n)

-- the states of the parts at their start, in the timing mode or in the atomic one
abbrev common_at : Config → Bool → ℕ → Common
common_at c b n = record { object = n; line = c.system_line; ram = c.system_ram; timing = b; draining = true }

abbrev acpu_at : Config → Bool → Option Arch → AtomicCpuState
acpu_at c b a = record { common = common_at c b 0; period = c.cpu_period; arch = a; stage = Rest; due = false }

abbrev tcpu_at : Config → Bool → Option Arch → TimingCpuState
tcpu_at c b a = record { common = common_at c b 5; period = c.cpu_period; arch = a; stage = Between; due = false }

abbrev server_at : Config → Bool → ℕ → ℕ → ℕ → Device → ServerState
server_at c b n latency places d = record { common = common_at c b n; latency = latency; places = places; flow = quiet_flow; waiter = false; device = d }

abbrev xbar_at : Config → Bool → ℕ → ℕ → List PortUse → XbarState
xbar_at c b n latency us = record {
  common = common_at c b n;
  latency = latency;
  ports = us;
  lanes = replicate (length us) empty_lane;
  side = record { lane = empty_lane; ahead = 0 };
}

-- the ports that are used
abbrev core_uses : List PortUse
core_uses = uses.Source ∷ uses.Source ∷ uses.Unused ∷ uses.Destination 0 last_address ∷ []

abbrev mem_uses : Config → List PortUse
mem_uses c =
    uses.Source ∷ out_to (range_of ram_base c.system_ram) ∷ out_to (range_of uart_base 0x1000) ∷ out_to (range_of timer_base 0x10000)
    ∷ out_to (range_of exit_base 0x1000) ∷ out_to_nobody ∷ []

-- the parts, with this hart in the atomic CPU or in the timing one, and these bytes in RAM
abbrev parts_at : Config → Bool → Option Arch → Option Arch → List ℕ → List ObjState
parts_at c b atomic timing m =
    AtomicCpu (acpu_at c b atomic)
    ∷ Xbar (xbar_at c b 1 c.corebus_latency core_uses)
    ∷ Server (server_at c b 2 c.exit_latency 1 (Exit None))
    ∷ Server (server_at c b 3 c.mem_latency c.mem_queue (Memory m))
    ∷ Xbar (xbar_at c b 4 c.membus_latency (mem_uses c))
    ∷ TimingCpu (tcpu_at c b timing)
    ∷ Server (server_at c b 6 c.timer_latency 1 (Timer (timer_start c.timer_period)))
    ∷ Server (server_at c b 7 c.uart_latency 1 (Uart (record { chartime = c.uart_chartime; busy = false; input = [] })))
    ∷ []

-- which addresses are of a range
abbrev ranges : Config → List Route
ranges c = routes_of 0 (platform c)

-- and the peers of ports
abbrev peers : Config → ℕ → ℕ → End
peers c k p = peer_in (wires_of (platform c)) k p

-- the machine with these parts
abbrev begun_at : Config → List ObjState → Sys
begun_at c os = record {
  tick = 0;
  pending = [];
  objects = os;
  next = 0;
  counts = no_counts (length (platform c));
  rebased = 0;
  trace = false;
  draining = true;
  wires = wires_of (platform c);
  ways = ways_of (platform c);
  routes = routes_of 0 (platform c);
}

-- each part begins well

and_false : (b : Bool) → (b && false) ≡ false
and_false true = refl
and_false false = refl

module _ (c : Config) (v : IsValidConfig c) (b : Bool) where
  nobody_begins : BeginsWell (ranges c) c.system_ram nobody
  unfolding IsOk face_of IsWithin
  nobody_begins = record { ok = tt; idle = record { ok = blank_ok; asked = λ p. refl; waits = λ p. refl; listed = λ p. refl; hungry = λ l. refl }; due = λ n. refl; within = tt }

  acpu_begins : (a : Option Arch) → BeginsWell (ranges c) c.system_ram (AtomicCpu (acpu_at c b a))
  unfolding IsOk face_of IsWithin
  acpu_begins a = record {
    ok = record { size = refl; rests = λ e. refl };
    idle = idle_face (face_of (AtomicCpu (acpu_at c b a))) (λ p. refl) (λ p. refl) (λ p. refl) (λ l p. refl) (λ l. refl) (λ e. refl);
    due = λ n. refl;
    within = (v.cpu_period.0, v.cpu_period.1, tt);
  }

  tcpu_begins : (a : Option Arch) → BeginsWell (ranges c) c.system_ram (TimingCpu (tcpu_at c b a))
  unfolding IsOk face_of IsWithin
  tcpu_begins a = record {
    ok = record { size = refl; rests = λ e. refl; stage = tt };
    idle = idle_face (face_of (TimingCpu (tcpu_at c b a))) (λ p. only_zero 0 p) (λ p. only_zero 0 p) (λ p. refl) (λ l p. refl) (λ l. refl) (λ e. absurd (cc e));
    due = λ n. refl;
    within = (v.cpu_period.0, v.cpu_period.1, none_held 0);
  }

  server_begins : (n latency places : ℕ) (d : Device) → IsRangeIn (device_range c.system_ram d) (platform c) → 0 < places → latency ≤ LATENCY_MAX → IsDeviceWithin d → ((slot : ℕ) → device_due d slot ≡ false)
      → BeginsWell (ranges c) c.system_ram (Server (server_at c b n latency places d))
  unfolding IsOk face_of IsWithin
  server_begins n latency places d range some short limits due = record {
    ok = record { places = some; lane = tt; head = tt; admits = tt; size = refl; mapped = λ address w. range_mapped 0 (platform c) (device_range c.system_ram d) address range w };
    idle = idle_face (face_of (Server (server_at c b n latency places d))) asked waits (λ p. refl) stands hungry (λ e. absurd (cc e));
    due = late;
    within = (short, limits, none_held 0);
  } where
    asked : (p : ℕ) → (face_of (Server (server_at c b n latency places d))).asked p ≡ 0
    asked zero = refl
    asked (suc p) = refl

    waits : (p : ℕ) → (face_of (Server (server_at c b n latency places d))).waits p ≡ 0
    waits zero = refl
    waits (suc p) = refl

    stands : (l p : ℕ) → (face_of (Server (server_at c b n latency places d))).stands l p ≡ 0
    stands zero p = refl
    stands (suc l) p = refl

    hungry : (l : ℕ) → (face_of (Server (server_at c b n latency places d))).hungry l ≡ false
    hungry zero = and_false (has_room places empty_lane)
    hungry (suc l) = and_false (has_room places empty_lane)

    late : (slot : ℕ) → server_due (server_at c b n latency places d) slot ≡ false
    late slot = by (slot == serve_slot) where
      by : (a : Bool) → cond a false (device_due d slot) ≡ false
      by true = refl
      by false = due slot

  xbar_begins : (n latency : ℕ) (us : List PortUse) → is_source (use_at us (or_first (source_from 0 us))) ≡ true → latency ≤ LATENCY_MAX
      → ((address : ℕ) → port_from 0 us address ≡ None → is_unmapped (ranges c) address ≡ true) → BeginsWell (ranges c) c.system_ram (Xbar (xbar_at c b n latency us))
  unfolding IsOk face_of IsWithin
  xbar_begins n latency us source short unmapped = record {
    ok = record {
      sources = λ p. by_source p (is_source (use_at us p)) refl;
      long = length-replicate (length us) empty_lane;
      lanes = λ p. rw (empty_at (length us) p) tt;
      one = λ p. rw (empty_at (length us) p) (omega arith);
      sends = λ p. rw (empty_at (length us) p) tt;
      side = refl;
      sideless = λ e. refl;
      nobody = unmapped;
    };
    idle = idle_face (face_of (Xbar (xbar_at c b n latency us))) (λ p. rw (empty_at (length us) p) refl) (λ p. rw (empty_at (length us) p) refl) (λ p. omega (arith, nobody_waits p (length us)))
        (λ l p. rw (empty_at (length us) l) (omega (arith, only_zero (length (replicate (length us) empty_lane)) l))) hungry (λ e. absurd (cc e));
    due = late;
    within = (short, length-replicate (length us) empty_lane, none_held (length us));
  } where
    by_source : (p : ℕ) (a : Bool) → is_source (use_at us p) ≡ a → is_source (use_at us (cond a p (or_first (source_from 0 us)))) ≡ true
    by_source p true e = e
    by_source p false e = source

    late : (slot : ℕ) → layer_due (xbar_at c b n latency us) slot ≡ false
    late slot = by (is_side_slot us slot) (nat_lt slot (length us + sides us)) where
      by : (a e : Bool) → cond a false (e && is_due_out (lane_at (replicate (length us) empty_lane) (port_of_slot us slot)).flow.out) ≡ false
      by true e = refl
      by false e = rw (empty_at (length us) (port_of_slot us slot)) (and_false e)

    hungry : (l : ℕ) → (face_of (Xbar (xbar_at c b n latency us))).hungry l ≡ false
    hungry l = rw (empty_at (length us) l) (and_false (l == length (replicate (length us) empty_lane)))

  -- all addresses go out from the core's bus
  core_mapped : (address : ℕ) → port_from 0 core_uses address ≡ None → is_unmapped (ranges c) address ≡ true
  core_mapped address h =
      let one = passed_over 0 uses.Source (uses.Source ∷ uses.Unused ∷ uses.Destination 0 last_address ∷ []) address h in
      let two = passed_over 1 uses.Source (uses.Unused ∷ uses.Destination 0 last_address ∷ []) address one.1 in
      let three = passed_over 2 uses.Unused (uses.Destination 0 last_address ∷ []) address two.1 in
      let four = passed_over 3 (uses.Destination 0 last_address) [] address three.1 in
      absurd (grind (arith, nat_tests, four.0))

  -- an address that goes out at no port of the memory's bus is of no range
  mem_mapped : (address : ℕ) → port_from 0 (mem_uses c) address ≡ None → is_unmapped (ranges c) address ≡ true
  mem_mapped address h =
      let ram : Range = range_of ram_base c.system_ram in
      let uart : Range = range_of uart_base 0x1000 in
      let timer : Range = range_of timer_base 0x10000 in
      let exit : Range = range_of exit_base 0x1000 in
      let zero = passed_over 0 uses.Source (out_to ram ∷ out_to uart ∷ out_to timer ∷ out_to exit ∷ out_to_nobody ∷ []) address h in
      let one = passed_over 1 (out_to ram) (out_to uart ∷ out_to timer ∷ out_to exit ∷ out_to_nobody ∷ []) address zero.1 in
      let two = passed_over 2 (out_to uart) (out_to timer ∷ out_to exit ∷ out_to_nobody ∷ []) address one.1 in
      let three = passed_over 3 (out_to timer) (out_to exit ∷ out_to_nobody ∷ []) address two.1 in
      let four = passed_over 4 (out_to exit) (out_to_nobody ∷ []) address three.1 in
      rw (not_within exit address four.0, not_within ram address one.0, not_within timer address three.0, not_within uart address two.0) refl

  -- a timer awaits nothing: no clock comes to the greatest number
  nothing_awaited : (slot : ℕ) → device_due (Timer (timer_start c.timer_period)) slot ≡ false
  nothing_awaited slot = rw far refl where
    far : nat_le ((2 ^ 64 - 1) * c.timer_period) LAST ≡ false
    far = grind (arith, nat_tests, v.timer_period.0)

  module _ (atomic timing : Option Arch) (m : List ℕ) where
    begun : (k : ℕ) → BeginsWell (ranges c) c.system_ram (get_or (parts_at c b atomic timing m) k nobody)
    unfolding IsRangeIn source_from
    begun zero = acpu_begins atomic
    begun (suc zero) = xbar_begins 1 c.corebus_latency core_uses refl v.corebus_latency.1 core_mapped
    begun (suc (suc zero)) = server_begins 2 c.exit_latency 1 (Exit None) (inr (inr (inl refl))) (omega arith) v.exit_latency.1 tt (λ slot. refl)
    begun (suc (suc (suc zero))) = server_begins 3 c.mem_latency c.mem_queue (Memory m) (inr (inr (inr (inl refl)))) v.mem_queue.0 v.mem_latency.1 tt (λ slot. refl)
    begun (suc (suc (suc (suc zero)))) = xbar_begins 4 c.membus_latency (mem_uses c) refl v.membus_latency.1 mem_mapped
    begun (suc (suc (suc (suc (suc zero))))) = tcpu_begins timing
    begun (suc (suc (suc (suc (suc (suc zero)))))) =
        server_begins 6 c.timer_latency 1 (Timer (timer_start c.timer_period)) (inr (inr (inr (inr (inr (inr (inl refl))))))) (omega arith) v.timer_latency.1 v.timer_period nothing_awaited
    begun (suc (suc (suc (suc (suc (suc (suc zero))))))) =
        server_begins 7 c.uart_latency 1 (Uart (record { chartime = c.uart_chartime; busy = false; input = [] })) (inr (inr (inr (inr (inr (inr (inr (inl refl)))))))) (omega arith) v.uart_latency.1 v.uart_chartime.1 (λ slot. refl)
    begun (suc (suc (suc (suc (suc (suc (suc (suc k)))))))) = nobody_begins

    -- The tables.

    abbrev f : ℕ → Face
    f k = face_of (get_or (parts_at c b atomic timing m) k nobody)

    -- a packet that is passed on comes from the core's bus to the memory's, and from there to a server
    abbrev depths : ℕ → ℕ
    depths k = if k == 1 then 2 else if k == 4 then 1 else 0

    both : (k p : ℕ) → peers c (peers c k p).part (peers c k p).port ≡ port_at k p
    both zero p = refl
    both (suc zero) zero = refl
    both (suc zero) (suc zero) = refl
    both (suc zero) (suc (suc zero)) = refl
    both (suc zero) (suc (suc (suc zero))) = refl
    both (suc zero) (suc (suc (suc (suc p)))) = refl
    both (suc (suc zero)) zero = refl
    both (suc (suc zero)) (suc p) = refl
    both (suc (suc (suc zero))) zero = refl
    both (suc (suc (suc zero))) (suc p) = refl
    both (suc (suc (suc (suc zero)))) zero = refl
    both (suc (suc (suc (suc zero)))) (suc zero) = refl
    both (suc (suc (suc (suc zero)))) (suc (suc zero)) = refl
    both (suc (suc (suc (suc zero)))) (suc (suc (suc zero))) = refl
    both (suc (suc (suc (suc zero)))) (suc (suc (suc (suc zero)))) = refl
    both (suc (suc (suc (suc zero)))) (suc (suc (suc (suc (suc zero))))) = refl
    both (suc (suc (suc (suc zero)))) (suc (suc (suc (suc (suc (suc p)))))) = refl
    both (suc (suc (suc (suc (suc zero))))) zero = refl
    both (suc (suc (suc (suc (suc zero))))) (suc zero) = refl
    both (suc (suc (suc (suc (suc zero))))) (suc (suc p)) = refl
    both (suc (suc (suc (suc (suc (suc zero)))))) zero = refl
    both (suc (suc (suc (suc (suc (suc zero)))))) (suc p) = refl
    both (suc (suc (suc (suc (suc (suc (suc zero))))))) zero = refl
    both (suc (suc (suc (suc (suc (suc (suc zero))))))) (suc p) = refl
    both (suc (suc (suc (suc (suc (suc (suc (suc k)))))))) p = refl

    -- what is asked of each port
    record IsPort (k p : ℕ) : Type 0 where
      real : (peers c k p).port < (f (peers c k p).part).ports
      apart : (x : Packet) → (f k).sends p x ≡ true → (peers c k p).part ≡ k → ⊥
      fit : (x : Packet) → (f k).sends p x ≡ true → (f (peers c k p).part).admits (peers c k p).port x ≡ true
      falls : (x : Packet) → (f k).passes p ≡ true → (f k).sends p x ≡ true → depths (peers c k p).part < depths k

    port : (k p : ℕ) → p < (f k).ports → IsPort k p
    unfolding face_of
    port zero p l = absurd (omega (arith, l))
    port (suc zero) zero l = record { real = omega arith; apart = λ x h e. omega (arith, e); fit = λ x h. h; falls = λ x g h. absurd (cc g) }
    port (suc zero) (suc zero) l = record { real = omega arith; apart = λ x h e. omega (arith, e); fit = λ x h. h; falls = λ x g h. absurd (cc g) }
    port (suc zero) (suc (suc zero)) l = record { real = omega arith; apart = λ x h e. cc h; fit = λ x h. absurd (cc h); falls = λ x g h. absurd (cc g) }
    port (suc zero) (suc (suc (suc zero))) l = record { real = omega arith; apart = λ x h e. omega (arith, e); fit = λ x h. refl; falls = λ x g h. omega arith }
    port (suc zero) (suc (suc (suc (suc p)))) l = absurd (omega (arith, l))
    port (suc (suc zero)) zero l = record { real = omega arith; apart = λ x h e. omega (arith, e); fit = λ x h. refl; falls = λ x g h. absurd (cc g) }
    port (suc (suc zero)) (suc p) l = absurd (omega (arith, l))
    port (suc (suc (suc zero))) zero l = record { real = omega arith; apart = λ x h e. omega (arith, e); fit = λ x h. refl; falls = λ x g h. absurd (cc g) }
    port (suc (suc (suc zero))) (suc p) l = absurd (omega (arith, l))
    port (suc (suc (suc (suc zero)))) zero l = record { real = omega arith; apart = λ x h e. omega (arith, e); fit = λ x h. refl; falls = λ x g h. absurd (cc g) }
    port (suc (suc (suc (suc zero)))) (suc zero) l = record { real = omega arith; apart = λ x h e. omega (arith, e); fit = λ x h. out_admitted (is_response x.cmd) (range_of ram_base c.system_ram) x.addr (grind (arith, nat_tests, v.ram_most)) h; falls = λ x g h. omega arith }
    port (suc (suc (suc (suc zero)))) (suc (suc zero)) l = record { real = omega arith; apart = λ x h e. omega (arith, e); fit = λ x h. out_admitted (is_response x.cmd) (range_of uart_base 0x1000) x.addr refl h; falls = λ x g h. omega arith }
    port (suc (suc (suc (suc zero)))) (suc (suc (suc zero))) l = record { real = omega arith; apart = λ x h e. omega (arith, e); fit = λ x h. out_admitted (is_response x.cmd) (range_of timer_base 0x10000) x.addr refl h; falls = λ x g h. omega arith }
    port (suc (suc (suc (suc zero)))) (suc (suc (suc (suc zero)))) l = record { real = omega arith; apart = λ x h e. omega (arith, e); fit = λ x h. out_admitted (is_response x.cmd) (range_of exit_base 0x1000) x.addr refl h; falls = λ x g h. omega arith }
    port (suc (suc (suc (suc zero)))) (suc (suc (suc (suc (suc zero))))) l = record { real = omega arith; apart = λ x h e. nobody_takes (is_response x.cmd) x.addr h; fit = λ x h. refl; falls = λ x g h. absurd (nobody_takes (is_response x.cmd) x.addr h) }
    port (suc (suc (suc (suc zero)))) (suc (suc (suc (suc (suc (suc p)))))) l = absurd (omega (arith, l))
    port (suc (suc (suc (suc (suc zero))))) zero l = record { real = omega arith; apart = λ x h e. omega (arith, e); fit = λ x h. refl; falls = λ x g h. absurd (cc g) }
    port (suc (suc (suc (suc (suc zero))))) (suc zero) l = record { real = omega arith; apart = λ x h e. omega (arith, e); fit = λ x h. refl; falls = λ x g h. absurd (cc g) }
    port (suc (suc (suc (suc (suc zero))))) (suc (suc p)) l = absurd (omega (arith, l))
    port (suc (suc (suc (suc (suc (suc zero)))))) zero l = record { real = omega arith; apart = λ x h e. omega (arith, e); fit = λ x h. refl; falls = λ x g h. absurd (cc g) }
    port (suc (suc (suc (suc (suc (suc zero)))))) (suc p) l = absurd (omega (arith, l))
    port (suc (suc (suc (suc (suc (suc (suc zero))))))) zero l = record { real = omega arith; apart = λ x h e. omega (arith, e); fit = λ x h. refl; falls = λ x g h. absurd (cc g) }
    port (suc (suc (suc (suc (suc (suc (suc zero))))))) (suc p) l = absurd (omega (arith, l))
    port (suc (suc (suc (suc (suc (suc (suc (suc k)))))))) p l = absurd (omega (arith, l))

    wired : IsWired (peer_in (wires_of (platform c))) f
    wired = record {
      both = both;
      real = λ k p l. (port k p l).real;
      apart = λ k p x l. (port k p l).apart x;
      fit = λ k p x l. (port k p l).fit x;
      depth = depths;
      falls = λ k p x l. (port k p l).falls x;
    }

    routed : IsRouted (ways_of (platform c)) f depths
    unfolding face_of
    routed zero zero x g l = record { deep = omega arith; there = omega arith; fits = refl }
    routed zero (suc zero) x g l = record { deep = omega arith; there = omega arith; fits = refl }
    routed zero (suc (suc p)) x g l = absurd (omega (arith, l))
    routed (suc zero) p x g l = absurd (cc g)
    routed (suc (suc zero)) p x g l = absurd (cc g)
    routed (suc (suc (suc zero))) p x g l = absurd (cc g)
    routed (suc (suc (suc (suc zero)))) p x g l = absurd (cc g)
    routed (suc (suc (suc (suc (suc zero))))) p x g l = absurd (cc g)
    routed (suc (suc (suc (suc (suc (suc zero)))))) p x g l = absurd (cc g)
    routed (suc (suc (suc (suc (suc (suc (suc zero))))))) p x g l = absurd (cc g)
    routed (suc (suc (suc (suc (suc (suc (suc (suc k)))))))) p x g l = absurd (cc g)

    -- The rest of the machine.

    kept : (f 3).memory ≡ Some m
    unfolding face_of
    kept = refl

    one_memory : OnlyAt (λ o. (face_of o).memory) 3 (parts_at c b atomic timing m)
    unfolding face_of
    one_memory = (refl, (refl, (refl, (refl, (refl, (refl, (refl, tt)))))))

    -- no part has lines of memory
    plain : (k : ℕ) → (f k).caches ≡ false
    unfolding face_of
    plain zero = refl
    plain (suc zero) = refl
    plain (suc (suc zero)) = refl
    plain (suc (suc (suc zero))) = refl
    plain (suc (suc (suc (suc zero)))) = refl
    plain (suc (suc (suc (suc (suc zero))))) = refl
    plain (suc (suc (suc (suc (suc (suc zero)))))) = refl
    plain (suc (suc (suc (suc (suc (suc (suc zero))))))) = refl
    plain (suc (suc (suc (suc (suc (suc (suc (suc k)))))))) = refl

    no_memory : (face_of nobody).memory ≡ None
    unfolding face_of
    no_memory = refl

    no_mind : (face_of nobody).mind ≡ None
    unfolding face_of
    no_mind = refl

    empty : part_packets (parts_at c b atomic timing m) ≡ []
    unfolding packets_in
    empty = refl

    room : sum_by most_of (parts_at c b atomic timing m) + 12 ≤ 120
    unfolding face_of
    room = omega arith

    ram_mapped : (address count : ℕ) → 1 ≤ count → is_in_ram c.system_ram address count ≡ true → is_unmapped (ranges c) address ≡ false
    unfolding IsRangeIn
    ram_mapped address count l h =
        range_mapped 0 (platform c) (device_range c.system_ram (Memory m)) address (inr (inr (inr (inl refl)))) (grind (arith, common_steps, nat_tests, l, h))

    -- where the hart is
    record HasHart (a : Arch) : Type 0 where
      cpu : ℕ
      here : (f cpu).mind ≡ Some (record { arch = a; doing = Boundary })
      alone : OnlyAt (λ o. (face_of o).mind) cpu (parts_at c b atomic timing m)
      kinds : (k : ℕ) → (k ≡ cpu → ⊥) → (f k).cpu ≡ true → (f cpu).instant ≡ false → (f k).instant ≡ true

    begun_steady : (a : Arch) → HasHart a → length m ≡ c.system_ram → (table : List Slot) → ((k : ℕ) → k < length (parts_at c b atomic timing m) → IsTrue (gave_from table k 0 (slots_of (get_or (parts_at c b atomic timing m) k nobody))))
        → IsSteady (begun_at c (parts_at c b atomic timing m)) table
    unfolding wired
    begun_steady a hart size table slots =
        let s : Sys = begun_at c (parts_at c b atomic timing m) in
        let stored : IsStored c.system_ram s = record {
          store = 3;
          memory = m;
          kept = kept;
          one_store = others_none (λ o. (face_of o).memory) no_memory 3 (parts_at c b atomic timing m) one_memory;
          plain = plain;
        } in
        let still : IsStill ram_memory c.system_ram s = record {
          parts = λ k. (begun k).ok;
          idle = λ k. (begun k).idle;
          wired = wired;
          routed = routed;
          due = λ k n. (begun k).due n;
          empty = empty;
          cpu = hart.cpu;
          mind = record { arch = a; doing = Boundary };
          here = hart.here;
          rests = refl;
          alone = others_none (λ o. (face_of o).mind) no_mind hart.cpu (parts_at c b atomic timing m) hart.alone;
          kinds = hart.kinds;
          kept = stored;
          size = ap length (stored_view c.system_ram s stored) ∙ size;
          mapped = ram_mapped;
        } in
        record {
          ram = c.system_ram;
          sound = still_sound ram_memory c.system_ram s still;
          parts = record {
            numbered = λ k l. number_at 0 (parts_at c b atomic timing m) (refl, (refl, (refl, (refl, (refl, (refl, (refl, (refl, tt)))))))) k l ∙ omega arith;
            slots = slots;
            within = λ k. (begun k).within;
            room = room;
            order = tt;
            once = tt;
          };
          numbers = omega arith;
          counts = record {
            retired = omega arith;
            sleeps = omega arith;
            traps = omega arith;
            device_reads = omega arith;
            device_writes = omega arith;
            ram_reads = omega arith;
            ram_writes = omega arith;
            hits = none_counted 0 (length (platform c));
            misses = none_counted 0 (length (platform c));
            refused = none_counted 0 (length (platform c));
          };
        }

    given : AreGiven (given_table 0 (platform c)) 0 (parts_at c b atomic timing m)
    unfolding used fore is_total
    given = (refl, (refl, (refl, (refl, (refl, (refl, (refl, (refl, tt))))))))

-- The two modes.

abbrev loaded : Config → List ℕ → List ℕ
loaded c ram = with_bytes_at (replicate c.system_ram 0) 0 ram

loaded_size : (c : Config) (ram : List ℕ) → length ram ≤ c.system_ram → length (loaded c ram) ≡ c.system_ram
loaded_size c ram fits =
    let zeros : length (replicate c.system_ram 0) ≡ c.system_ram = length-replicate c.system_ram (let z : ℕ = 0 in z) in
    put_size (replicate c.system_ram 0) 0 ram (omega (arith, fits, zeros)) ∙ zeros

-- the hart is in the CPU of the mode
abbrev atomic_hart : Bool → Arch → Option Arch
atomic_hart true a = None
atomic_hart false a = Some a

abbrev timing_hart : Bool → Arch → Option Arch
timing_hart true a = Some a
timing_hart false a = None

abbrev start_parts : Config → Bool → ℕ → List ℕ → List ObjState
start_parts c b entry ram = parts_at c b (atomic_hart b (reset entry)) (timing_hart b (reset entry)) (loaded c ram)

started_parts : (c : Config) (b : Bool) (entry : ℕ) (ram : List ℕ) → start_state (record c { system_model = b }) entry ram ≡ begun_at c (start_parts c b entry ram)
unfolding used
started_parts c true entry ram = refl
started_parts c false entry ram = refl

has_hart : (c : Config) (v : IsValidConfig c) (b : Bool) (a : Arch) (m : List ℕ) → HasHart c v b (atomic_hart b a) (timing_hart b a) m a
unfolding face_of
has_hart c v false a m = record { cpu = 0; here = refl; alone = (refl, (refl, (refl, (refl, (refl, (refl, (refl, tt))))))); kinds = λ k n u i. absurd (cc i) }
has_hart c v true a m = record { cpu = 5; here = refl; alone = (refl, (refl, (refl, (refl, (refl, (refl, (refl, tt))))))); kinds = kinds_of } where
  kinds_of : (k : ℕ) → (k ≡ 5 → ⊥) → (f c v true None (Some a) m k).cpu ≡ true → (f c v true None (Some a) m 5).instant ≡ false → (f c v true None (Some a) m k).instant ≡ true
  kinds_of zero n u i = refl
  kinds_of (suc zero) n u i = absurd (cc u)
  kinds_of (suc (suc zero)) n u i = absurd (cc u)
  kinds_of (suc (suc (suc zero))) n u i = absurd (cc u)
  kinds_of (suc (suc (suc (suc zero)))) n u i = absurd (cc u)
  kinds_of (suc (suc (suc (suc (suc zero))))) n u i = absurd (n refl)
  kinds_of (suc (suc (suc (suc (suc (suc zero)))))) n u i = absurd (cc u)
  kinds_of (suc (suc (suc (suc (suc (suc (suc zero))))))) n u i = absurd (cc u)
  kinds_of (suc (suc (suc (suc (suc (suc (suc (suc k)))))))) n u i = absurd (cc u)

-- sound by a table that has the handles of its slots
module _ (c : Config) (v : IsValidConfig c) (b : Bool) (entry : ℕ) (ram : List ℕ) (fits : length ram ≤ c.system_ram) where
  mode_sound : (table : List Slot) → ((k : ℕ) → k < length (start_parts c b entry ram) → IsTrue (gave_from table k 0 (slots_of (get_or (start_parts c b entry ram) k nobody))))
      → IsMachineSound (start_state (record c { system_model = b }) entry ram) table
  mode_sound table slots =
      subst (λ s. IsMachineSound s table) (sym (started_parts c b entry ram)) (record {
        steady = begun_steady c v b (atomic_hart b (reset entry)) (timing_hart b (reset entry)) (loaded c ram) (reset entry) (has_hart c v b (reset entry) (loaded c ram)) (loaded_size c ram fits) table slots;
        tick = omega arith;
      })

-- at its start, with the handles that were given for the platform's slots
pub start_sound : (c : Config) (entry : ℕ) (ram : List ℕ) → IsValidConfig c → length ram ≤ c.system_ram → IsMachineSound (start_state c entry ram) (given_table 0 (platform c))
start_sound c entry ram v l =
    let b : Bool = c.system_model in
    mode_sound c v b entry ram l (given_table 0 (platform c))
    (λ k i. given_at (given_table 0 (platform c)) 0 (start_parts c b entry ram) (given c v b (atomic_hart b (reset entry)) (timing_hart b (reset entry)) (loaded c ram)) k k (omega arith) i)

-- and so it is with other bytes in RAM, and another entry, where the handles are those that it had
slots_same : (c : Config) (b : Bool) (e1 e2 : ℕ) (r1 r2 : List ℕ) (k : ℕ) → slots_of (get_or (start_parts c b e2 r2) k nobody) ≡ slots_of (get_or (start_parts c b e1 r1) k nobody)
slots_same c b e1 e2 r1 r2 k = sym (get_or-map slots_of (start_parts c b e2 r2) k nobody) ∙ get_or-map slots_of (start_parts c b e1 r1) k nobody

pub restart_sound : (c : Config) (e1 e2 : ℕ) (r1 r2 : List ℕ) (table : List Slot) → IsValidConfig c → length r2 ≤ c.system_ram → IsMachineSound (start_state c e1 r1) table → IsMachineSound (start_state c e2 r2) table
restart_sound c e1 e2 r1 r2 table v l h =
    let b : Bool = c.system_model in
    let k : IsMachineSound (begun_at c (start_parts c b e1 r1)) table = subst (λ s. IsMachineSound s table) (started_parts c b e1 r1) h in
    mode_sound c v b e2 r2 l table (λ j m. subst (λ (xs : List ℕ). IsTrue (gave_from table j 0 xs)) (sym (slots_same c b e1 e2 r1 r2 j)) (k.steady.parts.slots j m))
